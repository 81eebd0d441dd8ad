use Rattle.std.proofs.Common.{◌∙◌, List, sym, subst}
use Rattle.dds_physical.below.dds_source.specs.declared.specifications.Specification.{Specification}
use Rattle.dds_logical.specs.Judged.{format_with}
use Rattle.dds_logical.specs.Complete.{IsComplete}
use Rattle.dds_logical.proofs.FileLemmas.{complete_at}
use Rattle.dds_logical.proofs.logical_files.add_view.Goals as goal

pub push_view-requires : goal.push_view-requires
push_view-requires g c =
    subst (λ (body : List Specification). IsComplete (g.B.Bases.bases c.args.bases.now) (format_with c.args.line.now body)) (sym c.lines_ahead-body.ensures)
    (complete_at (g.B.Bases.bases c.args.bases.now) c.args.line.now c.args.more.now (sym c.is_record.ensures ∙ c.if-is_record.true) c.requires)
