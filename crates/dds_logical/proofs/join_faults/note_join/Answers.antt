use Rattle.std.proofs.Common.{◌∙◌}
use Rattle.dds_logical.specs.Judged.{format_with}
use Rattle.dds_logical.proofs.JoinViewLemmas.{join-noted}
use Rattle.dds_logical.proofs.join_faults.note_join.Goals as goal

pub returns : goal.returns
returns g c =
    join-noted (g.B.Bases.bases c.args.bases.now) c.args.last_line (format_with c.args.line.now c.args.body.now) _ _ _ _ _ _
    c.note_files.ensures c.in_ok-note_fields.ensures (c.as_slice-files.ensures ∙ c.in_ok-names.ensures) c.in_ok-placed.ensures.named c.in_ok-placed.ensures.places
