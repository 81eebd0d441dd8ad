use Rattle.std.proofs.Common.{◌∙◌, ap}
use Rattle.std.specs.List.{filter_map}
use Rattle.dds_physical.specs.Faults.{first_after}
use Rattle.dds_logical.specs.Judged.{format_with}
use Rattle.dds_logical.proofs.MismatchLemmas.{mismatch-step}
use Rattle.dds_logical.proofs.format_faults.note_mismatch_of.Goals as goal

pub returns : goal.returns
returns g c later =
    mismatch-step (g.B.Bases.bases c.args.bases.now) (format_with c.args.line.now c.args.body.now) _ _ _ _ _ _ later
    (c.as_slice-fields.ensures.fields ∙ c.in_ok-named.ensures) c.note_positions.ensures c.in_ok-parts.ensures c.in_ok-push.ensures
