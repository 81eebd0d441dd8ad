use Rattle.std.proofs.Common.{◌∙◌, ap}
use Rattle.record_fmt.specs.declared.formats.Format.{Format}
use Rattle.std.specs.List.{position}
use Rattle.std.specs.Str.{bytes_eq}
use Rattle.std.specs.Prelude.{[], ◌∷◌}
use Rattle.dds_logical.specs.declared.views.LogicalSpec.{LogicalSpec}
use Rattle.logical_model.specs.Bases.{LogicalFile}
use Rattle.logical_model.specs.Formats.{format_number}
use Rattle.record_changes.proofs.refusals.place_of_format.Goals as goal

pub returns-in-Physical : goal.returns-in-Physical
returns-in-Physical c = rw c.in-Physical.is (c.only_place.ensures ∙ ap (λ (format : Format). position (bytes_eq c.args.name) (format.name ∷ [])) c.format.ensures.format)

pub returns-in-Logical : goal.returns-in-Logical
returns-in-Logical c = rw c.in-Logical.is (c.place_of_view.ensures ∙ ap (λ (spec : LogicalSpec). format_number c.args.name (LogicalFile spec)) c.spec.ensures)
