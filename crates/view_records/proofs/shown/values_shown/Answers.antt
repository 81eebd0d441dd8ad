use Rattle.std.proofs.Common.{◌∙◌, List, map, sym, ap, subst}
use Rattle.std.specs.List.{AllByRecursion}
use Rattle.file_model.specs.declared.views.LogicalField.{LogicalField}
use Rattle.view_records.specs.Through.{HasValueIn, value_in}
use Rattle.view_records.proofs.ShownLemmas.{has-values, format-values}
use Rattle.view_records.proofs.shown.values_shown.Goals as goal

pub values_of-requires : goal.values_of-requires
values_of-requires c = subst (AllByRecursion (HasValueIn c.args.image.now)) (sym c.as_slice.ensures) (has-values c.args.view.now c.args.image.now c.requires.read)

pub returns : goal.returns
returns c =
    format-values c.args.view.now c.args.image.now c.in_ok-values.values.items c.requires.read c.requires.format
    (c.in_ok-values.ensures ∙ ap (λ (mapping : List LogicalField). map (value_in c.args.image.now) mapping) c.as_slice.ensures)
