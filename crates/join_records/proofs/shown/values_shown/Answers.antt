use Rattle.std.proofs.Common.{◌∙◌, Bor, List, ℕ, map, sym, ap, subst}
use Rattle.std.specs.List.{AllByRecursion}
use Rattle.dds_logical.specs.declared.join_views.JoinedField.{JoinedField}
use Rattle.join_records.specs.Shown.{HasValueIn, visible_in}
use Rattle.join_records.proofs.ShownLemmas.{has-values, row-values}
use Rattle.join_records.proofs.shown.values_shown.Goals as goal

pub values_of-requires : goal.values_of-requires
values_of-requires c =
    let images : List (List ℕ) = map (λ (image : Bor (List ℕ)). image.now) c.args.images.now in
    subst (AllByRecursion (HasValueIn images)) (sym c.as_slice.ensures) (has-values c.args.view.now images c.requires)

pub returns : goal.returns
returns c = λ bases row own.
    let images : List (List ℕ) = map (λ (image : Bor (List ℕ)). image.now) c.args.images.now in
    row-values bases c.args.view.now row images c.in_ok-values.values.items own c.requires
    (c.in_ok-values.ensures ∙ ap (λ (fields : List JoinedField). visible_in images fields) c.as_slice.ensures)
