use Rattle.std.proofs.Common.{◌≡◌, ◌∙◌, ◌+◌, ◌∷◌, ◌++◌, Bor, List, ℕ, Some, drop, map, ap, sym, subst}
use Rattle.std.specs.List.{AllByRecursion}
use Rattle.std.proofs.lemmas.List.{drop_more}
use Rattle.dds_logical.specs.declared.join_views.JoinedField.{JoinedField}
use Rattle.join_records.specs.Shown.{HasValueIn, visible_in}
use Rattle.join_records.proofs.shown.values_of.Goals as goal

pub loop-field-preserved : goal.loop-field-preserved
loop-field-preserved c =
    let images : List (List ℕ) = map (λ (image : Bor (List ℕ)). image.now) c.args.images.now in
    let fields : List JoinedField = c.args.fields.now in
    let at = c.loop-field.field-index in
    let rest : List JoinedField = drop (at + 1) fields in
    let next : drop at fields ≡ c.field-item.result ∷ rest = drop_more fields at c.field-item.result c.loop-field-test.true ∙ ap (λ (f : JoinedField). f ∷ rest) (sym c.field-item.is) in
    record {
      there = (subst (AllByRecursion (HasValueIn images)) next c.loop-field.invariant.there).1;
      same = c.in_ok-add_value.ensures rest
          ∙ ap (λ (fs : List JoinedField). map Some c.loop-field.values.items ++ visible_in images fs) (sym next)
          ∙ c.loop-field.invariant.same;
    }
