use Rattle.std.proofs.Common.{◌≡◌, ℕ, ◌-◌, ◌==◌, List, ◌++◌, ◌∷◌, [], length, Option, Some, cond, ap, sym, ◌∙◌, arith}
use Rattle.range_images.specs.declared.slot_given.SlotGiven.{SlotGiven}
use Rattle.range_images.specs.Given.{last_index}
use Rattle.range_images.proofs.GivenLemmas.{last_index-push}
use Rattle.range_images.proofs.overlay.Overlay.give.Goals as goal

pub invariant_of-self-2 : goal.invariant_of-self-2
invariant_of-self-2 c = λ place.
    let items = c.self.inside.given.items in
    let g : SlotGiven = record { rrn = c.args.rrn; slot = c.args.slot } in
    let here = c.args.rrn - 1 == place in
    let long : c.len-index.result ≡ length items = omega (arith, c.self.inside.given.ok.0, c.len-index.ensures) in
    let added : c.push_reserved.new.self.items ≡ items ++ g ∷ [] = c.push_reserved.ensures.items ∙ ap (λ (xs : List SlotGiven). xs ++ g ∷ []) c.reserve.ensures.items in
    c.in_ok-_earlier.ensures.updates.0 place
    ∙ ap (λ (o : Option ℕ). cond here (Some c.len-index.result) o) (c.self.invariant place)
    ∙ ap (λ (n : ℕ). cond here (Some n) (last_index place items)) long
    ∙ sym (last_index-push place items g)
    ∙ ap (last_index place) (sym added)
