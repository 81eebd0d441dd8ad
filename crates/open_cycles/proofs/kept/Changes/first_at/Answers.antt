use Rattle.std.proofs.Common.{◌≡◌, ◌∙◌, ℕ, Some, ap}
use Rattle.open_cycles.specs.Kept.{is_about, first_by, got}
use Rattle.open_cycles.proofs.KeptLemmas.{Kept}
use Rattle.open_cycles.proofs.ReadLemmas.{found_at, first-found}
use Rattle.open_cycles.proofs.kept.Changes.first_at.Goals as goal

pub returns-in-None : goal.returns-in-None
returns-in-None c =
    let key : ℕ × ℕ = (c.args.member, c.args.place) in
    let items = c.self.inside.kept.items in
    rw (← c.self.view_is) (ap (found_at items) (c.in-None.ensures.value ∙ c.self.invariant.1 key) ∙ first-found key items)

pub returns-in-Some : goal.returns-in-Some
returns-in-Some c =
    let key : ℕ × ℕ = (c.args.member, c.args.place) in
    let items = c.self.inside.kept.items in
    let there : Some c.in-Some.first.now ≡ first_by (is_about key) 0 items = c.in-Some.ensures.value ∙ c.self.invariant.1 key in
    rw (← c.self.view_is) (c.at.ensures ∙ ap (λ (k : Kept). got k c.in-Some.first.now) c.as_slice.ensures.value ∙ ap (found_at items) there ∙ first-found key items)
