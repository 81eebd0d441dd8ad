use Rattle.std.proofs.Common.{◌≡◌, ◌∙◌, Option, Some, None, ℕ, refl, sym, ap}
use Rattle.std.specs.Borrow.{Bor}
use Rattle.std.specs.Map.Iter.{deref_pair}
use Rattle.std.specs.Option.{option_map}
use Rattle.std.proofs.lemmas.Option.{slice_get-map}
use Rattle.replay_members.specs.Bodies.{Body, held, member_shown}
use Rattle.replay_members.proofs.members.Members.at.Goals as goal

joined : (o : Option (Bor ℕ × Bor Body)) → option_map held (option_map deref_pair o) ≡ option_map member_shown o
joined None = refl
joined (Some shown) = refl

pub returns : goal.returns
returns c =
    rw (← c.self.view_is)
    (slice_get-map held c.self.inside.members.entries c.args.place ∙ ap (λ (o : Option (ℕ × Body)). option_map held o) (sym c.get_index.ensures.entry) ∙ joined c.get_index.result)
