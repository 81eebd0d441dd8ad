use Rattle.std.proofs.Common.{◌≡◌, ◌∙◌, ℕ, map, filter, not, rules, ap}
use Rattle.std.specs.Str.{bytes_eq}
use Rattle.indexmap.proofs.CallerLemmas.{filter-RetainsPairs}
use Rattle.replay_members.specs.Bodies.{Body, held}
use Rattle.replay_members.proofs.HeldLemmas.{held-filter, below-filter}
use Rattle.replay_members.proofs.members.Members.remove_of.Goals as goal

pub invariant_of-self : goal.invariant_of-self
invariant_of-self c =
    let kept : c.retain.new.self.entries ≡ filter (λ (e : ℕ × Body). not (bytes_eq e.1.file c.args.file.now)) c.self.inside.members.entries =
    filter-RetainsPairs _ (λ (e : ℕ × Body). not (bytes_eq e.1.file c.args.file.now)) _ (λ k v b w g call. search rules) _ _ c.retain.ensures.filtered in
    rw (kept, held-filter c.args.file.now c.self.inside.members.entries) (below-filter _ _ _ c.self.invariant)

pub returns-clause-members : goal.returns-clause-members
returns-clause-members c =
    let kept : c.retain.new.self.entries ≡ filter (λ (e : ℕ × Body). not (bytes_eq e.1.file c.args.file.now)) c.self.inside.members.entries =
    filter-RetainsPairs _ (λ (e : ℕ × Body). not (bytes_eq e.1.file c.args.file.now)) _ (λ k v b w g call. search rules) _ _ c.retain.ensures.filtered in
    rw (← c.self.view_is) (ap (map held) kept ∙ held-filter c.args.file.now c.self.inside.members.entries)
