use Rattle.std.proofs.Common.{◌≡◌, rules}
use Rattle.std.specs.List.{filter}
use Rattle.std.proofs.lemmas.Fn.{filter_same}
use Rattle.member_slots.specs.Member.{is_live}
use Rattle.member_slots.proofs.MemberLemmas.{IsMember-reorganized}
use Rattle.member_slots.proofs.member.Member.reorganize.Goals as goal

pub invariant_of-self : goal.invariant_of-self
invariant_of-self c =
    let kept : c.retain.new.self.items ≡ filter is_live c.self.inside.slots.items = filter_same _ is_live _ (λ x b f' k. search rules) _ _ c.retain.ensures.filtered in
    rw kept (IsMember-reorganized _ c.self.invariant)

pub returns-clause-reorganized : goal.returns-clause-reorganized
returns-clause-reorganized c =
    let kept : c.retain.new.self.items ≡ filter is_live c.self.inside.slots.items = filter_same _ is_live _ (λ x b f' k. search rules) _ _ c.retain.ensures.filtered in
    rw (kept, ← c.self.view_is)
