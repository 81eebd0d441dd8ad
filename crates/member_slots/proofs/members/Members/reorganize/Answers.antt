use Rattle.std.proofs.Common.{refl}
use Rattle.member_slots.proofs.FoundLemmas.{found}
use Rattle.member_slots.proofs.members.Members.reorganize.Goals as goal

pub invariant_of-self : goal.invariant_of-self
invariant_of-self c =
    let entry = found _ _ _ _ _ _ c.self.view_is c.self.invariant c.deref.ensures.value c.place_of_member-place.ensures c.index_mut.ensures.value in
    entry.ordered _ c.reorganize.ensures.lawful

pub returns-clause-reorganized : goal.returns-clause-reorganized
returns-clause-reorganized c =
    let entry = found _ _ _ _ _ _ c.self.view_is c.self.invariant c.deref.ensures.value c.place_of_member-place.ensures c.index_mut.ensures.value in
    rw (entry.members c.reorganize.new.self, entry.state, c.reorganize.ensures.reorganized) refl

pub returns-clause-kept : goal.returns-clause-kept
returns-clause-kept c =
    let entry = found _ _ _ _ _ _ c.self.view_is c.self.invariant c.deref.ensures.value c.place_of_member-place.ensures c.index_mut.ensures.value in
    rw (entry.spare, entry.spare_after c.reorganize.new.self) c.reorganize.ensures.spare

pub returns-clause-other_spares : goal.returns-clause-other_spares
returns-clause-other_spares c =
    let entry = found _ _ _ _ _ _ c.self.view_is c.self.invariant c.deref.ensures.value c.place_of_member-place.ensures c.index_mut.ensures.value in
    rw (entry.spare_after c.reorganize.new.self) (entry.spares c.reorganize.new.self)
