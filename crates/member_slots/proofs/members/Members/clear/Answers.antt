use Rattle.std.proofs.Common.{refl}
use Rattle.member_slots.proofs.FoundLemmas.{found}
use Rattle.member_slots.proofs.members.Members.clear.Goals as goal

pub invariant_of-self : goal.invariant_of-self
invariant_of-self c =
    let entry = found _ _ _ _ _ _ c.self.view_is c.self.invariant c.deref.ensures.value c.place_of_member-place.ensures c.index_mut.ensures.value in
    entry.ordered _ c.clear.ensures.lawful

pub returns-clause-cleared : goal.returns-clause-cleared
returns-clause-cleared c =
    let entry = found _ _ _ _ _ _ c.self.view_is c.self.invariant c.deref.ensures.value c.place_of_member-place.ensures c.index_mut.ensures.value in
    rw (entry.members c.clear.new.self, entry.state, c.clear.ensures.cleared) refl

pub returns-clause-kept : goal.returns-clause-kept
returns-clause-kept c =
    let entry = found _ _ _ _ _ _ c.self.view_is c.self.invariant c.deref.ensures.value c.place_of_member-place.ensures c.index_mut.ensures.value in
    rw (entry.spare, entry.spare_after c.clear.new.self) c.clear.ensures.spare

pub returns-clause-other_spares : goal.returns-clause-other_spares
returns-clause-other_spares c =
    let entry = found _ _ _ _ _ _ c.self.view_is c.self.invariant c.deref.ensures.value c.place_of_member-place.ensures c.index_mut.ensures.value in
    rw (entry.spare_after c.clear.new.self) (entry.spares c.clear.new.self)
