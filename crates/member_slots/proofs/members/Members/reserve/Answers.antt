use Rattle.std.proofs.Common.{arith}
use Rattle.member_slots.proofs.FoundLemmas.{found}
use Rattle.member_slots.proofs.members.Members.reserve.Goals as goal

pub invariant_of-self : goal.invariant_of-self
invariant_of-self c =
    let entry = found _ _ _ _ _ _ c.self.view_is c.self.invariant c.deref.ensures.value c.place_of_member-place.ensures c.index_mut.ensures.value in
    entry.ordered _ (rw c.reserve.ensures.unchanged entry.lawful)

pub returns-clause-unchanged : goal.returns-clause-unchanged
returns-clause-unchanged c =
    let entry = found _ _ _ _ _ _ c.self.view_is c.self.invariant c.deref.ensures.value c.place_of_member-place.ensures c.index_mut.ensures.value in
    rw (entry.members c.reserve.new.self, c.reserve.ensures.unchanged) entry.same_members

pub returns-clause-kept : goal.returns-clause-kept
returns-clause-kept c =
    let entry = found _ _ _ _ _ _ c.self.view_is c.self.invariant c.deref.ensures.value c.place_of_member-place.ensures c.index_mut.ensures.value in
    rw (entry.spare, entry.spare_after c.reserve.new.self) c.reserve.ensures.kept

pub returns-clause-reserved : goal.returns-clause-reserved
returns-clause-reserved c =
    let entry = found _ _ _ _ _ _ c.self.view_is c.self.invariant c.deref.ensures.value c.place_of_member-place.ensures c.index_mut.ensures.value in
    rw (entry.spare_after c.reserve.new.self) c.reserve.ensures.room

pub returns-clause-short : goal.returns-clause-short
returns-clause-short c =
    let entry = found _ _ _ _ _ _ c.self.view_is c.self.invariant c.deref.ensures.value c.place_of_member-place.ensures c.index_mut.ensures.value in
    rw entry.spare c.reserve.ensures.short

pub returns-clause-refused : goal.returns-clause-refused
returns-clause-refused c =
    let entry = found _ _ _ _ _ _ c.self.view_is c.self.invariant c.deref.ensures.value c.place_of_member-place.ensures c.index_mut.ensures.value in
    grind (arith, entry.unchanged, c.reserve.ensures.refused)

pub returns-clause-other_spares : goal.returns-clause-other_spares
returns-clause-other_spares c =
    let entry = found _ _ _ _ _ _ c.self.view_is c.self.invariant c.deref.ensures.value c.place_of_member-place.ensures c.index_mut.ensures.value in
    rw (entry.spare_after c.reserve.new.self) (entry.spares c.reserve.new.self)
