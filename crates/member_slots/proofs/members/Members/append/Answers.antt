use Rattle.std.proofs.Common.{arith}
use Rattle.member_slots.proofs.FoundLemmas.{found}
use Rattle.member_slots.proofs.members.Members.append.Goals as goal

pub append-requires-clause-room : goal.append-requires-clause-room
append-requires-clause-room c =
    let entry = found _ _ _ _ _ _ c.self.view_is c.self.invariant c.deref.ensures.value c.place_of_member-place.ensures c.index_mut.ensures.value in
    rw (← entry.spare) c.requires.room

pub append-requires-clause-fits : goal.append-requires-clause-fits
append-requires-clause-fits c =
    let entry = found _ _ _ _ _ _ c.self.view_is c.self.invariant c.deref.ensures.value c.place_of_member-place.ensures c.index_mut.ensures.value in
    rw (← entry.state) c.requires.fits

pub invariant_of-self : goal.invariant_of-self
invariant_of-self c =
    let entry = found _ _ _ _ _ _ c.self.view_is c.self.invariant c.deref.ensures.value c.place_of_member-place.ensures c.index_mut.ensures.value in
    entry.ordered _ c.append.ensures.lawful

pub returns-clause-full : goal.returns-clause-full
returns-clause-full c =
    let entry = found _ _ _ _ _ _ c.self.view_is c.self.invariant c.deref.ensures.value c.place_of_member-place.ensures c.index_mut.ensures.value in
    rw entry.state c.append.ensures.full

pub returns-clause-number : goal.returns-clause-number
returns-clause-number c =
    let entry = found _ _ _ _ _ _ c.self.view_is c.self.invariant c.deref.ensures.value c.place_of_member-place.ensures c.index_mut.ensures.value in
    rw entry.state c.append.ensures.number

pub returns-clause-appended : goal.returns-clause-appended
returns-clause-appended c =
    let entry = found _ _ _ _ _ _ c.self.view_is c.self.invariant c.deref.ensures.value c.place_of_member-place.ensures c.index_mut.ensures.value in
    rw (entry.members c.append.new.self, entry.state) (grind (arith, c.append.ensures.appended))

pub returns-clause-spent : goal.returns-clause-spent
returns-clause-spent c =
    let entry = found _ _ _ _ _ _ c.self.view_is c.self.invariant c.deref.ensures.value c.place_of_member-place.ensures c.index_mut.ensures.value in
    rw (entry.spares c.append.new.self, entry.spare) (grind (arith, c.append.ensures.spent))
