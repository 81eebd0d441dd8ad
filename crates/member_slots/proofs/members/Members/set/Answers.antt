use Rattle.std.proofs.Common.{refl}
use Rattle.member_slots.proofs.FoundLemmas.{found}
use Rattle.member_slots.proofs.members.Members.set.Goals as goal

pub set-requires-clause-place : goal.set-requires-clause-place
set-requires-clause-place c =
    let entry = found _ _ _ _ _ _ c.self.view_is c.self.invariant c.deref.ensures.value c.place_of_member-place.ensures c.index_mut.ensures.value in
    rw (← entry.state) c.requires.place

pub set-requires-clause-fits : goal.set-requires-clause-fits
set-requires-clause-fits c =
    let entry = found _ _ _ _ _ _ c.self.view_is c.self.invariant c.deref.ensures.value c.place_of_member-place.ensures c.index_mut.ensures.value in
    rw (← entry.state) c.requires.fits

pub invariant_of-self : goal.invariant_of-self
invariant_of-self c =
    let entry = found _ _ _ _ _ _ c.self.view_is c.self.invariant c.deref.ensures.value c.place_of_member-place.ensures c.index_mut.ensures.value in
    entry.ordered _ c.set.ensures.lawful

pub returns-clause-before : goal.returns-clause-before
returns-clause-before c =
    let entry = found _ _ _ _ _ _ c.self.view_is c.self.invariant c.deref.ensures.value c.place_of_member-place.ensures c.index_mut.ensures.value in
    rw entry.state c.set.ensures.before

pub returns-clause-changed : goal.returns-clause-changed
returns-clause-changed c =
    let entry = found _ _ _ _ _ _ c.self.view_is c.self.invariant c.deref.ensures.value c.place_of_member-place.ensures c.index_mut.ensures.value in
    rw (entry.members c.set.new.self, entry.state, c.set.ensures.changed) refl

pub returns-clause-spares : goal.returns-clause-spares
returns-clause-spares c =
    let entry = found _ _ _ _ _ _ c.self.view_is c.self.invariant c.deref.ensures.value c.place_of_member-place.ensures c.index_mut.ensures.value in
    rw (entry.spares c.set.new.self, c.set.ensures.spare) entry.same_spares

pub returns-clause-fits : goal.returns-clause-fits
returns-clause-fits c =
    let entry = found _ _ _ _ _ _ c.self.view_is c.self.invariant c.deref.ensures.value c.place_of_member-place.ensures c.index_mut.ensures.value in
    rw entry.state c.set.ensures.fits
