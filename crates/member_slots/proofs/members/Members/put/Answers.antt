use Rattle.std.proofs.Common.{arith, refl}
use Rattle.member_slots.proofs.FoundLemmas.{found, missing}
use Rattle.member_slots.proofs.members.Members.put.Goals as goal

pub returns-in-Ok-clause-put : goal.returns-in-Ok-clause-put
returns-in-Ok-clause-put c =
    let entry = found _ _ _ _ _ _ c.self.view_is c.self.invariant c.deref.ensures.value c.in-Ok.ensures.found c.index_mut.ensures.value in
    entry.put_members _ refl

pub returns-in-Ok-clause-spares : goal.returns-in-Ok-clause-spares
returns-in-Ok-clause-spares c =
    let entry = found _ _ _ _ _ _ c.self.view_is c.self.invariant c.deref.ensures.value c.in-Ok.ensures.found c.index_mut.ensures.value in
    entry.put_spares _ refl

pub invariant_of-self : goal.invariant_of-self
invariant_of-self c =
    let entry = found _ _ _ _ _ _ c.self.view_is c.self.invariant c.deref.ensures.value c.in-Ok.ensures.found c.index_mut.ensures.value in
    entry.put_ordered _ refl c.length.ensures.lawful

pub invariant_of-self-in-Err : goal.invariant_of-self-in-Err
invariant_of-self-in-Err c =
    let gap = missing _ _ _ _ _ c.self.view_is c.self.invariant c.deref.ensures.value c.in-Err.ensures.absent in
    rw c.in_ok-insert-in-Err.ensures.items (gap.put_ordered _ refl c.length.ensures.lawful)

pub returns-in_ok-insert-in-Err-clause-put : goal.returns-in_ok-insert-in-Err-clause-put
returns-in_ok-insert-in-Err-clause-put c =
    let gap = missing _ _ _ _ _ c.self.view_is c.self.invariant c.deref.ensures.value c.in-Err.ensures.absent in
    rw c.in_ok-insert-in-Err.ensures.items (gap.put_members _ refl)

pub returns-in_ok-insert-in-Err-clause-spares : goal.returns-in_ok-insert-in-Err-clause-spares
returns-in_ok-insert-in-Err-clause-spares c =
    let gap = missing _ _ _ _ _ c.self.view_is c.self.invariant c.deref.ensures.value c.in-Err.ensures.absent in
    rw c.in_ok-insert-in-Err.ensures.items (gap.put_spares _ refl)

pub returns-in_err-insert-in-Err-clause-replaces : goal.returns-in_err-insert-in-Err-clause-replaces
returns-in_err-insert-in-Err-clause-replaces c there =
    let gap = missing _ _ _ _ _ c.self.view_is c.self.invariant c.deref.ensures.value c.in-Err.ensures.absent in
    grind (arith, gap.absent)
