use Rattle.std.proofs.Common.{sym}
use Rattle.member_slots.proofs.FoundLemmas.{found, missing}
use Rattle.member_slots.proofs.members.Members.take.Goals as goal

pub invariant_of-self : goal.invariant_of-self
invariant_of-self c =
    let entry = found _ _ _ _ _ _ c.self.view_is c.self.invariant c.deref.ensures.value c.in-Ok.ensures.found c.remove.ensures.value in
    rw c.remove.ensures.items entry.gone_ordered

pub returns-in-Ok-clause-taken : goal.returns-in-Ok-clause-taken
returns-in-Ok-clause-taken c =
    let entry = found _ _ _ _ _ _ c.self.view_is c.self.invariant c.deref.ensures.value c.in-Ok.ensures.found c.remove.ensures.value in
    entry.present

pub returns-in-Ok-clause-spare : goal.returns-in-Ok-clause-spare
returns-in-Ok-clause-spare c =
    let entry = found _ _ _ _ _ _ c.self.view_is c.self.invariant c.deref.ensures.value c.in-Ok.ensures.found c.remove.ensures.value in
    sym entry.spare

pub returns-in-Ok-clause-gone : goal.returns-in-Ok-clause-gone
returns-in-Ok-clause-gone c =
    let entry = found _ _ _ _ _ _ c.self.view_is c.self.invariant c.deref.ensures.value c.in-Ok.ensures.found c.remove.ensures.value in
    rw c.remove.ensures.items entry.gone_members

pub returns-in-Ok-clause-spares : goal.returns-in-Ok-clause-spares
returns-in-Ok-clause-spares c =
    let entry = found _ _ _ _ _ _ c.self.view_is c.self.invariant c.deref.ensures.value c.in-Ok.ensures.found c.remove.ensures.value in
    rw c.remove.ensures.items entry.gone_spares

pub returns-in-Err-clause-taken : goal.returns-in-Err-clause-taken
returns-in-Err-clause-taken c =
    let gap = missing _ _ _ _ _ c.self.view_is c.self.invariant c.deref.ensures.value c.in-Err.ensures.absent in
    gap.absent

pub returns-in-Err-clause-gone : goal.returns-in-Err-clause-gone
returns-in-Err-clause-gone c =
    let gap = missing _ _ _ _ _ c.self.view_is c.self.invariant c.deref.ensures.value c.in-Err.ensures.absent in
    gap.gone_members

pub returns-in-Err-clause-spares : goal.returns-in-Err-clause-spares
returns-in-Err-clause-spares c =
    let gap = missing _ _ _ _ _ c.self.view_is c.self.invariant c.deref.ensures.value c.in-Err.ensures.absent in
    gap.gone_spares
