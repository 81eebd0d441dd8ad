use Rattle.std.proofs.Common.{sym}
use Rattle.member_slots.proofs.FoundLemmas.{found, missing}
use Rattle.member_slots.proofs.OrderLemmas.{AreMembers-entries}
use Rattle.member_slots.proofs.members.Members.at.Goals as goal

pub returns-in-Ok-clause-found : goal.returns-in-Ok-clause-found
returns-in-Ok-clause-found c =
    let entry = found _ _ _ _ _ _ c.self.view_is c.self.invariant c.deref.ensures.value c.in-Ok.ensures.found c.index.ensures in
    entry.present

pub returns-in-Ok-clause-spare : goal.returns-in-Ok-clause-spare
returns-in-Ok-clause-spare c =
    let entry = found _ _ _ _ _ _ c.self.view_is c.self.invariant c.deref.ensures.value c.in-Ok.ensures.found c.index.ensures in
    sym entry.spare

pub returns-in-Ok-clause-lawful : goal.returns-in-Ok-clause-lawful
returns-in-Ok-clause-lawful c =
    rw (← c.self.view_is) (AreMembers-entries _ c.self.invariant)

pub returns-in-Err-clause-found : goal.returns-in-Err-clause-found
returns-in-Err-clause-found c =
    let gap = missing _ _ _ _ _ c.self.view_is c.self.invariant c.deref.ensures.value c.in-Err.ensures.absent in
    gap.absent

pub returns-in-Err-clause-lawful : goal.returns-in-Err-clause-lawful
returns-in-Err-clause-lawful c =
    rw (← c.self.view_is) (AreMembers-entries _ c.self.invariant)
