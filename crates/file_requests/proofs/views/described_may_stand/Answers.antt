use Rattle.file_requests.proofs.views.described_may_stand.Goals as goal

pub returns-clause-allowed : goal.returns-clause-allowed
returns-clause-allowed c = rw c.spec.ensures at c.may_stand.ensures.allowed

pub returns-clause-unchanged : goal.returns-clause-unchanged
returns-clause-unchanged c = rw c.spec.ensures at c.may_stand.ensures.unchanged
