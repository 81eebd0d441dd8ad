use Rattle.deposited_entries.proofs.InsideRequests.{deposits-inside, deposits-switch}
use Rattle.deposited_entries.proofs.deposits_are_inside.Goals as goal

pub returns-clause-inside : goal.returns-clause-inside
returns-clause-inside c = deposits-inside

pub returns-clause-switched : goal.returns-clause-switched
returns-clause-switched c = deposits-switch
