use Rattle.receiver_chain.proofs.ReadingLaws.{deposited_list, switched_list}
use Rattle.receiver_chain.proofs.laws.one_list.Goals as goal

pub returns-clause-deposited : goal.returns-clause-deposited
returns-clause-deposited c = deposited_list

pub returns-clause-switched : goal.returns-clause-switched
returns-clause-switched c = switched_list
