use Rattle.receiver_chain.proofs.ReadingLaws.{one_chain, one_damage, never_both}
use Rattle.receiver_chain.proofs.laws.one_reading.Goals as goal

pub returns-clause-one_chain : goal.returns-clause-one_chain
returns-clause-one_chain c = one_chain

pub returns-clause-one_damage : goal.returns-clause-one_damage
returns-clause-one_damage c = one_damage

pub returns-clause-never_both : goal.returns-clause-never_both
returns-clause-never_both c = never_both
