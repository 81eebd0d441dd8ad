use Rattle.deposited_entries.proofs.SequenceLemmas.{answered-sequences, begun-sequences, sequences-after, sequences-few}
use Rattle.deposited_entries.proofs.sequences_suffice.Goals as goal

pub returns-clause-begun : goal.returns-clause-begun
returns-clause-begun c = begun-sequences

pub returns-clause-kept : goal.returns-clause-kept
returns-clause-kept c = sequences-after

pub returns-clause-few : goal.returns-clause-few
returns-clause-few c = sequences-few

pub returns-clause-called : goal.returns-clause-called
returns-clause-called c = answered-sequences
