use Rattle.named_bases.proofs.NamedLemmas.{formats-among, names-among}
use Rattle.named_bases.proofs.laws.named_files_are_bases.Goals as goal

pub returns-clause-formats : goal.returns-clause-formats
returns-clause-formats c = formats-among

pub returns-clause-names : goal.returns-clause-names
returns-clause-names c = names-among
