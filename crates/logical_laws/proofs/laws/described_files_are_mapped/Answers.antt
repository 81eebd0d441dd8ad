use Rattle.logical_laws.proofs.MappedLemmas.{described-mapped, described-there}
use Rattle.logical_laws.proofs.laws.described_files_are_mapped.Goals as goal

pub returns-clause-mapped : goal.returns-clause-mapped
returns-clause-mapped c = described-mapped

pub returns-clause-there : goal.returns-clause-there
returns-clause-there c = described-there
