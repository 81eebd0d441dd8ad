use Rattle.physical_paths.proofs.SourceLemmas.{described-keyed}
use Rattle.physical_paths.proofs.laws.described_files_are_keyed.Goals as goal

pub returns : goal.returns
returns c = described-keyed
