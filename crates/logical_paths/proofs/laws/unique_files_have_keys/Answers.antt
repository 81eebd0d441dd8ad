use Rattle.logical_paths.proofs.UniqueLemmas.{described-unique}
use Rattle.logical_paths.proofs.laws.unique_files_have_keys.Goals as goal

pub returns : goal.returns
returns c = described-unique
