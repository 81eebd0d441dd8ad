use Rattle.logical_laws.proofs.SameLemmas.{same-paths, same-members, same-mapped}
use Rattle.logical_laws.proofs.laws.other_files_change_no_path.Goals as goal

pub returns-clause-paths : goal.returns-clause-paths
returns-clause-paths c = same-paths

pub returns-clause-members : goal.returns-clause-members
returns-clause-members c = same-members

pub returns-clause-mapped : goal.returns-clause-mapped
returns-clause-mapped c = same-mapped
