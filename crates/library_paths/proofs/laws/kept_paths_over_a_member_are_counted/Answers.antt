use Rattle.library_paths.proofs.OverLemmas.{over-all, over-kept}
use Rattle.library_paths.proofs.laws.kept_paths_over_a_member_are_counted.Goals as goal

pub returns-clause-all : goal.returns-clause-all
returns-clause-all c = over-all

pub returns-clause-kept : goal.returns-clause-kept
returns-clause-kept c = over-kept
