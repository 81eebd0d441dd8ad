use Rattle.library_paths.proofs.OwnerLemmas.{kept-apart, member-path, path-member, paths-apart, paths-contain, paths-owner}
use Rattle.library_paths.proofs.laws.paths_have_their_files.Goals as goal

pub returns-clause-contain : goal.returns-clause-contain
returns-clause-contain c = paths-contain

pub returns-clause-owner : goal.returns-clause-owner
returns-clause-owner c = paths-owner

pub returns-clause-member : goal.returns-clause-member
returns-clause-member c = member-path

pub returns-clause-of_member : goal.returns-clause-of_member
returns-clause-of_member c = path-member

pub returns-clause-apart : goal.returns-clause-apart
returns-clause-apart c = paths-apart

pub returns-clause-kept_apart : goal.returns-clause-kept_apart
returns-clause-kept_apart c = kept-apart
