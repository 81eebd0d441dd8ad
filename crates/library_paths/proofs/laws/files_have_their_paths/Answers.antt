use Rattle.library_paths.proofs.BaseLemmas.{stand-left, stand-status, stand-wider}
use Rattle.library_paths.proofs.PathsLemmas.{paths-first, paths-left, paths-more, paths-own, paths-status, paths-wider, stand-first, stand-more}
use Rattle.library_paths.proofs.laws.files_have_their_paths.Goals as goal

pub returns-clause-new : goal.returns-clause-new
returns-clause-new c = paths-more

pub returns-clause-own : goal.returns-clause-own
returns-clause-own c = paths-own

pub returns-clause-first : goal.returns-clause-first
returns-clause-first c = paths-first

pub returns-clause-member : goal.returns-clause-member
returns-clause-member c = paths-wider

pub returns-clause-status : goal.returns-clause-status
returns-clause-status c = paths-status

pub returns-clause-deleted : goal.returns-clause-deleted
returns-clause-deleted c = paths-left

pub returns-clause-new_stand : goal.returns-clause-new_stand
returns-clause-new_stand c = stand-more

pub returns-clause-first_stand : goal.returns-clause-first_stand
returns-clause-first_stand c = stand-first

pub returns-clause-member_stand : goal.returns-clause-member_stand
returns-clause-member_stand c = stand-wider

pub returns-clause-status_stand : goal.returns-clause-status_stand
returns-clause-status_stand c = stand-status

pub returns-clause-deleted_stand : goal.returns-clause-deleted_stand
returns-clause-deleted_stand c = stand-left
