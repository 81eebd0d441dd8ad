use Rattle.std.proofs.Common.{◌∙◌, ap, sym, subst}
use Rattle.path_set.specs.ByMember.{AreByMember, numbers_of}
use Rattle.path_set.proofs.OverLemmas.{put-there, put-gap, put-ordered}
use Rattle.path_set.proofs.by_member.put_path.Goals as goal

pub place_of_path-requires : goal.place_of_path-requires
place_of_path-requires c = subst AreByMember (sym c.as_slice.ensures.value) c.requires.ordered

pub insert_path-requires-clause-within : goal.insert_path-requires-clause-within
insert_path-requires-clause-within c = rw (← c.as_slice.ensures.value) c.in-Err.ensures.absent.in_range

pub returns-in-Ok-clause-numbers : goal.returns-in-Ok-clause-numbers
returns-in-Ok-clause-numbers c member =
    put-there _ _ _ c.requires.ordered (rw c.as_slice.ensures.value at c.in-Ok.ensures.within) (rw c.as_slice.ensures.value at c.in-Ok.ensures.found) member

pub returns-in-Err-clause-ordered : goal.returns-in-Err-clause-ordered
returns-in-Err-clause-ordered c = subst AreByMember (sym c.insert_path.ensures.items) (put-ordered _ _ _ c.requires.ordered (rw c.as_slice.ensures.value at c.in-Err.ensures.absent))

pub returns-in-Err-clause-numbers : goal.returns-in-Err-clause-numbers
returns-in-Err-clause-numbers c member =
    ap (numbers_of member) c.insert_path.ensures.items ∙ put-gap _ _ _ (rw c.as_slice.ensures.value at c.in-Err.ensures.absent) member
