use Rattle.member_slots.specs.Member.{changed}
use Rattle.member_slots.specs.Members.{member_of, with_member}
use Rattle.path_set.specs.MemberSteps.{slot_replaced}
use Rattle.path_set.proofs.MemberStepLemmas.{replaced-changes}
use Rattle.path_set.proofs.RecordLemmas.{paths-over}
use Rattle.path_set.proofs.member_laws.paths_follow_a_replaced_slot.Goals as goal

pub returns-clause-change : goal.returns-clause-change
returns-clause-change c = replaced-changes

pub returns-clause-over : goal.returns-clause-over
returns-clause-over c number rrn old new members paths at =
    paths-over (slot_replaced number rrn old new) members (with_member number (changed (member_of number members) rrn new) members) paths (replaced-changes number rrn old new members at)
