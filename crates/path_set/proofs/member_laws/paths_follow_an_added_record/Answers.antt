use Rattle.member_slots.specs.Member.{appended}
use Rattle.member_slots.specs.Members.{member_of, with_member}
use Rattle.path_set.specs.MemberSteps.{record_added}
use Rattle.path_set.proofs.MemberStepLemmas.{slot-added-changes, added-changes, added-undone}
use Rattle.path_set.proofs.RecordLemmas.{paths-over}
use Rattle.path_set.proofs.member_laws.paths_follow_an_added_record.Goals as goal

pub returns-clause-slot : goal.returns-clause-slot
returns-clause-slot c = slot-added-changes

pub returns-clause-change : goal.returns-clause-change
returns-clause-change c = added-changes

pub returns-clause-over : goal.returns-clause-over
returns-clause-over c number image members paths there =
    paths-over (record_added number image members) members (with_member number (appended (member_of number members) image) members) paths (added-changes number image members there)

pub returns-clause-undone : goal.returns-clause-undone
returns-clause-undone c = added-undone
