use Rattle.member_slots.proofs.ChangeLaws.{ChangesMember-with_member, ChangesMember-put_member, ChangesMember-without_member}
use Rattle.member_slots.proofs.laws.members_change_alone.Goals as goal

pub returns : goal.returns
returns c = record { changed = ChangesMember-with_member; put = ChangesMember-put_member; taken = ChangesMember-without_member }
