-- The members with changes of a commit cycle taken back, the last change first. (Commitment Control.)
use Rattle.std.specs.Prelude.{◌+◌, List, [], ◌∷◌}
use Rattle.member_slots.specs.Member.{changed}
use Rattle.member_slots.specs.Members.{NumberedMembers, member_of, with_member}
use Rattle.library_steps.specs.Replay.{before_of}
use Rattle.library_steps.specs.Rollback.{MemberChange}

-- the members with one change taken back
abbrev pub member_back : MemberChange → NumberedMembers → NumberedMembers
member_back undo members = with_member undo.member (changed (member_of undo.member members) (undo.change.place + 1) (before_of undo.change)) members

-- with each of them, the last change first
abbrev pub members_back : List MemberChange → NumberedMembers → NumberedMembers
members_back [] members = members
members_back (undo ∷ undos) members = members_back undos (member_back undo members)
