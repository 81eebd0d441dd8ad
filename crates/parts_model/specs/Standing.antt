-- When can the changes of a commit cycle be taken back one after another, the last one first: each stands as it was made once the later ones are
-- taken back. (Commitment Control.)
use Rattle.std.specs.Prelude.{◌≡◌, List, [], ◌∷◌}
use Rattle.member_slots.specs.Members.{NumberedMembers, member_of}
use Rattle.journal_model.specs.Places.{slot_of}
use Rattle.journal_model.specs.Rollback.{MemberChange}
use Rattle.lawful_states.specs.Back.{member_back}

abbrev pub StandAsMade : List MemberChange → NumberedMembers → Type 0
StandAsMade [] members = Unit {0}
StandAsMade (undo ∷ undos) members = (slot_of (member_of undo.member members).slots undo.change.place ≡ undo.change.after) × StandAsMade undos (member_back undo members)
