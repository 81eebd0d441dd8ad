-- The parts of a display, one behind the other, are the display of a library.
use Rattle.std.proofs.Common.{◌≡◌, ◌∙◌, ℕ, ◌+◌, List, ◌++◌, length, ap}
use Rattle.std.specs.List.{flat_map}
use Rattle.entry_codec.specs.declared.entries.Entry.{Entry}
use Rattle.member_slots.specs.Members.{NumberedMembers}
use Rattle.library_model.specs.Named.{Named}
use Rattle.library_steps.specs.State.{FileState, State}
use Rattle.display.specs.Display.{display_front, display_of, display_reading, end_line, entry_line}

joined-of : (last attached : ℕ) (files : Named FileState) (members : NumberedMembers) (entries : List Entry) (text : List ℕ)
    → text ≡ display_front last attached files members ++ flat_map entry_line entries ++ end_line → text ≡ display_of last attached files members entries
unfolding display_front display_of
joined-of last attached files members entries text joined = joined

-- where the first of them is of what the library has
pub display-joined : (s : State) (last attached : ℕ) (files : Named FileState) (members : NumberedMembers) (front : List ℕ) → last ≡ s.gone + length s.entries
    → attached ≡ s.receivers.attached → files ≡ s.files → members ≡ s.members → front ≡ display_front last attached files members
    → (read : List Entry) (text : List ℕ) → text ≡ front ++ flat_map entry_line read ++ end_line → text ≡ display_reading s read
display-joined s last attached files members front ends at have also begins read text joined =
    let here = s.gone + length s.entries in
    let front_is : front ≡ display_front here s.receivers.attached s.files s.members =
    begins ∙ ap (λ (n : ℕ). display_front n attached files members) ends ∙ ap (λ (n : ℕ). display_front here n files members) at
    ∙ ap (λ (fs : Named FileState). display_front here s.receivers.attached fs members) have ∙ ap (λ (ms : NumberedMembers). display_front here s.receivers.attached s.files ms) also in
    joined-of here s.receivers.attached s.files s.members read text (joined ∙ ap (λ (t : List ℕ). t ++ flat_map entry_line read ++ end_line) front_is)
