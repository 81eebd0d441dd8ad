-- What is told of a member as its journaling begins, and what becomes of its status as that begins and ends.
-- (Journal Management, "Starting journaling".)
use Rattle.std.specs.Prelude.{ℕ, ◌+◌, Option, Some, None, List, [], ◌∷◌, length}
use Rattle.entry_codec.specs.declared.entries.Draft.{Draft}
use Rattle.entry_codec.specs.declared.kinds.EntryKind.TheVariants.{InitialSlot, JournalingStarted}
use Rattle.entry_codec.specs.declared.kinds.Images.{Images}
use Rattle.member_slots.specs.declared.slot.Slot.{Slot}
use Rattle.library_steps.specs.State.{Memory, with_status}
use Rattle.library_steps.specs.Journaling.{journaled_from, no_longer_journaled}
use Rattle.library_steps.specs.Drafts.{Author, initial_drafts, member_draft, record_draft}

-- the entry of the record at a place, where one stands there
abbrev pub drafts_at : Author → (member rrn : ℕ) → Option (List ℕ) → List Draft
drafts_at author member rrn None = []
drafts_at author member rrn (Some image) = record_draft author None member rrn (InitialSlot image) ∷ []

-- how many records stand at a place
abbrev pub count_at : Option (List ℕ) → ℕ
count_at None = 0
count_at (Some image) = 1

-- that journaling begins, and each record that stands there
abbrev pub start_drafts : Author → (member : ℕ) → Images → List Slot → List Draft
start_drafts author member images slots = member_draft author member (JournalingStarted images (length slots)) ∷ initial_drafts author member 1 slots

-- journaled from the next entry on
abbrev pub journaling_started : (member : ℕ) → Images → Memory → Memory
journaling_started member images m = with_status member (journaled_from (m.last_entry + 1) images) m

-- no longer journaled, from the next entry on, with so many records
abbrev pub journaling_ended : (member records : ℕ) → Memory → Memory
journaling_ended member records m = with_status member (no_longer_journaled (m.last_entry + 1) records) m
