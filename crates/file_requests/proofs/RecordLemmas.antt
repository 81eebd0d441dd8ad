-- The records of a member, place after place.
use Rattle.std.proofs.Common.{◌≡◌, ◌∙◌, ℕ, ◌+◌, ◌-◌, ◌==◌, ◌<◌, ◌≤◌, false, List, [], ◌∷◌, ◌++◌, length, drop, Some, get_or, ne_eqb, refl, sym, ap, arith, append_assoc, append-nil}
use Rattle.std.proofs.lemmas.List.{drop_more, drop_all}
use Rattle.std.proofs.lemmas.Option.{slice_get-get_or}
use Rattle.entry_codec.specs.declared.entries.Draft.{Draft}
use Rattle.member_slots.specs.declared.slot.Slot.{Slot}
use Rattle.member_slots.specs.declared.slot.Slot.TheVariants.{Live, Deleted}
use Rattle.member_slots.specs.Member.{MemberState, slot_at, records_from}
use Rattle.library_steps.specs.Drafts.{Author, initial_drafts}
use Rattle.library_steps.specs.Records.{record_in}
use Rattle.file_requests.specs.Records.{drafts_at, count_at}

-- the slot behind so many others
slot_at-place : (member : MemberState) (place : ℕ) → place < length member.slots → slot_at member (place + 1) ≡ Some (get_or member.slots place Deleted)
slot_at-place member place within =
    let some : (place + 1 == 0) ≡ false = ne_eqb (place + 1) 0 (λ e. absurd (omega arith)) in
    let before : place + 1 - 1 ≡ place = omega arith in
    rw (some, before) (slice_get-get_or member.slots place Deleted within)

record_at-place : (member : MemberState) (place : ℕ) → place < length member.slots → record_in (slot_at member (place + 1)) ≡ record_in (Some (get_or member.slots place Deleted))
record_at-place member place within = ap record_in (slot_at-place member place within)

initial_drafts-cons : (author : Author) (member rrn : ℕ) (slot : Slot) (slots : List Slot)
    → initial_drafts author member rrn (slot ∷ slots) ≡ drafts_at author member rrn (record_in (Some slot)) ++ initial_drafts author member (rrn + 1) slots
initial_drafts-cons author member rrn (Live image) slots = refl
initial_drafts-cons author member rrn Deleted slots = refl

records_from-cons : (rrn : ℕ) (slot : Slot) (slots : List Slot) → length (records_from rrn (slot ∷ slots)) ≡ count_at (record_in (Some slot)) + length (records_from (rrn + 1) slots)
records_from-cons rrn (Live image) slots = omega arith
records_from-cons rrn Deleted slots = omega arith

-- the entries from a place on are that of its record, and those from the next place on
pub initial_drafts-place : (author : Author) (number : ℕ) (member : MemberState) (place : ℕ) → place < length member.slots
    → initial_drafts author number (place + 1) (drop place member.slots)
    ≡ drafts_at author number (place + 1) (record_in (slot_at member (place + 1))) ++ initial_drafts author number (place + 1 + 1) (drop (place + 1) member.slots)
initial_drafts-place author number member place within =
    rw (record_at-place member place within, drop_more member.slots place Deleted within)
    (initial_drafts-cons author number (place + 1) (get_or member.slots place Deleted) (drop (place + 1) member.slots))

pub records_from-place : (member : MemberState) (place : ℕ) → place < length member.slots
    → length (records_from (place + 1) (drop place member.slots))
    ≡ count_at (record_in (slot_at member (place + 1))) + length (records_from (place + 1 + 1) (drop (place + 1) member.slots))
records_from-place member place within =
    rw (record_at-place member place within, drop_more member.slots place Deleted within)
    (records_from-cons (place + 1) (get_or member.slots place Deleted) (drop (place + 1) member.slots))

-- none stand past the last place
pub initial_drafts-end : (author : Author) (number rrn place : ℕ) (slots : List Slot) → length slots ≤ place → initial_drafts author number rrn (drop place slots) ≡ []
initial_drafts-end author number rrn place slots past = rw (drop_all place slots past) refl

pub records_from-end : (rrn place : ℕ) (slots : List Slot) → length slots ≤ place → length (records_from rrn (drop place slots)) ≡ 0
records_from-end rrn place slots past = rw (drop_all place slots past) refl

-- the drafts so far with those of one place more
pub drafts-step : (author : Author) (number : ℕ) (member : MemberState) (place : ℕ) (before after all : List Draft) → place < length member.slots
    → before ++ initial_drafts author number (place + 1) (drop place member.slots) ≡ all
    → after ≡ before ++ drafts_at author number (place + 1) (record_in (slot_at member (place + 1)))
    → after ++ initial_drafts author number (place + 1 + 1) (drop (place + 1) member.slots) ≡ all
drafts-step author number member place before after all within so_far more =
    let rest = initial_drafts author number (place + 1 + 1) (drop (place + 1) member.slots) in
    ap (λ (ds : List Draft). ds ++ rest) more ∙ append_assoc before (drafts_at author number (place + 1) (record_in (slot_at member (place + 1)))) rest
    ∙ ap (λ (ds : List Draft). before ++ ds) (sym (initial_drafts-place author number member place within)) ∙ so_far

pub drafts-end : (author : Author) (number rrn place : ℕ) (slots : List Slot) (drafts all : List Draft) → length slots ≤ place → drafts ++ initial_drafts author number rrn (drop place slots) ≡ all → drafts ≡ all
drafts-end author number rrn place slots drafts all past so_far =
    sym (append-nil drafts) ∙ ap (λ (ds : List Draft). drafts ++ ds) (sym (initial_drafts-end author number rrn place slots past)) ∙ so_far
