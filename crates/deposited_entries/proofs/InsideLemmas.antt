-- Which drafts tie no receivers.
use Rattle.std.proofs.Common.{◌≡◌, inl, inr, ℕ, ◌+◌, ◌==◌, ◌||◌, Bool, true, false, if◌then◌else◌, Option, Some, None, List, [], ◌∷◌, length, map, refl, ap}
use Rattle.std.specs.List.{AllByRecursion, filter}
use Rattle.std.specs.Option.{is_some}
use Rattle.entry_codec.specs.declared.entries.Draft.{Draft}
use Rattle.entry_codec.specs.declared.entries.Entry.{Entry}
use Rattle.entry_codec.specs.declared.kinds.EntryKind.{EntryKind}
use Rattle.entry_codec.specs.declared.kinds.EntryKind.TheVariants.{NextReceiver, PreviousReceiver, CommitCycleStarted, CommitCycleCommitted}
use Rattle.entry_codec.specs.declared.kinds.Images.{Images}
use Rattle.commit_level.specs.declared.Level.{Level}
use Rattle.member_slots.specs.declared.slot.Slot.{Slot}
use Rattle.member_slots.specs.declared.slot.Slot.TheVariants.{Live, Deleted}
use Rattle.journal_model.specs.Places.{slot_of, put_slot}
use Rattle.journal_model.specs.Replay.{before_of, is_in}
use Rattle.journal_model.specs.Rollback.{MemberChange, change_drafts, undo_drafts, undo_kinds}
use Rattle.journal_book.specs.Entries.{IsInside}
use Rattle.library_steps.specs.Commitment.{end_drafts, undo_entries}
use Rattle.library_steps.specs.Drafts.{Author, added, cycle_draft, initial_drafts, member_draft, record_draft, slot_drafts, slot_kinds, updated}
use Rattle.library_steps.specs.EndJob.{definition_entries}
use Rattle.library_steps.specs.MemberCommands.{if_journaled}
use Rattle.library_steps.specs.Ranges.{Given, given_drafts, told}
use Rattle.library_steps.specs.SlotChange.{NewSlot, are_both, begins_cycle, cycle_number, drafts_of, is_behind_last}
use Rattle.library_steps.specs.Records.{slot_there}
use Rattle.library_steps.specs.State.{Memory, CycleState, JobState}
use Rattle.library_kept.proofs.ListLemmas.{each-append}

abbrev pub ties : EntryKind → Bool
ties (NextReceiver number) = true
ties (PreviousReceiver number) = true
ties _ = false

abbrev pub IsFree : Draft → Type 0
IsFree d = ties d.kind ≡ false

pub free-inside : (e : Entry) → ties e.kind ≡ false → IsInside e
free-inside e free number (inl next) = absurd (let tied : ties e.kind ≡ true = ap ties next in cc)
free-inside e free number (inr before) = absurd (let tied : ties e.kind ≡ true = ap ties before in cc)

-- ---- the drafts of a slot

abbrev AreFree : List EntryKind → Type 0
AreFree kinds = AllByRecursion (λ (kind : EntryKind). ties kind ≡ false) kinds

added-free : (behind : Bool) (image : List ℕ) → ties (added behind image) ≡ false
added-free true image = refl
added-free false image = refl

updated-free : (both : Bool) (before after : List ℕ) → AreFree (updated both before after)
updated-free true before after = (refl, (refl, tt))
updated-free false before after = (refl, tt)

slot_kinds-free : (both behind : Bool) (old new : Slot) → AreFree (slot_kinds both behind old new)
slot_kinds-free both behind Deleted (Live image) = (added-free behind image, tt)
slot_kinds-free both behind (Live before) (Live after) = updated-free both before after
slot_kinds-free both behind (Live before) Deleted = (refl, tt)
slot_kinds-free both behind Deleted Deleted = tt

records-free : (author : Author) (cycle : Option ℕ) (member rrn : ℕ) (kinds : List EntryKind) → AreFree kinds → AllByRecursion IsFree (map (record_draft author cycle member rrn) kinds)
records-free author cycle member rrn [] all = tt
records-free author cycle member rrn (kind ∷ kinds) all = (all.0, records-free author cycle member rrn kinds all.1)

slot_drafts-free : (author : Author) (cycle : Option ℕ) (both behind : Bool) (member rrn : ℕ) (old new : Slot) → AllByRecursion IsFree (slot_drafts author cycle both behind member rrn old new)
slot_drafts-free author cycle both behind member rrn old new = records-free author cycle member rrn (slot_kinds both behind old new) (slot_kinds-free both behind old new)

begins-free : (author : Author) (m : Memory) (job : JobState) → AllByRecursion IsFree (begins_cycle author m job)
begins-free author m job =
    elim (is_some job.cycle) as (λ b. AllByRecursion IsFree (if b then [] else cycle_draft author (m.last_entry + 1) CommitCycleStarted ∷ [])) [
      | true ↦ tt
      | false ↦ (refl, tt)
    ]

pub change-free : (author : Author) (job : JobState) (new : NewSlot) (images : Option Images) (m : Memory) → AllByRecursion IsFree (drafts_of author job new images m)
change-free author job new None m = tt
change-free author job new (Some images) m =
    each-append IsFree (if new.opened.commit then begins_cycle author m job else [])
    (slot_drafts author (cycle_number new.opened.commit m job) (new.opened.commit || are_both images) (is_behind_last new.opened.member new.rrn m) new.opened.member new.rrn
    (slot_there new.opened.member new.rrn m) new.slot)
    (elim new.opened.commit as (λ b. AllByRecursion IsFree (if b then begins_cycle author m job else [])) [ true ↦ begins-free author m job | false ↦ tt ])
    (slot_drafts-free author (cycle_number new.opened.commit m job) (new.opened.commit || are_both images) (is_behind_last new.opened.member new.rrn m) new.opened.member new.rrn
    (slot_there new.opened.member new.rrn m) new.slot)

pub initial-free : (author : Author) (member rrn : ℕ) (slots : List Slot) → AllByRecursion IsFree (initial_drafts author member rrn slots)
initial-free author member rrn [] = tt
initial-free author member rrn (Live image ∷ slots) = (refl, initial-free author member (rrn + 1) slots)
initial-free author member rrn (Deleted ∷ slots) = initial-free author member (rrn + 1) slots

-- ---- of changes taken back

undo_kinds-free : (given changed : Slot) → AreFree (undo_kinds given changed)
undo_kinds-free (Live before) (Live after) = (refl, (refl, tt))
undo_kinds-free (Live before) Deleted = (refl, tt)
undo_kinds-free Deleted (Live after) = (refl, tt)
undo_kinds-free Deleted Deleted = tt

change_drafts-free : (job : Option (List ℕ)) (moment : ℕ) (c : MemberChange) (kinds : List EntryKind) → AreFree kinds → AllByRecursion IsFree (change_drafts job moment c kinds)
change_drafts-free job moment c [] all = tt
change_drafts-free job moment c (kind ∷ kinds) all = (all.0, change_drafts-free job moment c kinds all.1)

undo_drafts-free : (job : Option (List ℕ)) (moment : ℕ) (undos : List MemberChange) → AllByRecursion IsFree (undo_drafts job moment undos)
undo_drafts-free job moment [] = tt
undo_drafts-free job moment (c ∷ undos) =
    let kinds = undo_kinds (before_of c.change) c.change.after in
    each-append IsFree (change_drafts job moment c kinds) (undo_drafts job moment undos)
    (change_drafts-free job moment c kinds (undo_kinds-free (before_of c.change) c.change.after)) (undo_drafts-free job moment undos)

pub undo_entries-free : (author : Author) (cycle : Option CycleState) → AllByRecursion IsFree (undo_entries author cycle)
undo_entries-free author None = tt
undo_entries-free author (Some cycle) =
    each-append IsFree (undo_drafts (Some author.job) author.moment (filter (λ (c : MemberChange). is_in cycle.sequence c.change) cycle.undos)) _
    (undo_drafts-free (Some author.job) author.moment (filter (λ (c : MemberChange). is_in cycle.sequence c.change) cycle.undos)) (refl, tt)

pub definition-free : (author : Author) (level : Option Level) → AllByRecursion IsFree (definition_entries author level)
definition-free author None = tt
definition-free author (Some level) = (refl, tt)

pub end-free : (author : Author) (cycle : Option CycleState) → AllByRecursion IsFree (end_drafts author cycle)
end-free author None = tt
end-free author (Some cycle) = (refl, tt)

-- ---- of a range that was given

given-free : (author : Author) (cycle member : ℕ) (slots : List Slot) (given : List Given) → AllByRecursion IsFree (given_drafts author cycle member slots given)
given-free author cycle member slots [] = tt
given-free author cycle member slots (g ∷ given) =
    each-append IsFree (slot_drafts author (Some cycle) true (g.place == length slots) member (g.place + 1) (slot_of slots g.place) g.slot)
    (given_drafts author cycle member (put_slot slots g.place g.slot) given)
    (slot_drafts-free author (Some cycle) true (g.place == length slots) member (g.place + 1) (slot_of slots g.place) g.slot) (given-free author cycle member (put_slot slots g.place g.slot) given)

pub told-free : (author : Author) (cycle member : ℕ) (kind : EntryKind) (slots : List Slot) (given : List Given) → ties kind ≡ false → AllByRecursion IsFree (told author cycle member kind slots given)
told-free author cycle member kind slots [] free = (free, tt)
told-free author cycle member kind slots (g ∷ given) free =
    let changes = given-free author cycle member slots (g ∷ given) in
    (free, (refl, each-append IsFree (given_drafts author cycle member slots (g ∷ given)) (cycle_draft author cycle CommitCycleCommitted ∷ []) changes (refl, tt)))

pub if_journaled-free : (author : Author) (number : ℕ) (kind : EntryKind) (b : Bool) → ties kind ≡ false → AllByRecursion IsFree (if_journaled b (member_draft author number kind))
if_journaled-free author number kind true free = (free, tt)
if_journaled-free author number kind false free = tt
