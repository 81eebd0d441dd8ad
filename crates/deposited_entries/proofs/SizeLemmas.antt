-- How many bytes the drafts of a request have, once they are entries.
use Rattle.std.proofs.Common.{◌≡◌, ℕ, ◌+◌, ◌*◌, ◌≤◌, ◌||◌, cond, Bool, true, false, if◌then◌else◌, Option, Some, None, List, [], ◌∷◌, ◌++◌, length, map, length-append, refl, arith}
use Rattle.std.proofs.Math.Nat.{suc-mul}
use Rattle.std.specs.List.{AllByRecursion, filter, sum_by}
use Rattle.std.specs.Option.{is_some}
use Rattle.std.proofs.lemmas.List.Sums.{sum_by-cons}
use Rattle.commit_level.specs.declared.Level.{Level}
use Rattle.entry_codec.specs.declared.entries.Draft.{Draft}
use Rattle.entry_codec.specs.declared.entries.Entry.{Entry}
use Rattle.entry_codec.specs.declared.kinds.EntryKind.TheVariants.{CommitCycleRolledBack, CommitCycleStarted, RecordDeleted}
use Rattle.entry_codec.specs.declared.kinds.Images.{Images}
use Rattle.entry_codec.specs.Drafts.{numbered}
use Rattle.entry_codec.specs.Spelling.{spelling}
use Rattle.entry_sizes.proofs.SizeLemmas.{entry-size}
use Rattle.member_slots.specs.declared.slot.Slot.{Slot}
use Rattle.member_slots.specs.declared.slot.Slot.TheVariants.{Live, Deleted}
use Rattle.journal_book.specs.Entries.{spelled}
use Rattle.journal_model.specs.Replay.{before_of, is_in}
use Rattle.journal_model.specs.Rollback.{MemberChange, change_drafts, undo_drafts, undo_kinds, numbered_from}
use Rattle.library_steps.specs.Commitment.{end_drafts, undo_entries}
use Rattle.library_steps.specs.Drafts.{Author, added, cycle_draft, if_both, initial_drafts, record_draft, slot_drafts, updated}
use Rattle.library_steps.specs.EndJob.{definition_entries}
use Rattle.library_steps.specs.EntrySizes.{body_size, entry_bytes, entry_size}
use Rattle.library_steps.specs.Records.{slot_there}
use Rattle.library_steps.specs.SlotChange.{NewSlot, are_both, begins_cycle, change_bytes, cycle_number, drafts_of, image_bytes, is_behind_last, undo_bytes}
use Rattle.library_steps.specs.State.{Memory, CycleState, JobState}
use Rattle.library_steps.specs.Uses.{changes_in}

abbrev pub draft_bytes : List Draft → ℕ
draft_bytes [] = 0
draft_bytes (d ∷ drafts) = 49 + body_size d.kind + draft_bytes drafts

pub numbered-bytes : (k : ℕ) (drafts : List Draft) → entry_bytes (numbered_from k drafts) ≡ draft_bytes drafts
numbered-bytes k [] = refl
numbered-bytes k (d ∷ drafts) =
    let front = sum_by-cons entry_size (numbered d k) (numbered_from (k + 1) drafts) in
    let rest = numbered-bytes (k + 1) drafts in
    omega (arith, front, rest)

pub spelled-bytes : (entries : List Entry) → length (spelled entries) ≡ entry_bytes entries
spelled-bytes [] = refl
spelled-bytes (e ∷ entries) =
    let front = sum_by-cons entry_size e entries in
    let own = entry-size e in
    let both = length-append (spelling e) (spelled entries) in
    let rest = spelled-bytes entries in
    omega (arith, front, own, both, rest)

pub bytes-append : (xs ys : List Draft) → draft_bytes (xs ++ ys) ≡ draft_bytes xs + draft_bytes ys
bytes-append [] ys = omega arith
bytes-append (d ∷ xs) ys = let rest = bytes-append xs ys in omega (arith, rest)

-- ---- a slot

added-size : (behind : Bool) (image : List ℕ) → body_size (added behind image) ≡ 1 + length image
added-size true image = refl
added-size false image = refl

deleted-size : (both : Bool) (image : List ℕ) → body_size (RecordDeleted (if_both both image)) ≤ 1 + length image
deleted-size true image = omega arith
deleted-size false image = omega arith

module _ (author : Author) (cycle : Option ℕ) (member rrn : ℕ) where
  updated-bytes : (both : Bool) (before after : List ℕ) → draft_bytes (map (record_draft author cycle member rrn) (updated both before after)) ≤ 100 + (length before + length after)
  updated-bytes true before after = omega arith
  updated-bytes false before after = omega arith

  slot-bytes : (both behind : Bool) (old new : Slot) → draft_bytes (slot_drafts author cycle both behind member rrn old new) ≤ 100 + undo_bytes old new
  slot-bytes both behind Deleted (Live image) = let own = added-size behind image in omega (arith, own)
  slot-bytes both behind (Live before) (Live after) = updated-bytes both before after
  slot-bytes both behind (Live before) Deleted = let own = deleted-size both before in omega (arith, own)
  slot-bytes both behind Deleted Deleted = omega arith

begins-bytes : (author : Author) (m : Memory) (job : JobState) (commit : Bool) → draft_bytes (if commit then begins_cycle author m job else []) ≤ 49
begins-bytes author m job true =
    elim (is_some job.cycle) as (λ b. draft_bytes (if b then [] else cycle_draft author (m.last_entry + 1) CommitCycleStarted ∷ []) ≤ 49) [
      | true ↦ omega arith
      | false ↦ omega arith
    ]
begins-bytes author m job false = omega arith

pub change-size : (author : Author) (job : JobState) (new : NewSlot) (images : Option Images) (m : Memory)
    → draft_bytes (drafts_of author job new images m) ≤ 149 + undo_bytes (slot_there new.opened.member new.rrn m) new.slot
change-size author job new None m = omega arith
change-size author job new (Some images) m =
    let cycle = cycle_number new.opened.commit m job in
    let both = new.opened.commit || are_both images in
    let behind = is_behind_last new.opened.member new.rrn m in
    let old = slot_there new.opened.member new.rrn m in
    let front = begins-bytes author m job new.opened.commit in
    let slot = slot-bytes author cycle new.opened.member new.rrn both behind old new.slot in
    let all = bytes-append (if new.opened.commit then begins_cycle author m job else []) (slot_drafts author cycle both behind new.opened.member new.rrn old new.slot) in
    omega (arith, front, slot, all)

-- ---- records as they stand when journaling begins

pub initial-size : (author : Author) (member rrn long : ℕ) (slots : List Slot) → AllByRecursion (λ slot. image_bytes slot ≤ long) slots
    → draft_bytes (initial_drafts author member rrn slots) ≤ length slots * (50 + long)
initial-size author member rrn long [] all = omega arith
initial-size author member rrn long (Live image ∷ slots) all =
    let rest = initial-size author member (rrn + 1) long slots all.1 in
    let own : length image ≤ long = all.0 in
    let step = suc-mul (length slots) (50 + long) in
    omega (arith, rest, own, step)
initial-size author member rrn long (Deleted ∷ slots) all =
    let rest = initial-size author member (rrn + 1) long slots all.1 in
    let step = suc-mul (length slots) (50 + long) in
    omega (arith, rest, step)

-- ---- changes taken back

one-size : (job : Option (List ℕ)) (moment : ℕ) (c : MemberChange) (given changed : Slot) → draft_bytes (change_drafts job moment c (undo_kinds given changed)) ≤ 100 + undo_bytes given changed
one-size job moment c (Live before) (Live after) = omega arith
one-size job moment c (Live before) Deleted = omega arith
one-size job moment c Deleted (Live after) = omega arith
one-size job moment c Deleted Deleted = omega arith

undos-size : (job : Option (List ℕ)) (moment : ℕ) (test : MemberChange → Bool) (undos : List MemberChange)
    → draft_bytes (undo_drafts job moment (filter test undos)) ≤ 100 * length undos + sum_by change_bytes undos
undos-size job moment test [] = omega arith
undos-size job moment test (c ∷ undos) =
    let rest = undos-size job moment test undos in
    let front = sum_by-cons change_bytes c undos in
    let one = one-size job moment c (before_of c.change) c.change.after in
    let all = bytes-append (change_drafts job moment c (undo_kinds (before_of c.change) c.change.after)) (undo_drafts job moment (filter test undos)) in
    elim (test c) as (λ b. draft_bytes (undo_drafts job moment (cond b (c ∷ filter test undos) (filter test undos))) ≤ 100 * length (c ∷ undos) + sum_by change_bytes (c ∷ undos)) [
      | true ↦ omega (arith, rest, front, one, all)
      | false ↦ omega (arith, rest, front)
    ]

abbrev rolled_back : Author → ℕ → Draft
rolled_back author n = record { job = Some author.job; moment = author.moment; group = Some n; member = None; rrn = None; kind = CommitCycleRolledBack }

pub undo-size : (author : Author) (cycle : Option CycleState)
    → draft_bytes (undo_entries author cycle) ≤ 49 + (100 * length (changes_in cycle) + sum_by change_bytes (changes_in cycle))
undo-size author None = omega arith
undo-size author (Some cycle) =
    let undos = undo_drafts (Some author.job) author.moment (filter (λ (c : MemberChange). is_in cycle.sequence c.change) cycle.undos) in
    let size = undos-size (Some author.job) author.moment (λ (c : MemberChange). is_in cycle.sequence c.change) cycle.undos in
    let all = bytes-append undos (rolled_back author cycle.sequence ∷ []) in
    omega (arith, size, all)

pub definition-size : (author : Author) (level : Option Level) → draft_bytes (definition_entries author level) ≤ 49
definition-size author None = omega arith
definition-size author (Some level) = omega arith

pub end-size : (author : Author) (cycle : Option CycleState) → draft_bytes (end_drafts author cycle) ≤ 49
end-size author None = omega arith
end-size author (Some cycle) = omega arith
