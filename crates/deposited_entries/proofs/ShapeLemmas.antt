-- Each draft of a request names what its kind wants.
use Rattle.std.proofs.Common.{◌≡◌, ℕ, ◌+◌, ◌≤◌, ◌==◌, ◌||◌, nat_lt, Bool, true, false, if◌then◌else◌, Option, Some, None, IfSome, unwrap_or, List, [], ◌∷◌, length, map, refl, arith}
use Rattle.std.specs.List.{AllByRecursion, filter}
use Rattle.std.specs.Option.{is_some}
use Rattle.commit_level.specs.declared.Level.{Level}
use Rattle.entry_codec.specs.declared.kinds.EntryKind.{EntryKind}
use Rattle.entry_codec.specs.declared.kinds.EntryKind.TheVariants.{CommitCycleStarted, CommitCycleCommitted}
use Rattle.entry_codec.specs.declared.kinds.Images.{Images}
use Rattle.entry_codec.specs.declared.places.Place.TheVariants.{Member}
use Rattle.entry_codec.specs.Drafts.{group_at}
use Rattle.entry_codec.specs.Placing.{is_counted, place}
use Rattle.member_slots.specs.declared.slot.Slot.{Slot}
use Rattle.member_slots.specs.declared.slot.Slot.TheVariants.{Live, Deleted}
use Rattle.journal_model.specs.Places.{slot_of, put_slot}
use Rattle.journal_model.specs.Replay.{before_of, is_in}
use Rattle.journal_model.specs.Rollback.{MemberChange, change_drafts, undo_drafts, undo_kinds}
use Rattle.library_steps.specs.Commitment.{end_drafts, undo_entries}
use Rattle.library_steps.specs.Drafts.{Author, added, cycle_draft, initial_drafts, member_draft, record_draft, slot_drafts, slot_kinds, updated}
use Rattle.library_steps.specs.EndJob.{definition_entries}
use Rattle.library_steps.specs.MemberCommands.{if_journaled}
use Rattle.library_steps.specs.Ranges.{Given, given_drafts, told}
use Rattle.library_steps.specs.Records.{slot_there}
use Rattle.library_steps.specs.SlotChange.{NewSlot, are_both, begins_cycle, cycle_number, drafts_of, is_behind_last}
use Rattle.library_steps.specs.State.{Memory, CycleState, JobState}
use Rattle.library_kept.proofs.ListLemmas.{each-append}
use Rattle.deposited_entries.proofs.KindLemmas.{HasShortSource, IsOfRecord, IsShaped, committed-shaped, initial-shaped, member-shaped, record-shaped, rolled_back-shaped, some-number, started-shaped}
use Rattle.deposited_entries.proofs.Lists.{all-filter}

-- ---- a slot

added-is : (behind : Bool) (image : List ℕ) → IsOfRecord (added behind image)
added-is true image = record { where_is = refl; group = λ k g. refl; short = tt }
added-is false image = record { where_is = refl; group = λ k g. refl; short = tt }

updated-is : (both : Bool) (before after : List ℕ) → AllByRecursion IsOfRecord (updated both before after)
updated-is true before after = (record { where_is = refl; group = λ k g. refl; short = tt }, (record { where_is = refl; group = λ k g. refl; short = tt }, tt))
updated-is false before after = (record { where_is = refl; group = λ k g. refl; short = tt }, tt)

slot_kinds-are : (both behind : Bool) (old new : Slot) → AllByRecursion IsOfRecord (slot_kinds both behind old new)
slot_kinds-are both behind Deleted (Live image) = (added-is behind image, tt)
slot_kinds-are both behind (Live before) (Live after) = updated-is both before after
slot_kinds-are both behind (Live before) Deleted = (record { where_is = refl; group = λ k g. refl; short = tt }, tt)
slot_kinds-are both behind Deleted Deleted = tt

records-shaped : (author : Author) (cycle : Option ℕ) (member rrn : ℕ) (kinds : List EntryKind) → is_counted cycle ≡ true → 1 ≤ member → 1 ≤ rrn → AllByRecursion IsOfRecord kinds
    → AllByRecursion IsShaped (map (record_draft author cycle member rrn) kinds)
records-shaped author cycle member rrn [] counted first there all = tt
records-shaped author cycle member rrn (kind ∷ kinds) counted first there all = (
  record-shaped (Some author.job) author.moment cycle member rrn kind counted first there all.0,
  records-shaped author cycle member rrn kinds counted first there all.1,
)

slot_drafts-shaped : (author : Author) (cycle : Option ℕ) (both behind : Bool) (member rrn : ℕ) (old new : Slot) → is_counted cycle ≡ true → 1 ≤ member → 1 ≤ rrn
    → AllByRecursion IsShaped (slot_drafts author cycle both behind member rrn old new)
slot_drafts-shaped author cycle both behind member rrn old new counted first there =
    records-shaped author cycle member rrn (slot_kinds both behind old new) counted first there (slot_kinds-are both behind old new)

-- a commit cycle that is open is counted from 1, and so is one that begins with the next entry
abbrev pub IsCycleCounted : Option CycleState → Type 0
IsCycleCounted o = IfSome o (λ cycle. 1 ≤ cycle.sequence)

for-counted : (last : ℕ) (o : Option CycleState) → IsCycleCounted o → nat_lt 0 (unwrap_or o (record { sequence = last + 1; undos = [] })).sequence ≡ true
for-counted last None counted = some-number (last + 1) (omega arith)
for-counted last (Some cycle) counted = some-number cycle.sequence counted

number-counted : (commit : Bool) (m : Memory) (job : JobState) → IsCycleCounted job.cycle → is_counted (cycle_number commit m job) ≡ true
number-counted true m job counted = for-counted m.last_entry job.cycle counted
number-counted false m job counted = refl

begins-shaped : (author : Author) (m : Memory) (job : JobState) → AllByRecursion IsShaped (begins_cycle author m job)
begins-shaped author m job =
    elim (is_some job.cycle) as (λ b. AllByRecursion IsShaped (if b then [] else cycle_draft author (m.last_entry + 1) CommitCycleStarted ∷ [])) [
      | true ↦ tt
      | false ↦ (started-shaped author (m.last_entry + 1), tt)
    ]

pub change-shaped : (author : Author) (job : JobState) (new : NewSlot) (images : Option Images) (m : Memory) → IsCycleCounted job.cycle → 1 ≤ new.opened.member → 1 ≤ new.rrn
    → AllByRecursion IsShaped (drafts_of author job new images m)
change-shaped author job new None m counted first there = tt
change-shaped author job new (Some images) m counted first there =
    let cycle = cycle_number new.opened.commit m job in
    let both = new.opened.commit || are_both images in
    let behind = is_behind_last new.opened.member new.rrn m in
    let old = slot_there new.opened.member new.rrn m in
    each-append IsShaped (if new.opened.commit then begins_cycle author m job else []) (slot_drafts author cycle both behind new.opened.member new.rrn old new.slot)
    (elim new.opened.commit as (λ b. AllByRecursion IsShaped (if b then begins_cycle author m job else [])) [ true ↦ begins-shaped author m job | false ↦ tt ])
    (slot_drafts-shaped author cycle both behind new.opened.member new.rrn old new.slot (number-counted new.opened.commit m job counted) first there)

pub initial-all-shaped : (author : Author) (member rrn : ℕ) (slots : List Slot) → 1 ≤ member → 1 ≤ rrn → AllByRecursion IsShaped (initial_drafts author member rrn slots)
initial-all-shaped author member rrn [] first there = tt
initial-all-shaped author member rrn (Live image ∷ slots) first there = (initial-shaped author member rrn image first there, initial-all-shaped author member (rrn + 1) slots first (omega arith))
initial-all-shaped author member rrn (Deleted ∷ slots) first there = initial-all-shaped author member (rrn + 1) slots first (omega arith)

-- ---- changes taken back

-- the change is of a commit cycle and a member that are counted from 1
pub record IsUndoCounted (undo : MemberChange) : Type 0 where
  pub cycle : is_counted undo.change.cycle ≡ true
  pub member : 1 ≤ undo.member

undo_kinds-are : (given changed : Slot) → AllByRecursion IsOfRecord (undo_kinds given changed)
undo_kinds-are (Live before) (Live after) = (record { where_is = refl; group = λ k g. refl; short = tt }, (record { where_is = refl; group = λ k g. refl; short = tt }, tt))
undo_kinds-are (Live before) Deleted = (record { where_is = refl; group = λ k g. refl; short = tt }, tt)
undo_kinds-are Deleted (Live after) = (record { where_is = refl; group = λ k g. refl; short = tt }, tt)
undo_kinds-are Deleted Deleted = tt

change_drafts-shaped : (job : Option (List ℕ)) (moment : ℕ) (c : MemberChange) (kinds : List EntryKind) → IsUndoCounted c → AllByRecursion IsOfRecord kinds
    → AllByRecursion IsShaped (change_drafts job moment c kinds)
change_drafts-shaped job moment c [] counted all = tt
change_drafts-shaped job moment c (kind ∷ kinds) counted all = (
  record-shaped job moment c.change.cycle c.member (c.change.place + 1) kind counted.cycle counted.member (omega arith) all.0,
  change_drafts-shaped job moment c kinds counted all.1,
)

undo_drafts-shaped : (job : Option (List ℕ)) (moment : ℕ) (undos : List MemberChange) → AllByRecursion IsUndoCounted undos → AllByRecursion IsShaped (undo_drafts job moment undos)
undo_drafts-shaped job moment [] all = tt
undo_drafts-shaped job moment (c ∷ undos) all =
    let kinds = undo_kinds (before_of c.change) c.change.after in
    each-append IsShaped (change_drafts job moment c kinds) (undo_drafts job moment undos)
    (change_drafts-shaped job moment c kinds all.0 (undo_kinds-are (before_of c.change) c.change.after)) (undo_drafts-shaped job moment undos all.1)

-- so are a commit cycle and all its changes
abbrev pub IsAllCounted : Option CycleState → Type 0
IsAllCounted o = IfSome o (λ cycle. (1 ≤ cycle.sequence) × AllByRecursion IsUndoCounted cycle.undos)

pub undo_entries-shaped : (author : Author) (cycle : Option CycleState) → IsAllCounted cycle → AllByRecursion IsShaped (undo_entries author cycle)
undo_entries-shaped author None counted = tt
undo_entries-shaped author (Some cycle) counted =
    let undos = filter (λ (c : MemberChange). is_in cycle.sequence c.change) cycle.undos in
    each-append IsShaped (undo_drafts (Some author.job) author.moment undos) _
    (undo_drafts-shaped (Some author.job) author.moment undos (all-filter IsUndoCounted (λ (c : MemberChange). is_in cycle.sequence c.change) cycle.undos counted.1))
    (rolled_back-shaped (Some author.job) author.moment cycle.sequence counted.0, tt)

pub definition-shaped : (author : Author) (level : Option Level) → AllByRecursion IsShaped (definition_entries author level)
definition-shaped author None = tt
definition-shaped author (Some level) = (record { placed = λ k some. refl; short = tt }, tt)

pub end-shaped : (author : Author) (cycle : Option CycleState) → IsCycleCounted cycle → AllByRecursion IsShaped (end_drafts author cycle)
end-shaped author None counted = tt
end-shaped author (Some cycle) counted = (committed-shaped author cycle.sequence counted, tt)

-- ---- a range that was given

given-shaped : (author : Author) (cycle member : ℕ) (slots : List Slot) (given : List Given) → 1 ≤ cycle → 1 ≤ member → AllByRecursion IsShaped (given_drafts author cycle member slots given)
given-shaped author cycle member slots [] counted first = tt
given-shaped author cycle member slots (g ∷ given) counted first =
    each-append IsShaped (slot_drafts author (Some cycle) true (g.place == length slots) member (g.place + 1) (slot_of slots g.place) g.slot)
    (given_drafts author cycle member (put_slot slots g.place g.slot) given)
    (slot_drafts-shaped author (Some cycle) true (g.place == length slots) member (g.place + 1) (slot_of slots g.place) g.slot (some-number cycle counted) first (omega arith))
    (given-shaped author cycle member (put_slot slots g.place g.slot) given counted first)

pub told-shaped : (author : Author) (cycle member : ℕ) (kind : EntryKind) (slots : List Slot) (given : List Given) → 1 ≤ cycle → 1 ≤ member → place kind ≡ Member
    → ((k : ℕ) → group_at kind k None ≡ None) → HasShortSource kind → AllByRecursion IsShaped (told author cycle member kind slots given)
told-shaped author cycle member kind slots [] counted first is none short = (member-shaped author member kind first is none short, tt)
told-shaped author cycle member kind slots (g ∷ given) counted first is none short = (
  member-shaped author member kind first is none short,
  (
    started-shaped author cycle,
    each-append IsShaped (given_drafts author cycle member slots (g ∷ given)) (cycle_draft author cycle CommitCycleCommitted ∷ []) (given-shaped author cycle member slots (g ∷ given) counted first)
        (committed-shaped author cycle counted, tt),
  ),
)

pub if_journaled-shaped : (author : Author) (number : ℕ) (kind : EntryKind) (b : Bool) → 1 ≤ number → place kind ≡ Member → ((k : ℕ) → group_at kind k None ≡ None) → HasShortSource kind
    → AllByRecursion IsShaped (if_journaled b (member_draft author number kind))
if_journaled-shaped author number kind true first is none short = (member-shaped author number kind first is none short, tt)
if_journaled-shaped author number kind false first is none short = tt
