-- What a changed slot leaves: the change in its commit cycle, and what the request makes of it.
use Rattle.std.proofs.Common.{◌≡◌, ◌∙◌, ℕ, zero, suc, ◌+◌, ◌-◌, ◌≤◌, ◌==◌, ◌||◌, IsTrue, slice_get, Bool, true, false, if◌then◌else◌, nat_lt, Option, Some, None, IfSome, IsSome, Ok, List, [], ◌∷◌, ◌++◌, length, sym, ap, subst, refl, arith}
use Rattle.std.proofs.lemmas.Bool.Decides.{nat_tests}
use Rattle.std.specs.Option.{option_map}
use Rattle.entry_codec.specs.declared.entries.Draft.{Draft}
use Rattle.entry_codec.specs.declared.kinds.Images.{Images}
use Rattle.member_slots.specs.declared.slot.Slot.{Slot}
use Rattle.member_slots.specs.Member.{FitsSlot}
use Rattle.member_slots.specs.Members.{member_of}
use Rattle.journal_model.specs.Rollback.{MemberChange, numbered_from}
use Rattle.path_set.specs.declared.moves.PathMove.{PathMove}
use Rattle.path_set.specs.RecordChanges.{moves_in}
use Rattle.path_set.specs.MemberSteps.{slot_replaced}
use Rattle.library_parts.specs.Changes.{KeptUndo}
use Rattle.library_parts.specs.Table.{JobTable, HasRoomFor}
use Rattle.library_model.specs.declared.replies.Reply.{Reply}
use Rattle.library_steps.specs.declared.limits.TheConstants.{MOST_GROUP_CHANGES, MOST_GROUP_BYTES}
use Rattle.library_steps.specs.State.{Memory, State, CycleState, JobState, fields_of, job_at, job_changed, job_of, memory_of, with_status}
use Rattle.library_steps.specs.History.{is_running}
use Rattle.library_steps.specs.Locking.{with_locks}
use Rattle.lock_table.specs.declared.lock.Lock.{Lock}
use Rattle.library_parts.specs.Answers.{Answers}
use Rattle.library_parts.proofs.AnswerLemmas.{changed-state}
use Rattle.library_steps.specs.Change.{deposited}
use Rattle.library_steps.specs.Refusals.{◌>>=◌, refuse_if}
use Rattle.library_steps.specs.Records.{slot_there}
use Rattle.library_steps.specs.Drafts.{Author, author_of, slot_drafts}
use Rattle.library_steps.specs.SlotChange.{NewSlot, are_both, begins_cycle, change_made, cycle_for, cycle_number, drafts_of, few_changes, images_of, is_behind_last, open_bytes, noted, open_changes, slot_change, slot_changed, touched, undo_bytes, with_cycle, with_slot, with_undo}
use Rattle.lawful_states.specs.Lawful.{HoldsValues}
use Rattle.library_parts.specs.Moved.{HasMovesRoom}
use Rattle.library_parts.specs.Parts.{LibraryParts, Room}
use Rattle.record_changes.specs.declared.planned.PlannedSlot.{PlannedSlot}
use Rattle.record_changes.specs.declared.planned.Prepared.{Prepared}
use Rattle.record_changes.specs.declared.planned.UndoSlots.{UndoSlots}
use Rattle.record_changes.specs.Changes.{HasChanged, MayKeep, drafts_in, entries_kept, entries_left, kept_by, with_kept}
use Rattle.record_changes.specs.Places.{HasEntryRoom, HasUndoRoomIf, IsReady, MayReturn, undo_of, undo_slots}
use Rattle.record_changes.specs.Plans.{new_slot}

-- ---- refusals that don't hold

refused-not : (b : Bool) (reply : Reply) → refuse_if b reply ≡ Ok true → b ≡ false
refused-not true reply is = absurd cc
refused-not false reply is = refl

most-of : (most count : ℕ) → nat_lt most count ≡ false → count ≤ most
most-of most count is = grind (arith, nat_tests)

pub few-of : (most count : ℕ) (reply : Reply) → refuse_if (nat_lt most count) reply ≡ Ok true → count ≤ most
few-of most count reply is = most-of most count (refused-not (nat_lt most count) reply is)

neither : (a b : Bool) (one other : Reply) → (refuse_if a one >>= λ _. refuse_if b other) ≡ Ok true → (a ≡ false) × (b ≡ false)
neither true b one other is = absurd cc
neither false true one other is = absurd cc
neither false false one other is = (refl, refl)

-- ---- the slots that are kept

alike-by : (commit : Bool) (m : Memory) (job : JobState) (new : NewSlot) → IfSome (undo_slots commit m job new) (λ s. s.again ≡ s.before)
alike-by false m job new = tt
alike-by true m job new = refl

-- the slot before is there twice
pub slots-alike : (parts : LibraryParts) (job : ℕ) (planned : PlannedSlot) (prepared : Prepared) → IsReady parts job planned prepared → IfSome prepared.undo (λ s. s.again ≡ s.before)
slots-alike parts job planned prepared ready =
    subst (λ (o : Option UndoSlots). IfSome o (λ s. s.again ≡ s.before)) (sym ready.undo)
    (alike-by planned.opened.commit (memory_of parts.state) (job_of job (memory_of parts.state)) (new_slot planned))

kept-of : (commit : Bool) (m : Memory) (job : JobState) (new : NewSlot) (back : List PathMove)
    → option_map (kept_by new.opened.member new.rrn back) (undo_slots commit m job new) ≡ undo_of commit m job new back
kept-of false m job new back = refl
kept-of true m job new back = refl

-- ---- the slot is put, and its change is kept

module _ (parts mid : LibraryParts) (job : ℕ) (planned : PlannedSlot) (prepared : Prepared) (old : Slot) (moves : List PathMove) (undo : Option KeptUndo)
    (ready : IsReady parts job planned prepared)
    (stood : old ≡ slot_there planned.opened.member planned.rrn (memory_of parts.state)) (back : MayReturn mid.state planned.opened.member planned.rrn old)
    (put : memory_of mid.state ≡ with_slot planned.opened.member planned.rrn planned.slot (memory_of parts.state))
    (room : mid.room ≡ record parts.room { spares = mid.room.spares; paths = mid.room.paths })
    (kept_as : undo ≡ option_map (kept_by planned.opened.member planned.rrn moves) prepared.undo) where
  abbrev before : Memory
  before = memory_of parts.state

  undo-is : undo ≡ undo_of planned.opened.commit before (job_of job before) (new_slot planned) moves
  undo-is =
      kept_as ∙ ap (λ (o : Option UndoSlots). option_map (kept_by planned.opened.member planned.rrn moves) o) ready.undo
      ∙ kept-of planned.opened.commit before (job_of job before) (new_slot planned) moves

  may-by : (commit : Bool) → moves ≡ moves_in (slot_replaced planned.opened.member planned.rrn planned.slot old) mid.room.paths.paths → HasMovesRoom mid planned.opened.member 1
      → HasEntryRoom parts commit planned.opened.member → HasUndoRoomIf commit job parts
      → few_changes commit (slot_there planned.opened.member planned.rrn before) planned.slot before ≡ Ok true
      → IfSome (undo_of commit before (job_of job before) (new_slot planned) moves) (MayKeep job mid)
  may-by false moved moves_room entries undos few = tt
  may-by true moved moves_room entries undos few =
      let first = ready.may.first in
      let place : planned.rrn ≡ planned.rrn - 1 + 1 = omega (arith, first) in
      let same : mid.room.entries ≡ parts.room.entries = ap (λ (r : Room). r.entries) room in
      let jobs : parts.state.jobs ≡ mid.state.jobs = sym (ap (λ (m : Memory). m.jobs) put) in
      let rooms : parts.room.undos ≡ mid.room.undos = sym (ap (λ (r : Room). r.undos) room) in
      let changes : open_changes before ≡ open_changes (memory_of mid.state) = sym (ap open_changes put) in
      let bytes : open_bytes before ≡ open_bytes (memory_of mid.state) = sym (ap open_bytes put) in
      let both = neither (nat_lt MOST_GROUP_CHANGES (open_changes before + 1))
      (nat_lt MOST_GROUP_BYTES (open_bytes before + undo_bytes (slot_there planned.opened.member planned.rrn before) planned.slot)) _ _ few in
      record {
        room = subst (λ (t : JobTable). HasRoomFor job t) (λ i. record { jobs = jobs i; rooms = rooms i; orders = []; moves = [] }) undos;
        entries = omega (arith, same, entries);
        goes_back = record {
          cycle = sym (ap (λ (m : Memory). Some (cycle_for m (job_of job m)).sequence) put);
          place = record { there = back.there; place = back.place; fits = subst (λ (s : Slot). FitsSlot (member_of planned.opened.member mid.state.members).record_length s) stood back.fits };
          values = λ name file owns. subst (λ (s : Slot). HoldsValues (fields_of file) s) stood (back.values name file owns);
        };
        moves = moved ∙ (λ i. moves_in (slot_replaced planned.opened.member (place i) planned.slot (stood i)) mid.room.paths.paths);
        moves_room = moves_room;
        few_changes = subst (λ (n : ℕ). n + 1 ≤ MOST_GROUP_CHANGES) changes (most-of MOST_GROUP_CHANGES (open_changes before + 1) both.0);
        few_bytes = subst (λ (n : ℕ). n + undo_bytes (slot_there planned.opened.member planned.rrn before) planned.slot ≤ MOST_GROUP_BYTES) bytes (most-of MOST_GROUP_BYTES _ both.1);
      }

  pub kept-may : moves ≡ moves_in (slot_replaced planned.opened.member planned.rrn planned.slot old) mid.room.paths.paths → HasMovesRoom mid planned.opened.member 1
      → IfSome undo (MayKeep job mid)
  kept-may moved moves_room =
      subst (λ (o : Option KeptUndo). IfSome o (MayKeep job mid)) (sym undo-is) (may-by planned.opened.commit moved moves_room ready.entries ready.undo_room ready.few)

  changed-by : (commit : Bool) → with_status planned.opened.member touched
      (with_kept job (undo_of commit before (job_of job before) (new_slot planned) moves) (with_slot planned.opened.member planned.rrn planned.slot before))
      ≡ with_undo commit job (change_made before (job_of job before) (new_slot planned)) (cycle_for before (job_of job before))
      (with_status planned.opened.member touched (with_slot planned.opened.member planned.rrn planned.slot before))
  changed-by false = refl
  changed-by true = refl

  pub kept-changed : (kept after : Memory) → kept ≡ with_kept job undo (memory_of mid.state) → after ≡ with_status planned.opened.member touched kept
      → after ≡ slot_changed job (new_slot planned) before
  kept-changed kept after is touch =
      touch ∙ ap (with_status planned.opened.member touched) (is ∙ (λ i. with_kept job (undo-is i) (put i))) ∙ changed-by planned.opened.commit

  left-by : (commit : Bool) (after : ℕ) → HasEntryRoom parts commit planned.opened.member → IsSome (images_of planned.opened.member before)
      → mid.room.entries ≤ after + entries_kept (undo_of commit before (job_of job before) (new_slot planned) moves) → entries_left commit ≤ after
  left-by false after entries some kept =
      let same : mid.room.entries ≡ parts.room.entries = ap (λ (r : Room). r.entries) room in let two = entries some in omega (arith, same, two, kept)
  left-by true after entries some kept =
      let same : mid.room.entries ≡ parts.room.entries = ap (λ (r : Room). r.entries) room in omega (arith, same, entries, kept)

  pub kept-left : (after : ℕ) → IsSome (images_of planned.opened.member before) → mid.room.entries ≤ after + entries_kept undo → entries_left planned.opened.commit ≤ after
  kept-left after some kept =
      left-by planned.opened.commit after ready.entries some (subst (λ (o : Option KeptUndo). mid.room.entries ≤ after + entries_kept o) undo-is kept)

-- ---- its entries

last-by : (commit : Bool) (job : ℕ) (undo : MemberChange) (cycle : CycleState) (m : Memory) → (with_undo commit job undo cycle m).last_entry ≡ m.last_entry
last-by false job undo cycle m = refl
last-by true job undo cycle m = refl

-- no entry is deposited by it yet
pub changed-last : (job : ℕ) (new : NewSlot) (m : Memory) → (slot_changed job new m).last_entry ≡ m.last_entry
changed-last job new m =
    last-by new.opened.commit job (change_made m (job_of job m) new) (cycle_for m (job_of job m)) (with_status new.opened.member touched (with_slot new.opened.member new.rrn new.slot m))

-- ---- the request

running-at : (place : ℕ) (cycle : CycleState) (jobs : List JobState) → IsTrue (is_running (slice_get jobs place)) → IsTrue (is_running (slice_get (job_changed place (with_cycle cycle) jobs) place))
running-at place cycle [] runs = runs
running-at zero cycle (job ∷ jobs) runs = runs
running-at (suc place) cycle (job ∷ jobs) runs = running-at place cycle jobs runs

running-kept : (job : ℕ) (cycle : CycleState) (jobs : List JobState) → IsTrue (is_running (job_at job jobs)) → IsTrue (is_running (job_at job (job_changed (job - 1) (with_cycle cycle) jobs)))
running-kept job cycle jobs runs =
    elim (job == 0) as (λ b. IsTrue (is_running (if b then None else slice_get jobs (job - 1)))
    → IsTrue (is_running (if b then None else slice_get (job_changed (job - 1) (with_cycle cycle) jobs) (job - 1)))) [
      | true ↦ λ h. h
      | false ↦ running-at (job - 1) cycle jobs
    ] runs

running-by : (commit : Bool) (job : ℕ) (undo : MemberChange) (cycle : CycleState) (m : Memory) → IsTrue (is_running (job_at job m.jobs)) → IsTrue (is_running (job_at job (with_undo commit job undo cycle m).jobs))
running-by false job undo cycle m runs = runs
running-by true job undo cycle m runs = running-kept job (noted undo cycle) m.jobs runs

locked-by : (commit : Bool) (job : ℕ) (undo : MemberChange) (cycle : CycleState) (m : Memory) (locks : List Lock)
    → with_undo commit job undo cycle (with_locks locks m) ≡ with_locks locks (with_undo commit job undo cycle m)
locked-by false job undo cycle m locks = refl
locked-by true job undo cycle m locks = refl

gone-by : (commit : Bool) (job : ℕ) (undo : MemberChange) (cycle : CycleState) (m : Memory) → (with_undo commit job undo cycle m).gone ≡ m.gone
gone-by false job undo cycle m = refl
gone-by true job undo cycle m = refl

number-locked : (commit : Bool) (m : Memory) (job : JobState) (locks : List Lock) → cycle_number commit (with_locks locks m) job ≡ cycle_number commit m job
number-locked false m job locks = refl
number-locked true m job locks = refl

-- locks are nothing to its entries
drafts-locked : (author : Author) (job : JobState) (new : NewSlot) (images : Option Images) (m : Memory) (locks : List Lock) → drafts_of author job new images (with_locks locks m) ≡ drafts_of author job new images m
drafts-locked author job new None m locks = refl
drafts-locked author job new (Some images) m locks =
    ap (λ (cycle : Option ℕ). (if new.opened.commit then begins_cycle author m job else []) ++ slot_drafts author cycle (new.opened.commit || are_both images)
    (is_behind_last new.opened.member new.rrn m) new.opened.member new.rrn (slot_there new.opened.member new.rrn m) new.slot) (number-locked new.opened.commit m job locks)

-- the job runs on
pub changed-running : (job timestamp : ℕ) (new : NewSlot) (before after : State) → HasChanged job timestamp new before after → IsTrue (is_running (job_at job before.jobs)) → IsTrue (is_running (job_at job after.jobs))
changed-running job timestamp new before after changed runs =
    let m = memory_of before in
    subst (λ (jobs : List JobState). IsTrue (is_running (job_at job jobs))) (sym (ap (λ (x : Memory). x.jobs) changed.memory))
    (running-by new.opened.commit job (change_made m (job_of job m) new) (cycle_for m (job_of job m)) (with_status new.opened.member touched (with_slot new.opened.member new.rrn new.slot m)) runs)

-- what else the call does to the memory leaves the journal alone
pub record LeavesJournal (f : Memory → Memory) : Type 0 where
  pub last : (m : Memory) (n : ℕ) → f (record m { last_entry = n }) ≡ record (f m) { last_entry = n }
  pub same : (m : Memory) → (f m).last_entry ≡ m.last_entry
  pub gone : (m : Memory) → (f m).gone ≡ m.gone

pub Answers-changed : (job timestamp : ℕ) (new : NewSlot) (old locked changed after : State) (locks : List Lock) (f : Memory → Memory) (reply : Reply) → LeavesJournal f
    → locked ≡ record old { locks = locks } → HasChanged job timestamp new locked changed → memory_of after ≡ f (memory_of changed) → after.entries ≡ changed.entries
    → Answers old after (Ok reply) (Ok (slot_change job timestamp new reply (λ m. f (with_locks locks m)) (memory_of old)))
Answers-changed job timestamp new old locked changed after locks f reply leaves is has memory entries =
    let here : HasChanged job timestamp new (record old { locks = locks }) changed = subst (λ (s : State). HasChanged job timestamp new s changed) is has in
    let m = memory_of old in
    let drafts = drafts_in job timestamp new m in
    let made = drafts_in job timestamp new (with_locks locks m) in
    let told : made ≡ drafts = drafts-locked (author_of m job timestamp) (job_of job m) new (images_of new.opened.member m) m locks in
    let undo = change_made m (job_of job m) new in
    let cycle = cycle_for m (job_of job m) in
    let put = with_status new.opened.member touched (with_slot new.opened.member new.rrn new.slot m) in
    let body = f (with_locks locks (slot_changed job new m)) in
    let last : body.last_entry ≡ m.last_entry = leaves.same (with_locks locks (slot_changed job new m)) ∙ changed-last job new m in
    let gone : body.gone ≡ m.gone = leaves.gone (with_locks locks (slot_changed job new m)) ∙ gone-by new.opened.commit job undo cycle put in (
      slot_change job timestamp new reply (λ x. f (with_locks locks x)) m,
      refl,
      refl,
      changed-state old after (deposited body drafts) (record body { last_entry = body.last_entry + length drafts })
          (memory ∙ ap f here.memory ∙ ap (λ (x : Memory). f (record x { last_entry = m.last_entry + length made })) (locked-by new.opened.commit job undo cycle put locks)
          ∙ ap (λ (ds : List Draft). f (record (with_locks locks (slot_changed job new m)) { last_entry = m.last_entry + length ds })) told
          ∙ leaves.last (with_locks locks (slot_changed job new m)) (m.last_entry + length drafts) ∙ ap (λ (n : ℕ). record body { last_entry = n + length drafts }) (sym last))
          gone
          (entries ∙ here.entries ∙ ap (λ (ds : List Draft). old.entries ++ deposited m ds) told ∙ ap (λ (n : ℕ). old.entries ++ numbered_from (n + 1) drafts) (sym last)),
    )
