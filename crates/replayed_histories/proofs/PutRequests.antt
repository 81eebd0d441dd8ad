-- WRITE, UPDATE and DELETE as requests: what their plans refuse is what the journal must not tell.
use Rattle.std.proofs.Common.{◌≡◌, ℕ, ◌+◌, ◌-◌, ◌==◌, ◌&&◌, ◌||◌, nat_lt, not, slice_get, Bool, true, false, cond, Option, Some, None, unwrap_or, List, [], ◌∷◌, length, refl, sym, ap, ◌∙◌, subst, arith}
use Rattle.std.specs.Option.{is_some}
use Rattle.std.proofs.lemmas.Bool.{ne_eqb}
use Rattle.lock_table.specs.declared.levels.Call.{Call}
use Rattle.lock_table.specs.declared.levels.Call.TheVariants.{Delete, Update, WriteAt}
use Rattle.member_slots.specs.declared.slot.Slot.{Slot}
use Rattle.member_slots.specs.declared.slot.Slot.TheVariants.{Deleted, Live}
use Rattle.member_slots.specs.Member.{MemberState, slot_at}
use Rattle.member_slots.specs.Members.{member_of}
use Rattle.journal_model.specs.Rollback.{MemberChange}
use Rattle.logical_model.specs.Formats.{given_in}
use Rattle.library_model.specs.declared.replies.Reply.{Reply}
use Rattle.library_model.specs.declared.replies.Reply.TheVariants.{Added, Done, NoCurrentRecord, NotFound, PlaceInUse, WrongOpen}
use Rattle.library_model.specs.declared.requests.OpenName.{OpenName}
use Rattle.library_model.specs.declared.requests.UpdateRecord.{UpdateRecord}
use Rattle.library_model.specs.declared.requests.WriteRecord.{WriteRecord}
use Rattle.library_steps.specs.State.{CycleState, Memory, OpenState, State, job_of, memory_of, with_job, with_opens, with_status}
use Rattle.library_steps.specs.ChangeRecord.{delete_change, delete_plan, delete_record, update_change, update_plan, update_record, without_current, without_record}
use Rattle.library_steps.specs.Locking.{few_locks, locks_left, not_locked, with_locks}
use Rattle.library_steps.specs.LogicalFiles.{bases_of}
use Rattle.library_steps.specs.Reads.{at_format, with_opened}
use Rattle.library_steps.specs.Records.{live_record, record_in, slot_there}
use Rattle.library_steps.specs.Refusals.{OpenedFile, found, opened_file, refuse_if, sequences_left}
use Rattle.library_steps.specs.SlotChange.{NewSlot, change_made, cycle_for, few_changes, images_of, is_behind_last, not_held, slot_change, slot_changed, touched, with_slot, with_undo}
use Rattle.library_steps.specs.UniqueKeys.{keys_free}
use Rattle.library_steps.specs.WriteRecord.{format_asked, has_room, is_input, next_place, packed, place_asked, place_plan, write_call, write_change, write_plan, write_record}
use Rattle.joint_state.specs.CurrentRecords.{CurrentStands}
use Rattle.joint_state.specs.Sound.{IsSound, after}
use Rattle.restart_laws.proofs.ChangeLemmas.{MayChange}
use Rattle.restart_laws.proofs.ChangeLemmas as kept
use Rattle.restart_laws.proofs.PlanLemmas.{named-each}
use Rattle.restart_laws.proofs.ResultLemmas.{does-each}
use Rattle.sound_histories.proofs.HoldLemmas.{Holds, bind-holds, found-there, holds-done, if-not, then-holds}
use Rattle.sound_histories.proofs.JobLemmas.{IsAsking, asking}
use Rattle.sound_histories.proofs.PutLemmas.{MayPut, Puts, files-noted, gone-noted, last-noted, members-noted}
use Rattle.sound_histories.proofs.RecordSteps.{Finds, delete-may, delete-puts, opened_file-finds, update-may, update-puts, write-may, write-puts, write_call-change}
use Rattle.replayed_histories.specs.Replayed.{IsReplayed}
use Rattle.replayed_histories.specs.Requests.{AreReplaysKeptBy}
use Rattle.replayed_histories.proofs.RecordLemmas.{IsReal}
use Rattle.replayed_histories.proofs.RecordRequests.{put-replayed}

-- ---- the slot that stands there

live-real : (o : Option Slot) (new : Slot) → is_some (record_in o) ≡ true → IsReal (unwrap_or o Deleted) new
live-real None new live = absurd cc
live-real (Some Deleted) new live = absurd cc
live-real (Some (Live image)) new live = tt

dead-slot : (o : Option Slot) → is_some (record_in o) ≡ false → unwrap_or o Deleted ≡ Deleted
dead-slot None dead = refl
dead-slot (Some Deleted) dead = refl
dead-slot (Some (Live image)) dead = absurd cc

get-end : (slots : List Slot) → unwrap_or (slice_get slots (length slots)) Deleted ≡ Deleted
get-end [] = refl
get-end (slot ∷ slots) = get-end slots

end-slot : (member : MemberState) → unwrap_or (slot_at member (length member.slots + 1)) Deleted ≡ Deleted
end-slot member =
    let at : length member.slots + 1 - 1 ≡ length member.slots = omega arith in
    ap (λ (b : Bool). unwrap_or (cond b None (slice_get member.slots (length member.slots + 1 - 1))) Deleted) (ne_eqb (length member.slots + 1) 0 (λ e. absurd (omega (arith, e))))
    ∙ ap (λ (k : ℕ). unwrap_or (slice_get member.slots k) Deleted) at ∙ get-end member.slots

abbrev IsRealIn : Memory → NewSlot → Type 0
IsRealIn m new = IsReal (slot_there new.opened.member new.rrn m) new.slot

module _ (s : State) (job : ℕ) (asks : IsAsking s job) where
  abbrev m : Memory
  m = memory_of s

  -- the current record of an open stands
  current-real : (name : List ℕ) (its : OpenedFile) (rrn : ℕ) (slot : Slot) → Finds name job m its → its.opened.current ≡ Some rrn → IsReal (slot_there its.opened.member rrn m) slot
  current-real name its rrn slot finds current =
      let stands : CurrentStands m job its.opened rrn =
      named-each (λ (opened : OpenState). (n : ℕ) → opened.current ≡ Some n → CurrentStands m job opened n) name (job_of job m).opens its.opened asks.stands.current finds.opened rrn current in
      live-real (slot_at (member_of its.opened.member s.members) rrn) slot stands.live

  update-real : (args : UpdateRecord) → Holds (update_plan m job args) (IsRealIn m)
  unfolding update_plan
  update-real args =
      then-holds (sequences_left m) _ _ (λ few.
      bind-holds (opened_file args.open_id job m) (Finds args.open_id job m) _ _ (opened_file-finds args.open_id job m) (λ its finds.
      then-holds (refuse_if (is_input its.opened.option) WrongOpen) _ _ (λ writes.
      bind-holds (found its.opened.current NoCurrentRecord) (λ rrn. its.opened.current ≡ Some rrn) _ _ (found-there its.opened.current NoCurrentRecord) (λ rrn current.
      then-holds (packed (given_in (bases_of m) its.file.spec its.opened.format args.values (live_record its.opened.member rrn m))) _ _ (λ image.
      then-holds (not_held job its.opened rrn m) _ _ (λ held.
      then-holds (keys_free job its.opened.commit its.opened.member rrn (slot_there its.opened.member rrn m) image m) _ _ (λ keys.
      then-holds (few_changes its.opened.commit (slot_there its.opened.member rrn m) (Live image) m) _ _ (λ count.
      record { holds = current-real args.open_id its rrn (Live image) finds current }))))))))

  delete-real : (args : OpenName) → Holds (delete_plan m job args) (IsRealIn m)
  unfolding delete_plan
  delete-real args =
      then-holds (sequences_left m) _ _ (λ few.
      bind-holds (opened_file args.open_id job m) (Finds args.open_id job m) _ _ (opened_file-finds args.open_id job m) (λ its finds.
      then-holds (refuse_if (is_input its.opened.option) WrongOpen) _ _ (λ writes.
      bind-holds (found its.opened.current NoCurrentRecord) (λ rrn. its.opened.current ≡ Some rrn) _ _ (found-there its.opened.current NoCurrentRecord) (λ rrn current.
      then-holds (not_held job its.opened rrn m) _ _ (λ held.
      then-holds (few_changes its.opened.commit (slot_there its.opened.member rrn m) Deleted m) _ _ (λ count.
      record { holds = current-real args.open_id its rrn Deleted finds current }))))))

  -- no record stands where one is added
  asked-dead : (opened : OpenState) (asked : Option ℕ) → Holds (place_asked job opened asked m) (λ rrn. slot_there opened.member rrn m ≡ Deleted)
  asked-dead opened None = record { holds = end-slot (member_of opened.member s.members) }
  asked-dead opened (Some rrn) =
      then-holds (refuse_if ((rrn == 0) || nat_lt (next_place opened.member m) rrn) NotFound) _ _ (λ bounds.
      bind-holds (refuse_if (is_some (live_record opened.member rrn m)) (PlaceInUse rrn)) (λ ok. is_some (live_record opened.member rrn m) ≡ false) _ _
      (if-not (is_some (live_record opened.member rrn m)) (PlaceInUse rrn)) (λ ok dead.
      then-holds (not_locked WriteAt job opened rrn m) _ _ (λ unlocked.
      then-holds (not_held job opened rrn m) _ _ (λ held.
      record { holds = dead-slot (slot_at (member_of opened.member s.members) rrn) dead }))))

  place-real : (opened : OpenState) (asked : Option ℕ) (image : List ℕ) → Holds (place_plan m job opened asked image) (IsRealIn m)
  unfolding place_plan
  place-real opened asked image =
      bind-holds (place_asked job opened asked m) (λ rrn. slot_there opened.member rrn m ≡ Deleted) _ _ (asked-dead opened asked) (λ rrn dead.
      then-holds (has_room (is_behind_last opened.member rrn m) opened.member m) _ _ (λ room.
      then-holds (keys_free job opened.commit opened.member rrn Deleted image m) _ _ (λ keys.
      then-holds (few_locks (write_call asked) job opened rrn m) _ _ (λ locks.
      then-holds (few_changes opened.commit Deleted (Live image) m) _ _ (λ count.
      record { holds = subst (λ (old : Slot). IsReal old (Live image)) (sym dead) tt })))))

  write-real : (args : WriteRecord) → Holds (write_plan m job args) (IsRealIn m)
  unfolding write_plan
  write-real args =
      then-holds (sequences_left m) _ _ (λ few.
      then-holds (opened_file args.open_id job m) _ _ (λ its.
      then-holds (format_asked args.format its.file.spec) _ _ (λ format.
      then-holds (refuse_if (is_input its.opened.option) WrongOpen) _ _ (λ writes.
      then-holds (packed (given_in (bases_of m) its.file.spec format args.values None)) _ _ (λ image.
      place-real (at_format format its.opened) args.record_number image)))))

-- ---- what they do

checkpoint-noted : (commit : Bool) (job : ℕ) (undo : MemberChange) (cycle : CycleState) (m : Memory) → (with_undo commit job undo cycle m).checkpoint ≡ m.checkpoint
checkpoint-noted true job undo cycle m = refl
checkpoint-noted false job undo cycle m = refl

next-noted : (commit : Bool) (job : ℕ) (undo : MemberChange) (cycle : CycleState) (m : Memory) → (with_undo commit job undo cycle m).next_member ≡ m.next_member
next-noted true job undo cycle m = refl
next-noted false job undo cycle m = refl

module _ (s : State) (sound : IsSound s) (r : IsReplayed s) (job timestamp : ℕ) (asks : IsAsking s job) (new : NewSlot) (may : MayPut s job new) (change : MayChange s new)
    (real : IsRealIn (memory_of s) new) where
  abbrev put : Memory
  put = with_status new.opened.member touched (with_slot new.opened.member new.rrn new.slot (memory_of s))

  slot-replayed : (reply : Reply) (call : Call) (besides : Memory → Memory) → Puts s (slot_change job timestamp new reply besides (memory_of s)) job call new
      → ((x : Memory) → (besides x).gone ≡ x.gone) → ((x : Memory) → (besides x).checkpoint ≡ x.checkpoint) → ((x : Memory) → (besides x).last_entry ≡ x.last_entry)
      → ((x : Memory) → (besides x).files ≡ x.files) → ((x : Memory) → (besides x).members ≡ x.members) → ((x : Memory) → (besides x).next_member ≡ x.next_member)
      → IsReplayed (after s (slot_change job timestamp new reply besides (memory_of s)))
  slot-replayed reply call besides puts gone checkpoint last files members next =
      let undo = change_made (memory_of s) (job_of job (memory_of s)) new in
      let cycle = cycle_for (memory_of s) (job_of job (memory_of s)) in
      let now = slot_changed job new (memory_of s) in
      put-replayed s sound r job timestamp asks new may change real (not new.opened.commit && is_some (images_of new.opened.member (memory_of s))) reply (besides now) puts.besides puts.keeps
      (gone now ∙ gone-noted new.opened.commit job undo cycle put) (checkpoint now ∙ checkpoint-noted new.opened.commit job undo cycle put)
      (last now ∙ last-noted new.opened.commit job undo cycle put) (files now ∙ files-noted new.opened.commit job undo cycle put)
      (members now ∙ members-noted new.opened.commit job undo cycle put) (next now ∙ next-noted new.opened.commit job undo cycle put) puts.jobs

pub write-replayed : (args : WriteRecord) → AreReplaysKeptBy (λ m job timestamp. write_record m job timestamp args)
write-replayed args s sound r job timestamp done running h =
    let asks = asking s job sound.joint running in
    let call = write_call args.record_number in
    does-each (write_change (memory_of s) job timestamp call) (write_plan (memory_of s) job args) done (λ c. IsReplayed (after s c)) h
    (λ new is.
    slot-replayed s sound r job timestamp asks new (holds-done (write_plan (memory_of s) job args) (MayPut s job) new is (write-may s job args sound asks))
    (kept.write-may s job args new sound is) (holds-done (write_plan (memory_of s) job args) (IsRealIn (memory_of s)) new is (write-real s job asks args)) (Added new.rrn) call
    (with_locks (locks_left call job new.opened new.rrn (memory_of s))) (write-puts s job timestamp new call (write_call-change args.record_number))
    (λ x. refl) (λ x. refl) (λ x. refl) (λ x. refl) (λ x. refl) (λ x. refl))

pub update-replayed : (args : UpdateRecord) → AreReplaysKeptBy (λ m job timestamp. update_record m job timestamp args)
update-replayed args s sound r job timestamp done running h =
    let asks = asking s job sound.joint running in
    does-each (update_change (memory_of s) job timestamp) (update_plan (memory_of s) job args) done (λ c. IsReplayed (after s c)) h
    (λ new is.
    slot-replayed s sound r job timestamp asks new (holds-done (update_plan (memory_of s) job args) (MayPut s job) new is (update-may s job args sound asks))
    (kept.update-may s job args new sound running is) (holds-done (update_plan (memory_of s) job args) (IsRealIn (memory_of s)) new is (update-real s job asks args)) Done Update
    (λ x. with_opened job new.opened without_current (with_locks (locks_left Update job new.opened new.rrn (memory_of s)) x)) (update-puts s job timestamp new)
    (λ x. refl) (λ x. refl) (λ x. refl) (λ x. refl) (λ x. refl) (λ x. refl))

pub delete-replayed : (args : OpenName) → AreReplaysKeptBy (λ m job timestamp. delete_record m job timestamp args)
delete-replayed args s sound r job timestamp done running h =
    let asks = asking s job sound.joint running in
    does-each (delete_change (memory_of s) job timestamp) (delete_plan (memory_of s) job args) done (λ c. IsReplayed (after s c)) h
    (λ new is.
    slot-replayed s sound r job timestamp asks new (holds-done (delete_plan (memory_of s) job args) (MayPut s job) new is (delete-may s job args sound asks))
    (kept.delete-may s job args new sound running is) (holds-done (delete_plan (memory_of s) job args) (IsRealIn (memory_of s)) new is (delete-real s job asks args)) Done Delete
    (λ x. with_job job (with_opens (without_record new.opened.member new.rrn)) (with_locks (locks_left Delete job new.opened new.rrn (memory_of s)) x)) (delete-puts s job timestamp new)
    (λ x. refl) (λ x. refl) (λ x. refl) (λ x. refl) (λ x. refl) (λ x. refl))
