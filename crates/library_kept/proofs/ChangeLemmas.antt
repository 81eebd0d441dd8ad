-- WRITE, UPDATE and DELETE leave a library.
use Rattle.std.proofs.Common.{◌≡◌, ℕ, zero, suc, ◌+◌, ◌-◌, ◌*◌, ◌≤◌, ◌==◌, ◌||◌, nat_lt, IsTrue, Bool, true, false, Option, Some, None, is_some, IsSome, IfSome, Ok, List, [], ◌∷◌, length, refl, ap, subst, arith}
use Rattle.std.proofs.lemmas.Bool.{or_parts, ltb-false}
use Rattle.std.proofs.lemmas.Bool.Decides.{nat_tests}
use Rattle.lawful_states.specs.Owners.{Owns}
use Rattle.lawful_states.specs.Jobs.{AreOfJobs}
use Rattle.lock_table.specs.declared.lock.Lock.{Lock}
use Rattle.lock_table.specs.declared.levels.Call.{Call}
use Rattle.lock_table.specs.declared.levels.Call.TheVariants.{WriteAt, Update, Delete}
use Rattle.member_slots.specs.declared.slot.Slot.{Slot}
use Rattle.member_slots.specs.declared.slot.Slot.TheVariants.{Live, Deleted}
use Rattle.member_slots.specs.Member.{is_full, slot_at}
use Rattle.member_slots.specs.Members.{member_at, member_of}
use Rattle.record_fmt.specs.Records.{record_held}
use Rattle.journal_model.specs.Rollback.{MemberChange}
use Rattle.library_model.specs.declared.replies.Reply.TheVariants.{NotFound, PlaceInUse, MemberFull, WrongOpen, NoCurrentRecord}
use Rattle.library_model.specs.declared.requests.OpenName.{OpenName}
use Rattle.library_model.specs.declared.requests.UpdateRecord.{UpdateRecord}
use Rattle.library_model.specs.declared.requests.WriteRecord.{WriteRecord}
use Rattle.library_steps.specs.declared.limits.TheConstants.{MOST_LIBRARY_BYTES}
use Rattle.library_steps.specs.ChangeRecord.{update_plan, update_change, delete_plan, delete_change, without_current, without_record}
use Rattle.library_steps.specs.History.{is_running}
use Rattle.library_steps.specs.Locking.{locks_left, with_locks, not_locked, few_locks}
use Rattle.library_steps.specs.Ranges.{library_bytes}
use Rattle.library_steps.specs.Formats.{given_in}
use Rattle.library_steps.specs.LogicalFiles.{bases_of}
use Rattle.library_steps.specs.Reads.{at_format}
use Rattle.library_steps.specs.Records.{live_record, record_in, slot_there}
use Rattle.library_steps.specs.Refusals.{found, refuse_if, sequences_left, opened_file}
use Rattle.library_steps.specs.SlotChange.{NewSlot, change_made, cycle_for, few_changes, is_behind_last, not_held, noted, slot_changed, touched, with_cycle, with_slot, with_undo}
use Rattle.library_steps.specs.State.{State, Memory, FileState, CycleState, OpenState, JobState, memory_of, job_at, job_changed, job_of, open_named, with_job, with_opens, with_status, fields_of}
use Rattle.library_steps.specs.UniqueKeys.{keys_free}
use Rattle.library_steps.specs.WriteRecord.{write_plan, place_plan, write_change, write_call, format_asked, is_input, packed, next_place, place_asked, has_room}
use Rattle.lawful_states.specs.Members.{HasMember}
use Rattle.lawful_states.specs.Lawful.{HasRecords}
use Rattle.lawful_states.specs.Slots.{MayStand}
use Rattle.lawful_states.proofs.BaseLemmas.{OpenHolds-alike}
use Rattle.lawful_states.proofs.FindLemmas.{found-is}
use Rattle.lawful_states.proofs.LawfulLemmas.{AreOfJobs-more, AreOne-without_record}
use Rattle.lawful_states.proofs.MemberLemmas.{HoldsValues-at, IsThere-is_some, is_some-IsSome}
use Rattle.joint_state.specs.CurrentRecords.{CurrentStands}
use Rattle.joint_state.specs.Sound.{IsSound}
use Rattle.library_kept.proofs.OwnerLemmas.{opened-base, written-base}
use Rattle.library_kept.proofs.PlanLemmas.{live-within, named-each, opened-is, packed-is, running-job, same-file, same-number}
use Rattle.library_kept.proofs.ResultLemmas.{ok-equal, bind-ok, not-refused}
use Rattle.library_kept.proofs.SlotLemmas.{HasRoom, MayTake, Stands-changed, its-records}
use Rattle.library_kept.proofs.StandLemmas.{bare, Stands, one-of, Stands-memory_of, Stands-last, Stands-locks, Stands-open, begun-left}

-- the new slot may stand, and a file has its member
pub record MayChange (s : State) (new : NewSlot) : Type 0 where
  pub name : List ℕ
  pub file : FileState
  pub owns : Owns s.files name file new.opened.member
  pub may : MayTake (memory_of s) new.opened.member new.rrn new.slot

-- ---- what the plans tell

module _ (job : ℕ) (opened : OpenState) (m : Memory) where
  asked-near : (o : Option ℕ) (rrn : ℕ) → place_asked job opened o m ≡ Ok rrn → (1 ≤ rrn) × (rrn ≤ next_place opened.member m)
  asked-near None rrn h = let same = ok-equal (next_place opened.member m) rrn h in (omega (arith, same), omega (arith, same))
  asked-near (Some n) rrn h =
      let place = bind-ok (refuse_if ((n == 0) || nat_lt (next_place opened.member m) n) NotFound) _ rrn h in
      let free = bind-ok (refuse_if (is_some (live_record opened.member n m)) (PlaceInUse n)) _ rrn place.2 in
      let lock = bind-ok (not_locked WriteAt job opened n m) _ rrn free.2 in
      let held = bind-ok (not_held job opened n m) _ rrn lock.2 in
      let same = ok-equal n rrn held.2 in
      let right = or_parts (n == 0) (nat_lt (next_place opened.member m) n) (not-refused _ _ place.0 place.1) in
      let near = ltb-false (next_place opened.member m) n right.1 in
      let first : 1 ≤ n = (let counted = right.0 in grind (arith, nat_tests)) in
      (omega (arith, same, first), omega (arith, same, near))

room-by : (m : Memory) (member : ℕ) (image : List ℕ) (x : Bool) (behind : Bool) → behind ≡ true → has_room behind member m ≡ Ok x → HasRoom m member (Live image)
room-by m member image x true is h =
    let its = member_of member m.members in
    let free = bind-ok (refuse_if (is_full its) MemberFull) _ x h in
    let few = or_parts (nat_lt 1000000 (length its.slots + 1)) (nat_lt 268435456 ((length its.slots + 1) * its.record_length)) (not-refused (is_full its) _ free.0 free.1) in
    record {
      live = refl;
      few = ltb-false 1000000 (length its.slots + 1) few.0;
      small = ltb-false 268435456 ((length its.slots + 1) * its.record_length) few.1;
      bytes = ltb-false MOST_LIBRARY_BYTES (library_bytes m.members + its.record_length) (not-refused _ _ x free.2);
    }
room-by m member image x false is h = absurd cc

module _ (s : State) (name : List ℕ) (file : FileState) (member : ℕ) (has : HasMember s name file member) (sound : IsSound s) where
  -- a record of its fields may stand in the member
  may-stand : (image : List ℕ) → is_some (record_held (fields_of file) image) ≡ true → MayStand (bare (memory_of s)) member (Live image)
  may-stand image held other another owns =
      subst (λ (f : FileState). is_some (record_held (fields_of f) image) ≡ true)
      (same-file s.files name other file another member sound.apart has.owns (record { there = owns.there; has = owns.has })) held

  there : is_some (member_at member s.members) ≡ true
  there = IsThere-is_some (fields_of file) (member_at member s.members) has.there

  its-records_of : HasRecords (fields_of file) (member_of member s.members)
  its-records_of = its-records (memory_of s) name file member 0 (Stands-memory_of s sound) has.owns

  live-values : (rrn : ℕ) → IfSome (live_record member rrn (memory_of s)) (λ bytes. is_some (record_held (fields_of file) bytes) ≡ true)
  live-values rrn = by (slot_at (member_of member s.members) rrn) refl
    where
      by : (o : Option Slot) → slot_at (member_of member s.members) rrn ≡ o → IfSome (record_in o) (λ bytes. is_some (record_held (fields_of file) bytes) ≡ true)
      by None is = tt
      by (Some Deleted) is = tt
      by (Some (Live image)) is = HoldsValues-at (fields_of file) (member_of member s.members) rrn (Live image) its-records_of is

  -- a place where a record stands is there
  replace-may : (rrn : ℕ) (slot : Slot) → MayStand (bare (memory_of s)) member slot → IsSome (live_record member rrn (memory_of s)) → MayTake (memory_of s) member rrn slot
  replace-may rrn slot values live =
      let place = live-within (member_of member s.members) rrn (is_some-IsSome _ live) in
      let within = place.1 in
      record { there = there; values = values; first = place.0; near = omega (arith, within); added = λ behind. absurd (omega (arith, within, behind)) }

may-replace : (s : State) (opened : OpenState) (rrn : ℕ) (slot : Slot) (name : List ℕ) (file : FileState) → HasMember s name file opened.member → IsSound s
    → MayStand (bare (memory_of s)) opened.member slot → IsSome (live_record opened.member rrn (memory_of s)) → MayChange s (record { opened = opened; rrn = rrn; slot = slot })
may-replace s opened rrn slot name file has sound values live =
    record { name = name; file = file; owns = has.owns; may = replace-may s name file opened.member has sound rrn slot values live }

-- the current record of an open stands
current-stands : (s : State) (job : ℕ) (name : List ℕ) (opened : OpenState) (rrn : ℕ) → IsSound s → IsTrue (is_running (job_at job s.jobs)) → open_named name job (memory_of s) ≡ Some opened
    → opened.current ≡ Some rrn → IsSome (live_record opened.member rrn (memory_of s))
current-stands s job name opened rrn sound running found current =
    (named-each (λ (o : OpenState). (n : ℕ) → o.current ≡ Some n → CurrentStands (memory_of s) job o n) name (job_of job (memory_of s)).opens opened
    (running-job s job running sound.joint).current found rrn current).live

-- a record may be added through an open that is at its format
place-may : (s : State) (job : ℕ) (opened : OpenState) (asked : Option ℕ) (image : List ℕ) (new : NewSlot) → IsSound s → (name : List ℕ) (file : FileState)
    → HasMember s name file opened.member → is_some (record_held (fields_of file) image) ≡ true → place_plan (memory_of s) job opened asked image ≡ Ok new → MayChange s new
unfolding place_plan
place-may s job opened asked image new sound name file has held h =
    let m = memory_of s in
    let rrn = bind-ok (place_asked job opened asked m) _ new h in
    let room = bind-ok (has_room (is_behind_last opened.member rrn.0 m) opened.member m) _ new rrn.2 in
    let keys = bind-ok (keys_free job opened.commit opened.member rrn.0 Deleted image m) _ new room.2 in
    let locks = bind-ok (few_locks (write_call asked) job opened rrn.0 m) _ new keys.2 in
    let few = bind-ok (few_changes opened.commit Deleted (Live image) m) _ new locks.2 in
    let near = asked-near job opened m asked rrn.0 rrn.1 in
    let planned : NewSlot = record { opened = opened; rrn = rrn.0; slot = Live image } in
    subst (MayChange s) (ok-equal planned new few.2) (record {
      name = name;
      file = file;
      owns = has.owns;
      may = record {
        there = there s name file opened.member has sound;
        values = may-stand s name file opened.member has sound image held;
        first = near.0;
        near = near.1;
        added = λ behind. room-by m opened.member image room.0 (is_behind_last opened.member rrn.0 m) (same-number rrn.0 (next_place opened.member m) behind) room.1;
      };
    })

pub write-may : (s : State) (job : ℕ) (args : WriteRecord) (new : NewSlot) → IsSound s → write_plan (memory_of s) job args ≡ Ok new → MayChange s new
unfolding write_plan
write-may s job args new sound h =
    let m = memory_of s in
    let left = bind-ok (sequences_left m) _ new h in
    let its = bind-ok (opened_file args.open_id job m) _ new left.2 in
    let format = bind-ok (format_asked args.format its.0.file.spec) _ new its.2 in
    let option = bind-ok (refuse_if (is_input its.0.opened.option) WrongOpen) _ new format.2 in
    let image = bind-ok (packed (given_in (bases_of m) its.0.file.spec format.0 args.values None)) _ new option.2 in
    let given = packed-is _ image.0 image.1 in
    let base = written-base s job args.open_id its.0 args.format format.0 args.values image.0 sound its.1 format.1 given in
    place-may s job (at_format format.0 its.0.opened) args.record_number image.0 new sound base.name base.file base.has (base.given args.values None image.0 tt given) image.2

pub update-may : (s : State) (job : ℕ) (args : UpdateRecord) (new : NewSlot) → IsSound s → IsTrue (is_running (job_at job s.jobs)) → update_plan (memory_of s) job args ≡ Ok new → MayChange s new
unfolding update_plan
update-may s job args new sound running h =
    let m = memory_of s in
    let left = bind-ok (sequences_left m) _ new h in
    let its = bind-ok (opened_file args.open_id job m) _ new left.2 in
    let option = bind-ok (refuse_if (is_input its.0.opened.option) WrongOpen) _ new its.2 in
    let rrn = bind-ok (found its.0.opened.current NoCurrentRecord) _ new option.2 in
    let image = bind-ok (packed (given_in (bases_of m) its.0.file.spec its.0.opened.format args.values (live_record its.0.opened.member rrn.0 m))) _ new rrn.2 in
    let held = bind-ok (not_held job its.0.opened rrn.0 m) _ new image.2 in
    let keys = bind-ok (keys_free job its.0.opened.commit its.0.opened.member rrn.0 (slot_there its.0.opened.member rrn.0 m) image.0 m) _ new held.2 in
    let few = bind-ok (few_changes its.0.opened.commit (slot_there its.0.opened.member rrn.0 m) (Live image.0) m) _ new keys.2 in
    let base = opened-base s job args.open_id its.0 sound its.1 in
    let member = its.0.opened.member in
    let current = found-is its.0.opened.current _ rrn.0 rrn.1 in
    let live = current-stands s job args.open_id its.0.opened rrn.0 sound running (opened-is args.open_id job m its.0 its.1).0 current in
    let values = base.given args.values (live_record member rrn.0 m) image.0 (live-values s base.name base.file member base.has sound rrn.0) (packed-is _ image.0 image.1) in
    let planned : NewSlot = record { opened = its.0.opened; rrn = rrn.0; slot = Live image.0 } in
    subst (MayChange s) (ok-equal planned new few.2)
    (may-replace s its.0.opened rrn.0 (Live image.0) base.name base.file base.has sound (may-stand s base.name base.file member base.has sound image.0 values) live)

pub delete-may : (s : State) (job : ℕ) (args : OpenName) (new : NewSlot) → IsSound s → IsTrue (is_running (job_at job s.jobs)) → delete_plan (memory_of s) job args ≡ Ok new → MayChange s new
unfolding delete_plan
delete-may s job args new sound running h =
    let m = memory_of s in
    let left = bind-ok (sequences_left m) _ new h in
    let its = bind-ok (opened_file args.open_id job m) _ new left.2 in
    let option = bind-ok (refuse_if (is_input its.0.opened.option) WrongOpen) _ new its.2 in
    let rrn = bind-ok (found its.0.opened.current NoCurrentRecord) _ new option.2 in
    let held = bind-ok (not_held job its.0.opened rrn.0 m) _ new rrn.2 in
    let few = bind-ok (few_changes its.0.opened.commit (slot_there its.0.opened.member rrn.0 m) Deleted m) _ new held.2 in
    let base = opened-base s job args.open_id its.0 sound its.1 in
    let current = found-is its.0.opened.current _ rrn.0 rrn.1 in
    let live = current-stands s job args.open_id its.0.opened rrn.0 sound running (opened-is args.open_id job m its.0 its.1).0 current in
    let planned : NewSlot = record { opened = its.0.opened; rrn = rrn.0; slot = Deleted } in
    subst (MayChange s) (ok-equal planned new few.2) (may-replace s its.0.opened rrn.0 Deleted base.name base.file base.has sound (λ name file owns. tt) live)

-- ---- what they leave

length-changed_jobs : (place : ℕ) (change : JobState → JobState) (jobs : List JobState) → length (job_changed place change jobs) ≡ length jobs
length-changed_jobs place change [] = refl
length-changed_jobs zero change (job ∷ jobs) = refl
length-changed_jobs (suc place) change (job ∷ jobs) = ap (λ n. suc n) (length-changed_jobs place change jobs)

begun-by : (commit : Bool) (job : ℕ) (undo : MemberChange) (cycle : CycleState) (m : Memory) (locks : List Lock) → AreOfJobs m.jobs locks → AreOfJobs (with_undo commit job undo cycle m).jobs locks
begun-by false job undo cycle m locks all = all
begun-by true job undo cycle m locks all =
    let same = length-changed_jobs (job - 1) (with_cycle (noted undo cycle)) m.jobs in
    AreOfJobs-more m.jobs (job_changed (job - 1) (with_cycle (noted undo cycle)) m.jobs) locks (omega (arith, same)) all

module _ (s : State) (job timestamp : ℕ) (new : NewSlot) (sound : IsSound s) (running : IsTrue (is_running (job_at job s.jobs))) (change : MayChange s new) where
  changed-stands : Stands (slot_changed job new (memory_of s))
  changed-stands = Stands-changed (memory_of s) job new (Stands-memory_of s sound) change.name change.file change.owns change.may

  locked-stands : (call : Call) → Stands (with_locks (locks_left call job new.opened new.rrn (memory_of s)) (slot_changed job new (memory_of s)))
  locked-stands call =
      let m = memory_of s in
      Stands-locks (slot_changed job new m) (locks_left call job new.opened new.rrn m) changed-stands
      (begun-by new.opened.commit job (change_made m (job_of job m) new) (cycle_for m (job_of job m))
      (with_status new.opened.member touched (with_slot new.opened.member new.rrn new.slot m)) (locks_left call job new.opened new.rrn m)
      (begun-left m job running call new.opened new.rrn sound.library.keepers))

  pub write-stands : (call : Call) → Stands (write_change (memory_of s) job timestamp call new).memory
  write-stands call = Stands-last _ _ (locked-stands call)

  pub update-stands : Stands (update_change (memory_of s) job timestamp new).memory
  update-stands =
      let locked = with_locks (locks_left Update job new.opened new.rrn (memory_of s)) (slot_changed job new (memory_of s)) in
      Stands-last _ _ (Stands-open locked job new.opened without_current (locked-stands Update) (λ o holds. OpenHolds-alike locked.files o (without_current o) refl refl refl refl holds))

  pub delete-stands : Stands (delete_change (memory_of s) job timestamp new).memory
  delete-stands =
      let m = memory_of s in
      let locked = with_locks (locks_left Delete job new.opened new.rrn m) (slot_changed job new m) in
      let stands = locked-stands Delete in
      Stands-last (with_job job (with_opens (without_record new.opened.member new.rrn)) locked) _ (record {
        library = (AreOne-without_record (bare locked) (library_bytes locked.members) (job - 1) new.opened.member new.rrn (one-of (bare locked) stands.library)).lawful;
        within = stands.within;
      })
