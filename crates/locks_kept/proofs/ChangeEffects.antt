-- The requests that change a record through an open: WRITE, UPDATE and DELETE.
use Rattle.std.proofs.Common.{◌≡◌, ◌⊎◌, inl, inr, ℕ, ◌-◌, ◌≤◌, ◌==◌, ◌||◌, nat_lt, Bool, true, false, List, [], ◌∷◌, map, Option, Some, None, is_some, refl, sym, ◌∙◌, ap, subst, arith}
use Rattle.std.proofs.lemmas.Bool.Decides.{nat_tests}
use Rattle.member_slots.specs.declared.slot.Slot.{Slot}
use Rattle.member_slots.specs.declared.slot.Slot.TheVariants.{Live, Deleted}
use Rattle.lock_table.specs.declared.levels.Call.{Call}
use Rattle.lock_table.specs.declared.levels.Call.TheVariants.{Write, WriteAt}
use Rattle.journal_model.specs.Rollback.{MemberChange}
use Rattle.logical_model.specs.Formats.{given_in}
use Rattle.library_model.specs.Named.{Named}
use Rattle.library_model.specs.declared.replies.Reply.TheVariants as replies
use Rattle.library_model.specs.declared.requests.OpenName.{OpenName}
use Rattle.library_model.specs.declared.requests.UpdateRecord.{UpdateRecord}
use Rattle.library_model.specs.declared.requests.WriteRecord.{WriteRecord}
use Rattle.library_steps.specs.State.{Memory, OpenState, CycleState, job_of, job_changed, open_named, with_opens, with_status}
use Rattle.library_steps.specs.LogicalFiles.{bases_of}
use Rattle.library_steps.specs.Refusals.{found, refuse_if, sequences_left}
use Rattle.library_steps.specs.Locking.{clashing, few_locks}
use Rattle.library_steps.specs.Records.{live_record, slot_there}
use Rattle.library_steps.specs.Reads.{at_format}
use Rattle.library_steps.specs.UniqueKeys.{keys_free}
use Rattle.library_steps.specs.SlotChange.{NewSlot, not_held, few_changes, is_behind_last, change_made, cycle_for, noted, touched, with_slot, with_undo, slot_changed}
use Rattle.library_steps.specs.WriteRecord.{format_asked, is_input, packed, next_place, place_asked, has_room, write_call, place_plan, write_plan, write_change, write_record}
use Rattle.library_steps.specs.ChangeRecord.{update_plan, update_change, update_record, without_record, delete_plan, delete_change, delete_record}
use Rattle.locks_kept.proofs.AroundEffects.{Leaves}
use Rattle.locks_kept.proofs.Effects.{IsPlaceNamed, changing, unread, Writing, Updating, Deleting}
use Rattle.locks_kept.proofs.JobLemmas.{changed-twice, changed-same, changed-alike}
use Rattle.locks_kept.proofs.OpenEffects.{opened-then}
use Rattle.locks_kept.proofs.RefusalLemmas.{Holds, found-holds, refuse_if-holds, refuse_with-holds, then-holds, bind-holds, does-holds, wider-holds}

-- ---- what a changed slot makes of jobs and members

undo-jobs : (commit : Bool) (job : ℕ) (undo : MemberChange) (cycle : CycleState) (m : Memory) (change : OpenState → OpenState)
    → job_changed (job - 1) (with_opens change) (with_undo commit job undo cycle m).jobs ≡ job_changed (job - 1) (changing commit (noted undo cycle) change) m.jobs
undo-jobs true job undo cycle m change = changed-twice (job - 1) (with_opens change) _ m.jobs
undo-jobs false job undo cycle m change = refl

undo-members : (commit : Bool) (job : ℕ) (undo : MemberChange) (cycle : CycleState) (m : Memory) → (with_undo commit job undo cycle m).members ≡ m.members
undo-members true job undo cycle m = refl
undo-members false job undo cycle m = refl

pub same-opens : (opens : Named OpenState) → map (λ entry. (entry.0, entry.1)) opens ≡ opens
same-opens [] = refl
same-opens (entry ∷ opens) = ap (λ es. entry ∷ es) (same-opens opens)

undo-jobs_alone : (commit : Bool) (job : ℕ) (undo : MemberChange) (cycle : CycleState) (m : Memory)
    → (with_undo commit job undo cycle m).jobs ≡ job_changed (job - 1) (changing commit (noted undo cycle) (λ o. o)) m.jobs
undo-jobs_alone true job undo cycle m = changed-alike (job - 1) _ _ (λ j. ap (λ os. record j { cycle = Some (noted undo cycle); opens = os }) (sym (same-opens j.opens))) m.jobs
undo-jobs_alone false job undo cycle m = sym (changed-alike (job - 1) _ (λ j. j) (λ j. ap (λ os. record j { opens = os }) (same-opens j.opens)) m.jobs ∙ changed-same (job - 1) m.jobs)

-- ---- WRITE

abbrev pub IsPlace : Memory → ℕ → OpenState → Call → ℕ → Type 0
IsPlace m job opened call rrn = (call ≡ Write) × (rrn ≡ next_place opened.member m) ⊎ (call ≡ WriteAt) × IsPlaceNamed m job opened rrn

place-within : (rrn next : ℕ) → ((rrn == 0) || nat_lt next rrn) ≡ false → (1 ≤ rrn) × (rrn ≤ next)
place-within rrn next within =
    elim (rrn == 0) as (λ b. (rrn == 0) ≡ b → (b || nat_lt next rrn) ≡ false → (1 ≤ rrn) × (rrn ≤ next)) [
      | true ↦ λ e h. absurd cc
      | false ↦ λ e h. (grind (arith, nat_tests, e), grind (arith, nat_tests, h))
    ] refl within

place_asked-is : (job : ℕ) (opened : OpenState) (asked : Option ℕ) (m : Memory) → Holds (place_asked job opened asked m) (IsPlace m job opened (write_call asked))
place_asked-is job opened None m = record { holds = inl (refl, refl) }
place_asked-is job opened (Some rrn) m =
    bind-holds (refuse_if ((rrn == 0) || nat_lt (next_place opened.member m) rrn) replies.NotFound) _ _ _ (refuse_if-holds _ _) (λ passed within.
    bind-holds (refuse_if (is_some (live_record opened.member rrn m)) (replies.PlaceInUse rrn)) _ _ _ (refuse_if-holds _ _) (λ unused empty.
    bind-holds _ (λ unlocked. clashing WriteAt job opened rrn m ≡ None) _ _ (refuse_with-holds _ (clashing WriteAt job opened rrn m)) (λ unlocked free.
    then-holds (not_held job opened rrn m) _ _ (λ held.
    (let bounds = place-within rrn (next_place opened.member m) within in
    record { holds = inr (refl, record { first = bounds.0; last = bounds.1; empty = empty; free = free }) })))))

-- an image is to stand at such a place
pub record IsPlaced (m : Memory) (job : ℕ) (opened : OpenState) (asked : Option ℕ) (new : NewSlot) : Type 0 where
  pub through : new.opened ≡ opened
  pub image : List ℕ
  pub slot : new.slot ≡ Live image
  pub place : IsPlace m job opened (write_call asked) new.rrn

place_plan-is : (m : Memory) (job : ℕ) (opened : OpenState) (asked : Option ℕ) (image : List ℕ) → Holds (place_plan m job opened asked image) (IsPlaced m job opened asked)
unfolding place_plan
place_plan-is m job opened asked image =
    bind-holds (place_asked job opened asked m) (IsPlace m job opened (write_call asked)) _ (IsPlaced m job opened asked) (place_asked-is job opened asked m) (λ rrn place.
    then-holds (has_room (is_behind_last opened.member rrn m) opened.member m) _ (IsPlaced m job opened asked) (λ room.
    then-holds (keys_free job opened.commit opened.member rrn Deleted image m) _ (IsPlaced m job opened asked) (λ keys.
    then-holds (few_locks (write_call asked) job opened rrn m) _ (IsPlaced m job opened asked) (λ locks.
    then-holds (few_changes opened.commit Deleted (Live image) m) _ (IsPlaced m job opened asked) (λ changes.
    record { holds = record { through = refl; image = image; slot = refl; place = place } })))))

pub record IsWritePlan (m : Memory) (job : ℕ) (args : WriteRecord) (new : NewSlot) : Type 0 where
  pub old : OpenState
  pub format : ℕ
  pub named : open_named args.open_id job m ≡ Some old
  pub placed : IsPlaced m job (at_format format old) args.record_number new

write_plan-is : (m : Memory) (job : ℕ) (args : WriteRecord) → Holds (write_plan m job args) (IsWritePlan m job args)
unfolding write_plan
write_plan-is m job args =
    then-holds (sequences_left m) _ (IsWritePlan m job args) (λ few.
    opened-then args.open_id job m _ (IsWritePlan m job args) (λ its is.
    then-holds (format_asked args.format its.file.spec) _ (IsWritePlan m job args) (λ format.
    then-holds (refuse_if (is_input its.opened.option) replies.WrongOpen) _ (IsWritePlan m job args) (λ all.
    then-holds (packed (given_in (bases_of m) its.file.spec format args.values None)) _ (IsWritePlan m job args) (λ image.
    wider-holds (place_plan m job (at_format format its.opened) args.record_number image) (IsPlaced m job (at_format format its.opened) args.record_number) (IsWritePlan m job args)
    (λ new placed. record { old = its.opened; format = format; named = is; placed = placed }) (place_plan-is m job (at_format format its.opened) args.record_number image))))))

pub write_record-effect : (m : Memory) (job timestamp : ℕ) (args : WriteRecord) → Holds (write_record m job timestamp args) (Leaves m job)
write_record-effect m job timestamp args =
    does-holds (write_change m job timestamp (write_call args.record_number)) (write_plan m job args) (Leaves m job)
    (wider-holds (write_plan m job args) (IsWritePlan m job args) _ (λ new is.
    subst (λ (o : OpenState). Leaves m job (write_change m job timestamp (write_call args.record_number) (record { opened = o; rrn = new.rrn; slot = new.slot }))) (sym is.placed.through)
    (effect is.old is.format new.rrn new.slot is.placed.image is.placed.slot is.named is.placed.place)) (write_plan-is m job args))
  where
    effect : (old : OpenState) (format rrn : ℕ) (slot : Slot) (image : List ℕ) → slot ≡ Live image → open_named args.open_id job m ≡ Some old
        → IsPlace m job (at_format format old) (write_call args.record_number) rrn
        → Leaves m job (write_change m job timestamp (write_call args.record_number) (record { opened = at_format format old; rrn = rrn; slot = slot }))
    effect old format rrn slot image live is place =
        let opened : OpenState = at_format format old in
        let new : NewSlot = record { opened = opened; rrn = rrn; slot = slot } in
        Writing (record {
          opened = old;
          format = format;
          call = write_call args.record_number;
          rrn = rrn;
          image = image;
          change = record {
            name = args.open_id;
            cycle = noted (change_made m (job_of job m) new) (cycle_for m (job_of job m));
            named = is;
            jobs = undo-jobs_alone old.commit job (change_made m (job_of job m) new) (cycle_for m (job_of job m)) (with_status opened.member touched (with_slot opened.member rrn slot m));
            locks = refl;
            members = undo-members old.commit job (change_made m (job_of job m) new) (cycle_for m (job_of job m)) (with_status opened.member touched (with_slot opened.member rrn slot m))
                ∙ ap (λ s. (with_slot opened.member rrn s m).members) live;
          };
          place = place;
        })

-- ---- UPDATE

-- the record that is changed is the open's current one
pub record IsOfCurrent (m : Memory) (job : ℕ) (name : List ℕ) (new : NewSlot) : Type 0 where
  pub named : open_named name job m ≡ Some new.opened
  pub current : new.opened.current ≡ Some new.rrn

pub record IsUpdatePlan (m : Memory) (job : ℕ) (args : UpdateRecord) (new : NewSlot) : Type 0 where
  pub of : IsOfCurrent m job args.open_id new
  pub image : List ℕ
  pub slot : new.slot ≡ Live image

update_plan-is : (m : Memory) (job : ℕ) (args : UpdateRecord) → Holds (update_plan m job args) (IsUpdatePlan m job args)
unfolding update_plan
update_plan-is m job args =
    then-holds (sequences_left m) _ _ (λ few.
    opened-then args.open_id job m _ _ (λ its is.
    then-holds (refuse_if (is_input its.opened.option) replies.WrongOpen) _ _ (λ all.
    bind-holds (found its.opened.current replies.NoCurrentRecord) (λ rrn. its.opened.current ≡ Some rrn) _ _ (found-holds its.opened.current replies.NoCurrentRecord) (λ rrn current.
    then-holds (packed (given_in (bases_of m) its.file.spec its.opened.format args.values (live_record its.opened.member rrn m))) _ _ (λ image.
    then-holds (not_held job its.opened rrn m) _ _ (λ held.
    then-holds (keys_free job its.opened.commit its.opened.member rrn (slot_there its.opened.member rrn m) image m) _ _ (λ keys.
    then-holds (few_changes its.opened.commit (slot_there its.opened.member rrn m) (Live image) m) _ _ (λ changes.
    record { holds = record { of = record { named = is; current = current }; image = image; slot = refl } }))))))))

-- the jobs and members after a change of the current record
pub changed-jobs : (m : Memory) (job : ℕ) (new : NewSlot) (change : OpenState → OpenState)
    → job_changed (job - 1) (with_opens change) (slot_changed job new m).jobs ≡ job_changed (job - 1)
    (changing new.opened.commit (noted (change_made m (job_of job m) new) (cycle_for m (job_of job m))) change) m.jobs
changed-jobs m job new change =
    undo-jobs new.opened.commit job (change_made m (job_of job m) new) (cycle_for m (job_of job m)) (with_status new.opened.member touched (with_slot new.opened.member new.rrn new.slot m)) change

pub changed-members : (m : Memory) (job : ℕ) (new : NewSlot) → (slot_changed job new m).members ≡ (with_slot new.opened.member new.rrn new.slot m).members
changed-members m job new =
    undo-members new.opened.commit job (change_made m (job_of job m) new) (cycle_for m (job_of job m)) (with_status new.opened.member touched (with_slot new.opened.member new.rrn new.slot m))

pub update_record-effect : (m : Memory) (job timestamp : ℕ) (args : UpdateRecord) → Holds (update_record m job timestamp args) (Leaves m job)
update_record-effect m job timestamp args =
    does-holds (update_change m job timestamp) (update_plan m job args) (Leaves m job) (wider-holds (update_plan m job args) (IsUpdatePlan m job args) _ (λ new is. Updating (record {
      opened = new.opened;
      rrn = new.rrn;
      image = is.image;
      change = record {
        name = args.open_id;
        cycle = noted (change_made m (job_of job m) new) (cycle_for m (job_of job m));
        named = is.of.named;
        jobs = changed-jobs m job new (unread new.opened.number);
        locks = refl;
        members = changed-members m job new ∙ ap (λ s. (with_slot new.opened.member new.rrn s m).members) is.slot;
      };
      current = is.of.current;
    })) (update_plan-is m job args))

-- ---- DELETE

pub record IsDeletePlan (m : Memory) (job : ℕ) (args : OpenName) (new : NewSlot) : Type 0 where
  pub of : IsOfCurrent m job args.open_id new
  pub slot : new.slot ≡ Deleted

delete_plan-is : (m : Memory) (job : ℕ) (args : OpenName) → Holds (delete_plan m job args) (IsDeletePlan m job args)
unfolding delete_plan
delete_plan-is m job args =
    then-holds (sequences_left m) _ _ (λ few.
    opened-then args.open_id job m _ _ (λ its is.
    then-holds (refuse_if (is_input its.opened.option) replies.WrongOpen) _ _ (λ all.
    bind-holds (found its.opened.current replies.NoCurrentRecord) (λ rrn. its.opened.current ≡ Some rrn) _ _ (found-holds its.opened.current replies.NoCurrentRecord) (λ rrn current.
    then-holds (not_held job its.opened rrn m) _ _ (λ held.
    then-holds (few_changes its.opened.commit (slot_there its.opened.member rrn m) Deleted m) _ _ (λ changes.
    record { holds = record { of = record { named = is; current = current }; slot = refl } }))))))

pub delete_record-effect : (m : Memory) (job timestamp : ℕ) (args : OpenName) → Holds (delete_record m job timestamp args) (Leaves m job)
delete_record-effect m job timestamp args =
    does-holds (delete_change m job timestamp) (delete_plan m job args) (Leaves m job) (wider-holds (delete_plan m job args) (IsDeletePlan m job args) _ (λ new is. Deleting (record {
      opened = new.opened;
      rrn = new.rrn;
      change = record {
        name = args.open_id;
        cycle = noted (change_made m (job_of job m) new) (cycle_for m (job_of job m));
        named = is.of.named;
        jobs = changed-jobs m job new (without_record new.opened.member new.rrn);
        locks = refl;
        members = changed-members m job new ∙ ap (λ s. (with_slot new.opened.member new.rrn s m).members) is.slot;
      };
      current = is.of.current;
    })) (delete_plan-is m job args))
