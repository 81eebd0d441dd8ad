-- What WRITE, UPDATE and DELETE leave of the keys: they ask that the new keys are free, and change no record that another job has changed.
use Rattle.std.proofs.Common.{◌≡◌, ◌⊎◌, inl, inr, ◌∙◌, ℕ, ◌+◌, ◌-◌, ◌≤◌, ◌==◌, if◌then◌else◌, Bool, true, false, List, [], ◌∷◌, map, slice_get, Option, None, Result, Ok, Err, unwrap_or, subst, refl, sym, ap, arith}
use Rattle.std.specs.List.{AllByRecursion}
use Rattle.std.proofs.lemmas.Bool.{true≢false, false_from_ne_true, or_from}
use Rattle.std.proofs.lemmas.Bool.Decides.{nat_tests}
use Rattle.lock_table.specs.declared.levels.Call.{Call}
use Rattle.lock_table.specs.declared.levels.Call.TheVariants.{Update, Delete}
use Rattle.lock_table.specs.Table.{HoldsChange}
use Rattle.member_slots.specs.declared.slot.Slot.{Slot}
use Rattle.member_slots.specs.declared.slot.Slot.TheVariants.{Live, Deleted}
use Rattle.member_slots.specs.Members.{member_of}
use Rattle.file_model.specs.declared.paths.PathFormat.{PathFormat}
use Rattle.journal_model.specs.Places.{slot_of}
use Rattle.journal_model.specs.Rollback.{MemberChange}
use Rattle.logical_model.specs.Formats.{given_in}
use Rattle.library_model.specs.Named.{Named}
use Rattle.library_model.specs.declared.replies.Reply.{Reply}
use Rattle.library_model.specs.declared.replies.Reply.TheVariants.{NoCurrentRecord, WrongOpen}
use Rattle.library_model.specs.declared.requests.OpenName.{OpenName}
use Rattle.library_model.specs.declared.requests.UpdateRecord.{UpdateRecord}
use Rattle.library_model.specs.declared.requests.WriteRecord.{WriteRecord}
use Rattle.library_steps.specs.State.{State, Memory, FileState, OpenState, CycleState, JobState, memory_of, job_of, status_changed}
use Rattle.library_steps.specs.Change.{Change}
use Rattle.library_steps.specs.ChangeRecord.{update_plan, update_change, update_record, delete_plan, delete_change, delete_record}
use Rattle.library_steps.specs.LogicalFiles.{bases_of}
use Rattle.library_steps.specs.Locking.{few_locks}
use Rattle.library_steps.specs.Records.{live_record, slot_there}
use Rattle.library_steps.specs.Reads.{at_format}
use Rattle.library_steps.specs.Refusals.{found, opened_file, refuse_if, sequences_left}
use Rattle.library_steps.specs.SlotChange.{NewSlot, change_made, cycle_for, few_changes, is_behind_last, not_held, touched}
use Rattle.library_steps.specs.UniqueKeys.{keys_free, new_keys}
use Rattle.library_steps.specs.Uses.{changes_in}
use Rattle.library_steps.specs.WriteRecord.{format_asked, has_room, is_input, packed, place_asked, place_plan, write_call, write_plan, write_change, write_record}
use Rattle.joint_state.specs.Sound.{IsSound}
use Rattle.key_state.specs.Keys.{changes_by}
use Rattle.key_state.proofs.FormatLemmas.{IsOver}
use Rattle.key_state.proofs.RestoredLemmas.{is_here, touches, here-parts}
use Rattle.key_state.proofs.UniqueLemmas.{MayShow, Shows}
use Rattle.cycles_kept.proofs.CycleLemmas.{id_of}
use Rattle.cycles_kept.proofs.HoldLemmas.{Holds, bind-holds, does-holds, then-holds, wider-holds}
use Rattle.cycles_kept.proofs.JobLemmas.{IsAsking}
use Rattle.cycles_kept.proofs.PlaceLemmas.{record_at, record-put_other, record-put_same, slot_of-get}
use Rattle.cycles_kept.proofs.PutLemmas.{IsNotOf, MayPut, Puts, put_cycle, undos-for}
use Rattle.cycles_kept.proofs.RecordSteps.{delete-may, delete-puts, files-put, update-may, update-puts, write-may, write-puts, write_call-change}
use Rattle.keys_kept.proofs.BaseLemmas.{over-status}
use Rattle.keys_kept.proofs.EffectLemmas.{put-stands, slots_for}
use Rattle.keys_kept.proofs.FreeLemmas.{AreFree, Stands, image-may, keys_free-are}
use Rattle.keys_kept.proofs.JobLemmas.{changes-others, changes-own}
use Rattle.keys_kept.proofs.QuietLemmas.{KeysStay}
use Rattle.keys_kept.proofs.StateLemmas.{changes-locked, slot_in}

-- ---- the keys of the new slot

-- they may stand in its place
pub record AreMayKeys (m : Memory) (job : ℕ) (new : NewSlot) : Type 0 where
  pub free : (format : PathFormat) → IsOver m.files format → format.member ≡ new.opened.member → (other : ℕ) → Stands job new.opened.commit other
      → MayShow format (new.rrn - 1) new.slot (slots_for m format) (changes_by other m)
  pub unlike : (format : PathFormat) → IsOver m.files format → format.member ≡ new.opened.member → MayShow format (new.rrn - 1) new.slot (slots_for m format) []

-- what the plan asked for: a slot without a record, or with one whose keys are free
pub record IsKeyed (m : Memory) (job : ℕ) (new : NewSlot) (old : Slot) (image : List ℕ) : Type 0 where
  pub slot : new.slot ≡ Live image
  pub free : AreFree job new.opened.commit new.rrn m (new_keys new.opened.member old image m)

abbrev pub HasKeys : Memory → ℕ → NewSlot → Type 0
HasKeys m job new =
    (new.slot ≡ Deleted) ⊎ ((old : Slot) × (image : List ℕ) × ((old ≡ slot_there new.opened.member new.rrn m) ⊎ (old ≡ Deleted)) × IsKeyed m job new old image)

slot_there-is : (m : Memory) (member rrn : ℕ) → 1 ≤ rrn → slot_there member rrn m ≡ slot_in m.members member (rrn - 1)
slot_there-is m member rrn first =
    let counted : (rrn == 0) ≡ false = grind (arith, nat_tests, first) in
    ap (λ b. unwrap_or (if b then None else slice_get (member_of member m.members).slots (rrn - 1)) Deleted) counted ∙ sym (slot_of-get (member_of member m.members).slots (rrn - 1))

-- with no reservation in the way
alone-may : (format : PathFormat) (place : ℕ) (new : Slot) (slots : ℕ → Slot) (undos : List MemberChange) → MayShow format place new slots undos → MayShow format place new slots []
alone-may format place new slots undos may key shows =
    elim (may key shows) [
      | inl same ↦ inl same
      | inr free ↦ inr (free.0, λ some. true≢false (sym some))
    ]

may-keys : (m : Memory) (job : ℕ) (new : NewSlot) → 1 ≤ new.rrn → HasKeys m job new → AreMayKeys m job new
may-keys m job new first (inl deleted) = record {
  free = λ format over is other stands key shows. absurd (true≢false (sym (subst (Shows format key) deleted shows)));
  unlike = λ format over is key shows. absurd (true≢false (sym (subst (Shows format key) deleted shows)));
}
may-keys m job new first (inr its) = by its.0 its.1 its.2 its.3
  where
    turned : new.rrn ≡ new.rrn - 1 + 1
    turned = omega (arith, first)

    by : (old : Slot) (image : List ℕ) → ((old ≡ slot_there new.opened.member new.rrn m) ⊎ (old ≡ Deleted)) → IsKeyed m job new old image → AreMayKeys m job new
    by old image was keyed = record {
      free = here;
      unlike = λ format over is. alone-may format (new.rrn - 1) new.slot (slots_for m format) (changes_by (job + 1) m) (here format over is (job + 1) (inl (λ same. absurd (omega (arith, same)))));
    }
      where
        stood : (old ≡ slot_of (member_of new.opened.member m.members).slots (new.rrn - 1)) ⊎ (old ≡ Deleted)
        stood =
            elim was [
              | inl same ↦ inl (same ∙ slot_there-is m new.opened.member new.rrn first)
              | inr deleted ↦ inr deleted
            ]

        here : (format : PathFormat) → IsOver m.files format → format.member ≡ new.opened.member → (other : ℕ) → Stands job new.opened.commit other
            → MayShow format (new.rrn - 1) new.slot (slots_for m format) (changes_by other m)
        here format over is other stands =
            subst (λ (slot : Slot). MayShow format (new.rrn - 1) slot (slots_for m format) (changes_by other m)) (sym keyed.slot)
            (image-may job new.opened.commit new.opened.member (new.rrn - 1) old image m stood
            (subst (λ (rrn : ℕ). AreFree job new.opened.commit rrn m (new_keys new.opened.member old image m)) turned keyed.free) format over is other stands)

-- ---- the plans

update-keyed : (m : Memory) (job : ℕ) (args : UpdateRecord) → Holds (update_plan m job args) (HasKeys m job)
unfolding update_plan
update-keyed m job args =
    then-holds (sequences_left m) _ _ (λ few.
    then-holds (opened_file args.open_id job m) _ _ (λ its.
    then-holds (refuse_if (is_input its.opened.option) WrongOpen) _ _ (λ writes.
    then-holds (found its.opened.current NoCurrentRecord) _ _ (λ rrn.
    then-holds (packed (given_in (bases_of m) its.file.spec its.opened.format args.values (live_record its.opened.member rrn m))) _ _ (λ image.
    then-holds (not_held job its.opened rrn m) _ _ (λ held.
    bind-holds (keys_free job its.opened.commit its.opened.member rrn (slot_there its.opened.member rrn m) image m)
    (λ ok. AreFree job its.opened.commit rrn m (new_keys its.opened.member (slot_there its.opened.member rrn m) image m)) _ _
    (keys_free-are job its.opened.commit its.opened.member rrn (slot_there its.opened.member rrn m) image m) (λ ok free.
    then-holds (few_changes its.opened.commit (slot_there its.opened.member rrn m) (Live image) m) _ _ (λ count.
    record { holds = inr (slot_there its.opened.member rrn m, image, inl refl, record { slot = refl; free = free }) }))))))))

delete-keyed : (m : Memory) (job : ℕ) (args : OpenName) → Holds (delete_plan m job args) (HasKeys m job)
unfolding delete_plan
delete-keyed m job args =
    then-holds (sequences_left m) _ _ (λ few.
    then-holds (opened_file args.open_id job m) _ _ (λ its.
    then-holds (refuse_if (is_input its.opened.option) WrongOpen) _ _ (λ writes.
    then-holds (found its.opened.current NoCurrentRecord) _ _ (λ rrn.
    then-holds (not_held job its.opened rrn m) _ _ (λ held.
    then-holds (few_changes its.opened.commit (slot_there its.opened.member rrn m) Deleted m) _ _ (λ count.
    record { holds = inl refl }))))))

place-keyed : (m : Memory) (job : ℕ) (opened : OpenState) (record_number : Option ℕ) (image : List ℕ) → Holds (place_plan m job opened record_number image) (HasKeys m job)
unfolding place_plan
place-keyed m job opened record_number image =
    then-holds (place_asked job opened record_number m) _ _ (λ rrn.
    then-holds (has_room (is_behind_last opened.member rrn m) opened.member m) _ _ (λ room.
    bind-holds (keys_free job opened.commit opened.member rrn Deleted image m) (λ ok. AreFree job opened.commit rrn m (new_keys opened.member Deleted image m)) _ _
    (keys_free-are job opened.commit opened.member rrn Deleted image m) (λ ok free.
    then-holds (few_locks (write_call record_number) job opened rrn m) _ _ (λ locks.
    then-holds (few_changes opened.commit Deleted (Live image) m) _ _ (λ count.
    record { holds = inr (Deleted, image, inr refl, record { slot = refl; free = free }) })))))

write-keyed : (m : Memory) (job : ℕ) (args : WriteRecord) → Holds (write_plan m job args) (HasKeys m job)
unfolding write_plan
write-keyed m job args =
    then-holds (sequences_left m) _ _ (λ few.
    then-holds (opened_file args.open_id job m) _ _ (λ its.
    then-holds (format_asked args.format its.file.spec) _ _ (λ format.
    then-holds (refuse_if (is_input its.opened.option) WrongOpen) _ _ (λ writes.
    then-holds (packed (given_in (bases_of m) its.file.spec format args.values None)) _ _ (λ image.
    place-keyed m job (at_format format its.opened) args.record_number image)))))

-- what two laws say of a plan
both-hold : {A : Type 0} (r : Result A Reply) (P Q : A → Type 0) → Holds r P → Holds r Q → Holds r (λ x. P x × Q x)
both-hold (Ok x) P Q first second = record { holds = (first.holds, second.holds) }
both-hold (Err e) P Q first second = record { holds = tt }

-- ---- the slot that is given

not-touched : (member rrn : ℕ) (undos : List MemberChange) → 1 ≤ rrn → AllByRecursion (IsNotOf member rrn) undos → touches member (rrn - 1) undos ≡ false
not-touched member rrn [] first all = refl
not-touched member rrn (undo ∷ undos) first all =
    or_from (is_here member (rrn - 1) undo) (touches member (rrn - 1) undos)
    (false_from_ne_true (is_here member (rrn - 1) undo) (λ here.
    let its = here-parts member (rrn - 1) undo here in
    let at = its.1 in
    all.0 its.0 (omega (arith, at, first))))
    (not-touched member rrn undos first all.1)

module _ (s : State) (c : Change) (job : ℕ) (call : Call) (new : NewSlot) (sound : IsSound s) (asks : IsAsking s job) (may : MayPut s job new) (keyed : HasKeys (memory_of s) job new)
    (puts : Puts s c job call new) (files : c.memory.files ≡ map (λ entry. (entry.0, status_changed new.opened.member touched entry.1)) s.files) where
  abbrev mine : JobState
  mine = job_of job (memory_of s)

  abbrev undo_made : MemberChange
  undo_made = change_made (memory_of s) (job_of job (memory_of s)) new

  abbrev cycle_made : CycleState
  cycle_made = cycle_for (memory_of s) (job_of job (memory_of s))

  abbrev put_there : JobState → JobState
  put_there j = puts.besides (put_cycle new.opened.commit undo_made cycle_made j)

  own-undos : (commit : Bool) → changes_in (put_cycle commit undo_made cycle_made mine).cycle ≡ (if commit then undo_made ∷ changes_in mine.cycle else changes_in mine.cycle)
  own-undos true = ap (λ (us : List MemberChange). undo_made ∷ us) (undos-for (memory_of s) mine)
  own-undos false = refl

  put-here : slot_in c.memory.members new.opened.member (new.rrn - 1) ≡ new.slot
  put-here =
      slot_of-get (member_of new.opened.member c.memory.members).slots (new.rrn - 1)
      ∙ ap (λ (o : Option Slot). unwrap_or o Deleted)
      (ap (record_at new.opened.member (new.rrn - 1)) puts.members ∙ record-put_same new.opened.member new.rrn new.slot s.members may.there may.counted may.place)

  put-elsewhere : (other at : ℕ) → (other ≡ new.opened.member → at ≡ new.rrn - 1 → ⊥) → slot_in c.memory.members other at ≡ slot_in s.members other at
  put-elsewhere other at differ =
      slot_of-get (member_of other c.memory.members).slots at
      ∙ ap (λ (o : Option Slot). unwrap_or o Deleted)
      (ap (record_at other at) puts.members ∙ record-put_other other new.opened.member at new.rrn new.slot s.members (λ of place. differ of (omega (arith, place))))
      ∙ sym (slot_of-get (member_of other s.members).slots at)

  put-alone : (other : ℕ) → Stands job new.opened.commit other → touches new.opened.member (new.rrn - 1) (changes_by other (memory_of s)) ≡ false
  put-alone other (inl differ) =
      let first = may.counted in
      let turned : new.rrn - 1 + 1 ≡ new.rrn = omega (arith, first) in
      false_from_ne_true (touches new.opened.member (new.rrn - 1) (changes_by other (memory_of s)))
      (λ touched. may.alone other differ
      (subst (λ (n : ℕ). HoldsChange other (id_of new.opened.member n) s.locks) turned (changes-locked s sound.joint other new.opened.member (new.rrn - 1) touched)))
  put-alone other (inr its) =
      ap (λ (n : ℕ). touches new.opened.member (new.rrn - 1) (changes_by n (memory_of s))) its.0
      ∙ not-touched new.opened.member new.rrn (changes_in mine.cycle) may.counted (may.own its.1)

  pub put-keys : KeysStay s c
  put-keys has places stand =
      let keys = may-keys (memory_of s) job new may.counted keyed in
      put-stands (memory_of s) c.memory job new.opened.member (new.rrn - 1) new.slot undo_made has places stand new.opened.commit (record {
        files = λ format over. over-status new.opened.member touched s.files format (λ old. refl) (subst (λ (fs : Named FileState). IsOver fs format) files over);
        here = put-here;
        elsewhere = put-elsewhere;
        others = changes-others (memory_of s) c.memory job put_there asks.first puts.jobs;
        own = changes-own s c.memory job put_there asks puts.jobs ∙ ap changes_in (puts.keeps (put_cycle new.opened.commit undo_made cycle_made mine)) ∙ own-undos new.opened.commit;
        of = refl;
        at = refl;
        before = slot_there-is (memory_of s) new.opened.member new.rrn may.counted;
        alone = put-alone;
        free = keys.free;
        unlike = keys.unlike;
      })

-- ---- the requests

module _ (s : State) (job timestamp : ℕ) (sound : IsSound s) (asks : IsAsking s job) where
  pub update-keys : (args : UpdateRecord) → Holds (update_record (memory_of s) job timestamp args) (KeysStay s)
  update-keys args =
      does-holds (update_change (memory_of s) job timestamp) (update_plan (memory_of s) job args) (KeysStay s)
      (wider-holds (update_plan (memory_of s) job args) (λ (new : NewSlot). MayPut s job new × HasKeys (memory_of s) job new) _
      (λ new its. put-keys s (update_change (memory_of s) job timestamp new) job Update new sound asks its.0 its.1 (update-puts s job timestamp new) (files-put s job timestamp new))
      (both-hold (update_plan (memory_of s) job args) (MayPut s job) (HasKeys (memory_of s) job) (update-may s job args sound asks) (update-keyed (memory_of s) job args)))

  pub delete-keys : (args : OpenName) → Holds (delete_record (memory_of s) job timestamp args) (KeysStay s)
  delete-keys args =
      does-holds (delete_change (memory_of s) job timestamp) (delete_plan (memory_of s) job args) (KeysStay s)
      (wider-holds (delete_plan (memory_of s) job args) (λ (new : NewSlot). MayPut s job new × HasKeys (memory_of s) job new) _
      (λ new its. put-keys s (delete_change (memory_of s) job timestamp new) job Delete new sound asks its.0 its.1 (delete-puts s job timestamp new) (files-put s job timestamp new))
      (both-hold (delete_plan (memory_of s) job args) (MayPut s job) (HasKeys (memory_of s) job) (delete-may s job args sound asks) (delete-keyed (memory_of s) job args)))

  pub write-keys : (args : WriteRecord) → Holds (write_record (memory_of s) job timestamp args) (KeysStay s)
  write-keys args =
      let call = write_call args.record_number in
      does-holds (write_change (memory_of s) job timestamp call) (write_plan (memory_of s) job args) (KeysStay s)
      (wider-holds (write_plan (memory_of s) job args) (λ (new : NewSlot). MayPut s job new × HasKeys (memory_of s) job new) _
      (λ new its. put-keys s (write_change (memory_of s) job timestamp call new) job call new sound asks its.0 its.1 (write-puts s job timestamp new call (write_call-change args.record_number))
      (files-put s job timestamp new))
      (both-hold (write_plan (memory_of s) job args) (MayPut s job) (HasKeys (memory_of s) job) (write-may s job args sound asks) (write-keyed (memory_of s) job args)))
