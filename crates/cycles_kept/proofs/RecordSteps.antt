-- What WRITE, UPDATE and DELETE leave of the open commit cycles, from what their plans refuse.
use Rattle.std.proofs.Common.{◌≡◌, ◌≢◌, inl, inr, ℕ, ◌+◌, ◌-◌, ◌≤◌, ◌==◌, ◌&&◌, ◌||◌, nat_lt, not, map, if◌then◌else◌, Bool, true, false, List, [], ◌∷◌, length, slice_get, Option, Some, None, is_some, IsSome, refl, ap, arith, rules}
use Rattle.std.specs.List.{AllByRecursion, list_any}
use Rattle.std.proofs.lemmas.Bool.{cases_eq}
use Rattle.std.proofs.lemmas.Bool.Decides.{nat_tests}
use Rattle.std.proofs.lemmas.Option.{slice_get_within}
use Rattle.lock_table.specs.declared.levels.Call.{Call}
use Rattle.lock_table.specs.declared.levels.Call.TheVariants.{Update, Delete, WriteAt}
use Rattle.lock_table.specs.Table.{HoldsChange, blocker}
use Rattle.member_slots.specs.declared.slot.Slot.{Slot}
use Rattle.member_slots.specs.declared.slot.Slot.TheVariants.{Live, Deleted}
use Rattle.member_slots.specs.Member.{MemberState, slot_at}
use Rattle.member_slots.specs.Members.{member_at, member_of}
use Rattle.journal_model.specs.Journal.{AreNumbered}
use Rattle.journal_model.specs.Rollback.{MemberChange, numbered_from}
use Rattle.logical_model.specs.Formats.{given_in}
use Rattle.library_model.specs.declared.replies.Reply.TheVariants.{NoSuchName, WrongOpen, NoCurrentRecord, NotFound, PlaceInUse, HeldByGroup, RecordInUse}
use Rattle.library_model.specs.declared.replies.Missing.TheVariants.{Name}
use Rattle.library_model.specs.declared.requests.OpenName.{OpenName}
use Rattle.library_model.specs.declared.requests.UpdateRecord.{UpdateRecord}
use Rattle.library_model.specs.declared.requests.WriteRecord.{WriteRecord}
use Rattle.library_steps.specs.State.{State, Memory, OpenState, memory_of, file_named, job_of, open_named, status_changed, with_opens, with_status}
use Rattle.library_steps.specs.ChangeRecord.{update_plan, update_change, update_record, without_current, without_record, delete_plan, delete_change, delete_record}
use Rattle.library_steps.specs.Drafts.{author_of}
use Rattle.library_steps.specs.Locking.{clashing, few_locks, level_of, not_locked, record_of}
use Rattle.library_steps.specs.LogicalFiles.{bases_of}
use Rattle.library_steps.specs.Reads.{at_format, open_changed}
use Rattle.library_steps.specs.Records.{live_record, record_in, slot_there}
use Rattle.library_steps.specs.Refusals.{OpenedFile, found, named_or_refused, opened_file, refuse_if, sequences_left}
use Rattle.library_steps.specs.SlotChange.{NewSlot, change_made, cycle_for, drafts_of, few_changes, has_changed_record, images_of, is_behind_last, not_held, slot_changed, touched, with_slot}
use Rattle.library_steps.specs.UniqueKeys.{keys_free}
use Rattle.library_steps.specs.Uses.{changes_in}
use Rattle.library_steps.specs.WriteRecord.{format_asked, has_room, is_input, next_place, packed, place_asked, place_plan, write_call, write_plan, write_change, write_record}
use Rattle.joint_state.proofs.BackLemmas.{neither}
use Rattle.joint_state.proofs.FindLemmas.{IsMember}
use Rattle.joint_state.specs.CurrentRecords.{CurrentStands}
use Rattle.joint_state.specs.Sound.{IsSound}
use Rattle.joint_state.proofs.OpenLemmas.{IsAmong, OpenStands, among-format, each-among, member-there, opened-stands}
use Rattle.cycles_kept.proofs.CycleLemmas.{changed_record, HaveCycles}
use Rattle.cycles_kept.proofs.HoldLemmas.{Holds, bind-holds, does-holds, found-there, if-not, then-holds, wider-holds, with-none}
use Rattle.cycles_kept.proofs.JobLemmas.{IsAsking, named-each}
use Rattle.cycles_kept.proofs.JournalLemmas.{IsJournaled, deposits, numbered-behind}
use Rattle.cycles_kept.proofs.LockLemmas.{IsChange, asked_write, current_alone, held_place, unblocked_alone}
use Rattle.cycles_kept.proofs.PlaceLemmas.{IsPlaceFor}
use Rattle.cycles_kept.proofs.PutLemmas.{IsNotOf, MayPut, Puts, files-noted, gone-noted, jobs-noted, jobs-put, last-noted, length-numbered, members-noted, put-cycles}

-- ---- an open, and its file

pub record Finds (name : List ℕ) (job : ℕ) (m : Memory) (its : OpenedFile) : Type 0 where
  pub opened : open_named name job m ≡ Some its.opened
  pub file : file_named its.opened.file m ≡ Some its.file

pub opened_file-finds : (name : List ℕ) (job : ℕ) (m : Memory) → Holds (opened_file name job m) (Finds name job m)
opened_file-finds name job m =
    bind-holds (named_or_refused name (open_named name job m)) (λ opened. open_named name job m ≡ Some opened) _ _ (found-there (open_named name job m) (NoSuchName (Name name))) (λ opened there.
    bind-holds (named_or_refused opened.file (file_named opened.file m)) (λ file. file_named opened.file m ≡ Some file) _ _
    (found-there (file_named opened.file m) (NoSuchName (Name opened.file))) (λ file named. record { holds = record { opened = there; file = named } }))

-- each of the open's members is there
member-is : (s : State) (opened : OpenState) (member : ℕ) → IsSound s → OpenStands s opened → IsAmong opened.members member → is_some (member_at member s.members) ≡ true
member-is s opened member sound stands among = member-there s member (each-among (IsMember s) opened.members member stands.members among)

-- ---- what the job's own commit cycle has not changed

not-held : (commit held : Bool) → (not commit && held) ≡ false → commit ≡ false → held ≡ false
not-held true held free outside = absurd cc
not-held false held free outside = free

none-of : (member rrn : ℕ) (undos : List MemberChange) → list_any (λ undo. (undo.member == member) && (undo.change.place + 1 == rrn)) undos ≡ false → AllByRecursion (IsNotOf member rrn) undos
none-of member rrn [] none = tt
none-of member rrn (undo ∷ undos) none =
    let parts = neither ((undo.member == member) && (undo.change.place + 1 == rrn)) (list_any (λ u. (u.member == member) && (u.change.place + 1 == rrn)) undos) none in
    let test = parts.0 in
    (λ same place. grind (arith, nat_tests, test, same, place), none-of member rrn undos parts.1)

own-free : (s : State) (job : ℕ) (opened : OpenState) (rrn : ℕ) → (not opened.commit && has_changed_record opened.member rrn (job_of job (memory_of s))) ≡ false → opened.commit ≡ false
    → AllByRecursion (IsNotOf opened.member rrn) (changes_in (job_of job (memory_of s)).cycle)
own-free s job opened rrn free outside =
    none-of opened.member rrn (changes_in (job_of job (memory_of s)).cycle) (not-held opened.commit (has_changed_record opened.member rrn (job_of job (memory_of s))) free outside)

-- ---- UPDATE and DELETE

from-live : (o : Option Slot) → IsSome (record_in o) → (slot : Slot) × (o ≡ Some slot)
from-live None live = absurd (search rules)
from-live (Some slot) live = (slot, refl)

live-place : (member : MemberState) (rrn : ℕ) → IsSome (record_in (slot_at member rrn)) → (1 ≤ rrn) × (rrn ≤ length member.slots)
live-place member rrn live =
    elim (rrn == 0) as (λ b. (rrn == 0) ≡ b → IsSome (record_in (if b then None else slice_get member.slots (rrn - 1))) → (1 ≤ rrn) × (rrn ≤ length member.slots)) [
      | true ↦ λ e l. absurd (search rules)
      | false ↦ λ e l.
          let first : 1 ≤ rrn = grind (arith, nat_tests, e) in
          let its = from-live (slice_get member.slots (rrn - 1)) l in
          let within = slice_get_within member.slots (rrn - 1) its.0 its.1 in
          (first, omega (arith, first, within))
    ] refl live

-- the current record may be changed
current-may : (s : State) (job : ℕ) (name : List ℕ) (its : OpenedFile) (rrn : ℕ) (slot : Slot) → IsSound s → IsAsking s job → Finds name job (memory_of s) its → its.opened.current ≡ Some rrn
    → (not its.opened.commit && has_changed_record its.opened.member rrn (job_of job (memory_of s))) ≡ false → MayPut s job (record { opened = its.opened; rrn = rrn; slot = slot })
current-may s job name its rrn slot sound asks finds current free =
    let stands : CurrentStands (memory_of s) job its.opened rrn =
    named-each (λ (opened : OpenState). (r : ℕ) → opened.current ≡ Some r → CurrentStands (memory_of s) job opened r) name
    (job_of job (memory_of s)).opens its.opened asks.stands.current finds.opened rrn current in
    let place = live-place (member_of its.opened.member s.members) rrn stands.live in
    let its-open = opened-stands s job name its.opened sound.library finds.opened in
    record {
      name = name;
      opened = its.opened;
      found = finds.opened;
      commit = refl;
      among = its-open.among;
      counted = place.0;
      there = member-is s its.opened its.opened.member sound its-open its-open.among;
      place = inl place.1;
      alone = λ other differ holds. current_alone s.locks its.opened.commit job its.opened rrn other sound.joint.compatible differ stands.locked holds;
      own = own-free s job its.opened rrn free;
    }

pub update-may : (s : State) (job : ℕ) (args : UpdateRecord) → IsSound s → IsAsking s job → Holds (update_plan (memory_of s) job args) (MayPut s job)
unfolding update_plan
update-may s job args sound asks =
    then-holds (sequences_left (memory_of s)) _ _ (λ few.
    bind-holds (opened_file args.open_id job (memory_of s)) (Finds args.open_id job (memory_of s)) _ _ (opened_file-finds args.open_id job (memory_of s)) (λ its finds.
    then-holds (refuse_if (is_input its.opened.option) WrongOpen) _ _ (λ writes.
    bind-holds (found its.opened.current NoCurrentRecord) (λ rrn. its.opened.current ≡ Some rrn) _ _ (found-there its.opened.current NoCurrentRecord) (λ rrn current.
    then-holds (packed (given_in (bases_of (memory_of s)) its.file.spec its.opened.format args.values (live_record its.opened.member rrn (memory_of s)))) _ _ (λ image.
    bind-holds (not_held job its.opened rrn (memory_of s)) (λ ok. (not its.opened.commit && has_changed_record its.opened.member rrn (job_of job (memory_of s))) ≡ false) _ _
    (if-not _ (HeldByGroup rrn)) (λ ok free.
    then-holds (keys_free job its.opened.commit its.opened.member rrn (slot_there its.opened.member rrn (memory_of s)) image (memory_of s)) _ _ (λ keys.
    then-holds (few_changes its.opened.commit (slot_there its.opened.member rrn (memory_of s)) (Live image) (memory_of s)) _ _ (λ count.
    record { holds = current-may s job args.open_id its rrn (Live image) sound asks finds current free }))))))))

pub delete-may : (s : State) (job : ℕ) (args : OpenName) → IsSound s → IsAsking s job → Holds (delete_plan (memory_of s) job args) (MayPut s job)
unfolding delete_plan
delete-may s job args sound asks =
    then-holds (sequences_left (memory_of s)) _ _ (λ few.
    bind-holds (opened_file args.open_id job (memory_of s)) (Finds args.open_id job (memory_of s)) _ _ (opened_file-finds args.open_id job (memory_of s)) (λ its finds.
    then-holds (refuse_if (is_input its.opened.option) WrongOpen) _ _ (λ writes.
    bind-holds (found its.opened.current NoCurrentRecord) (λ rrn. its.opened.current ≡ Some rrn) _ _ (found-there its.opened.current NoCurrentRecord) (λ rrn current.
    bind-holds (not_held job its.opened rrn (memory_of s)) (λ ok. (not its.opened.commit && has_changed_record its.opened.member rrn (job_of job (memory_of s))) ≡ false) _ _
    (if-not _ (HeldByGroup rrn)) (λ ok free.
    then-holds (few_changes its.opened.commit (slot_there its.opened.member rrn (memory_of s)) Deleted (memory_of s)) _ _ (λ count.
    record { holds = current-may s job args.open_id its rrn Deleted sound asks finds current free }))))))

-- ---- WRITE

-- a record may be added at this place
record IsFreePlace (s : State) (job : ℕ) (opened : OpenState) (rrn : ℕ) : Type 0 where
  counted : 1 ≤ rrn
  within : rrn ≤ length (member_of opened.member s.members).slots + 1
  alone : (other : ℕ) → other ≢ job → HoldsChange other (record_of opened rrn) s.locks → ⊥
  own : opened.commit ≡ false → AllByRecursion (IsNotOf opened.member rrn) (changes_in (job_of job (memory_of s)).cycle)

-- nobody has changed the place behind the last
behind-last : (s : State) (opened : OpenState) (number : ℕ) → IsSound s → HoldsChange number (record_of opened (length (member_of opened.member s.members).slots + 1)) s.locks → ⊥
behind-last s opened number sound holds =
    let place = held_place (memory_of s) s.locks number (record_of opened (length (member_of opened.member s.members).slots + 1)) sound.joint.locks holds in
    let there = place.there in
    omega (arith, there)

own-behind : (s : State) (opened : OpenState) (number : ℕ) (undos : List MemberChange) → IsSound s → AllByRecursion (λ undo. HoldsChange number (changed_record undo) s.locks) undos
    → AllByRecursion (IsNotOf opened.member (length (member_of opened.member s.members).slots + 1)) undos
own-behind s opened number [] sound all = tt
own-behind s opened number (undo ∷ undos) sound all = (λ same place. behind same place, own-behind s opened number undos sound all.1)
  where
    behind : undo.member ≡ opened.member → undo.change.place + 1 ≡ length (member_of opened.member s.members).slots + 1 → ⊥
    behind same place =
        let its = held_place (memory_of s) s.locks number (changed_record undo) sound.joint.locks all.0 in
        let there = its.there in
        let long : length (member_of undo.member s.members).slots ≡ length (member_of opened.member s.members).slots = ap (λ (n : ℕ). length (member_of n s.members).slots) same in
        omega (arith, there, long, place)

place-free : (s : State) (job : ℕ) (opened : OpenState) (asked : Option ℕ) → IsSound s → IsAsking s job → Holds (place_asked job opened asked (memory_of s)) (IsFreePlace s job opened)
place-free s job opened None sound asks = record {
  holds = record {
    counted = omega arith;
    within = omega arith;
    alone = λ other differ holds. behind-last s opened other sound holds;
    own = λ outside. own-behind s opened job (changes_in (job_of job (memory_of s)).cycle) sound asks.stands.locked;
  };
}
place-free s job opened (Some rrn) sound asks =
    bind-holds (refuse_if ((rrn == 0) || nat_lt (next_place opened.member (memory_of s)) rrn) NotFound)
    (λ ok. ((rrn == 0) || nat_lt (next_place opened.member (memory_of s)) rrn) ≡ false) _ _ (if-not _ NotFound) (λ ok bounds.
    then-holds (refuse_if (is_some (live_record opened.member rrn (memory_of s))) (PlaceInUse rrn)) _ _ (λ dead.
    bind-holds (not_locked WriteAt job opened rrn (memory_of s)) (λ free. clashing WriteAt job opened rrn (memory_of s) ≡ None) _ _
    (with-none (λ other. RecordInUse other opened.member rrn) (clashing WriteAt job opened rrn (memory_of s))) (λ free unlocked.
    bind-holds (not_held job opened rrn (memory_of s)) (λ held. (not opened.commit && has_changed_record opened.member rrn (job_of job (memory_of s))) ≡ false) _ _
    (if-not _ (HeldByGroup rrn)) (λ held out.
    record { holds = here bounds unlocked out }))))
  where
    here : ((rrn == 0) || nat_lt (next_place opened.member (memory_of s)) rrn) ≡ false → clashing WriteAt job opened rrn (memory_of s) ≡ None
        → (not opened.commit && has_changed_record opened.member rrn (job_of job (memory_of s))) ≡ false → IsFreePlace s job opened rrn
    here bounds unlocked out =
        let parts = neither (rrn == 0) (nat_lt (next_place opened.member (memory_of s)) rrn) bounds in
        let first = parts.0 in
        let last = parts.1 in
        record {
          counted = grind (arith, nat_tests, first);
          within = grind (arith, nat_tests, last);
          alone = λ other differ holds. unblocked_alone s.locks job other (record_of opened rrn)
              (asked_write (level_of (job_of job (memory_of s)) opened) (λ kind. blocker job (record_of opened rrn) kind s.locks) unlocked) differ holds;
          own = own-free s job opened rrn out;
        }

place-for : (member : MemberState) (rrn : ℕ) (image : List ℕ) → rrn ≤ length member.slots + 1 → IsPlaceFor member rrn (Live image)
place-for member rrn image within =
    elim (cases_eq rrn (length member.slots + 1)) [
      | inl behind ↦ inr (behind, refl)
      | inr differ ↦ inl (omega (arith, within, differ))
    ]

-- through the open of the name, where it is at the format that is written
place-may : (s : State) (job : ℕ) (name : List ℕ) (opened through : OpenState) (asked : Option ℕ) (image : List ℕ) → IsSound s → IsAsking s job → open_named name job (memory_of s) ≡ Some opened
    → through.commit ≡ opened.commit → IsAmong opened.members through.member → Holds (place_plan (memory_of s) job through asked image) (MayPut s job)
unfolding place_plan
place-may s job name opened through asked image sound asks found commit among =
    bind-holds (place_asked job through asked (memory_of s)) (IsFreePlace s job through) _ _ (place-free s job through asked sound asks) (λ rrn free.
    then-holds (has_room (is_behind_last through.member rrn (memory_of s)) through.member (memory_of s)) _ _ (λ room.
    then-holds (keys_free job through.commit through.member rrn Deleted image (memory_of s)) _ _ (λ keys.
    then-holds (few_locks (write_call asked) job through rrn (memory_of s)) _ _ (λ locks.
    then-holds (few_changes through.commit Deleted (Live image) (memory_of s)) _ _ (λ count.
    record {
      holds = record {
        name = name;
        opened = opened;
        found = found;
        commit = commit;
        among = among;
        counted = free.counted;
        there = member-is s opened through.member sound (opened-stands s job name opened sound.library found) among;
        place = place-for (member_of through.member s.members) rrn image free.within;
        alone = free.alone;
        own = free.own;
      };
    })))))

pub write-may : (s : State) (job : ℕ) (args : WriteRecord) → IsSound s → IsAsking s job → Holds (write_plan (memory_of s) job args) (MayPut s job)
unfolding write_plan
write-may s job args sound asks =
    then-holds (sequences_left (memory_of s)) _ _ (λ few.
    bind-holds (opened_file args.open_id job (memory_of s)) (Finds args.open_id job (memory_of s)) _ _ (opened_file-finds args.open_id job (memory_of s)) (λ its finds.
    then-holds (format_asked args.format its.file.spec) _ _ (λ format.
    then-holds (refuse_if (is_input its.opened.option) WrongOpen) _ _ (λ writes.
    then-holds (packed (given_in (bases_of (memory_of s)) its.file.spec format args.values None)) _ _ (λ image.
    place-may s job args.open_id its.opened (at_format format its.opened) args.record_number image sound asks finds.opened refl
    (among-format format its.opened (opened-stands s job args.open_id its.opened sound.library finds.opened).among))))))

-- ---- what they change

module _ (s : State) (job timestamp : ℕ) (new : NewSlot) where
  -- the memory before the change is noted
  abbrev put : Memory
  put = with_status new.opened.member touched (with_slot new.opened.member new.rrn new.slot (memory_of s))

  gone : (slot_changed job new (memory_of s)).gone ≡ s.gone
  gone = gone-noted new.opened.commit job (change_made (memory_of s) (job_of job (memory_of s)) new) (cycle_for (memory_of s) (job_of job (memory_of s))) put

  last : (slot_changed job new (memory_of s)).last_entry ≡ s.gone + length s.entries
  last = last-noted new.opened.commit job (change_made (memory_of s) (job_of job (memory_of s)) new) (cycle_for (memory_of s) (job_of job (memory_of s))) put

  members : (slot_changed job new (memory_of s)).members ≡ (with_slot new.opened.member new.rrn new.slot (memory_of s)).members
  members = members-noted new.opened.commit job (change_made (memory_of s) (job_of job (memory_of s)) new) (cycle_for (memory_of s) (job_of job (memory_of s))) put

  -- of files it changes the status of the member alone
  pub files-put : (slot_changed job new (memory_of s)).files ≡ map (λ entry. (entry.0, status_changed new.opened.member touched entry.1)) s.files
  files-put = files-noted new.opened.commit job (change_made (memory_of s) (job_of job (memory_of s)) new) (cycle_for (memory_of s) (job_of job (memory_of s))) put

  -- the entries of the change, numbered behind the last
  numbered : AreNumbered (s.gone + length s.entries + 1) (numbered_from ((slot_changed job new (memory_of s)).last_entry + 1)
      (drafts_of (author_of (memory_of s) job timestamp) (job_of job (memory_of s)) new (images_of new.opened.member (memory_of s)) (memory_of s)))
  numbered =
      numbered-behind s (drafts_of (author_of (memory_of s) job timestamp) (job_of job (memory_of s)) new (images_of new.opened.member (memory_of s)) (memory_of s))
      (slot_changed job new (memory_of s)).last_entry last

  pub update-journaled : IsJournaled s (update_change (memory_of s) job timestamp new)
  update-journaled = deposits s (update_change (memory_of s) job timestamp new) gone numbered

  pub delete-journaled : IsJournaled s (delete_change (memory_of s) job timestamp new)
  delete-journaled = deposits s (delete_change (memory_of s) job timestamp new) gone numbered

  pub write-journaled : (call : Call) → IsJournaled s (write_change (memory_of s) job timestamp call new)
  write-journaled call = deposits s (write_change (memory_of s) job timestamp call new) gone numbered

  pub update-puts : Puts s (update_change (memory_of s) job timestamp new) job Update new
  update-puts = record {
    change = tt;
    members = members;
    besides = open_changed new.opened.number without_current;
    keeps = λ j. refl;
    jobs = jobs-put new.opened.commit job (change_made (memory_of s) (job_of job (memory_of s)) new) (cycle_for (memory_of s) (job_of job (memory_of s)))
        (open_changed new.opened.number without_current) put;
    locks = refl;
    author = author_of (memory_of s) job timestamp;
    entries = length-numbered _ _;
  }

  pub delete-puts : Puts s (delete_change (memory_of s) job timestamp new) job Delete new
  delete-puts = record {
    change = tt;
    members = members;
    besides = with_opens (without_record new.opened.member new.rrn);
    keeps = λ j. refl;
    jobs = jobs-put new.opened.commit job (change_made (memory_of s) (job_of job (memory_of s)) new) (cycle_for (memory_of s) (job_of job (memory_of s)))
        (with_opens (without_record new.opened.member new.rrn)) put;
    locks = refl;
    author = author_of (memory_of s) job timestamp;
    entries = length-numbered _ _;
  }

  pub write-puts : (call : Call) → IsChange call → Puts s (write_change (memory_of s) job timestamp call new) job call new
  write-puts call is = record {
    change = is;
    members = members;
    besides = λ j. j;
    keeps = λ j. refl;
    jobs = jobs-noted new.opened.commit job (change_made (memory_of s) (job_of job (memory_of s)) new) (cycle_for (memory_of s) (job_of job (memory_of s))) put;
    locks = refl;
    author = author_of (memory_of s) job timestamp;
    entries = length-numbered _ _;
  }

pub write_call-change : (asked : Option ℕ) → IsChange (write_call asked)
write_call-change None = tt
write_call-change (Some rrn) = tt

module _ (s : State) (job timestamp : ℕ) (sound : IsSound s) (asks : IsAsking s job) where
  pub update-cycles : (args : UpdateRecord) → Holds (update_record (memory_of s) job timestamp args) (HaveCycles s)
  update-cycles args =
      does-holds (update_change (memory_of s) job timestamp) (update_plan (memory_of s) job args) (HaveCycles s)
      (wider-holds (update_plan (memory_of s) job args) (MayPut s job) _
      (λ new may. put-cycles s (update_change (memory_of s) job timestamp new) job Update new sound asks may (update-journaled s job timestamp new) (update-puts s job timestamp new))
      (update-may s job args sound asks))

  pub delete-cycles : (args : OpenName) → Holds (delete_record (memory_of s) job timestamp args) (HaveCycles s)
  delete-cycles args =
      does-holds (delete_change (memory_of s) job timestamp) (delete_plan (memory_of s) job args) (HaveCycles s)
      (wider-holds (delete_plan (memory_of s) job args) (MayPut s job) _
      (λ new may. put-cycles s (delete_change (memory_of s) job timestamp new) job Delete new sound asks may (delete-journaled s job timestamp new) (delete-puts s job timestamp new))
      (delete-may s job args sound asks))

  pub write-cycles : (args : WriteRecord) → Holds (write_record (memory_of s) job timestamp args) (HaveCycles s)
  write-cycles args =
      let call = write_call args.record_number in
      does-holds (write_change (memory_of s) job timestamp call) (write_plan (memory_of s) job args) (HaveCycles s)
      (wider-holds (write_plan (memory_of s) job args) (MayPut s job) _
      (λ new may. put-cycles s (write_change (memory_of s) job timestamp call new) job call new sound asks may (write-journaled s job timestamp new call)
      (write-puts s job timestamp new call (write_call-change args.record_number)))
      (write-may s job args sound asks))
