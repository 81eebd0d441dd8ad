-- What a changed slot leaves of the open commit cycles: the one of its job has it as its last change, where it is under commitment.
use Rattle.std.proofs.Common.{◌≡◌, ◌≢◌, ◌⊎◌, inl, inr, ◌∙◌, ℕ, suc, ◌+◌, ◌-◌, ◌≤◌, ◌==◌, if◌then◌else◌, Bool, true, false, List, [], ◌∷◌, length, slice_get, Option, Some, None, is_some, IsSome, IfSome, unwrap_or, subst, refl, sym, ap, arith, rules}
use Rattle.std.specs.List.{AllByRecursion}
use Rattle.std.specs.Option.{option_map}
use Rattle.std.proofs.lemmas.Bool.Decides.{nat_tests}
use Rattle.entry_codec.specs.declared.entries.Draft.{Draft}
use Rattle.entry_codec.specs.declared.kinds.Images.{Images}
use Rattle.lock_table.specs.declared.lock.RecordId.{RecordId}
use Rattle.lock_table.specs.declared.levels.Call.{Call}
use Rattle.lock_table.specs.Table.{HoldsChange}
use Rattle.member_slots.specs.declared.slot.Slot.{Slot}
use Rattle.member_slots.specs.declared.slot.Slot.TheVariants.{Deleted}
use Rattle.member_slots.specs.Members.{member_at, member_of}
use Rattle.journal_model.specs.Rollback.{MemberChange, numbered_from}
use Rattle.joint_state.proofs.NameLemmas.{some-equal}
use Rattle.library_steps.specs.State.{State, Memory, OpenState, CycleState, JobState, memory_of, job_changed, job_of, open_named}
use Rattle.library_steps.specs.Change.{Change}
use Rattle.library_steps.specs.Drafts.{Author}
use Rattle.library_steps.specs.Locking.{holder_of, record_of, level_of, is_committed, locks_left}
use Rattle.library_steps.specs.Records.{slot_there}
use Rattle.library_steps.specs.SlotChange.{NewSlot, change_made, cycle_for, drafts_of, images_of, noted, with_cycle, with_slot, with_undo}
use Rattle.library_steps.specs.Uses.{changes_in}
use Rattle.joint_state.specs.Sound.{IsSound, after}
use Rattle.joint_state.proofs.OpenLemmas.{IsAmong, each-among}
use Rattle.cycles_kept.proofs.CycleLemmas.{changed_record, id_of, LocksStay, CycleAfter, HasCycle, HaveCycles}
use Rattle.cycles_kept.proofs.JobLemmas.{IsAsking, was_there, named-each, job_changed-twice, job_changed-none}
use Rattle.cycles_kept.proofs.JournalLemmas.{IsJournaled, last-after}
use Rattle.cycles_kept.proofs.LockLemmas.{IsChange, change-locks, change-open, held_place, open-keeps}
use Rattle.cycles_kept.proofs.PlaceLemmas.{record_at, IsPlaceFor, get-within, slot_of-get, record-put_other, record-put_same}
use Rattle.cycles_kept.proofs.StandLemmas.{Alike, IsOfOne, one_or_two, back, back-other, back-same}

-- the change isn't of this record
abbrev pub IsNotOf : (member rrn : ℕ) → MemberChange → Type 0
IsNotOf member rrn undo = undo.member ≡ member → undo.change.place + 1 ≡ rrn → ⊥

-- a job may give the slot its new content: the member has the place or the one behind it, and no other job has changed the record, nor has the
-- job itself where it changes it outside its commit cycle
pub record MayPut (s : State) (job : ℕ) (new : NewSlot) : Type 0 where
  pub name : List ℕ
  -- the open as the job has it, one of whose members is changed
  pub opened : OpenState
  pub found : open_named name job (memory_of s) ≡ Some opened
  pub commit : new.opened.commit ≡ opened.commit
  pub among : IsAmong opened.members new.opened.member
  pub counted : 1 ≤ new.rrn
  pub there : is_some (member_at new.opened.member s.members) ≡ true
  pub place : IsPlaceFor (member_of new.opened.member s.members) new.rrn new.slot
  pub alone : (other : ℕ) → other ≢ job → HoldsChange other (record_of new.opened new.rrn) s.locks → ⊥
  pub own : new.opened.commit ≡ false → AllByRecursion (IsNotOf new.opened.member new.rrn) (changes_in (job_of job (memory_of s)).cycle)

-- the job with the change in its commit cycle, where it is under commitment
abbrev pub put_cycle : Bool → MemberChange → CycleState → JobState → JobState
put_cycle true undo cycle job = with_cycle (noted undo cycle) job
put_cycle false undo cycle job = job

-- the change does it, and besides frees and keeps locks of the call, and changes opens of the job
pub record Puts (s : State) (c : Change) (job : ℕ) (call : Call) (new : NewSlot) : Type 0 where
  pub change : IsChange call
  pub members : c.memory.members ≡ (with_slot new.opened.member new.rrn new.slot (memory_of s)).members
  pub besides : JobState → JobState
  pub keeps : (j : JobState) → (besides j).cycle ≡ j.cycle
  pub jobs : c.memory.jobs
      ≡ job_changed (job - 1) (λ j. besides (put_cycle new.opened.commit (change_made (memory_of s) (job_of job (memory_of s)) new) (cycle_for (memory_of s) (job_of job (memory_of s))) j)) s.jobs
  pub locks : c.memory.locks ≡ locks_left call job new.opened new.rrn (memory_of s)
  pub author : Author
  pub entries : length c.entries ≡ length (drafts_of author (job_of job (memory_of s)) new (images_of new.opened.member (memory_of s)) (memory_of s))

-- ---- the memory with a change noted or not

pub jobs-put : (commit : Bool) (job : ℕ) (undo : MemberChange) (cycle : CycleState) (f : JobState → JobState) (m : Memory)
    → job_changed (job - 1) f (with_undo commit job undo cycle m).jobs ≡ job_changed (job - 1) (λ j. f (put_cycle commit undo cycle j)) m.jobs
jobs-put true job undo cycle f m = job_changed-twice (job - 1) (with_cycle (noted undo cycle)) f m.jobs
jobs-put false job undo cycle f m = refl

pub jobs-noted : (commit : Bool) (job : ℕ) (undo : MemberChange) (cycle : CycleState) (m : Memory)
    → (with_undo commit job undo cycle m).jobs ≡ job_changed (job - 1) (λ j. put_cycle commit undo cycle j) m.jobs
jobs-noted true job undo cycle m = refl
jobs-noted false job undo cycle m = sym (job_changed-none (job - 1) m.jobs)

pub members-noted : (commit : Bool) (job : ℕ) (undo : MemberChange) (cycle : CycleState) (m : Memory) → (with_undo commit job undo cycle m).members ≡ m.members
members-noted true job undo cycle m = refl
members-noted false job undo cycle m = refl

pub files-noted : (commit : Bool) (job : ℕ) (undo : MemberChange) (cycle : CycleState) (m : Memory) → (with_undo commit job undo cycle m).files ≡ m.files
files-noted true job undo cycle m = refl
files-noted false job undo cycle m = refl

pub gone-noted : (commit : Bool) (job : ℕ) (undo : MemberChange) (cycle : CycleState) (m : Memory) → (with_undo commit job undo cycle m).gone ≡ m.gone
gone-noted true job undo cycle m = refl
gone-noted false job undo cycle m = refl

pub last-noted : (commit : Bool) (job : ℕ) (undo : MemberChange) (cycle : CycleState) (m : Memory) → (with_undo commit job undo cycle m).last_entry ≡ m.last_entry
last-noted true job undo cycle m = refl
last-noted false job undo cycle m = refl

pub length-numbered : (first : ℕ) (drafts : List Draft) → length (numbered_from first drafts) ≡ length drafts
length-numbered first [] = refl
length-numbered first (draft ∷ drafts) = ap (λ n. suc n) (length-numbered (first + 1) drafts)

-- ---- the beginning of a commit cycle

pub undos-for : (m : Memory) (job : JobState) → (cycle_for m job).undos ≡ changes_in job.cycle
undos-for m job = by job.cycle
  where
    by : (o : Option CycleState) → (unwrap_or o (record { sequence = m.last_entry + 1; undos = [] })).undos ≡ changes_in o
    by None = refl
    by (Some cycle) = refl

begins : (author : Author) (job : JobState) (new : NewSlot) (images : Option Images) (m : Memory) → new.opened.commit ≡ true → IsSome images → job.cycle ≡ None
    → 1 ≤ length (drafts_of author job new images m)
begins author job new None m commit kept none = absurd (search rules)
begins author job new (Some images) m commit kept none = rw (commit, none) (omega arith)

begun-for : (o : Option CycleState) (last later : ℕ) → last ≤ later → IfSome o (λ cycle. cycle.sequence ≤ last) → (o ≡ None → last + 1 ≤ later)
    → (unwrap_or o (record { sequence = last + 1; undos = [] })).sequence ≤ later
begun-for None last later more begun new = new refl
begun-for (Some cycle) last later more begun new = omega (arith, more, begun)

-- ---- what is left of the commit cycles

module _ (s : State) (c : Change) (job : ℕ) (call : Call) (new : NewSlot) (sound : IsSound s) (asks : IsAsking s job) (may : MayPut s job new) (journal : IsJournaled s c)
    (puts : Puts s c job call new) where
  abbrev mine : JobState
  mine = job_of job (memory_of s)

  abbrev undo_made : MemberChange
  undo_made = change_made (memory_of s) (job_of job (memory_of s)) new

  not-of : (number : ℕ) (undos : List MemberChange) → number ≢ job → AllByRecursion (λ undo. HoldsChange number (changed_record undo) s.locks) undos
      → AllByRecursion (IsNotOf new.opened.member new.rrn) undos
  not-of number [] other all = tt
  not-of number (undo ∷ undos) other all =
      (λ member rrn. may.alone number other (subst (λ (at : RecordId). HoldsChange number at s.locks) (λ i. id_of (member i) (rrn i)) all.0), not-of number undos other all.1)

  alike-others : (undos : List MemberChange) → AllByRecursion (IsNotOf new.opened.member new.rrn) undos → AllByRecursion (Alike s.members c.memory.members) undos
  alike-others [] all = tt
  alike-others (undo ∷ undos) all =
      (ap (record_at undo.member undo.change.place) puts.members ∙ record-put_other undo.member new.opened.member undo.change.place new.rrn new.slot s.members all.0, alike-others undos all.1)

  locks-stay : (number : ℕ) → LocksStay s c number
  locks-stay number at holds =
      subst (HoldsChange number at) (sym puts.locks)
      (open-keeps call (level_of mine new.opened) (holder_of job new.opened) (record_of new.opened new.rrn) (is_committed mine) number at s.locks (change-open call puts.change) holds)

  -- ---- the change itself

  put-there : record_at new.opened.member (new.rrn - 1) c.memory.members ≡ Some new.slot
  put-there = ap (record_at new.opened.member (new.rrn - 1)) puts.members ∙ record-put_same new.opened.member new.rrn new.slot s.members may.there may.counted may.place

  under : new.opened.commit ≡ true → level_of mine new.opened ≡ None → ⊥
  under commit none =
      let level : mine.level ≡ None = sym (ap (λ b. if b then mine.level else None) commit) ∙ none in
      let outside : new.opened.commit ≡ false = may.commit ∙ named-each (λ (opened : OpenState). opened.commit ≡ false) may.name mine.opens may.opened (asks.stands.control.opens level) may.found in
      absurd cc

  locked-made : new.opened.commit ≡ true → HoldsChange job (changed_record undo_made) c.memory.locks
  locked-made commit =
      let first = may.counted in
      let turned : new.rrn ≡ new.rrn - 1 + 1 = omega (arith, first) in
      subst (λ (n : ℕ). HoldsChange job (id_of new.opened.member n) c.memory.locks) turned
      (subst (HoldsChange job (record_of new.opened new.rrn)) (sym puts.locks)
      (change-locks call (level_of mine new.opened) (holder_of job new.opened) (record_of new.opened new.rrn) (is_committed mine) s.locks puts.change (under commit)))

  begun-made : new.opened.commit ≡ true → (cycle_for (memory_of s) mine).sequence ≤ (memory_of (after s c)).last_entry
  begun-made commit =
      let more = last-after s c journal in
      let count = puts.entries in
      let images : IsSome (images_of new.opened.member (memory_of s)) =
      each-among (λ (member : ℕ). IsSome (images_of member (memory_of s))) may.opened.members new.opened.member
      (named-each (λ (opened : OpenState). opened.commit ≡ true → AllByRecursion (λ (member : ℕ). IsSome (images_of member (memory_of s))) opened.members) may.name mine.opens may.opened
      asks.stands.journaled may.found (sym may.commit ∙ commit))
      may.among in
      begun-for mine.cycle (s.gone + length s.entries) (memory_of (after s c)).last_entry (omega (arith, more)) asks.stands.begun
      (λ none. let one = begins puts.author mine new (images_of new.opened.member (memory_of s)) (memory_of s) commit images none in omega (arith, more, count, one))

  -- the slot before it, where an earlier change of the record stands
  before-there : (slot : Slot) → record_at new.opened.member (new.rrn - 1) s.members ≡ Some slot → slot_there new.opened.member new.rrn (memory_of s) ≡ slot
  before-there slot there =
      let first = may.counted in
      let counted : (new.rrn == 0) ≡ false = grind (arith, nat_tests, first) in
      rw counted (ap (λ (o : Option Slot). unwrap_or o Deleted) there)

  back-there : (undo : MemberChange) → HoldsChange job (changed_record undo) s.locks → IsOfOne undo_made undo → Alike s.members (back undo_made c.memory.members) undo
  back-there undo holds one =
      let place = held_place (memory_of s) s.locks job (changed_record undo) sound.joint.locks holds in
      let long = place.there in
      let within = get-within (member_of undo.member s.members).slots undo.change.place (omega (arith, long)) in
      let here : record_at new.opened.member (new.rrn - 1) s.members ≡ Some within.0 = sym (λ i. record_at (one.0 i) (one.1 i) s.members) ∙ within.1 in
      (λ i. record_at (one.0 i) (one.1 i) (back undo_made c.memory.members)) ∙ back-same undo_made c.memory.members
      ∙ ap (option_map (λ old. slot_there new.opened.member new.rrn (memory_of s))) put-there ∙ ap Some (before-there within.0 here) ∙ sym within.1

  back-alike : (undo : MemberChange) → HoldsChange job (changed_record undo) s.locks → Alike s.members (back undo_made c.memory.members) undo
  back-alike undo holds =
      elim (one_or_two undo_made undo) [
        | inl one ↦ back-there undo holds one
        | inr two ↦ back-other undo_made undo c.memory.members two ∙ ap (record_at undo.member undo.change.place) puts.members
            ∙ record-put_other undo.member new.opened.member undo.change.place new.rrn new.slot s.members (λ member rrn. two member (omega (arith, rrn)))
      ]

  all-back : (undos : List MemberChange) → AllByRecursion (λ undo. HoldsChange job (changed_record undo) s.locks) undos
      → AllByRecursion (Alike s.members (back undo_made c.memory.members)) undos
  all-back [] all = tt
  all-back (undo ∷ undos) all = (back-alike undo all.0, all-back undos all.1)

  -- ---- the job's own commit cycle

  own-cycle : (later : JobState) (commit : Bool) → new.opened.commit ≡ commit → later ≡ puts.besides (put_cycle new.opened.commit undo_made (cycle_for (memory_of s) mine) mine)
      → CycleAfter s c job mine later
  own-cycle later false commit is =
      inr (inl (record {
        same = ap (λ (j : JobState). j.cycle) is ∙ puts.keeps (put_cycle new.opened.commit undo_made (cycle_for (memory_of s) mine) mine)
            ∙ ap (λ b. (put_cycle b undo_made (cycle_for (memory_of s) mine) mine).cycle) commit;
        locks = locks-stay job;
        records = alike-others (changes_in mine.cycle) (may.own commit);
      }))
  own-cycle later true commit is =
      inr (inr (record {
        undo = undo_made;
        cycle = cycle_for (memory_of s) mine;
        more = ap (λ (j : JobState). j.cycle) is ∙ puts.keeps (put_cycle new.opened.commit undo_made (cycle_for (memory_of s) mine) mine)
            ∙ ap (λ b. (put_cycle b undo_made (cycle_for (memory_of s) mine) mine).cycle) commit;
        before = undos-for (memory_of s) mine;
        begun = begun-made commit;
        locks = locks-stay job;
        locked = locked-made commit;
        made = slot_of-get (member_of new.opened.member c.memory.members).slots (new.rrn - 1) ∙ ap (λ (o : Option Slot). unwrap_or o Deleted) put-there;
        records = all-back (changes_in mine.cycle) asks.stands.locked;
      }))

  pub put-cycles : HaveCycles s c
  put-cycles at later here =
      let was = was_there (job - 1) (λ j. puts.besides (put_cycle new.opened.commit undo_made (cycle_for (memory_of s) mine) j)) s.jobs at later
      (subst (λ (js : List JobState). slice_get js at ≡ Some later) puts.jobs here) in
      by was.old was.there was.which
    where
      by : (old : JobState) → slice_get s.jobs at ≡ Some old
          → ((at ≡ job - 1) × (later ≡ puts.besides (put_cycle new.opened.commit undo_made (cycle_for (memory_of s) mine) old))) ⊎ ((at ≢ job - 1) × (later ≡ old)) → HasCycle s c at later
      by old there (inl its) =
          let first = asks.first in
          let place : at ≡ job - 1 = its.0 in
          let number : job ≡ at + 1 = omega (arith, first, place) in
          let was : old ≡ mine = some-equal (sym there ∙ ap (slice_get s.jobs) place ∙ asks.there) in
          let is : later ≡ puts.besides (put_cycle new.opened.commit undo_made (cycle_for (memory_of s) mine) mine) =
          its.1 ∙ ap (λ (j : JobState). puts.besides (put_cycle new.opened.commit undo_made (cycle_for (memory_of s) mine) j)) was in
          record {
            old = mine;
            there = ap (slice_get s.jobs) place ∙ asks.there;
            cycle = subst (λ (n : ℕ). CycleAfter s c n mine later) number (own-cycle later new.opened.commit refl is);
          }
      by old there (inr other) =
          let place : at ≢ job - 1 = other.0 in
          let apart : at + 1 ≢ job = λ same. place (omega (arith, same)) in
          record {
            old = old;
            there = there;
            cycle = inr (inl (record {
              same = ap (λ (j : JobState). j.cycle) other.1;
              locks = locks-stay (at + 1);
              records = alike-others (changes_in old.cycle) (not-of (at + 1) (changes_in old.cycle) apart (sound.joint.jobs at old there).locked);
            }));
          }
