-- What a change leaves of the open commit cycle of each job: it has ended, stands as it was, or has one change more.
use Rattle.std.proofs.Common.{◌≡◌, ◌≢◌, ◌⊎◌, inl, inr, ◌∙◌, ℕ, ◌+◌, ◌-◌, ◌≤◌, List, [], ◌∷◌, length, slice_get, Option, Some, None, IfSome, subst, refl, sym, ap, arith}
use Rattle.std.specs.List.{AllByRecursion}
use Rattle.lock_table.specs.declared.lock.RecordId.{RecordId}
use Rattle.lock_table.specs.Table.{HoldsChange}
use Rattle.member_slots.specs.Members.{member_of}
use Rattle.journal_model.specs.Places.{slot_of}
use Rattle.journal_model.specs.Rollback.{MemberChange}
use Rattle.library_steps.specs.State.{State, CycleState, JobState, memory_of, job_changed}
use Rattle.library_steps.specs.Change.{Change}
use Rattle.library_steps.specs.SlotChange.{noted}
use Rattle.library_steps.specs.Uses.{changes_in}
use Rattle.joint_state.specs.Cycles.{ChangesAreLocked, StandAsMade, HasBegun}
use Rattle.joint_state.specs.Joint.{IsJoint}
use Rattle.joint_state.specs.Sound.{after}
use Rattle.cycles_kept.proofs.JobLemmas.{was_there}
use Rattle.cycles_kept.proofs.JournalLemmas.{IsJournaled, last-after}
use Rattle.cycles_kept.proofs.StandLemmas.{Alike, alike-same, back, stand-alike}

-- a record as a lock names it
abbrev pub id_of : (member rrn : ℕ) → RecordId
id_of member rrn = record { member = member; rrn = rrn }

-- that of a change
abbrev pub changed_record : MemberChange → RecordId
changed_record undo = id_of undo.member (undo.change.place + 1)

-- the change locks of a job are still held
abbrev pub LocksStay : State → Change → ℕ → Type 0
LocksStay s c number = (at : RecordId) → HoldsChange number at s.locks → HoldsChange number at c.memory.locks

pub record IsSpared (s : State) (c : Change) (number : ℕ) (old new : JobState) : Type 0 where
  pub same : new.cycle ≡ old.cycle
  pub locks : LocksStay s c number
  pub records : AllByRecursion (Alike s.members c.memory.members) (changes_in old.cycle)

pub record IsNoted (s : State) (c : Change) (number : ℕ) (old new : JobState) : Type 0 where
  pub undo : MemberChange
  pub cycle : CycleState
  pub more : new.cycle ≡ Some (noted undo cycle)
  pub before : cycle.undos ≡ changes_in old.cycle
  pub begun : cycle.sequence ≤ (memory_of (after s c)).last_entry
  pub locks : LocksStay s c number
  pub locked : HoldsChange number (changed_record undo) c.memory.locks
  pub made : slot_of (member_of undo.member c.memory.members).slots undo.change.place ≡ undo.change.after
  pub records : AllByRecursion (Alike s.members (back undo c.memory.members)) (changes_in old.cycle)

abbrev pub CycleAfter : State → Change → ℕ → JobState → JobState → Type 0
CycleAfter s c number old new = (new.cycle ≡ None) ⊎ (IsSpared s c number old new ⊎ IsNoted s c number old new)

pub record HasCycle (s : State) (c : Change) (place : ℕ) (new : JobState) : Type 0 where
  pub old : JobState
  pub there : slice_get s.jobs place ≡ Some old
  pub cycle : CycleAfter s c (place + 1) old new

abbrev pub HaveCycles : State → Change → Type 0
HaveCycles s c = (place : ℕ) (new : JobState) → slice_get c.memory.jobs place ≡ Some new → HasCycle s c place new

-- ---- it follows that it began, that its records are locked, and that its changes stand

begun-later : (cycle : Option CycleState) (last later : ℕ) → last ≤ later → IfSome cycle (λ c. c.sequence ≤ last) → IfSome cycle (λ c. c.sequence ≤ later)
begun-later None last later more begun = tt
begun-later (Some cycle) last later more begun = omega (arith, more, begun)

module _ (s : State) (c : Change) (journal : IsJournaled s c) (joint : IsJoint s) (cycles : HaveCycles s c) where
  pub begun-after : (place : ℕ) (job : JobState) → slice_get (after s c).jobs place ≡ Some job → HasBegun (memory_of (after s c)) job
  begun-after place job here = let had = cycles place job here in by had.old had.there had.cycle
    where
      last : ℕ
      last = (memory_of (after s c)).last_entry

      by : (old : JobState) → slice_get s.jobs place ≡ Some old → CycleAfter s c (place + 1) old job → IfSome job.cycle (λ cycle. cycle.sequence ≤ (memory_of (after s c)).last_entry)
      by old there (inl ended) = subst (λ (o : Option CycleState). IfSome o (λ cycle. cycle.sequence ≤ (memory_of (after s c)).last_entry)) (sym ended) tt
      by old there (inr (inl spared)) =
          let more = last-after s c journal in
          subst (λ (o : Option CycleState). IfSome o (λ cycle. cycle.sequence ≤ (memory_of (after s c)).last_entry)) (sym spared.same)
          (begun-later old.cycle (s.gone + length s.entries) (memory_of (after s c)).last_entry (omega (arith, more)) (joint.jobs place old there).begun)
      by old there (inr (inr one)) = subst (λ (o : Option CycleState). IfSome o (λ cycle. cycle.sequence ≤ (memory_of (after s c)).last_entry)) (sym one.more) one.begun

  locked-all : (number : ℕ) (undos : List MemberChange) → LocksStay s c number → AllByRecursion (λ undo. HoldsChange number (changed_record undo) s.locks) undos
      → AllByRecursion (λ undo. HoldsChange number (changed_record undo) c.memory.locks) undos
  locked-all number [] stay all = tt
  locked-all number (undo ∷ undos) stay all = (stay (changed_record undo) all.0, locked-all number undos stay all.1)

  pub locked-after : (place : ℕ) (job : JobState) → slice_get (after s c).jobs place ≡ Some job → ChangesAreLocked (memory_of (after s c)) (place + 1) job
  locked-after place job here = let had = cycles place job here in by had.old had.there had.cycle
    where
      by : (old : JobState) → slice_get s.jobs place ≡ Some old → CycleAfter s c (place + 1) old job
          → AllByRecursion (λ undo. HoldsChange (place + 1) (changed_record undo) c.memory.locks) (changes_in job.cycle)
      by old there (inl ended) = subst (λ (o : Option CycleState). AllByRecursion (λ undo. HoldsChange (place + 1) (changed_record undo) c.memory.locks) (changes_in o)) (sym ended) tt
      by old there (inr (inl spared)) =
          subst (λ (o : Option CycleState). AllByRecursion (λ undo. HoldsChange (place + 1) (changed_record undo) c.memory.locks) (changes_in o)) (sym spared.same)
          (locked-all (place + 1) (changes_in old.cycle) spared.locks (joint.jobs place old there).locked)
      by old there (inr (inr one)) =
          subst (λ (o : Option CycleState). AllByRecursion (λ undo. HoldsChange (place + 1) (changed_record undo) c.memory.locks) (changes_in o)) (sym one.more) (
            one.locked,
            subst (λ (us : List MemberChange). AllByRecursion (λ undo. HoldsChange (place + 1) (changed_record undo) c.memory.locks) us) (sym one.before)
                (locked-all (place + 1) (changes_in old.cycle) one.locks (joint.jobs place old there).locked),
          )

  pub made-after : (place : ℕ) (job : JobState) → slice_get (after s c).jobs place ≡ Some job → StandAsMade (changes_in job.cycle) (after s c).members
  made-after place job here = let had = cycles place job here in by had.old had.there had.cycle
    where
      by : (old : JobState) → slice_get s.jobs place ≡ Some old → CycleAfter s c (place + 1) old job → StandAsMade (changes_in job.cycle) c.memory.members
      by old there (inl ended) = subst (λ (o : Option CycleState). StandAsMade (changes_in o) c.memory.members) (sym ended) tt
      by old there (inr (inl spared)) =
          subst (λ (o : Option CycleState). StandAsMade (changes_in o) c.memory.members) (sym spared.same)
          (stand-alike (changes_in old.cycle) s.members c.memory.members spared.records (joint.jobs place old there).made)
      by old there (inr (inr one)) =
          subst (λ (o : Option CycleState). StandAsMade (changes_in o) c.memory.members) (sym one.more) (
            one.made,
            subst (λ (us : List MemberChange). StandAsMade us (back one.undo c.memory.members)) (sym one.before)
                (stand-alike (changes_in old.cycle) s.members (back one.undo c.memory.members) one.records (joint.jobs place old there).made),
          )

-- ---- changes that note nothing

-- one job is changed and keeps its commit cycle, and no member is
pub besides : (s : State) (c : Change) (place : ℕ) (f : JobState → JobState) → c.memory.jobs ≡ job_changed place f s.jobs → ((j : JobState) → (f j).cycle ≡ j.cycle)
    → c.memory.members ≡ s.members → ((number : ℕ) → LocksStay s c number) → HaveCycles s c
besides s c place f jobs keeps members locks at new here =
    let was = was_there place f s.jobs at new (subst (λ (js : List JobState). slice_get js at ≡ Some new) jobs here) in
    record {
      old = was.old;
      there = was.there;
      cycle = inr (inl (record { same = by was.old was.which; locks = locks (at + 1); records = alike-same (changes_in was.old.cycle) s.members c.memory.members members }));
    }
  where
    by : (old : JobState) → ((at ≡ place) × (new ≡ f old)) ⊎ ((at ≢ place) × (new ≡ old)) → new.cycle ≡ old.cycle
    by old (inl its) = ap (λ (j : JobState). j.cycle) its.1 ∙ keeps old
    by old (inr other) = ap (λ (j : JobState). j.cycle) other.1

-- the commit cycle of one job has ended, and of others nothing has changed
pub ends : (s : State) (c : Change) (job : ℕ) (f : JobState → JobState) → 1 ≤ job → c.memory.jobs ≡ job_changed (job - 1) f s.jobs
    → ((j : JobState) → slice_get s.jobs (job - 1) ≡ Some j → (f j).cycle ≡ None) → ((number : ℕ) → number ≢ job → LocksStay s c number)
    → ((place : ℕ) (old : JobState) → slice_get s.jobs place ≡ Some old → place + 1 ≢ job → AllByRecursion (Alike s.members c.memory.members) (changes_in old.cycle))
    → HaveCycles s c
ends s c job f first jobs ended locks records at new here =
    let was = was_there (job - 1) f s.jobs at new (subst (λ (js : List JobState). slice_get js at ≡ Some new) jobs here) in
    record { old = was.old; there = was.there; cycle = by was.old was.there was.which }
  where
    by : (old : JobState) → slice_get s.jobs at ≡ Some old → ((at ≡ job - 1) × (new ≡ f old)) ⊎ ((at ≢ job - 1) × (new ≡ old)) → CycleAfter s c (at + 1) old new
    by old there (inl its) = inl (ap (λ (j : JobState). j.cycle) its.1 ∙ ended old (subst (λ (n : ℕ). slice_get s.jobs n ≡ Some old) its.0 there))
    by old there (inr other) =
        let apart : at + 1 ≢ job = λ same. other.0 (omega (arith, same)) in
        inr (inl (record { same = ap (λ (j : JobState). j.cycle) other.1; locks = locks (at + 1) apart; records = records at old there apart }))

-- no job is changed and no lock, and no slot that an open commit cycle has changed
pub elsewhere : (s : State) (c : Change) → c.memory.jobs ≡ s.jobs → c.memory.locks ≡ s.locks
    → ((place : ℕ) (old : JobState) → slice_get s.jobs place ≡ Some old → AllByRecursion (Alike s.members c.memory.members) (changes_in old.cycle)) → HaveCycles s c
elsewhere s c jobs locks records at new here =
    let there : slice_get s.jobs at ≡ Some new = subst (λ (js : List JobState). slice_get js at ≡ Some new) jobs here in
    record {
      old = new;
      there = there;
      cycle = inr (inl (record { same = refl; locks = λ id holds. subst (HoldsChange (at + 1) id) (sym locks) holds; records = records at new there }));
    }

-- nothing of all this
pub untouched : (s : State) (c : Change) → c.memory.jobs ≡ s.jobs → c.memory.locks ≡ s.locks → c.memory.members ≡ s.members → HaveCycles s c
untouched s c jobs locks members = elsewhere s c jobs locks (λ place old there. alike-same (changes_in old.cycle) s.members c.memory.members members)
