-- Changes of commit cycles can still be taken back after whatever leaves their members and places.
use Rattle.std.proofs.Common.{◌≡◌, ◌≢◌, inl, inr, ℕ, zero, suc, ◌+◌, ◌-◌, ◌<◌, ◌≤◌, ◌==◌, ◌||◌, if◌then◌else◌, Bool, true, false, List, [], ◌∷◌, length, Option, Some, None, is_some, unwrap_or, slice_get, subst, refl, sym, ◌∙◌, ap, arith}
use Rattle.std.specs.List.{AllByRecursion, list_any}
use Rattle.std.proofs.lemmas.Bool.{cases_eq}
use Rattle.std.proofs.lemmas.Bool.Decides.{nat_tests}
use Rattle.member_slots.specs.Member.{MemberState, FitsSlot, empty_member}
use Rattle.member_slots.specs.Members.{NumberedMembers, member_at, member_of, with_member}
use Rattle.library_steps.specs.Replay.{before_of}
use Rattle.library_steps.specs.Rollback.{MemberChange}
use Rattle.lawful_states.specs.Owners.{Owns}
use Rattle.lawful_states.specs.Jobs.{cycle_from}
use Rattle.library_steps.below.lock_table.specs.declared.lock.Lock.{Lock}
use Rattle.library_steps.specs.Named.{Named}
use Rattle.library_steps.specs.State.{FileState, CycleState, JobState, job_at, or_new, fields_of}
use Rattle.library_steps.specs.SlotChange.{noted}
use Rattle.library_steps.specs.Uses.{first_job, changes_in, has_open_over, has_changed, has_boundary_lock, uses}
use Rattle.lawful_states.specs.Lawful.{HoldsValues, FitsPlace, GoesBack, CycleGoesBack, AllGoBack}
use Rattle.lawful_states.proofs.MemberLemmas.{item_at-with_item_other, item_at-with_item_same}

-- ---- one change

-- the member is as it was
pub FitsPlace-same : (members after : NumberedMembers) (undo : MemberChange) → member_at undo.member after ≡ member_at undo.member members → FitsPlace members undo → FitsPlace after undo
FitsPlace-same members after undo same fits = record {
  there = subst (λ (o : Option MemberState). is_some o ≡ true) (sym same) fits.there;
  place = subst (λ (o : Option MemberState). undo.change.place < length (unwrap_or o (empty_member 0)).slots) (sym same) fits.place;
  fits = subst (λ (o : Option MemberState). FitsSlot (unwrap_or o (empty_member 0)).record_length (before_of undo.change)) (sym same) fits.fits;
}

-- a member has other slots of the same length, and no fewer
pub FitsPlace-with : (members : NumberedMembers) (number : ℕ) (member : MemberState) (undo : MemberChange) → member.record_length ≡ (member_of number members).record_length
    → length (member_of number members).slots ≤ length member.slots → FitsPlace members undo → FitsPlace (with_member number member members) undo
FitsPlace-with members number member undo long more fits =
    elim (cases_eq undo.member number) [
      | inl same ↦ (
          let before : is_some (member_at number members) ≡ true = subst (λ (n : ℕ). is_some (member_at n members) ≡ true) same fits.there in
          let here : member_at undo.member (with_member number member members) ≡ Some member = ap (λ (n : ℕ). member_at n (with_member number member members)) same
          ∙ item_at-with_item_same number member members before in
          let place : undo.change.place < length (member_of number members).slots = subst (λ (n : ℕ). undo.change.place < length (member_of n members).slots) same fits.place in
          let slot : FitsSlot (member_of number members).record_length (before_of undo.change) =
          subst (λ (n : ℕ). FitsSlot (member_of n members).record_length (before_of undo.change)) same fits.fits in
          record {
            there = ap (λ (o : Option MemberState). is_some o) here;
            place = subst (λ (o : Option MemberState). undo.change.place < length (unwrap_or o (empty_member 0)).slots) (sym here) (omega (arith, place, more));
            fits = subst (λ (o : Option MemberState). FitsSlot (unwrap_or o (empty_member 0)).record_length (before_of undo.change)) (sym here)
                (subst (λ (n : ℕ). FitsSlot n (before_of undo.change)) (sym long) slot);
          })
      | inr differ ↦ FitsPlace-same members (with_member number member members) undo (item_at-with_item_other undo.member number member members differ) fits
    ]

pub GoesBack-place : (files : Named FileState) (members after : NumberedMembers) (sequence : ℕ) (undo : MemberChange) → (FitsPlace members undo → FitsPlace after undo)
    → GoesBack files members sequence undo → GoesBack files after sequence undo
GoesBack-place files members after sequence undo kept back = record { cycle = back.cycle; place = kept back.place; values = back.values }

pub GoesBack-values : (files others : Named FileState) (members : NumberedMembers) (sequence : ℕ) (undo : MemberChange)
    → ((name : List ℕ) (file : FileState) → Owns others name file undo.member → HoldsValues (fields_of file) (before_of undo.change))
    → GoesBack files members sequence undo → GoesBack others members sequence undo
GoesBack-values files others members sequence undo values back = record { cycle = back.cycle; place = back.place; values = values }

-- ---- those of all jobs

module _ (files others : Named FileState) (members after : NumberedMembers) (each : (sequence : ℕ) (undo : MemberChange) → GoesBack files members sequence undo → GoesBack others after sequence undo) where
  pub undos-each : (sequence : ℕ) (undos : List MemberChange) → AllByRecursion (GoesBack files members sequence) undos → AllByRecursion (GoesBack others after sequence) undos
  undos-each sequence [] all = tt
  undos-each sequence (undo ∷ undos) all = (each sequence undo all.0, undos-each sequence undos all.1)

  cycle-each : (cycle : Option CycleState) → CycleGoesBack files members cycle → CycleGoesBack others after cycle
  cycle-each None back = tt
  cycle-each (Some cycle) back = undos-each cycle.sequence cycle.undos back

  pub AllGoBack-each : (jobs : List JobState) → AllGoBack files members jobs → AllGoBack others after jobs
  AllGoBack-each [] all = tt
  AllGoBack-each (job ∷ jobs) all = (cycle-each job.cycle all.0, AllGoBack-each jobs all.1)

-- ---- those of jobs that have changed nothing of what goes

pub neither : (a b : Bool) → (a || b) ≡ false → (a ≡ false) × (b ≡ false)
neither true b none = absurd cc
neither false b none = (refl, none)

-- a job that doesn't use a member hasn't changed it
pub unused-unchanged : (member number : ℕ) (locks : List Lock) (job : JobState) → uses member locks number job ≡ false → has_changed member job ≡ false
unused-unchanged member number locks job unused =
    (neither (has_open_over member job) (has_changed member job) (neither (has_open_over member job || has_changed member job) (has_boundary_lock member number locks) unused).0).1

module _ (files others : Named FileState) (members after : NumberedMembers) (gone : MemberChange → Bool)
    (each : (sequence : ℕ) (undo : MemberChange) → gone undo ≡ false → GoesBack files members sequence undo → GoesBack others after sequence undo) where
  undos-kept : (sequence : ℕ) (undos : List MemberChange) → list_any gone undos ≡ false → AllByRecursion (GoesBack files members sequence) undos
      → AllByRecursion (GoesBack others after sequence) undos
  undos-kept sequence [] none all = tt
  undos-kept sequence (undo ∷ undos) none all =
      let parts = neither (gone undo) (list_any gone undos) none in (each sequence undo parts.0 all.0, undos-kept sequence undos parts.1 all.1)

  cycle-kept : (cycle : Option CycleState) → list_any gone (changes_in cycle) ≡ false → CycleGoesBack files members cycle → CycleGoesBack others after cycle
  cycle-kept None none back = tt
  cycle-kept (Some cycle) none back = undos-kept cycle.sequence cycle.undos none back

  pub AllGoBack-kept : (test : ℕ → JobState → Bool) → ((number : ℕ) (job : JobState) → test number job ≡ false → list_any gone (changes_in job.cycle) ≡ false) → (number : ℕ) (jobs : List JobState)
      → first_job test number jobs ≡ None → AllGoBack files members jobs → AllGoBack others after jobs
  AllGoBack-kept test free number [] unused all = tt
  AllGoBack-kept test free number (job ∷ jobs) unused all =
      elim (test number job) as (λ b. test number job ≡ b → (if b then Some number else first_job test (number + 1) jobs) ≡ None → AllGoBack others after (job ∷ jobs)) [
        | true ↦ λ uses_one e. absurd cc
        | false ↦ λ none e. (cycle-kept job.cycle (free number job none) all.0, AllGoBack-kept test free (number + 1) jobs e all.1)
      ] refl unused

-- another member in place of one that no job uses
pub AllGoBack-unused : (files : Named FileState) (members : NumberedMembers) (number : ℕ) (member : MemberState) (locks : List Lock) (jobs : List JobState)
    → first_job (uses number locks) 1 jobs ≡ None → AllGoBack files members jobs → AllGoBack files (with_member number member members) jobs
AllGoBack-unused files members number member locks jobs unused all =
    AllGoBack-kept files files members (with_member number member members) (λ undo. undo.member == number)
    (λ sequence undo other back. (
    let differ : undo.member ≢ number = grind (arith, nat_tests) in
    GoesBack-place files members (with_member number member members) sequence undo
    (FitsPlace-same members (with_member number member members) undo (item_at-with_item_other undo.member number member members differ)) back))
    (uses number locks) (λ n job none. unused-unchanged number n locks job none) 1 jobs unused all

-- more slots of one member
pub AllGoBack-with : (files : Named FileState) (members : NumberedMembers) (number : ℕ) (member : MemberState) (jobs : List JobState) → member.record_length ≡ (member_of number members).record_length
    → length (member_of number members).slots ≤ length member.slots → AllGoBack files members jobs → AllGoBack files (with_member number member members) jobs
AllGoBack-with files members number member jobs long more all =
    AllGoBack-each files files members (with_member number member members)
    (λ sequence undo back. GoesBack-place files members (with_member number member members) sequence undo (FitsPlace-with members number member undo long more) back) jobs all

-- ---- the cycle of one job

back-at : (files : Named FileState) (members : NumberedMembers) (place : ℕ) (jobs : List JobState) → AllGoBack files members jobs → CycleGoesBack files members (or_new (slice_get jobs place)).cycle
back-at files members place [] all = tt
back-at files members zero (job ∷ jobs) all = all.0
back-at files members (suc place) (job ∷ jobs) all = back-at files members place jobs all.1

pub CycleGoesBack-of : (files : Named FileState) (members : NumberedMembers) (number : ℕ) (jobs : List JobState) → AllGoBack files members jobs
    → CycleGoesBack files members (or_new (job_at number jobs)).cycle
CycleGoesBack-of files members number jobs all =
    elim (number == 0) as (λ b. CycleGoesBack files members (or_new (if b then None else slice_get jobs (number - 1))).cycle) [
      | true ↦ tt
      | false ↦ back-at files members (number - 1) jobs all
    ]

-- with one change more
pub CycleGoesBack-noted : (files : Named FileState) (members : NumberedMembers) (sequence : ℕ) (cycle : Option CycleState) (undo : MemberChange) → CycleGoesBack files members cycle
    → GoesBack files members (cycle_from sequence cycle).sequence undo → CycleGoesBack files members (Some (noted undo (cycle_from sequence cycle)))
CycleGoesBack-noted files members sequence None undo back goes = (goes, tt)
CycleGoesBack-noted files members sequence (Some cycle) undo back goes = (goes, back)
