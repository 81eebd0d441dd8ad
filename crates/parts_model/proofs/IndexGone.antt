-- What no job uses goes: members with their bytes, and what is known of the jobs that use none of them.
use Rattle.std.proofs.Common.{ℕ, ◌+◌, ◌≡◌, ◌==◌, ◌||◌, if◌then◌else◌, Bool, true, false, cond, not, List, [], ◌∷◌, Some, None, refl, sym, ap, arith, ◌∙◌, subst}
use Rattle.std.specs.Prelude.{All}
use Rattle.std.specs.List.{AllByRecursion, list_any}
use Rattle.std.proofs.lemmas.Bool.{eqb-true}
use Rattle.std.proofs.lemmas.Bool.Decides.{nat_tests}
use Rattle.journal_model.specs.Rollback.{MemberChange}
use Rattle.lock_table.specs.declared.lock.Lock.{Lock}
use Rattle.member_slots.specs.Members.{Numbered, NumberedMembers, without_member}
use Rattle.path_set.specs.KeptPaths.{KeptPath, NumberedPaths, AreOver}
use Rattle.path_set.specs.MemberSteps.{is_over}
use Rattle.path_set.proofs.MemberStepLemmas.{over-others, same-without}
use Rattle.lawful_states.specs.Owners.{has_number}
use Rattle.lawful_states.proofs.StatusLemmas.{has_number-cons}
use Rattle.library_model.specs.Named.{Named}
use Rattle.library_steps.specs.DeleteFile.{without_members}
use Rattle.library_steps.specs.State.{MemberStatus, JobState}
use Rattle.library_steps.specs.Uses.{changes_in, first_job, has_boundary_lock, has_changed, has_open_over, uses}
use Rattle.parts_model.specs.Indexed.{AreOfBytes}
use Rattle.lawful_states.proofs.BackLemmas.{neither}
use Rattle.parts_model.proofs.IndexPaths.{OfChanges}
use Rattle.parts_model.proofs.IndexShared.{clash}

-- ---- paths over none of them

or-is : (a b : Bool) → b ≡ true → (a || b) ≡ true
or-is true b h = refl
or-is false b h = h

pub has-first : (entry : List ℕ × MemberStatus) (gone : Named MemberStatus) → has_number entry.1.number (entry ∷ gone) ≡ true
has-first entry gone =
    has_number-cons entry.1.number entry gone
    ∙ ap (λ (b : Bool). b || has_number entry.1.number gone) (let e : (entry.1.number == entry.1.number) ≡ true = grind (arith, nat_tests) in e)

pub has-later : (number : ℕ) (entry : List ℕ × MemberStatus) (gone : Named MemberStatus) → has_number number gone ≡ true → has_number number (entry ∷ gone) ≡ true
has-later number entry gone has = has_number-cons number entry gone ∙ or-is (entry.1.number == number) (has_number number gone) has

-- their entries are those that the members left give them
pub over-left : (gone : Named MemberStatus) (members : NumberedMembers) (paths : NumberedPaths)
    → All (λ (p : Numbered KeptPath). (number : ℕ) → has_number number gone ≡ true → is_over number p.item.spec ≡ false) paths → AreOver members paths → AreOver (without_members gone members) paths
over-left [] members paths apart over = over
over-left (entry ∷ gone) members paths apart over =
    over-left gone (without_member entry.1.number members) paths (λ k d low number has. apart k d low number (has-later number entry gone has))
    (over-others entry.1.number members (without_member entry.1.number members) paths (same-without entry.1.number members)
    (λ k d low. apart k d low entry.1.number (has-first entry gone)) over)

-- ---- members less

bytes-less : (number : ℕ) (members : NumberedMembers) → AreOfBytes members → AreOfBytes (without_member number members)
bytes-less number [] all = tt
bytes-less number (entry ∷ members) all =
    elim (not (entry.number == number)) as (λ b. AreOfBytes (cond b (entry ∷ without_member number members) (without_member number members))) [
      | true ↦ (all.0, bytes-less number members all.1)
      | false ↦ bytes-less number members all.1
    ]

pub bytes-left : (gone : Named MemberStatus) (members : NumberedMembers) → AreOfBytes members → AreOfBytes (without_members gone members)
bytes-left [] members all = all
bytes-left (entry ∷ gone) members all = bytes-left gone (without_member entry.1.number members) (bytes-less entry.1.number members all)

-- ---- no job uses them

-- what no job's test passes holds of each job
pub jobs-free : (P : JobState → Type 0) (test : ℕ → JobState → Bool) → ((number : ℕ) (job : JobState) → test number job ≡ false → P job) → (number : ℕ) (jobs : List JobState)
    → first_job test number jobs ≡ None → AllByRecursion P jobs
jobs-free P test each number [] none = tt
jobs-free P test each number (job ∷ jobs) none =
    elim (test number job) as (λ b. test number job ≡ b → (if b then Some number else first_job test (number + 1) jobs) ≡ None → AllByRecursion P (job ∷ jobs)) [
      | true ↦ λ is e. absurd cc
      | false ↦ λ is e. (each number job is, jobs-free P test each (number + 1) jobs e)
    ] refl none

-- a job that uses none of the members
pub record IsFree (gone : Named MemberStatus) (job : JobState) : Type 0 where
  pub opens : (member : ℕ) → has_number member gone ≡ true → has_open_over member job ≡ false
  pub changes : (member : ℕ) → has_number member gone ≡ true → has_changed member job ≡ false

pub is-free : (gone : Named MemberStatus) (locks : List Lock) (number : ℕ) (job : JobState) → list_any (λ (entry : List ℕ × MemberStatus). uses entry.1.number locks number job) gone ≡ false
    → IsFree gone job
is-free [] locks number job none = record { opens = λ member has. absurd (let e : false ≡ true = has in cc); changes = λ member has. absurd (let e : false ≡ true = has in cc) }
is-free (entry ∷ gone) locks number job none =
    let parts = neither (uses entry.1.number locks number job) (list_any (λ (e : List ℕ × MemberStatus). uses e.1.number locks number job) gone) none in
    let both = neither (has_open_over entry.1.number job || has_changed entry.1.number job) (has_boundary_lock entry.1.number number locks) parts.0 in
    let own = neither (has_open_over entry.1.number job) (has_changed entry.1.number job) both.0 in
    let rest = is-free gone locks number job parts.1 in
    record {
      opens = λ member has. elim (entry.1.number == member) as (λ b. (entry.1.number == member) ≡ b → (b || has_number member gone) ≡ true → has_open_over member job ≡ false) [
        | true ↦ λ same h. subst (λ (n : ℕ). has_open_over n job ≡ false) (eqb-true entry.1.number member same) own.0
        | false ↦ λ differs h. rest.opens member h
      ] refl (sym (has_number-cons member entry gone) ∙ has);
      changes = λ member has. elim (entry.1.number == member) as (λ b. (entry.1.number == member) ≡ b → (b || has_number member gone) ≡ true → has_changed member job ≡ false) [
        | true ↦ λ same h. subst (λ (n : ℕ). has_changed n job ≡ false) (eqb-true entry.1.number member same) own.1
        | false ↦ λ differs h. rest.changes member h
      ] refl (sym (has_number-cons member entry gone) ∙ has);
    }

-- no change of such jobs is of one of the members
pub changes-free : (gone : Named MemberStatus) (jobs : List JobState) → AllByRecursion (IsFree gone) jobs → OfChanges (λ undo. has_number undo.member gone ≡ false) jobs
changes-free gone [] all = tt
changes-free gone (job ∷ jobs) all = (those (changes_in job.cycle) (λ member has. all.0.changes member has), changes-free gone jobs all.1)
  where
    those : (undos : List MemberChange) → ((member : ℕ) → has_number member gone ≡ true → list_any (λ (undo : MemberChange). undo.member == member) undos ≡ false)
        → AllByRecursion (λ (undo : MemberChange). has_number undo.member gone ≡ false) undos
    those [] none = tt
    those (undo ∷ undos) none = (
      elim (has_number undo.member gone) as (λ b. has_number undo.member gone ≡ b → b ≡ false) [
        | true ↦ λ has. absurd (clash (let e : (undo.member == undo.member) ≡ true = grind (arith, nat_tests) in e)
            (neither (undo.member == undo.member) (list_any (λ (u : MemberChange). u.member == undo.member) undos) (none undo.member has)).0)
        | false ↦ λ absent. refl
      ] refl,
      those undos (λ member has. (neither (undo.member == member) (list_any (λ (u : MemberChange). u.member == member) undos) (none member has)).1),
    )
