-- A member that no job uses has no open over it and no lock.
use Rattle.std.proofs.Common.{◌≡◌, ℕ, zero, suc, ◌+◌, ◌-◌, ◌<◌, ◌==◌, ◌&&◌, ◌||◌, Bool, true, false, if◌then◌else◌, length, List, [], ◌∷◌, Some, None, slice_get, refl, sym, ◌∙◌, ap, subst, arith}
use Rattle.std.specs.List.{AllByRecursion, list_any}
use Rattle.joint_state.specs.Jobs.{HasBegun}
use Rattle.lock_table.specs.declared.lock.Lock.{Lock}
use Rattle.lock_table.specs.Lock.{is_open, is_boundary_in}
use Rattle.library_steps.specs.State.{Memory, OpenState, JobState, job_of, or_new}
use Rattle.library_steps.specs.Uses.{first_job, user_of, uses, has_open_over, has_changed, has_boundary_lock}
use Rattle.joint_state.specs.Lawful.{OpenHolds, OpensHold}
use Rattle.joint_state.proofs.BackLemmas.{neither}
use Rattle.joint_state.specs.Locks.{LockStands, is_through}
use Rattle.locks_kept.proofs.JobLemmas.{job_at-place}
use Rattle.locks_kept.proofs.ListLemmas.{any-wider_of, at-place}
use Rattle.locks_kept.proofs.OpenedMembers.{covered}
use Rattle.locks_kept.proofs.TestLemmas.{and-parts, number-is, number-same}

first_job-none : (test : ℕ → JobState → Bool) (number : ℕ) (jobs : List JobState) → first_job test number jobs ≡ None → (place : ℕ) (job : JobState) → slice_get jobs place ≡ Some job
    → test (number + place) job ≡ false
first_job-none test number [] none place job at = absurd cc
first_job-none test number (first ∷ jobs) none place job at =
    elim (test number first) as (λ b. test number first ≡ b → (if b then Some number else first_job test (number + 1) jobs) ≡ None → test (number + place) job ≡ false) [
      | true ↦ λ e h. absurd cc
      | false ↦ λ e h. by place at e (λ k. first_job-none test (number + 1) jobs h k job)
    ] refl none
  where
    by : (k : ℕ) → slice_get (first ∷ jobs) k ≡ Some job → test number first ≡ false → ((n : ℕ) → slice_get jobs n ≡ Some job → test (number + 1 + n) job ≡ false)
        → test (number + k) job ≡ false
    by zero is e rest = let same : first ≡ job = cc in let here : number + zero ≡ number = omega arith in ap (λ n. test n job) here ∙ ap (test number) (sym same) ∙ e
    by (suc k) is e rest = let one : number + suc k ≡ number + 1 + k = omega arith in ap (λ n. test n job) one ∙ rest k is

-- no job has an open over the member, or a lock there that is kept to its boundary
pub record IsUnused (member : ℕ) (m : Memory) (number : ℕ) (job : JobState) : Type 0 where
  pub opens : has_open_over member job ≡ false
  pub locks : has_boundary_lock member number m.locks ≡ false

pub unused-job : (m : Memory) (member place : ℕ) (job : JobState) → user_of member m ≡ None → slice_get m.jobs place ≡ Some job → IsUnused member m (place + 1) job
unused-job m member place job free at =
    let all : uses member m.locks (1 + place) job ≡ false = first_job-none (uses member m.locks) 1 m.jobs free place job at in
    let outer = neither (has_open_over member job || has_changed member job) (has_boundary_lock member (1 + place) m.locks) all in
    let inner = neither (has_open_over member job) (has_changed member job) outer.0 in
    let same : 1 + place ≡ place + 1 = omega arith in
    record { opens = inner.0; locks = subst (λ n. has_boundary_lock member n m.locks ≡ false) same outer.1 }

get-there : {X : Type 0} (xs : List X) (place : ℕ) → place < length xs → (x : X) × (slice_get xs place ≡ Some x)
get-there [] place within = absurd (omega (arith, within))
get-there (x ∷ xs) zero within = (x, refl)
get-there (x ∷ xs) (suc place) within = get-there xs place (omega (arith, within))

-- so none of its locks stands there
pub used-by : (m : Memory) (l : Lock) → AllByRecursion (OpensHold m.files) m.jobs → LockStands m l → HasBegun (length m.jobs) l.job
    → ((test : Lock → Bool) → test l ≡ true → list_any test m.locks ≡ true) → user_of l.at.member m ≡ None → ⊥
used-by m l held stands begun there free = by (get-there m.jobs (l.job - 1) within)
  where
    within : l.job - 1 < length m.jobs
    within = let first = begun.first in let last = begun.last in omega (arith, first, last)

    back : l.job - 1 + 1 ≡ l.job
    back = let first = begun.first in omega (arith, first)

    through-over : (o : OpenState) → OpenHolds m.files o → is_through l o ≡ true → list_any (λ base. base == l.at.member) o.members ≡ true
    through-over o holds through =
        let same : o.member ≡ l.at.member = number-is o.member l.at.member (and-parts (o.number == l.opened) (o.member == l.at.member) through).1 in
        subst (λ n. list_any (λ base. base == n) o.members ≡ true) same (covered m.files o holds)

    contrary : (a : Bool) → a ≡ true → a ≡ false → ⊥
    contrary true e h = absurd cc
    contrary false e h = absurd cc

    by : (job : JobState) × (slice_get m.jobs (l.job - 1) ≡ Some job) → ⊥
    by found =
        let unused = unused-job m l.at.member (l.job - 1) found.0 free found.1 in
        let its : job_of l.job m ≡ found.0 = ap or_new (job_at-place l.job m.jobs begun.first ∙ found.1) in
        elim (is_open l.reach) as (λ b. is_open l.reach ≡ b → ⊥) [
          | true ↦ λ ends. contrary (has_open_over l.at.member found.0)
              (any-wider_of (λ (e : List ℕ × OpenState). OpenHolds m.files e.1) (λ e. is_through l e.1) (λ e. list_any (λ base. base == l.at.member) e.1.members) found.0.opens
              (λ e holds through. through-over e.1 holds through) (at-place (OpensHold m.files) m.jobs (l.job - 1) found.0 found.1 held)
              (subst (λ (j : JobState). list_any (λ (e : List ℕ × OpenState). is_through l e.1) j.opens ≡ true) its (stands.opened ends))) unused.opens
          | false ↦ λ kept. contrary (has_boundary_lock l.at.member l.job m.locks)
              (there (λ lock. (lock.job == l.job) && is_boundary_in l.at.member lock) (rw (number-same l.job l.job refl, number-same l.at.member l.at.member refl, kept) refl))
              (subst (λ n. has_boundary_lock l.at.member n m.locks ≡ false) back unused.locks)
        ] refl
