-- The first job of which one of two tests holds is the lesser of the first jobs of which each holds; and who keeps a lock in a member is the least of its holders.
use Rattle.std.proofs.Common.{◌≡◌, ℕ, suc, All, subst, ◌+◌, ◌<◌, ◌≤◌, ◌==◌, ◌||◌, ◌&&◌, min, Bool, true, false, if◌then◌else◌, Option, Some, None, List, [], ◌∷◌, length, filter, refl, sym, ◌∙◌, ap, arith}
use Rattle.std.specs.List.{list_any}
use Rattle.std.specs.Option.{option_map_or}
use Rattle.std.proofs.lemmas.Bool.Decides.{nat_tests}
use Rattle.std.proofs.lemmas.List.Elements.{All-filter}
use Rattle.lock_table.specs.declared.lock.Lock.{Lock}
use Rattle.lock_table.specs.Lock.{is_boundary_in}
use Rattle.lock_table.specs.Table.{least_job}
use Rattle.library_model.specs.Named.{Named}
use Rattle.lawful_states.specs.State.{MemberStatus, JobState}
use Rattle.lawful_states.specs.Checkpoint.{lesser}
use Rattle.lawful_states.specs.Uses.{first_job, has_boundary_lock, has_changed, has_open_of, uses}
use Rattle.lawful_states.specs.Jobs.{HasBegun, AreOfJobs}
use Rattle.job_table.specs.Users.{has_in_use, first_changer, first_opener, first_user, least_of_members}

-- a number that is there is no less
abbrev IsFrom : ℕ → Option ℕ → Type 0
IsFrom low None = Unit {0}
IsFrom low (Some n) = low ≤ n

-- ---- the first of two

first_job-from : (test : ℕ → JobState → Bool) (number low : ℕ) (jobs : List JobState) → low ≤ number → IsFrom low (first_job test number jobs)
first_job-from test number low [] from = tt
first_job-from test number low (job ∷ jobs) from =
    elim (test number job) as (λ b. IsFrom low (if b then Some number else first_job test (number + 1) jobs)) [
      | true ↦ from
      | false ↦ first_job-from test (number + 1) low jobs (omega arith)
    ]

lesser-first : (n : ℕ) (other : Option ℕ) → IsFrom n other → lesser (Some n) other ≡ Some n
lesser-first n None from = refl
lesser-first n (Some m) from = let least : min n m ≡ n = omega arith in ap (λ k. Some k) least

lesser-second : (n : ℕ) (other : Option ℕ) → IsFrom n other → lesser other (Some n) ≡ Some n
lesser-second n None from = refl
lesser-second n (Some m) from = let least : min m n ≡ n = omega arith in ap (λ k. Some k) least

pub first_job-either : (one other : ℕ → JobState → Bool) (number : ℕ) (jobs : List JobState)
    → first_job (λ n job. one n job || other n job) number jobs ≡ lesser (first_job one number jobs) (first_job other number jobs)
first_job-either one other number [] = refl
first_job-either one other number (job ∷ jobs) =
    by (one number job) (other number job) (first_job-either one other (number + 1) jobs)
  where
    by : (a b : Bool) → first_job (λ n j. one n j || other n j) (number + 1) jobs ≡ lesser (first_job one (number + 1) jobs) (first_job other (number + 1) jobs)
        → (if a || b then Some number else first_job (λ n j. one n j || other n j) (number + 1) jobs) ≡ lesser (if a then Some number else first_job one (number + 1) jobs)
        (if b then Some number else first_job other (number + 1) jobs)
    by true true rest = sym (lesser-first number (Some number) (omega arith))
    by true false rest = sym (lesser-first number (first_job other (number + 1) jobs) (first_job-from other (number + 1) number jobs (omega arith)))
    by false true rest = sym (lesser-second number (first_job one (number + 1) jobs) (first_job-from one (number + 1) number jobs (omega arith)))
    by false false rest = rest

-- ---- one of many members

first_job-never : (number : ℕ) (jobs : List JobState) → first_job (λ n job. false) number jobs ≡ None
first_job-never number [] = refl
first_job-never number (job ∷ jobs) = first_job-never (number + 1) jobs

pub first_job-members : (test : ℕ → ℕ → JobState → Bool) (members : Named MemberStatus) (jobs : List JobState)
    → first_job (λ n job. list_any (λ entry. test entry.1.number n job) members) 1 jobs ≡ least_of_members (λ member. first_job (test member) 1 jobs) members
first_job-members test [] jobs = first_job-never 1 jobs
first_job-members test (entry ∷ members) jobs =
    first_job-either (test entry.1.number) (λ n job. list_any (λ e. test e.1.number n job) members) 1 jobs
    ∙ ap (lesser (first_job (test entry.1.number) 1 jobs)) (first_job-members test members jobs)

-- ---- who keeps locks

-- each lock is of a job from one number on, before another
abbrev pub AreBetween : (low high : ℕ) → List Lock → Type 0
AreBetween low high [] = Unit {0}
AreBetween low high (lock ∷ locks) = (low ≤ lock.job) × (lock.job < high) × AreBetween low high locks

abbrev is_held_by : ℕ → List Lock → Bool
is_held_by number locks = list_any (λ lock. lock.job == number) locks

least_job-from : (low high : ℕ) (locks : List Lock) → AreBetween low high locks → IsFrom low (least_job locks)
least_job-from low high [] between = tt
least_job-from low high (lock ∷ locks) between = by (least_job locks) (least_job-from low high locks between.2)
  where
    by : (least : Option ℕ) → IsFrom low least → IsFrom low (Some (option_map_or (min lock.job) least lock.job))
    by None from = between.0
    by (Some n) from = let first = between.0 in omega arith

-- where the least number that may be is there, it is the least
least_job-is : (low high : ℕ) (locks : List Lock) → AreBetween low high locks → is_held_by low locks ≡ true → least_job locks ≡ Some low
least_job-is low high [] between held = absurd cc
least_job-is low high (lock ∷ locks) between held =
    by (lock.job == low) refl held (least_job-is low high locks between.2) (least_job locks) refl (least_job-from low high locks between.2)
  where
    by : (b : Bool) → (lock.job == low) ≡ b → (b || is_held_by low locks) ≡ true → (is_held_by low locks ≡ true → least_job locks ≡ Some low) → (least : Option ℕ) → least_job locks ≡ least
        → IsFrom low least → Some (option_map_or (min lock.job) (least_job locks) lock.job) ≡ Some low
    by true same any rest None is from = let e : lock.job ≡ low = grind (arith, nat_tests, same) in rw is (ap (λ n. Some n) e)
    by true same any rest (Some n) is from = let e : lock.job ≡ low = grind (arith, nat_tests, same) in let least : min lock.job n ≡ low = omega arith in rw is (ap (λ k. Some k) least)
    by false other any rest least is from =
        let first = between.0 in
        let least_is : min lock.job low ≡ low = omega arith in
        rw (rest any) (ap (λ k. Some k) least_is)

-- where it isn't there, all are greater
between-next : (low high : ℕ) (locks : List Lock) → AreBetween low high locks → is_held_by low locks ≡ false → AreBetween (low + 1) high locks
between-next low high [] between none = tt
between-next low high (lock ∷ locks) between none =
    by (lock.job == low) refl none (between-next low high locks between.2)
  where
    by : (b : Bool) → (lock.job == low) ≡ b → (b || is_held_by low locks) ≡ false → (is_held_by low locks ≡ false → AreBetween (low + 1) high locks)
        → (low + 1 ≤ lock.job) × (lock.job < high) × AreBetween (low + 1) high locks
    by true same any rest = absurd cc
    by false other any rest =
        let first = between.0 in
        let apart : (lock.job ≡ low → ⊥) = grind (arith, nat_tests, other) in
        (omega arith, between.1, rest any)

pub first_job-keeper : (locks : List Lock) (number : ℕ) (jobs : List JobState) → AreBetween number (number + length jobs) locks → first_job (λ n job. is_held_by n locks) number jobs ≡ least_job locks
first_job-keeper [] number [] between = refl
first_job-keeper (lock ∷ locks) number [] between = let low = between.0 in let high = between.1 in absurd (omega arith)
first_job-keeper locks number (job ∷ jobs) between =
    by (is_held_by number locks) refl (first_job-keeper locks (number + 1) jobs)
  where
    by : (b : Bool) → is_held_by number locks ≡ b → (AreBetween (number + 1) (number + 1 + length jobs) locks → first_job (λ n j. is_held_by n locks) (number + 1) jobs ≡ least_job locks)
        → (if b then Some number else first_job (λ n j. is_held_by n locks) (number + 1) jobs) ≡ least_job locks
    by true held rest = sym (least_job-is number (number + length (job ∷ jobs)) locks between held)
    by false none rest =
        let P : ℕ → Type 0 = λ high. AreBetween (number + 1) high locks in
        let same : number + length (job ∷ jobs) ≡ number + 1 + length jobs = omega arith in
        rest (subst P same (between-next number (number + length (job ∷ jobs)) locks between none))

-- the locks of jobs that have begun lie between the first job and the last
AreBetween-jobs : (count : ℕ) (locks : List Lock) → All (λ lock. HasBegun count lock.job) locks → AreBetween 1 (1 + count) locks
AreBetween-jobs count [] all = tt
AreBetween-jobs count (lock ∷ locks) all =
    let here : HasBegun count lock.job = all 0 lock (omega arith) in
    let last : lock.job ≤ count = here.last in
    (here.first, omega arith, AreBetween-jobs count locks (λ k d lt. all (suc k) d (omega arith)))

-- who keeps a lock in the member, among the locks that are kept in it
boundary-filter : (member number : ℕ) (locks : List Lock) → has_boundary_lock member number locks ≡ is_held_by number (filter (is_boundary_in member) locks)
boundary-filter member number [] = refl
boundary-filter member number (lock ∷ locks) = by (lock.job == number) (is_boundary_in member lock) refl (boundary-filter member number locks)
  where
    by : (a b : Bool) → (lock.job == number) ≡ a → has_boundary_lock member number locks ≡ is_held_by number (filter (is_boundary_in member) locks)
        → ((a && b) || has_boundary_lock member number locks) ≡ is_held_by number (if b then lock ∷ filter (is_boundary_in member) locks else filter (is_boundary_in member) locks)
    by true true is rest = rw is refl
    by true false is rest = rest
    by false true is rest = rw is rest
    by false false is rest = rest

keeper-least : (member : ℕ) (locks : List Lock) (jobs : List JobState) → AreOfJobs jobs locks
    → first_job (λ n job. has_boundary_lock member n locks) 1 jobs ≡ least_job (filter (is_boundary_in member) locks)
keeper-least member locks jobs all =
    ap (λ test. first_job test 1 jobs) (λ i n job. boundary-filter member n locks i)
    ∙ first_job-keeper (filter (is_boundary_in member) locks) 1 jobs
    (AreBetween-jobs (length jobs) (filter (is_boundary_in member) locks) (All-filter (is_boundary_in member) (λ lock. HasBegun (length jobs) lock.job) locks all))

pub first_user-joined : (member : ℕ) (locks : List Lock) (jobs : List JobState) → AreOfJobs jobs locks
    → first_job (uses member locks) 1 jobs ≡ lesser (first_user member jobs) (least_job (filter (is_boundary_in member) locks))
first_user-joined member locks jobs all =
    first_job-either (has_in_use member) (λ n job. has_boundary_lock member n locks) 1 jobs
    ∙ ap (lesser (first_user member jobs)) (keeper-least member locks jobs all)

-- ---- a logical file

-- nobody has changed one of no members
pub changer-none : (number : ℕ) (jobs : List JobState) → first_job (λ n job. list_any (λ base. has_changed base job) []) number jobs ≡ None
changer-none number [] = refl
changer-none number (job ∷ jobs) = changer-none (number + 1) jobs

-- who has changed one of some members
pub changer-more : (member : ℕ) (members : List ℕ) (jobs : List JobState)
    → first_job (λ n job. list_any (λ base. has_changed base job) (member ∷ members)) 1 jobs
    ≡ lesser (first_changer member jobs) (first_job (λ n job. list_any (λ base. has_changed base job) members) 1 jobs)
changer-more member members jobs = first_job-either (λ n job. has_changed member job) (λ n job. list_any (λ base. has_changed base job) members) 1 jobs

pub user-view : (file : List ℕ) (members : List ℕ) (jobs : List JobState)
    → first_job (λ n job. has_open_of file job || list_any (λ base. has_changed base job) members) 1 jobs
    ≡ lesser (first_opener file jobs) (first_job (λ n job. list_any (λ base. has_changed base job) members) 1 jobs)
user-view file members jobs = first_job-either (λ n job. has_open_of file job) (λ n job. list_any (λ base. has_changed base job) members) 1 jobs
