-- Whose turn it is, at a job that goes on and at one that is passed over.
use Rattle.std.proofs.Common.{◌≡◌, ℕ, zero, suc, ◌+◌, ◌-◌, ◌<◌, ◌≤◌, Bool, true, false, not, IsTrue, Some, None, List, [], ◌∷◌, ◌++◌, drop, refl, sym, ◌∙◌, ap, subst}
use Rattle.std.proofs.Common.{arith, append_assoc, append-nil}
use Rattle.std.specs.Prelude.{cond, find, nat_lt}
use Rattle.std.proofs.lemmas.Bool.Decides.{nat_tests}
use Rattle.library_model.specs.declared.calls.Call.{Call}
use Rattle.job_runner.specs.Ended.{has_ended}
use Rattle.job_runner.specs.Turns.{numbers_from, goes_on, from_running, AreByTurns, AreInRound}

-- ---- numbers and searches

numbers_from-more : (first count : ℕ) → numbers_from first (suc count) ≡ numbers_from first count ++ (first + count) ∷ []
numbers_from-more first zero = let same : first ≡ first + 0 = omega arith in ap (λ n. n ∷ []) same
numbers_from-more first (suc count) =
    let same : first + 1 + count ≡ first + suc count = omega arith in
    ap (λ ns. first ∷ ns) (numbers_from-more (first + 1) count ∙ ap (λ n. numbers_from (first + 1) count ++ n ∷ []) same)

find-push_no : (p : ℕ → Bool) (xs : List ℕ) (x : ℕ) → p x ≡ false → find p (xs ++ x ∷ []) ≡ find p xs
find-push_no p [] x fails = ap (λ b. cond b (Some x) None) fails
find-push_no p (y ∷ xs) x fails = ap (cond (p y) (Some y)) (find-push_no p xs x fails)

-- the first of the numbers that passes
find-first : (p : ℕ → Bool) (first count job : ℕ) → first ≤ job → job < first + count → ((other : ℕ) → first ≤ other → other < job → p other ≡ false) → p job ≡ true
    → find p (numbers_from first count) ≡ Some job
find-first p first zero job low high none here = absurd (omega (arith, low, high))
find-first p first (suc count) job low high none here =
    elim (nat_lt first job) as (λ b. nat_lt first job ≡ b → cond (p first) (Some first) (find p (numbers_from (first + 1) count)) ≡ Some job) [
      | true ↦ λ below.
          let before : first < job = grind (arith, nat_tests) in
          ap (λ b. cond b (Some first) (find p (numbers_from (first + 1) count))) (none first (omega arith) before)
          ∙ find-first p (first + 1) count job (omega (arith, before)) (omega (arith, high)) (λ other from until. none other (omega (arith, from)) until) here
      | false ↦ λ not_below.
          let before : job ≤ first = grind (arith, nat_tests) in
          let same : first ≡ job = omega (arith, before, low) in
          let passes : p first ≡ true = ap p same ∙ here in
          ap (λ b. cond b (Some first) (find p (numbers_from (first + 1) count))) passes ∙ ap (λ n. Some n) same
    ] refl

goes_on-yes : (job : ℕ) (calls : List Call) → has_ended job calls ≡ false → goes_on calls job ≡ true
goes_on-yes job calls goes = ap not goes

goes_on-no : (job : ℕ) (calls : List Call) → has_ended job calls ≡ true → goes_on calls job ≡ false
goes_on-no job calls ended = ap not ended

-- ---- turns

-- the call of a turn
pub AreByTurns-call : (jobs turn : ℕ) (turns : List ℕ) (before : List Call) (call : Call) (more : List Call) → call.job ≡ turn → has_ended turn before ≡ false
    → AreByTurns jobs turns (before ++ call ∷ []) more → AreByTurns jobs (turn ∷ turns) before (call ∷ more)
AreByTurns-call jobs turn turns before call more same goes rest =
    let on = goes_on-yes turn before goes in
    let found : find (goes_on before) (turn ∷ turns ++ numbers_from 1 jobs) ≡ Some turn = ap (λ b. cond b (Some turn) (find (goes_on before) (turns ++ numbers_from 1 jobs))) on in
    let left : drop 1 (from_running before (turn ∷ turns)) ≡ turns = ap (λ b. drop 1 (cond b (turn ∷ turns) (from_running before turns))) on in
    (found ∙ ap (λ n. Some n) (sym same), subst (λ (ts : List ℕ). AreByTurns jobs ts (before ++ call ∷ []) more) (sym left) rest)

-- a turn is passed over
pub AreByTurns-past : (jobs turn : ℕ) (turns : List ℕ) (before more : List Call) → has_ended turn before ≡ true → AreByTurns jobs turns before more → AreByTurns jobs (turn ∷ turns) before more
AreByTurns-past jobs turn turns before [] ended are = tt
AreByTurns-past jobs turn turns before (call ∷ more) ended are =
    let off = goes_on-no turn before ended in
    let others = find (goes_on before) (turns ++ numbers_from 1 jobs) in
    let found : find (goes_on before) (turn ∷ turns ++ numbers_from 1 jobs) ≡ others = ap (λ b. cond b (Some turn) others) off in
    let left : drop 1 (from_running before (turn ∷ turns)) ≡ drop 1 (from_running before turns) = ap (λ b. drop 1 (cond b (turn ∷ turns) (from_running before turns))) off in
    (found ∙ are.0, subst (λ (ts : List ℕ). AreByTurns jobs ts (before ++ call ∷ []) more) (sym left) are.1)

-- when the turns are used up: the call of a job before which all have ended
pub AreByTurns-first : (jobs job : ℕ) (before : List Call) (call : Call) (more : List Call) → call.job ≡ job → (1 ≤ job) × (job ≤ jobs)
    → ((other : ℕ) → 1 ≤ other → other < job → IsTrue (has_ended other before)) → has_ended job before ≡ false → AreByTurns jobs [] (before ++ call ∷ []) more
    → AreByTurns jobs [] before (call ∷ more)
AreByTurns-first jobs job before call more same within earlier goes rest =
    let found = find-first (goes_on before) 1 jobs job within.0 (omega (arith, within)) (λ other from until. goes_on-no other before (earlier other from until)) (goes_on-yes job before goes) in
    (found ∙ ap (λ n. Some n) (sym same), rest)

pub AreByTurns-append : (jobs : ℕ) (before made more : List Call) → AreByTurns jobs [] before made → AreByTurns jobs [] (before ++ made) more → AreByTurns jobs [] before (made ++ more)
AreByTurns-append jobs before [] more front back = rw append-nil at back
AreByTurns-append jobs before (call ∷ made) more front back =
    (front.0, AreByTurns-append jobs (before ++ call ∷ []) made more front.1 (rw append_assoc back))

-- ---- rounds

-- the job after the last makes its call
pub AreInRound-call : (jobs last : ℕ) (before : List Call) (call : Call) (more : List Call) → last < jobs → call.job ≡ last + 1 → has_ended (last + 1) before ≡ false
    → AreInRound jobs (last + 1) (before ++ call ∷ []) more → AreInRound jobs last before (call ∷ more)
AreInRound-call jobs last before call more within same goes rest =
    let on = goes_on-yes (last + 1) before goes in
    let many : jobs - last ≡ suc (jobs - (last + 1)) = omega (arith, within) in
    let others = numbers_from (last + 1 + 1) (jobs - (last + 1)) ++ numbers_from 1 last in
    let found : find (goes_on before) ((last + 1) ∷ others) ≡ Some (last + 1) = ap (λ b. cond b (Some (last + 1)) (find (goes_on before) others)) on in (
      ap (λ n. find (goes_on before) (numbers_from (last + 1) n ++ numbers_from 1 last)) many ∙ found ∙ ap (λ n. Some n) (sym same),
      subst (λ (n : ℕ). AreInRound jobs n (before ++ call ∷ []) more) (sym same) rest,
    )

-- the job after the last is passed over
pub AreInRound-past : (jobs last : ℕ) (before more : List Call) → last < jobs → has_ended (last + 1) before ≡ true → AreInRound jobs (last + 1) before more → AreInRound jobs last before more
AreInRound-past jobs last before [] within ended are = tt
AreInRound-past jobs last before (call ∷ more) within ended are =
    let off = goes_on-no (last + 1) before ended in
    let many : jobs - last ≡ suc (jobs - (last + 1)) = omega (arith, within) in
    let front = numbers_from (last + 1 + 1) (jobs - (last + 1)) in
    let back = numbers_from 1 last in
    let passed : find (goes_on before) ((last + 1) ∷ front ++ back) ≡ find (goes_on before) (front ++ back) = ap (λ b. cond b (Some (last + 1)) (find (goes_on before) (front ++ back))) off in
    let number : 1 + last ≡ last + 1 = omega arith in
    let next : last + 1 ≡ suc last = omega arith in
    let turned : find (goes_on before) (front ++ numbers_from 1 (last + 1)) ≡ find (goes_on before) (front ++ back) =
    ap (λ n. find (goes_on before) (front ++ numbers_from 1 n)) next
    ∙ ap (λ ns. find (goes_on before) (front ++ ns)) (numbers_from-more 1 last ∙ ap (λ n. back ++ n ∷ []) number)
    ∙ ap (find (goes_on before)) (sym (append_assoc front back ((last + 1) ∷ [])))
    ∙ find-push_no (goes_on before) (front ++ back) (last + 1) off in
    (ap (λ n. find (goes_on before) (numbers_from (last + 1) n ++ back)) many ∙ passed ∙ sym turned ∙ are.0, are.1)

-- after the last job the first is next
pub AreInRound-again : (jobs : ℕ) (before more : List Call) → AreInRound jobs 0 before more → AreInRound jobs jobs before more
AreInRound-again jobs before [] are = tt
AreInRound-again jobs before (call ∷ more) are =
    let none : jobs - jobs ≡ 0 = omega arith in
    let all : jobs - 0 ≡ jobs = omega arith in
    let each = numbers_from 1 jobs in
    let last : find (goes_on before) (numbers_from (jobs + 1) (jobs - jobs) ++ each) ≡ find (goes_on before) each = ap (λ n. find (goes_on before) (numbers_from (jobs + 1) n ++ each)) none in
    let first : find (goes_on before) (numbers_from 1 (jobs - 0) ++ []) ≡ find (goes_on before) each = ap (find (goes_on before)) (append-nil (numbers_from 1 (jobs - 0)) ∙ ap (numbers_from 1) all) in
    (last ∙ sym first ∙ are.0, are.1)
