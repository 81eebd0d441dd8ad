-- What was made so far, with what the calls to come have still to be.
use Rattle.std.proofs.Common.{◌≡◌, ◌≢◌, ℕ, zero, suc, ◌+◌, ◌-◌, ◌<◌, ◌≤◌, Bool, true, false, ◌==◌, if◌then◌else◌, IsTrue, List, [], ◌∷◌, ◌++◌, length, refl, sym, ◌∙◌, ap}
use Rattle.std.proofs.Common.{subst, arith, append_assoc, append-nil}
use Rattle.std.proofs.lemmas.Bool.Decides.{nat_tests}
use Rattle.store_model.specs.Disk.{Disk}
use Rattle.library_model.specs.declared.calls.Call.{Call}
use Rattle.input_scripts.specs.declared.Scripts.{Scripts}
use Rattle.job_language.specs.declared.progress.TheConstants.{MOST_STATEMENTS}
use Rattle.job_runner.specs.declared.session.Stepped.{Stepped}
use Rattle.job_runner.specs.declared.session.Stepped.TheVariants.{Called, Ended}
use Rattle.job_runner.specs.Ended.{calls_of, ends_once, has_ended}
use Rattle.job_runner.specs.Session.{SessionOver, HasMade, remaining, all_remaining}
use Rattle.job_runner.specs.Turns.{AreByTurns, AreInRound}
use Rattle.job_runner.proofs.CallLemmas.{calls_of-append_other}
use Rattle.job_runner.proofs.MadeLemmas.{HasMade-more, HasMade-none}
use Rattle.job_runner.proofs.TurnLemmas.{AreByTurns-append, AreInRound-again}

-- the calls made so far are the first of a whole, if those to come are such a rest
abbrev pub HasBegun : {S C : Type 0} → (tells : Type 0) → (S → Disk) → (C → ℕ → C → Type 0) → SessionOver S C → SessionOver S C → (whole rest : List Call → Type 0) → Type 0
HasBegun tells disk gives first later whole rest = (made : List Call) × HasMade tells disk gives first later made × ((more : List Call) → rest more → whole (made ++ more))

-- a whole of calls
abbrev pub HasDone : {S C : Type 0} → Type 0 → (S → Disk) → (C → ℕ → C → Type 0) → SessionOver S C → SessionOver S C → (whole : List Call → Type 0) → Type 0
HasDone tells disk gives first later whole = (made : List Call) × HasMade tells disk gives first later made × whole made

pub HasBegun-none : {S C : Type 0} (tells : Type 0) (disk : S → Disk) (gives : C → ℕ → C → Type 0) (first : SessionOver S C) (whole : List Call → Type 0) → HasBegun tells disk gives first first whole whole
HasBegun-none tells disk gives first whole = ([], HasMade-none tells disk gives first, λ more is. is)

-- one call more
pub HasBegun-call : {S C : Type 0} (tells : Type 0) (disk : S → Disk) (gives : C → ℕ → C → Type 0) (first mid later : SessionOver S C) (whole rest next : List Call → Type 0) (call : Call)
    → HasBegun tells disk gives first mid whole rest → HasMade tells disk gives mid later (call ∷ []) → ((more : List Call) → next more → rest (call ∷ more))
    → HasBegun tells disk gives first later whole next
HasBegun-call tells disk gives first mid later whole rest next call front made step =
    let on = λ (more : List Call) (is : next more). subst whole (sym (append_assoc front.0 (call ∷ []) more)) (front.2 (call ∷ more) (step more is)) in
    (front.0 ++ call ∷ [], HasMade-more tells disk gives first mid later front.0 (call ∷ []) front.1 made, on)

-- no call
pub HasBegun-same : {S C : Type 0} (tells : Type 0) (disk : S → Disk) (gives : C → ℕ → C → Type 0) (first mid later : SessionOver S C) (whole rest next : List Call → Type 0)
    → HasBegun tells disk gives first mid whole rest → later ≡ mid → ((more : List Call) → next more → rest more) → HasBegun tells disk gives first later whole next
HasBegun-same tells disk gives first mid later whole rest next front same step =
    (front.0, subst (λ (s : SessionOver _ _). HasMade tells disk gives first s front.0) (sym same) front.1, λ more is. front.2 more (step more is))

-- the last of the calls
pub HasBegun-end : {S C : Type 0} (tells : Type 0) (disk : S → Disk) (gives : C → ℕ → C → Type 0) (first mid later : SessionOver S C) (whole rest : List Call → Type 0) → HasBegun tells disk gives first mid whole rest
    → later ≡ mid → rest [] → HasDone tells disk gives first later whole
HasBegun-end tells disk gives first mid later whole rest front same none =
    (front.0, subst (λ (s : SessionOver _ _). HasMade tells disk gives first s front.0) (sym same) front.1, subst whole (append-nil front.0) (front.2 [] none))

-- the rest of the calls
pub HasBegun-done : {S C : Type 0} (tells : Type 0) (disk : S → Disk) (gives : C → ℕ → C → Type 0) (first mid later : SessionOver S C) (whole rest : List Call → Type 0)
    → HasBegun tells disk gives first mid whole rest → HasDone tells disk gives mid later rest → HasDone tells disk gives first later whole
HasBegun-done tells disk gives first mid later whole rest front back =
    (front.0 ++ back.0, HasMade-more tells disk gives first mid later front.0 back.0 front.1 back.1, front.2 back.0 back.2)

-- some calls more
pub HasBegun-more : {S C : Type 0} (tells : Type 0) (disk : S → Disk) (gives : C → ℕ → C → Type 0) (first mid later : SessionOver S C) (whole rest next : List Call → Type 0)
    → HasBegun tells disk gives first mid whole rest → HasBegun tells disk gives mid later rest next → HasBegun tells disk gives first later whole next
HasBegun-more tells disk gives first mid later whole rest next front back =
    let on = λ (more : List Call) (is : next more). subst whole (sym (append_assoc front.0 back.0 more)) (front.2 (back.0 ++ more) (back.2 more is)) in
    (front.0 ++ back.0, HasMade-more tells disk gives first mid later front.0 back.0 front.1 back.1, on)

-- the scripts stay
pub HasBegun-scripts : {S C : Type 0} (tells : Type 0) (disk : S → Disk) (gives : C → ℕ → C → Type 0) (first later : SessionOver S C) (whole rest : List Call → Type 0)
    → HasBegun tells disk gives first later whole rest → length later.scripts.scripts ≡ length first.scripts.scripts
HasBegun-scripts tells disk gives first later whole rest front = ap (λ (s : Scripts). length s.scripts) front.1.scripts

-- the next job runs to its end
pub HasBegun-job : {S C : Type 0} (tells : Type 0) (disk : S → Disk) (gives : C → ℕ → C → Type 0) (first mid later : SessionOver S C) (whole : List Call → Type 0) (jobs : ℕ)
    → HasBegun tells disk gives first mid whole (AreByTurns jobs [] mid.calls) → HasDone tells disk gives mid later (AreByTurns jobs [] mid.calls)
    → HasBegun tells disk gives first later whole (AreByTurns jobs [] later.calls)
HasBegun-job tells disk gives first mid later whole jobs front back =
    HasBegun-more tells disk gives first mid later whole (AreByTurns jobs [] mid.calls) (AreByTurns jobs [] later.calls) front
    (back.0, back.1, λ more is. AreByTurns-append jobs mid.calls back.0 more back.2 (subst (λ (calls : List Call). AreByTurns jobs [] calls more) back.1.calls is))

-- ---- what a call leaves to be made

remaining-same : (job : ℕ) (old new : List Call) → calls_of job new ≡ calls_of job old → remaining job new ≡ remaining job old
remaining-same job old new same = ap (λ (own : List Call). if ends_once own then 0 else MOST_STATEMENTS + 1 - length own) same

all-no_more : (jobs : ℕ) (old new : List Call) → ((other : ℕ) → remaining other new ≤ remaining other old) → all_remaining jobs new ≤ all_remaining jobs old
all-no_more zero old new each = omega arith
all-no_more (suc jobs) old new each = omega (arith, each (suc jobs), all-no_more jobs old new each)

-- what one job may make less, and no other more
all-less : (jobs job : ℕ) (old new : List Call) → 1 ≤ job → job ≤ jobs → ((other : ℕ) → remaining other new ≤ remaining other old) → remaining job new < remaining job old
    → (all_remaining jobs new < all_remaining jobs old)
all-less zero job old new from until each less = absurd (omega (arith, from, until))
all-less (suc jobs) job old new from until each less =
    elim (job == suc jobs) as (λ b. (job == suc jobs) ≡ b → remaining (suc jobs) new + all_remaining jobs new < remaining (suc jobs) old + all_remaining jobs old) [
      | true ↦ λ own.
          let is : job ≡ suc jobs = grind (arith, nat_tests) in
          let here = subst (λ (j : ℕ). remaining j new < remaining j old) is less in
          omega (arith, here, all-no_more jobs old new each)
      | false ↦ λ apart.
          let far : job ≢ suc jobs = grind (arith, nat_tests) in
          let below : job ≤ jobs = omega (arith, far, until) in
          omega (arith, each (suc jobs), all-less jobs job old new from below each less)
    ] refl

-- a call of one of the jobs brings their ends nearer
pub all-nearer : (jobs job : ℕ) (calls later : List Call) (call : Call) → 1 ≤ job → job ≤ jobs → call.job ≡ job → later ≡ calls ++ call ∷ []
    → remaining job later < remaining job calls → all_remaining jobs later < all_remaining jobs calls
all-nearer jobs job calls later call from until same more nearer =
    all-less jobs job calls later from until each nearer
  where
    each : (other : ℕ) → remaining other later ≤ remaining other calls
    each other = elim (other == job) as (λ b. (other == job) ≡ b → remaining other later ≤ remaining other calls) [
      | true ↦ λ own.
          let is : other ≡ job = grind (arith, nat_tests) in
          subst (λ (j : ℕ). remaining j later ≤ remaining j calls) (sym is) (omega (arith, nearer))
      | false ↦ λ apart.
          let far : other ≢ job = grind (arith, nat_tests) in
          let kept = ap (calls_of other) more ∙ calls_of-append_other other calls call (λ e. far (sym e ∙ same)) in
          let stays = remaining-same other calls later kept in
          omega (arith, stays)
    ] refl

-- a job whose step is no end had not ended
pub still-open : (step : Stepped) (ended : Bool) → (step ≡ Ended → ⊥) → (step ≡ Ended → IsTrue ended) × (IsTrue ended → step ≡ Ended) → ended ≡ false
still-open step true other says = absurd (other (says.1 refl))
still-open step false other says = refl

-- the jobs up to one more have ended
pub ended-more : (calls later : List Call) (last : ℕ) → later ≡ calls → ((job : ℕ) → 1 ≤ job → job ≤ last → IsTrue (has_ended job calls))
    → IsTrue (has_ended (last + 1) calls) → (job : ℕ) → 1 ≤ job → job ≤ last + 1 → IsTrue (has_ended job later)
ended-more calls later last same earlier here job from until = subst (λ (cs : List Call). IsTrue (has_ended job cs)) (sym same)
    (elim (job == (last + 1)) as (λ b. (job == (last + 1)) ≡ b → IsTrue (has_ended job calls)) [
      | true ↦ λ own.
          let is : job ≡ last + 1 = grind (arith, nat_tests) in
          subst (λ (j : ℕ). IsTrue (has_ended j calls)) (sym is) here
      | false ↦ λ apart.
          let far : job ≢ last + 1 = grind (arith, nat_tests) in
          earlier job from (omega (arith, far, until))
    ] refl)

-- what a round has made, whole or not
abbrev pub HasMadeRound : {S C : Type 0} → Type 0 → (S → Disk) → (C → ℕ → C → Type 0) → SessionOver S C → SessionOver S C → ℕ → Stepped → Type 0
HasMadeRound tells disk gives first later jobs step =
    (made : List Call) × HasMade tells disk gives first later made × AreInRound jobs 0 first.calls made
    × (step ≡ Called → (more : List Call) → AreInRound jobs 0 later.calls more → AreInRound jobs 0 first.calls (made ++ more))

-- a round that comes to the last of the jobs
pub round-whole : {S C : Type 0} (tells : Type 0) (disk : S → Disk) (gives : C → ℕ → C → Type 0) (first later : SessionOver S C) (jobs last : ℕ) (step : Stepped) → last ≡ jobs
    → HasBegun tells disk gives first later (AreInRound jobs 0 first.calls) (AreInRound jobs last later.calls) → HasMadeRound tells disk gives first later jobs step
round-whole tells disk gives first later jobs last step at_end front =
    let all = subst (AreInRound jobs 0 first.calls) (append-nil front.0) (front.2 [] tt) in
    let at_first = λ (more : List Call) (is : AreInRound jobs 0 later.calls more). subst (λ (n : ℕ). AreInRound jobs n later.calls more) (sym at_end) (AreInRound-again jobs later.calls more is) in
    (front.0, front.1, all, λ called more is. front.2 more (at_first more is))

-- a round that stops at a job
pub round-cut : {S C : Type 0} (tells : Type 0) (disk : S → Disk) (gives : C → ℕ → C → Type 0) (first mid later : SessionOver S C) (jobs last : ℕ) (step : Stepped) → (step ≡ Called → ⊥) → later ≡ mid
    → HasBegun tells disk gives first mid (AreInRound jobs 0 first.calls) (AreInRound jobs last mid.calls) → HasMadeRound tells disk gives first later jobs step
round-cut tells disk gives first mid later jobs last step other same front =
    let all = HasBegun-end tells disk gives first mid later (AreInRound jobs 0 first.calls) (AreInRound jobs last mid.calls) front same tt in
    (all.0, all.1, all.2, λ called. absurd (other called))
