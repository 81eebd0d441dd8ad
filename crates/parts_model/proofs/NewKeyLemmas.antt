-- Which keys open commit cycles keep to themselves: the least of all jobs but one, and of that one.
use Rattle.std.proofs.Common.{◌≡◌, ℕ, suc, ◌+◌, ◌-◌, ◌<◌, ◌≤◌, ◌==◌, nat_lt, not, Bool, true, false, cond, if◌then◌else◌, List, [], ◌∷◌, ◌++◌, map, Option, Some, None, slice_get, refl}
use Rattle.std.proofs.Common.{sym, ap, ◌∙◌, arith}
use Rattle.std.specs.Prelude.{filter}
use Rattle.std.specs.List.{cons_option, filter_map}
use Rattle.std.specs.Option.{option_map}
use Rattle.std.proofs.lemmas.Bool.Decides.{nat_tests}
use Rattle.journal_model.specs.Rollback.{MemberChange}
use Rattle.library_steps.specs.State.{JobState, or_new}
use Rattle.library_steps.specs.UniqueKeys.{NewKey, Reservation, least, lesser, reservations, takes_key}
use Rattle.library_steps.specs.Uses.{changes_in}
use Rattle.parts_model.specs.NewKeys.{first_reserved, least_of, least_reserved, lesser_of, lesser_reserved, taken}

-- ---- the least of what some jobs keep to themselves

abbrev pub reserved_at : (number rrn : ℕ) → Reservation
reserved_at number rrn = record { job = number; rrn = rrn }

-- that of two, and of those behind them
lesser-two : (number p q : ℕ) (rest : Option Reservation) → lesser (reserved_at number p) (lesser_reserved number q rest) ≡ first_reserved number (lesser_of p (Some q)) rest
lesser-two number p q None =
    elim (nat_lt q p) as (λ b. (if b then Some (reserved_at number q) else Some (reserved_at number p)) ≡ first_reserved number (if b then Some q else Some p) None) [
      | true ↦ refl
      | false ↦ refl
    ]
lesser-two number p q (Some x) = by (nat_lt x.rrn q) (nat_lt q p) (nat_lt x.rrn p) refl refl refl
  where
    by : (a b c : Bool) → nat_lt x.rrn q ≡ a → nat_lt q p ≡ b → nat_lt x.rrn p ≡ c
        → lesser (reserved_at number p) (if a then Some x else Some (reserved_at number q)) ≡ first_reserved number (if b then Some q else Some p) (Some x)
    by true true true first second third = rw third (rw first refl)
    by true true false first second third = absurd (grind (arith, nat_tests))
    by true false c first second third = refl
    by false true c first second third = rw second (rw first refl)
    by false false true first second third = absurd (grind (arith, nat_tests))
    by false false false first second third = rw second (rw third refl)

least-behind : (number : ℕ) (rrns : List ℕ) (rest : List Reservation) → least (map (reserved_at number) rrns ++ rest) ≡ first_reserved number (least_of rrns) (least rest)
least-behind number [] rest = refl
least-behind number (p ∷ rrns) rest = ap (lesser (reserved_at number p)) (least-behind number rrns rest) ∙ by (least_of rrns) (least rest)
  where
    by : (o : Option ℕ) (r : Option Reservation) → lesser (reserved_at number p) (first_reserved number o r) ≡ first_reserved number (lesser_of p o) r
    by None None = refl
    by None (Some x) = refl
    by (Some q) r = lesser-two number p q r

-- those of one job all go or stay
filter-behind : (test : ℕ → Bool) (number : ℕ) (rrns : List ℕ) (rest : List Reservation)
    → filter (λ (r : Reservation). test r.job) (map (reserved_at number) rrns ++ rest)
    ≡ (if test number then map (reserved_at number) rrns ++ filter (λ (r : Reservation). test r.job) rest else filter (λ (r : Reservation). test r.job) rest)
filter-behind test number [] rest =
    elim (test number) as (λ b. filter (λ (r : Reservation). test r.job) rest ≡ (if b then filter (λ (r : Reservation). test r.job) rest else filter (λ (r : Reservation). test r.job) rest)) [
      | true ↦ refl
      | false ↦ refl
    ]
filter-behind test number (p ∷ rrns) rest =
    let more = filter-behind test number rrns rest in
    elim (test number) as (λ b. filter (λ (r : Reservation). test r.job) (map (reserved_at number) rrns ++ rest)
    ≡ (if b then map (reserved_at number) rrns ++ filter (λ (r : Reservation). test r.job) rest else filter (λ (r : Reservation). test r.job) rest)
    → cond b (reserved_at number p ∷ filter (λ (r : Reservation). test r.job) (map (reserved_at number) rrns ++ rest)) (filter (λ (r : Reservation). test r.job) (map (reserved_at number) rrns ++ rest))
    ≡ (if b then reserved_at number p ∷ (map (reserved_at number) rrns ++ filter (λ (r : Reservation). test r.job) rest) else filter (λ (r : Reservation). test r.job) rest)) [
      | true ↦ λ h. ap (λ (rs : List Reservation). reserved_at number p ∷ rs) h
      | false ↦ λ h. h
    ] more

module _ (new : NewKey) where
  reserved-same : (number : ℕ) (undos : List MemberChange)
      → filter_map (λ (undo : MemberChange). if takes_key new.format new.key undo then Some (reserved_at number (undo.change.place + 1)) else None) undos
      ≡ map (reserved_at number) (taken new.format new.key undos)
  reserved-same number [] = refl
  reserved-same number (undo ∷ undos) =
      ap (cons_option (if takes_key new.format new.key undo then Some (reserved_at number (undo.change.place + 1)) else None)) (reserved-same number undos)
      ∙ step (takes_key new.format new.key undo) (undo.change.place + 1) (taken new.format new.key undos)
    where
      step : (b : Bool) (rrn : ℕ) (rrns : List ℕ)
          → cons_option (if b then Some (reserved_at number rrn) else None) (map (reserved_at number) rrns) ≡ map (reserved_at number) (cons_option (if b then Some rrn else None) rrns)
      step true rrn rrns = refl
      step false rrn rrns = refl

  -- of all jobs but one
  pub others-least : (job number : ℕ) (jobs : List JobState)
      → least (filter (λ (r : Reservation). not (r.job == job)) (reservations new number jobs)) ≡ least_reserved new.format new.key job number jobs
  others-least job number [] = refl
  others-least job number (one ∷ jobs) =
      let own = taken new.format new.key (changes_in one.cycle) in
      let rest = reservations new (number + 1) jobs in
      let more = others-least job (number + 1) jobs in
      ap (λ (rs : List Reservation). least (filter (λ (r : Reservation). not (r.job == job)) (rs ++ rest))) (reserved-same number (changes_in one.cycle))
      ∙ ap least (filter-behind (λ n. not (n == job)) number own rest)
      ∙ by (number == job) own rest more
    where
      by : (b : Bool) (own : List ℕ) (rest : List Reservation) → least (filter (λ (r : Reservation). not (r.job == job)) rest) ≡ least_reserved new.format new.key job (number + 1) jobs
          → least (if not b then map (reserved_at number) own ++ filter (λ (r : Reservation). not (r.job == job)) rest else filter (λ (r : Reservation). not (r.job == job)) rest)
          ≡ (if b then least_reserved new.format new.key job (number + 1) jobs
          else first_reserved number (least_of own) (least_reserved new.format new.key job (number + 1) jobs))
      by true own rest more = more
      by false own rest more = least-behind number own (filter (λ (r : Reservation). not (r.job == job)) rest) ∙ ap (first_reserved number (least_of own)) more

  -- of the job alone: none where all jobs have later numbers
  own-none : (job number : ℕ) (jobs : List JobState) → job < number → filter (λ (r : Reservation). r.job == job) (reservations new number jobs) ≡ []
  own-none job number [] before = refl
  own-none job number (one ∷ jobs) before =
      let own = taken new.format new.key (changes_in one.cycle) in
      let rest = reservations new (number + 1) jobs in
      let other : (number == job) ≡ false = grind (arith, nat_tests) in
      ap (λ (rs : List Reservation). filter (λ (r : Reservation). r.job == job) (rs ++ rest)) (reserved-same number (changes_in one.cycle))
      ∙ filter-behind (λ n. n == job) number own rest
      ∙ ap (λ (b : Bool). if b then map (reserved_at number) own ++ filter (λ (r : Reservation). r.job == job) rest else filter (λ (r : Reservation). r.job == job) rest) other
      ∙ own-none job (number + 1) jobs (omega (arith, before))

  -- of the job alone, which is the one at its place
  pub own-least : (job number : ℕ) (jobs : List JobState) → number ≤ job
      → least (filter (λ (r : Reservation). r.job == job) (reservations new number jobs))
      ≡ option_map (reserved_at job) (least_of (taken new.format new.key (changes_in (or_new (slice_get jobs (job - number))).cycle)))
  own-least job number [] low = refl
  own-least job number (one ∷ jobs) low =
      let own = taken new.format new.key (changes_in one.cycle) in
      let rest = reservations new (number + 1) jobs in
      ap (λ (rs : List Reservation). least (filter (λ (r : Reservation). r.job == job) (rs ++ rest))) (reserved-same number (changes_in one.cycle))
      ∙ ap least (filter-behind (λ n. n == job) number own rest)
      ∙ by (λ above. own-least job (number + 1) jobs above) (number == job) refl
    where
      first-alone : (n : ℕ) (o : Option ℕ) → first_reserved n o None ≡ option_map (reserved_at n) o
      first-alone n None = refl
      first-alone n (Some rrn) = refl

      by : (number + 1 ≤ job → least (filter (λ (r : Reservation). r.job == job) (reservations new (number + 1) jobs))
          ≡ option_map (reserved_at job) (least_of (taken new.format new.key (changes_in (or_new (slice_get jobs (job - (number + 1)))).cycle))))
          → (b : Bool) → (number == job) ≡ b
          → least (if b then map (reserved_at number) (taken new.format new.key (changes_in one.cycle)) ++ filter (λ (r : Reservation). r.job == job) (reservations new (number + 1) jobs)
          else filter (λ (r : Reservation). r.job == job) (reservations new (number + 1) jobs))
          ≡ option_map (reserved_at job) (least_of (taken new.format new.key (changes_in (or_new (slice_get (one ∷ jobs) (job - number))).cycle)))
      by rest true is =
          let own = taken new.format new.key (changes_in one.cycle) in
          let same : number ≡ job = grind (arith, nat_tests) in
          let place : job - number ≡ 0 = omega (arith, same) in
          ap (λ (rs : List Reservation). least (map (reserved_at number) own ++ rs)) (own-none job (number + 1) jobs (omega (arith, same)))
          ∙ least-behind number own [] ∙ first-alone number (least_of own)
          ∙ (λ i. option_map (reserved_at (same i)) (least_of (taken new.format new.key (changes_in (or_new (slice_get (one ∷ jobs) (sym place i))).cycle))))
      by rest false is =
          let above : number < job = grind (arith, nat_tests) in
          let place : suc (job - (number + 1)) ≡ job - number = omega (arith, above) in
          rest (omega (arith, above))
          ∙ ap (λ (n : ℕ). option_map (reserved_at job) (least_of (taken new.format new.key (changes_in (or_new (slice_get (one ∷ jobs) n)).cycle)))) place
