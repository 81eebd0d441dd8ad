-- What is found among the locks of a part, and which job is the least.
use Rattle.std.proofs.Common.{◌≡◌, ℕ, ◌+◌, ◌<◌, ◌≤◌, nat_le, Bool, true, false, not, ◌&&◌, ◌||◌, ◌==◌, cond, min, Option, None, Some, is_some, List, [], ◌∷◌, length, get_or, refl, sym, ap, ◌∙◌, zero, suc, arith, subst}
use Rattle.std.specs.Prelude.{IfSome, IfNone}
use Rattle.std.specs.List.{filter, find, All, AllByRecursion, Contains, list_any}
use Rattle.std.specs.List.Sorted.{IsStrictlySortedBy}
use Rattle.std.specs.Option.{option_map_or}
use Rattle.std.specs.Ordering.{nat_cmp, ordering_then}
use Rattle.std.specs.declared.cmp.Ordering.{Ordering}
use Rattle.std.specs.declared.cmp.Ordering.TheVariants.{Less}
use Rattle.std.proofs.lemmas.Bool.Decides.{nat_tests}
use Rattle.std.proofs.lemmas.List.Elements.{All-from_recursion, All-weaker, filter_agree}
use Rattle.lock_table.specs.declared.lock.Holder.{Holder}
use Rattle.lock_table.specs.declared.lock.RecordId.{RecordId}
use Rattle.lock_table.specs.declared.lock.Lock.{Lock}
use Rattle.lock_table.specs.declared.lock.Reach.TheVariants.{Open, Boundary}
use Rattle.lock_table.specs.declared.part.Part.TheVariants.{InMember, OnRecord, Reaching}
use Rattle.lock_table.specs.Lock.{Clashes, blocks, is_boundary_in, is_by, is_in, is_of_group_on, is_of_open, is_of_open_on, is_on, is_open, lock_cmp}
use Rattle.lock_table.specs.Table.{IsOneOf, least_job, blocker}
use Rattle.lock_table.specs.Index.{is_part}
use Rattle.lock_table.proofs.Kept.{filter-filter, filter-none, list_any-filter}
use Rattle.lock_table.proofs.Locks.{is_part-kept, is_part-member, is_part-open, is_part-record}
use Rattle.lock_table.proofs.Sides.{each_map}

module _ {X : Type 0} where
  pub find-filter : (q t : X → Bool) (xs : List X) → find t (filter q xs) ≡ find (λ x. q x && t x) xs
  find-filter q t [] = refl
  find-filter q t (x ∷ xs) =
      elim (q x) as (λ b. find t (cond b (x ∷ filter q xs) (filter q xs)) ≡ cond (b && t x) (Some x) (find (λ y. q y && t y) xs)) [
        | true ↦ ap (λ r. cond (t x) (Some x) r) (find-filter q t xs)
        | false ↦ find-filter q t xs
      ]

  pub is_some-find : (t : X → Bool) (xs : List X) → is_some (find t xs) ≡ list_any t xs
  is_some-find t [] = refl
  is_some-find t (x ∷ xs) = elim (t x) as (λ b. is_some (cond b (Some x) (find t xs)) ≡ (b || list_any t xs)) [ true ↦ refl | false ↦ is_some-find t xs ]

  found_at : (t : X → Bool) (xs : List X) (x : X) → find t xs ≡ Some x → Contains xs x × (t x ≡ true)
  found_at t [] x h = absurd (cc)
  found_at t (y ∷ ys) x found =
      elim (t y) as (λ b. t y ≡ b → cond b (Some y) (find t ys) ≡ Some x → Contains (y ∷ ys) x × (t x ≡ true)) [
        | true ↦ λ e h. let same : y ≡ x = cc in ((0, omega arith, same), ap t (sym same) ∙ e)
        | false ↦ λ e h. let r : Contains ys x × (t x ≡ true) = found_at t ys x h in ((suc r.0.0, omega (arith, r.0.1), r.0.2), r.1)
      ] refl found

  find-none : (t : X → Bool) (xs : List X) → find t xs ≡ None → filter t xs ≡ []
  find-none t xs h = filter-none t xs (sym (is_some-find t xs) ∙ ap is_some h)

  -- tests that agree
  find-agree : (p q : X → Bool) → ((x : X) → p x ≡ q x) → (xs : List X) → find p xs ≡ find q xs
  find-agree p q same [] = refl
  find-agree p q same (x ∷ xs) = ap (λ b. cond b (Some x) (find p xs)) (same x) ∙ ap (λ r. cond (q x) (Some x) r) (find-agree p q same xs)

-- ---- what a look in a part answers, where a wider test says what is looked for
module _ (q t s : Lock → Bool) (same : (l : Lock) → (q l && t l) ≡ s l) (held locks : List Lock) (found : Option Lock) (run : locks ≡ filter q held) (h : found ≡ find t locks) where
  is : found ≡ find s held
  is = h ∙ ap (find t) run ∙ find-filter q t held ∙ find-agree (λ l. q l && t l) s same held

  pub run-some : IfSome found (λ lock. IsOneOf s lock held)
  run-some = some found refl
    where
      some : (o : Option Lock) → o ≡ found → IfSome o (λ lock. IsOneOf s lock held)
      some None e = tt
      some (Some lock) e = let r = found_at s held lock (sym (e ∙ is)) in record { there = r.0; passes = r.1 }

  pub run-none : IfNone found (filter s held ≡ [])
  run-none = none found refl
    where
      none : (o : Option Lock) → o ≡ found → IfNone o (filter s held ≡ [])
      none None e = find-none s held (sym (e ∙ is))
      none (Some lock) e = tt

  pub run-is_some : is_some found ≡ list_any s held
  run-is_some = ap is_some is ∙ is_some-find s held

or_true : (b : Bool) → (b || true) ≡ true
or_true true = refl
or_true false = refl

-- the answer says whether a lock passes
pub is_some-found : (s : Lock → Bool) (held : List Lock) (found : Option Lock) → IfSome found (λ lock. IsOneOf s lock held) → IfNone found (filter s held ≡ []) → is_some found ≡ list_any s held
is_some-found s held None some none = sym (no_one held none)
  where
    no_one : (xs : List Lock) → filter s xs ≡ [] → list_any s xs ≡ false
    no_one [] h = refl
    no_one (x ∷ xs) h =
        elim (s x) as (λ b. cond b (x ∷ filter s xs) (filter s xs) ≡ [] → (b || list_any s xs) ≡ false) [ true ↦ λ g. absurd (cc) | false ↦ λ g. no_one xs g ] h
is_some-found s held (Some lock) some none = sym (one held some.there.0 some.there.1 some.there.2)
  where
    one : (xs : List Lock) (i : ℕ) → i < length xs → get_or xs i lock ≡ lock → list_any s xs ≡ true
    one [] i l at = absurd (omega arith)
    one (x ∷ xs) zero l at = rw (ap s at ∙ some.passes) refl
    one (x ∷ xs) (suc i) l at = rw (one xs i (omega arith) at) (or_true (s x))

-- ---- the least job
lowest : (j : ℕ) (lock : Lock) (locks : List Lock) → AllByRecursion (λ l. j ≤ l.job) (lock ∷ locks) → j ≤ option_map_or (min lock.job) (least_job locks) lock.job
lowest j lock [] h = h.0
lowest j lock (next ∷ locks) h = let r : j ≤ option_map_or (min next.job) (least_job locks) next.job = lowest j next locks h.1 in omega (arith, h.0)

first_is_least : (j : ℕ) (locks : List Lock) → AllByRecursion (λ l. j ≤ l.job) locks → option_map_or (min j) (least_job locks) j ≡ j
first_is_least j [] h = refl
first_is_least j (lock ∷ locks) h = let r : j ≤ option_map_or (min lock.job) (least_job locks) lock.job = lowest j lock locks h in omega arith

same_number : (x j : ℕ) → (x == j) ≡ true → x ≡ j
same_number x j h = grind (arith, nat_tests)

-- where no job is below this one, and it has a lock
one_lowest : (j : ℕ) (locks : List Lock) → AllByRecursion (λ l. j ≤ l.job) locks → list_any (is_by j) locks ≡ true → least_job locks ≡ Some j
one_lowest j [] h some = absurd (cc)
one_lowest j (lock ∷ locks) h some =
    elim (lock.job == j) as (λ b. (lock.job == j) ≡ b → (b || list_any (is_by j) locks) ≡ true → Some (option_map_or (min lock.job) (least_job locks) lock.job) ≡ Some j) [
      | true ↦ λ e g.
          let at : lock.job ≡ j = same_number lock.job j e in
          ap Some (subst (λ n. option_map_or (min n) (least_job locks) n ≡ n) (sym at) (first_is_least j locks h.1) ∙ at)
      | false ↦ λ e g. let r : least_job locks ≡ Some j = one_lowest j locks h.1 g in let le : j ≤ lock.job = h.0 in rw r (ap Some (omega arith))
    ] refl some

job_rises : (x y : ℕ) (o : Ordering) → ordering_then (nat_cmp x y) o ≡ Less → x ≤ y
job_rises x y o h = grind (arith, nat_tests)

jobs_rise : (lock : Lock) (locks : List Lock) → AllByRecursion (λ l. lock_cmp lock l ≡ Less) locks → AllByRecursion (λ l. lock.job ≤ l.job) locks
jobs_rise lock [] below = tt
jobs_rise lock (next ∷ locks) below = (job_rises lock.job next.job _ below.0, jobs_rise lock locks below.1)

pub first_lowest : (lock : Lock) (locks : List Lock) → IsStrictlySortedBy lock_cmp (lock ∷ locks) → AllByRecursion (λ l. lock.job ≤ l.job) (lock ∷ locks)
unfolding IsStrictlySortedBy
first_lowest lock locks s = (omega arith, jobs_rise lock locks s.0)

-- ---- the jobs in turn: those before this one have no lock that passes
abbrev pub NoneBefore : (Lock → Bool) → ℕ → List Lock → Type 0
NoneBefore t from held = AllByRecursion (λ l. t l ≡ true → from ≤ l.job) held

pub NoneBefore-start : (t : Lock → Bool) (held : List Lock) → NoneBefore t 0 held
NoneBefore-start t [] = tt
NoneBefore-start t (x ∷ xs) = (λ h. omega arith, NoneBefore-start t xs)

is_from : (j x : ℕ) → nat_le j x ≡ true → j ≤ x
is_from j x h = grind (arith, nat_tests)

is_not_from : (j x : ℕ) → nat_le j x ≡ false → x < j
is_not_from j x h = grind (arith, nat_tests)

-- the job that a search finds, and none lower from there on
pub record IsNext (from : ℕ) (job : ℕ) (held : List Lock) : Type 0 where
  pub least : from ≤ job
  pub lower : AllByRecursion (λ l. from ≤ l.job → job ≤ l.job) held

pub next-found : (from : ℕ) (held : List Lock) (first : Lock) → IsStrictlySortedBy lock_cmp held → find (λ l. nat_le from l.job) held ≡ Some first → IsNext from first.job held
unfolding IsStrictlySortedBy
next-found from [] first s h = absurd (cc)
next-found from (x ∷ xs) first s found =
    elim (nat_le from x.job) as (λ b. nat_le from x.job ≡ b → cond b (Some x) (find (λ l. nat_le from l.job) xs) ≡ Some first → IsNext from first.job (x ∷ xs)) [
      | true ↦ λ e h.
          let same : x ≡ first = cc in
          subst (λ (l : Lock). IsNext from l.job (x ∷ xs)) same
          (record {
            least = is_from from x.job e;
            lower = each_map (λ l. x.job ≤ l.job) (λ l. from ≤ l.job → x.job ≤ l.job) (λ l k m. k) (x ∷ xs) (first_lowest x xs s);
          })
      | false ↦ λ e h.
          let more : IsNext from first.job xs = next-found from xs first s.1 h in
          let out : x.job < from = is_not_from from x.job e in
          record { least = more.least; lower = (λ m. absurd (omega arith), more.lower) }
    ] refl found

-- what a filter keeps passes, and has what a lock that passes has
pub each_kept : (t : Lock → Bool) (P : Lock → Type 0) (xs : List Lock) → AllByRecursion (λ l. t l ≡ true → P l) xs → AllByRecursion P (filter t xs)
each_kept t P [] h = tt
each_kept t P (x ∷ xs) h =
    elim (t x) as (λ b. (b ≡ true → P x) → AllByRecursion P (cond b (x ∷ filter t xs) (filter t xs))) [
      | true ↦ λ k. (k refl, each_kept t P xs h.1)
      | false ↦ λ k. each_kept t P xs h.1
    ] h.0

each_both : (P Q S : Lock → Type 0) → ((l : Lock) → P l → Q l → S l) → (xs : List Lock) → AllByRecursion P xs → AllByRecursion Q xs → AllByRecursion S xs
each_both P Q S f [] h k = tt
each_both P Q S f (x ∷ xs) h k = (f x h.0 k.0, each_both P Q S f xs h.1 k.1)

or_false : (a b : Bool) → (a || b) ≡ false → (a ≡ false) × (b ≡ false)
or_false true b h = absurd (cc)
or_false false b h = (refl, h)

other_job : (p : Bool) (j x : ℕ) → (p && (x == j)) ≡ false → p ≡ true → j ≤ x → j + 1 ≤ x
other_job p j x h e k = grind (arith, nat_tests)

each_out_of : (t : Lock → Bool) (xs : List Lock) → list_any t xs ≡ false → AllByRecursion (λ l. t l ≡ false) xs
each_out_of t [] h = tt
each_out_of t (x ∷ xs) h = let parts = or_false (t x) (list_any t xs) h in (parts.0, each_out_of t xs parts.1)

none_from : (from : ℕ) (xs : List Lock) → find (λ l. nat_le from l.job) xs ≡ None → AllByRecursion (λ l. l.job < from) xs
none_from from [] h = tt
none_from from (x ∷ xs) found =
    elim (nat_le from x.job) as (λ b. nat_le from x.job ≡ b → cond b (Some x) (find (λ l. nat_le from l.job) xs) ≡ None → AllByRecursion (λ l. l.job < from) (x ∷ xs)) [
      | true ↦ λ e h. absurd (cc)
      | false ↦ λ e h. (is_not_from from x.job e, none_from from xs h)
    ] refl found

kept_none : (t : Lock → Bool) (from : ℕ) (xs : List Lock) → NoneBefore t from xs → AllByRecursion (λ l. l.job < from) xs → filter t xs ≡ []
kept_none t from [] h k = refl
kept_none t from (x ∷ xs) h k =
    elim (t x) as (λ b. (b ≡ true → from ≤ x.job) → cond b (x ∷ filter t xs) (filter t xs) ≡ []) [
      | true ↦ λ m. absurd (let le : from ≤ x.job = m refl in omega (arith, k.0))
      | false ↦ λ m. kept_none t from xs h.1 k.1
    ] h.0

module _ (t : Lock → Bool) (from : ℕ) (held : List Lock) (s : IsStrictlySortedBy lock_cmp held) (before : NoneBefore t from held) where
  module _ (first : Lock) (found : find (λ l. nat_le from l.job) held ≡ Some first) where
    passing : AllByRecursion (λ l. t l ≡ true → first.job ≤ l.job) held
    passing =
        each_both (λ l. t l ≡ true → from ≤ l.job) (λ l. from ≤ l.job → first.job ≤ l.job) (λ l. t l ≡ true → first.job ≤ l.job)
        (λ l h k e. k (h e)) held before (next-found from held first s found).lower

    pub next_least : from ≤ first.job
    next_least = (next-found from held first s found).least

    pub least_job-here : list_any (λ l. t l && is_by first.job l) held ≡ true → least_job (filter t held) ≡ Some first.job
    least_job-here some = one_lowest first.job (filter t held) (each_kept t (λ l. first.job ≤ l.job) held passing) (list_any-filter t (is_by first.job) held ∙ some)

    pub NoneBefore-next : list_any (λ l. t l && is_by first.job l) held ≡ false → NoneBefore t (first.job + 1) held
    NoneBefore-next none =
        each_both (λ l. t l ≡ true → first.job ≤ l.job) (λ l. (t l && is_by first.job l) ≡ false) (λ l. t l ≡ true → first.job + 1 ≤ l.job)
        (λ l h k e. other_job (t l) first.job l.job k e (h e)) held passing (each_out_of (λ l. t l && is_by first.job l) held none)

  pub least_job-none : find (λ l. nat_le from l.job) held ≡ None → least_job (filter t held) ≡ None
  least_job-none found = ap least_job (kept_none t from held before (none_from from held found))

-- ---- nobody blocks: no lock clashes
none_least : (locks : List Lock) → least_job locks ≡ None → locks ≡ []
none_least [] h = refl
none_least (lock ∷ locks) h = absurd (cc)

each_out : (t : Lock → Bool) (held : List Lock) → filter t held ≡ [] → AllByRecursion (λ l. t l ≡ true → ⊥) held
each_out t [] h = tt
each_out t (lock ∷ held) none =
    elim (t lock) as (λ b. t lock ≡ b → cond b (lock ∷ filter t held) (filter t held) ≡ [] → AllByRecursion (λ l. t l ≡ true → ⊥) (lock ∷ held)) [
      | true ↦ λ e h. absurd (cc)
      | false ↦ λ e h. (λ k. absurd (cc), each_out t held h)
    ] refl none

pub alone-from_blocker : (lock : Lock) (held : List Lock) → blocker lock.job lock.at lock.kind held ≡ None → All (λ other. Clashes lock other → ⊥) held
alone-from_blocker lock held h =
    All-weaker (λ l. blocks lock.job lock.at lock.kind l ≡ true → ⊥) (λ other. Clashes lock other → ⊥) (λ l f k. f k) held
    (All-from_recursion _ held (each_out (blocks lock.job lock.at lock.kind) held (none_least _ h)))

-- ---- what is found in a part is what a narrower test finds in all
pub and_true : (a : Bool) → (a && true) ≡ a
and_true true = refl
and_true false = refl

-- a job's boundary locks in a member
pub keeps-in : (job member : ℕ) (l : Lock) → (is_part (InMember job Boundary member) l && true) ≡ (is_boundary_in member l && is_by job l)
keeps-in job member l = and_true (is_part (InMember job Boundary member) l) ∙ is_part-member job l member ∙ and_and (is_in member l) (not (is_open l.reach)) (is_by job l)
  where
    and_and : (a b c : Bool) → (a && (b && c)) ≡ ((a && b) && c)
    and_and true b c = refl
    and_and false b c = refl

-- a job's boundary locks on a record
pub keeps-on : (job : ℕ) (at : RecordId) (l : Lock) → (is_part (OnRecord job Boundary at) l && true) ≡ is_of_group_on job at l
keeps-on job at l = and_true (is_part (OnRecord job Boundary at) l) ∙ is_part-kept job l at

-- the locks of an open, and those on a record
module _ (holder : Holder) where
  narrow : (a b c : Bool) → ((a && b) && c) ≡ (a && (b && c))
  narrow true b c = refl
  narrow false b c = refl

  narrow_on : (on a b c : Bool) → ((on && (a && b)) && c) ≡ (on && (a && (b && c)))
  narrow_on true a b c = narrow a b c
  narrow_on false a b c = refl

  pub part-open : (l : Lock) → (is_part (Reaching holder.job Open) l && (l.opened == holder.opened)) ≡ is_of_open holder l
  part-open l = ap (λ b. b && (l.opened == holder.opened)) (is_part-open holder.job l) ∙ narrow (is_open l.reach) (is_by holder.job l) (l.opened == holder.opened)

  pub part-open_on : (at : RecordId) (l : Lock) → (is_part (OnRecord holder.job Open at) l && (l.opened == holder.opened)) ≡ is_of_open_on holder at l
  part-open_on at l = ap (λ b. b && (l.opened == holder.opened)) (is_part-record holder.job l at) ∙ narrow_on (is_on at l) (is_open l.reach) (is_by holder.job l) (l.opened == holder.opened)

  -- how many locks an open has
  pub count-open_part : (held : List Lock) → length (filter (λ l. l.opened == holder.opened) (filter (is_part (Reaching holder.job Open)) held)) ≡ length (filter (is_of_open holder) held)
  count-open_part held =
      ap length
      (filter-filter (is_part (Reaching holder.job Open)) (λ l. l.opened == holder.opened) held
      ∙ filter_agree (λ l. is_part (Reaching holder.job Open) l && (l.opened == holder.opened)) (is_of_open holder) part-open held)
