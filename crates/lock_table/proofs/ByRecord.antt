-- The locks by record: what becomes of them where a lock comes or goes, and what a search in them says of all locks.
use Rattle.std.proofs.Common.{◌≡◌, ℕ, ◌≤◌, Bool, true, false, not, ◌&&◌, ◌==◌, cond, min, Option, None, Some, List, [], ◌∷◌, ◌++◌, length, map, refl, sym, ap, ◌∙◌, arith, subst}
use Rattle.std.specs.List.{filter, find, AllByRecursion}
use Rattle.std.specs.List.Sorted.{IsStrictlySortedBy}
use Rattle.std.specs.Option.{option_map}
use Rattle.std.specs.Ordering.{is_eq, match_ordering, nat_cmp, ordering_then}
use Rattle.std.specs.declared.cmp.Ordering.{Ordering}
use Rattle.std.specs.declared.cmp.Ordering.TheVariants.{Less, Equal, Greater}
use Rattle.std.proofs.lemmas.Bool.Decides.{nat_tests}
use Rattle.std.proofs.lemmas.List.{length-map}
use Rattle.std.proofs.lemmas.List.Elements.{filter_agree}
use Rattle.lock_table.specs.declared.lock.Lock.{Lock}
use Rattle.lock_table.specs.declared.lock.LockKind.{LockKind}
use Rattle.lock_table.specs.declared.lock.Reach.{Reach}
use Rattle.lock_table.specs.declared.lock.Reach.TheVariants.{Open, Boundary}
use Rattle.lock_table.specs.declared.lock.RecordId.{RecordId}
use Rattle.lock_table.specs.declared.part.Part.TheVariants.{InMember}
use Rattle.lock_table.specs.declared.part.Sought.TheVariants.{Against}
use Rattle.lock_table.specs.Lock.{are_apart, blocks, is_on, is_open, lock_cmp, reach_number}
use Rattle.lock_table.specs.Table.{blocker, in_order, least_job, with_lock, without_lock}
use Rattle.lock_table.specs.Index.{first_against, is_part, is_sought, lesser, marks_of, record_first}
use Rattle.lock_table.proofs.Found.{each_kept, find-filter}
use Rattle.lock_table.proofs.InOrder.{IsStrictlySortedBy-in_order, filter-in_order, fold-with_item, with_item-swap, with_item-twice}
use Rattle.lock_table.proofs.Kept.{length-in_order}
use Rattle.lock_table.proofs.Locks.{both, is_eq-boundary, is_eq-nat, is_eq-open, lock_cmp-same, lock_cmp-total, nat_cmp_equal, then_equal}
use Rattle.lock_table.proofs.Sides.{each_map}

filter-map : (p : Lock → Bool) (f : Lock → Lock) (xs : List Lock) → filter p (map f xs) ≡ map f (filter (λ x. p (f x)) xs)
filter-map p f [] = refl
filter-map p f (x ∷ xs) =
    elim (p (f x)) as (λ b. cond b (f x ∷ filter p (map f xs)) (filter p (map f xs)) ≡ map f (cond b (x ∷ filter (λ y. p (f y)) xs) (filter (λ y. p (f y)) xs))) [
      | true ↦ ap (λ ys. f x ∷ ys) (filter-map p f xs)
      | false ↦ filter-map p f xs
    ]

-- ---- one lock more, and one fewer
pub marks-with : (lock : Lock) (held : List Lock) → marks_of (with_lock lock held) ≡ with_lock (record_first lock) (marks_of held)
marks-with lock held =
    fold-with_item lock_cmp-total lock_cmp-same marks_of (λ l. with_lock (record_first l)) (λ l ls. refl)
    (λ l. with_item-twice lock_cmp-total (record_first l))
    (λ a b. with_item-swap lock_cmp-total lock_cmp-same (record_first a) (record_first b))
    lock held

-- the same fields are compared, in another order
same_five : (m r n j k : Bool) → (n && (r && ((m && j) && k))) ≡ (j && (r && ((m && n) && k)))
same_five true true true true k = refl
same_five true true true false k = refl
same_five true true false true k = refl
same_five true true false false k = refl
same_five true false true true k = refl
same_five true false true false k = refl
same_five true false false true k = refl
same_five true false false false k = refl
same_five false true true true k = refl
same_five false true true false k = refl
same_five false true false true k = refl
same_five false true false false k = refl
same_five false false true true k = refl
same_five false false true false k = refl
same_five false false false true k = refl
same_five false false false false k = refl

alike : (a b : Lock) → is_eq (lock_cmp (record_first a) (record_first b)) ≡ is_eq (lock_cmp a b)
alike a b =
    let m : Bool = a.at.member == b.at.member in
    let n : Bool = a.at.rrn == b.at.rrn in
    let j : Bool = a.job == b.job in
    let reach : Ordering = nat_cmp (reach_number a.reach) (reach_number b.reach) in
    let rest : Ordering = ordering_then (nat_cmp a.opened b.opened) (nat_cmp a.kind.0 b.kind.0) in
    let member_is : is_eq (nat_cmp a.at.member b.at.member) ≡ m = is_eq-nat a.at.member b.at.member in
    let rrn_is : is_eq (nat_cmp a.at.rrn b.at.rrn) ≡ n = is_eq-nat a.at.rrn b.at.rrn in
    let job_is : is_eq (nat_cmp a.job b.job) ≡ j = is_eq-nat a.job b.job in
    both (nat_cmp a.at.rrn b.at.rrn) (ordering_then reach (ordering_then (ordering_then (nat_cmp a.at.member b.at.member) (nat_cmp a.job b.job)) rest)) n (is_eq reach && ((m && j) && is_eq rest)) rrn_is
    (both reach (ordering_then (ordering_then (nat_cmp a.at.member b.at.member) (nat_cmp a.job b.job)) rest) (is_eq reach) ((m && j) && is_eq rest) refl
    (both (ordering_then (nat_cmp a.at.member b.at.member) (nat_cmp a.job b.job)) rest (m && j) (is_eq rest) (both (nat_cmp a.at.member b.at.member) (nat_cmp a.job b.job) m j member_is job_is) refl))
    ∙ same_five m (is_eq reach) n j (is_eq rest)
    ∙ sym
    (both (nat_cmp a.job b.job) (ordering_then reach (ordering_then (ordering_then (nat_cmp a.at.member b.at.member) (nat_cmp a.at.rrn b.at.rrn)) rest)) j (is_eq reach && ((m && n) && is_eq rest)) job_is
    (both reach (ordering_then (ordering_then (nat_cmp a.at.member b.at.member) (nat_cmp a.at.rrn b.at.rrn)) rest) (is_eq reach) ((m && n) && is_eq rest) refl
    (both (ordering_then (nat_cmp a.at.member b.at.member) (nat_cmp a.at.rrn b.at.rrn)) rest (m && n) (is_eq rest) (both (nat_cmp a.at.member b.at.member) (nat_cmp a.at.rrn b.at.rrn) m n member_is rrn_is) refl)))

-- a filter of the marks is one of the locks
filter-marks : (p : Lock → Bool) (held : List Lock) → filter p (marks_of held) ≡ in_order lock_cmp (map record_first (filter (λ l. p (record_first l)) held))
filter-marks p held = filter-in_order lock_cmp-total lock_cmp-same p (map record_first held) ∙ ap (in_order lock_cmp) (filter-map p record_first held)

pub marks-without : (lock : Lock) (held : List Lock) → marks_of (without_lock lock held) ≡ without_lock (record_first lock) (marks_of held)
marks-without lock held =
    sym
    (filter-marks (λ m. not (is_eq (lock_cmp m (record_first lock)))) held
    ∙ ap marks_of (filter_agree (λ l. not (is_eq (lock_cmp (record_first l) (record_first lock)))) (λ l. not (is_eq (lock_cmp l lock))) (λ l. ap not (alike l lock)) held))

pub length-marks : (held : List Lock) → length (marks_of held) ≤ length held
length-marks held = let fewer : length (marks_of held) ≤ length (map record_first held) = length-in_order lock_cmp (map record_first held) in omega (arith, length-map held record_first)

-- ---- the lesser of two
lesser-swap : (a b : ℕ) (o : Option ℕ) → lesser (Some a) (lesser (Some b) o) ≡ lesser (Some b) (lesser (Some a) o)
lesser-swap a b None = let same : min a b ≡ min b a = omega arith in ap Some same
lesser-swap a b (Some n) = let same : min a (min b n) ≡ min b (min a n) = omega arith in ap Some same

lesser-twice : (a : ℕ) (o : Option ℕ) → lesser (Some a) (lesser (Some a) o) ≡ lesser (Some a) o
lesser-twice a None = let same : min a a ≡ a = omega arith in ap Some same
lesser-twice a (Some n) = let same : min a (min a n) ≡ min a n = omega arith in ap Some same

lesser-join : (a : ℕ) (o p : Option ℕ) → lesser (lesser (Some a) o) p ≡ lesser (Some a) (lesser o p)
lesser-join a None p = refl
lesser-join a (Some n) None = refl
lesser-join a (Some n) (Some k) = let same : min (min a n) k ≡ min a (min n k) = omega arith in ap Some same

lesser-past : (a : ℕ) (o p : Option ℕ) → lesser o (lesser (Some a) p) ≡ lesser (Some a) (lesser o p)
lesser-past a None p = refl
lesser-past a (Some n) p = lesser-swap n a p

-- ---- the least number of a lock, in whatever order the locks are
abbrev least_of : (Lock → ℕ) → List Lock → Option ℕ
least_of f [] = None
least_of f (x ∷ xs) = lesser (Some (f x)) (least_of f xs)

abbrev job_of : Lock → ℕ
job_of lock = lock.job

abbrev marked_job : Lock → ℕ
marked_job mark = mark.at.rrn

least-job : (xs : List Lock) → least_job xs ≡ least_of job_of xs
least-job [] = refl
least-job (x ∷ xs) = ap (lesser (Some x.job)) (least-job xs)

module _ (f : Lock → ℕ) where
  least-with : (x : Lock) (xs : List Lock) → least_of f (with_lock x xs) ≡ lesser (Some (f x)) (least_of f xs)
  least-with x [] = refl
  least-with x (y ∷ ys) =
      elim (lock_cmp x y) as (λ r. lock_cmp x y ≡ r → least_of f (match_ordering r (x ∷ y ∷ ys) (y ∷ ys) (y ∷ with_lock x ys)) ≡ lesser (Some (f x)) (lesser (Some (f y)) (least_of f ys))) [
        | Less ↦ λ e. refl
        | Equal ↦ λ e. subst (λ (z : Lock). lesser (Some (f y)) (least_of f ys) ≡ lesser (Some (f z)) (lesser (Some (f y)) (least_of f ys))) (sym (lock_cmp-same x y e)) (sym (lesser-twice (f y) (least_of f ys)))
        | Greater ↦ λ e. ap (lesser (Some (f y))) (least-with x ys) ∙ lesser-swap (f y) (f x) (least_of f ys)
      ] refl

  least-in_order : (xs : List Lock) → least_of f (in_order lock_cmp xs) ≡ least_of f xs
  least-in_order [] = refl
  least-in_order (x ∷ xs) = least-with x (in_order lock_cmp xs) ∙ ap (lesser (Some (f x))) (least-in_order xs)

  least-first : (a : ℕ) (ys : List Lock) → AllByRecursion (λ y. a ≤ f y) ys → lesser (Some a) (least_of f ys) ≡ Some a
  least-first a [] h = refl
  least-first a (y ∷ ys) h =
      let same : min (f y) a ≡ a = omega (arith, h.0) in
      lesser-swap a (f y) (least_of f ys) ∙ ap (lesser (Some (f y))) (least-first a ys h.1) ∙ ap Some same

  -- of two parts of them
  least-two : (s q : Lock → Bool) (xs : List Lock) → lesser (least_of f (filter (λ l. s l && q l) xs)) (least_of f (filter (λ l. s l && not (q l)) xs)) ≡ least_of f (filter s xs)
  least-two s q [] = refl
  least-two s q (x ∷ xs) =
      elim (s x) as (λ a. lesser (least_of f (cond (a && q x) (x ∷ filter (λ l. s l && q l) xs) (filter (λ l. s l && q l) xs))) (least_of f (cond (a && not (q x)) (x ∷ filter (λ l. s l && not (q l)) xs) (filter (λ l. s l && not (q l)) xs))) ≡ least_of f (cond a (x ∷ filter s xs) (filter s xs))) [
        | true ↦
            elim (q x) as (λ b. lesser (least_of f (cond b (x ∷ filter (λ l. s l && q l) xs) (filter (λ l. s l && q l) xs))) (least_of f (cond (not b) (x ∷ filter (λ l. s l && not (q l)) xs) (filter (λ l. s l && not (q l)) xs))) ≡ lesser (Some (f x)) (least_of f (filter s xs))) [
              | true ↦ lesser-join (f x) (least_of f (filter (λ l. s l && q l) xs)) (least_of f (filter (λ l. s l && not (q l)) xs)) ∙ ap (lesser (Some (f x))) (least-two s q xs)
              | false ↦ lesser-past (f x) (least_of f (filter (λ l. s l && q l) xs)) (least_of f (filter (λ l. s l && not (q l)) xs)) ∙ ap (lesser (Some (f x))) (least-two s q xs)
            ]
        | false ↦ least-two s q xs
      ]

-- the least job in whatever order the locks are, and of two lists
pub least-ordered : (locks : List Lock) → least_job (in_order lock_cmp locks) ≡ least_job locks
least-ordered locks = least-job (in_order lock_cmp locks) ∙ least-in_order job_of locks ∙ sym (least-job locks)

least-append : (xs ys : List Lock) → least_of job_of (xs ++ ys) ≡ lesser (least_of job_of xs) (least_of job_of ys)
least-append [] ys = refl
least-append (x ∷ xs) ys = ap (lesser (Some x.job)) (least-append xs ys) ∙ sym (lesser-join x.job (least_of job_of xs) (least_of job_of ys))

pub least-two_lists : (xs ys : List Lock) → least_job (xs ++ ys) ≡ lesser (least_job xs) (least_job ys)
least-two_lists xs ys =
    least-job (xs ++ ys)
    ∙ least-append xs ys
    ∙ ap (λ o. lesser o (least_of job_of ys)) (sym (least-job xs))
    ∙ ap (lesser (least_job xs)) (sym (least-job ys))

least-map : (f : Lock → ℕ) (g : Lock → Lock) (xs : List Lock) → least_of f (map g xs) ≡ least_of (λ x. f (g x)) xs
least-map f g [] = refl
least-map f g (x ∷ xs) = ap (lesser (Some (f (g x)))) (least-map f g xs)

-- ---- on one record with one reach, the jobs rise
pub eq_is : (o : Ordering) → is_eq o ≡ true → o ≡ Equal
eq_is Less h = absurd (cc)
eq_is Equal h = refl
eq_is Greater h = absurd (cc)

tied : (j k : ℕ) → j ≡ k → nat_cmp j k ≡ Equal
tied j k h = grind (arith, nat_tests)

past : (j k : ℕ) (o : Ordering) → j ≡ k → ordering_then (nat_cmp j k) o ≡ Less → o ≡ Less
past j k o e h = let same : ordering_then (nat_cmp j k) o ≡ o = ap (λ r. ordering_then r o) (tied j k e) in sym same ∙ h

past_two : (m p r s : ℕ) (o : Ordering) → m ≡ p → ordering_then (ordering_then (nat_cmp m p) (nat_cmp r s)) o ≡ Less → ordering_then (nat_cmp r s) o ≡ Less
past_two m p r s o e h = let same : ordering_then (ordering_then (nat_cmp m p) (nat_cmp r s)) o ≡ ordering_then (nat_cmp r s) o = ap (λ q. ordering_then (ordering_then q (nat_cmp r s)) o) (tied m p e) in sym same ∙ h

rises : (r s : ℕ) (o : Ordering) → ordering_then (nat_cmp r s) o ≡ Less → r ≤ s
rises r s o h = grind (arith, nat_tests)

-- what is known of a lock in the part
record IsInPart (job reach member : ℕ) (lock : Lock) : Type 0 where
  pub job_is : lock.job ≡ job
  pub reach_is : reach_number lock.reach ≡ reach
  pub member_is : lock.at.member ≡ member

in_part : (job : ℕ) (reach : Reach) (member : ℕ) (lock : Lock) → is_part (InMember job reach member) lock ≡ true → IsInPart job (reach_number reach) member lock
in_part job reach member lock h =
    let all = then_equal (nat_cmp lock.job job) _ (eq_is _ h) in
    let rest = then_equal (nat_cmp (reach_number lock.reach) (reach_number reach)) _ all.1 in
    record {
      job_is = nat_cmp_equal lock.job job all.0;
      reach_is = nat_cmp_equal (reach_number lock.reach) (reach_number reach) rest.0;
      member_is = nat_cmp_equal lock.at.member member rest.1;
    }

jobs_rise : (job reach member : ℕ) (x y : Lock) → IsInPart job reach member x → IsInPart job reach member y → lock_cmp x y ≡ Less → x.at.rrn ≤ y.at.rrn
jobs_rise job reach member x y h k l =
    let rest : Ordering = ordering_then (nat_cmp x.opened y.opened) (nat_cmp x.kind.0 y.kind.0) in
    let one = past x.job y.job _ (h.job_is ∙ sym k.job_is) l in
    let two = past (reach_number x.reach) (reach_number y.reach) _ (h.reach_is ∙ sym k.reach_is) one in
    rises x.at.rrn y.at.rrn rest (past_two x.at.member y.at.member x.at.rrn y.at.rrn rest (h.member_is ∙ sym k.member_is) two)

and_front : (a b : Bool) → (a && b) ≡ true → a ≡ true
and_front true b h = refl
and_front false b h = absurd (cc)

module _ (job : ℕ) (reach : Reach) (member : ℕ) (t : Lock → Bool) where
  abbrev test : Lock → Bool
  test m = is_part (InMember job reach member) m && t m

  first-least : (marks : List Lock) → IsStrictlySortedBy lock_cmp marks → option_map marked_job (find (λ m. is_part (InMember job reach member) m && t m) marks) ≡ least_of marked_job (filter (λ m. is_part (InMember job reach member) m && t m) marks)
  unfolding IsStrictlySortedBy
  first-least [] s = refl
  first-least (x ∷ xs) s =
      elim (test x) as (λ b. test x ≡ b → option_map marked_job (cond b (Some x) (find test xs)) ≡ least_of marked_job (cond b (x ∷ filter test xs) (filter test xs))) [
        | true ↦ λ e.
            sym
            (least-first marked_job x.at.rrn (filter test xs)
            (each_kept test (λ y. x.at.rrn ≤ y.at.rrn) xs
            (each_map (λ y. lock_cmp x y ≡ Less) (λ y. test y ≡ true → x.at.rrn ≤ y.at.rrn)
            (λ y l h. jobs_rise job (reach_number reach) member x y (in_part job reach member x (and_front _ (t x) e)) (in_part job reach member y (and_front _ (t y) h)) l) xs s.0)))
        | false ↦ λ e. first-least xs s.1
      ] refl

-- ---- whom a lock is against
module _ (job : ℕ) (at : RecordId) (kind : LockKind) where
  moved : (m p n a : Bool) → ((n && (p && m)) && a) ≡ (((m && n) && a) && p)
  moved true true true true = refl
  moved true true true false = refl
  moved true true false true = refl
  moved true true false false = refl
  moved true false true true = refl
  moved true false true false = refl
  moved true false false true = refl
  moved true false false false = refl
  moved false true true true = refl
  moved false true true false = refl
  moved false true false true = refl
  moved false true false false = refl
  moved false false true true = refl
  moved false false true false = refl
  moved false false false true = refl
  moved false false false false = refl

  is_blocking : (reach : Reach) (q : Lock → Bool) → ((l : Lock) → is_eq (nat_cmp (reach_number l.reach) (reach_number reach)) ≡ q l) → (l : Lock) → (is_part (InMember at.rrn reach at.member) (record_first l) && is_sought (Against job kind) (record_first l)) ≡ (blocks job at kind l && q l)
  is_blocking reach q reach_is l =
      let apart : Bool = not (l.job == job) && are_apart l.kind kind in
      ap (λ b. b && apart)
      (both (nat_cmp l.at.rrn at.rrn) (ordering_then (nat_cmp (reach_number l.reach) (reach_number reach)) (nat_cmp l.at.member at.member)) (l.at.rrn == at.rrn) (q l && (l.at.member == at.member)) (is_eq-nat l.at.rrn at.rrn)
      (both (nat_cmp (reach_number l.reach) (reach_number reach)) (nat_cmp l.at.member at.member) (q l) (l.at.member == at.member) (reach_is l) (is_eq-nat l.at.member at.member)))
      ∙ moved (l.at.member == at.member) (q l) (l.at.rrn == at.rrn) apart

  first_against-is : (reach : Reach) (q : Lock → Bool) → ((l : Lock) → is_eq (nat_cmp (reach_number l.reach) (reach_number reach)) ≡ q l) → (held : List Lock) → first_against reach job at kind (marks_of held) ≡ least_of job_of (filter (λ l. blocks job at kind l && q l) held)
  first_against-is reach q reach_is held =
      let p : Lock → Bool = λ m. is_part (InMember at.rrn reach at.member) m && is_sought (Against job kind) m in
      ap (option_map marked_job) (find-filter (is_part (InMember at.rrn reach at.member)) (is_sought (Against job kind)) (marks_of held))
      ∙ first-least at.rrn reach at.member (is_sought (Against job kind)) (marks_of held) (IsStrictlySortedBy-in_order lock_cmp-total (map record_first held))
      ∙ ap (least_of marked_job) (filter-marks p held)
      ∙ least-in_order marked_job (map record_first (filter (λ l. p (record_first l)) held))
      ∙ least-map marked_job record_first (filter (λ l. p (record_first l)) held)
      ∙ ap (least_of job_of) (filter_agree (λ l. p (record_first l)) (λ l. blocks job at kind l && q l) (is_blocking reach q reach_is) held)

  -- what the two searches by record say
  pub blocker-is : (marks held : List Lock) → marks ≡ marks_of held → lesser (first_against Open job at kind marks) (first_against Boundary job at kind marks) ≡ blocker job at kind held
  blocker-is marks held is =
      ap (λ ms. lesser (first_against Open job at kind ms) (first_against Boundary job at kind ms)) is
      ∙ ap (λ o. lesser o (first_against Boundary job at kind (marks_of held))) (first_against-is Open (λ l. is_open l.reach) (λ l. is_eq-open l.reach) held)
      ∙ ap (lesser (least_of job_of (filter (λ l. blocks job at kind l && is_open l.reach) held))) (first_against-is Boundary (λ l. not (is_open l.reach)) (λ l. is_eq-boundary l.reach) held)
      ∙ least-two job_of (blocks job at kind) (λ l. is_open l.reach) held
      ∙ sym (least-job (filter (blocks job at kind) held))
