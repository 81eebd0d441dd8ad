-- The order of locks: it is total, locks that tie are one, and a part of it is an order too.
use Rattle.std.proofs.Common.{◌≡◌, ℕ, Bool, true, false, not, ◌&&◌, ◌==◌, refl, sym, ap, ◌∙◌, arith}
use Rattle.std.specs.Cmp.{IsTotalOrder}
use Rattle.std.specs.Ordering.{is_eq, nat_cmp, ordering_then}
use Rattle.std.specs.declared.cmp.Ordering.{Ordering}
use Rattle.std.specs.declared.cmp.Ordering.TheVariants.{Less, Equal, Greater}
use Rattle.std.proofs.lemmas.Bool.Decides.{nat_tests}
use Rattle.std.proofs.lemmas.Cmp.{alike_right, nat_cmp_total, on_total, then_total}
use Rattle.lock_table.specs.declared.lock.LockKind.{LockKind}
use Rattle.lock_table.specs.declared.lock.Reach.{Reach}
use Rattle.lock_table.specs.declared.lock.Reach.TheVariants.{Open, Boundary}
use Rattle.lock_table.specs.declared.lock.RecordId.{RecordId}
use Rattle.lock_table.specs.declared.lock.Lock.{Lock}
use Rattle.lock_table.specs.declared.part.Part.{Part}
use Rattle.lock_table.specs.declared.part.Part.TheVariants.{OfJob, Reaching, InMember, OnRecord}
use Rattle.lock_table.specs.Lock.{is_by, is_in, is_on, is_open, is_of_group, is_of_job, lock_cmp, reach_number}
use Rattle.lock_table.specs.Index.{is_part, part_cmp}

pub then_equal : (a b : Ordering) → ordering_then a b ≡ Equal → (a ≡ Equal) × (b ≡ Equal)
then_equal Less b h = absurd (cc)
then_equal Equal b h = (refl, h)
then_equal Greater b h = absurd (cc)

pub nat_cmp_equal : (x y : ℕ) → nat_cmp x y ≡ Equal → x ≡ y
nat_cmp_equal x y h = grind (arith, nat_tests)

abbrev kind_of : ℕ → LockKind
kind_of bits = record { 0 = bits }

kind_same : (a b : LockKind) → a.0 ≡ b.0 → a ≡ b
kind_same a b h = ap kind_of h

reach_same : (a b : Reach) → reach_number a ≡ reach_number b → a ≡ b
reach_same Open Open h = refl
reach_same Open Boundary h = absurd (omega arith)
reach_same Boundary Open h = absurd (omega arith)
reach_same Boundary Boundary h = refl

abbrev id_of : ℕ → ℕ → RecordId
id_of member rrn = record { member = member; rrn = rrn }

id_same : (a b : RecordId) → a.member ≡ b.member → a.rrn ≡ b.rrn → a ≡ b
id_same a b e f = pair_same a.member b.member a.rrn b.rrn e f
  where
    pair_same : (m n r s : ℕ) → m ≡ n → r ≡ s → id_of m r ≡ id_of n s
    pair_same m n r s e1 e2 = cc

abbrev lock_of : ℕ → Reach → RecordId → ℕ → LockKind → Lock
lock_of job reach at opened kind = record { job = job; reach = reach; at = at; opened = opened; kind = kind }

lock_of_same : (j k : ℕ) (x y : Reach) (r s : RecordId) (o p : ℕ) (a b : LockKind) → j ≡ k → x ≡ y → r ≡ s → o ≡ p → a ≡ b → lock_of j x r o a ≡ lock_of k y s p b
lock_of_same j k x y r s o p a b e1 e2 e3 e4 e5 = cc

-- the orders of which that of locks is made
abbrev job_cmp : Lock → Lock → Ordering
job_cmp a b = nat_cmp a.job b.job

abbrev reach_cmp : Lock → Lock → Ordering
reach_cmp a b = nat_cmp (reach_number a.reach) (reach_number b.reach)

abbrev member_cmp : Lock → Lock → Ordering
member_cmp a b = nat_cmp a.at.member b.at.member

abbrev id_cmp : Lock → Lock → Ordering
id_cmp a b = ordering_then (nat_cmp a.at.member b.at.member) (nat_cmp a.at.rrn b.at.rrn)

abbrev rest_cmp : Lock → Lock → Ordering
rest_cmp a b = ordering_then (nat_cmp a.opened b.opened) (nat_cmp a.kind.0 b.kind.0)

job_total : IsTotalOrder job_cmp
job_total = on_total (λ (l : Lock). l.job) nat_cmp_total

reach_total : IsTotalOrder reach_cmp
reach_total = on_total (λ (l : Lock). reach_number l.reach) nat_cmp_total

member_total : IsTotalOrder member_cmp
member_total = on_total (λ (l : Lock). l.at.member) nat_cmp_total

id_total : IsTotalOrder id_cmp
id_total = then_total member_total (on_total (λ (l : Lock). l.at.rrn) nat_cmp_total)

rest_total : IsTotalOrder rest_cmp
rest_total = then_total (on_total (λ (l : Lock). l.opened) nat_cmp_total) (on_total (λ (l : Lock). l.kind.0) nat_cmp_total)

pub lock_cmp-total : IsTotalOrder lock_cmp
lock_cmp-total = then_total job_total (then_total reach_total (then_total id_total rest_total))

pub lock_cmp-same : (a b : Lock) → lock_cmp a b ≡ Equal → a ≡ b
lock_cmp-same a b h =
    let h1 = then_equal _ _ h in
    let h2 = then_equal _ _ h1.1 in
    let h3 = then_equal _ _ h2.1 in
    let h4 = then_equal _ _ h3.0 in
    let h5 = then_equal _ _ h3.1 in
    lock_of_same a.job b.job a.reach b.reach a.at b.at a.opened b.opened a.kind b.kind
    (nat_cmp_equal _ _ h1.0) (reach_same a.reach b.reach (nat_cmp_equal _ _ h2.0))
    (id_same a.at b.at (nat_cmp_equal _ _ h4.0) (nat_cmp_equal _ _ h4.1))
    (nat_cmp_equal _ _ h5.0) (kind_same a.kind b.kind (nat_cmp_equal _ _ h5.1))

-- ---- what stands before an item that is below a bound is below it too, where the order begins with that of the bound
abbrev Falls : (Ordering → Bool) → (Lock → Lock → Ordering) → (Lock → Lock → Ordering) → Type 0
Falls t R K = (x y k : Lock) → R x y ≡ Less → t (K y k) ≡ true → t (K x k) ≡ true

-- a test that an answer below passes, and one that is above doesn't
pub record IsBelow (t : Ordering → Bool) : Type 0 where
  pub less : t Less ≡ true
  pub greater : t Greater ≡ false

module _ (t : Ordering → Bool) (b : IsBelow t) (A B : Lock → Lock → Ordering) (o : IsTotalOrder A) where
  first_case : (K : Lock → Lock → Ordering) (x y k : Lock) → A x y ≡ Less → t (ordering_then (A y k) (K y k)) ≡ true → t (ordering_then (A x k) (K x k)) ≡ true
  first_case K x y k l h =
      elim (A y k) as (λ r. A y k ≡ r → t (ordering_then r (K y k)) ≡ true → t (ordering_then (A x k) (K x k)) ≡ true) [
        | Less ↦ λ e g. rw (o.trans x y k l e) b.less
        | Equal ↦ λ e g. rw (sym (alike_right o y k x e) ∙ l) b.less
        | Greater ↦ λ e g. absurd (let f : t Greater ≡ false = b.greater in cc)
      ] refl h

  tied_case : (K : Lock → Lock → Ordering) (x y k : Lock) → A x y ≡ Equal → (t (K y k) ≡ true → t (K x k) ≡ true) → t (ordering_then (A y k) (K y k)) ≡ true → t (ordering_then (A x k) (K x k)) ≡ true
  tied_case K x y k e more h =
      let same : A x k ≡ A y k = o.congr x y k e in
      rw same
      (elim (A y k) as (λ r. t (ordering_then r (K y k)) ≡ true → t (ordering_then r (K x k)) ≡ true) [ Less ↦ λ g. g | Equal ↦ λ g. more g | Greater ↦ λ g. g ] h)

  pub Falls-then : (K : Lock → Lock → Ordering) → Falls t B K → Falls t (λ x y. ordering_then (A x y) (B x y)) (λ x y. ordering_then (A x y) (K x y))
  Falls-then K falls x y k l h =
      elim (A x y) as (λ r. A x y ≡ r → ordering_then r (B x y) ≡ Less → t (ordering_then (A x k) (K x k)) ≡ true) [
        | Less ↦ λ e g. first_case K x y k e h
        | Equal ↦ λ e g. tied_case K x y k e (falls x y k g) h
        | Greater ↦ λ e g. absurd (cc)
      ] refl l

  pub Falls-first : Falls t (λ x y. ordering_then (A x y) (B x y)) A
  Falls-first x y k l h =
      elim (A x y) as (λ r. A x y ≡ r → ordering_then r (B x y) ≡ Less → t (A x k) ≡ true) [
        | Less ↦ λ e g.
            elim (A y k) as (λ r. A y k ≡ r → t r ≡ true → t (A x k) ≡ true) [
              | Less ↦ λ f p. rw (o.trans x y k e f) b.less
              | Equal ↦ λ f p. rw (sym (alike_right o y k x f) ∙ e) b.less
              | Greater ↦ λ f p. absurd (let q : t Greater ≡ false = b.greater in cc)
            ] refl h
        | Equal ↦ λ e g. rw (o.congr x y k e) h
        | Greater ↦ λ e g. absurd (cc)
      ] refl l

-- a lock that stands where the part does
abbrev sample : Part → Lock
sample (OfJob job) = lock_of job Open (id_of 0 0) 0 (kind_of 0)
sample (Reaching job reach) = lock_of job reach (id_of 0 0) 0 (kind_of 0)
sample (InMember job reach member) = lock_of job reach (id_of member 0) 0 (kind_of 0)
sample (OnRecord job reach at) = lock_of job reach at 0 (kind_of 0)

pub part_cmp-falls : (t : Ordering → Bool) → IsBelow t → (part : Part) (x y : Lock) → lock_cmp x y ≡ Less → t (part_cmp part y) ≡ true → t (part_cmp part x) ≡ true
part_cmp-falls t b (OfJob job) x y =
    Falls-first t b job_cmp (λ x y. ordering_then (reach_cmp x y) (ordering_then (id_cmp x y) (rest_cmp x y))) job_total x y (sample (OfJob job))
part_cmp-falls t b (Reaching job reach) x y =
    Falls-then t b job_cmp (λ x y. ordering_then (reach_cmp x y) (ordering_then (id_cmp x y) (rest_cmp x y))) job_total reach_cmp
    (Falls-first t b reach_cmp (λ x y. ordering_then (id_cmp x y) (rest_cmp x y)) reach_total) x y (sample (Reaching job reach))
part_cmp-falls t b (InMember job reach member) x y =
    Falls-then t b job_cmp (λ x y. ordering_then (reach_cmp x y) (ordering_then (id_cmp x y) (rest_cmp x y))) job_total (λ x y. ordering_then (reach_cmp x y) (member_cmp x y))
    (Falls-then t b reach_cmp (λ x y. ordering_then (id_cmp x y) (rest_cmp x y)) reach_total member_cmp (falls_member t b)) x y (sample (InMember job reach member))
  where
    falls_member : (t : Ordering → Bool) → IsBelow t → Falls t (λ x y. ordering_then (id_cmp x y) (rest_cmp x y)) member_cmp
    falls_member t b x y k l h =
        Falls-first t b member_cmp (λ x y. ordering_then (nat_cmp x.at.rrn y.at.rrn) (rest_cmp x y)) member_total x y k (sym (then_then (member_cmp x y) (nat_cmp x.at.rrn y.at.rrn) (rest_cmp x y)) ∙ l) h
      where
        then_then : (a c d : Ordering) → ordering_then (ordering_then a c) d ≡ ordering_then a (ordering_then c d)
        then_then Less c d = refl
        then_then Equal c d = refl
        then_then Greater c d = refl
part_cmp-falls t b (OnRecord job reach at) x y =
    Falls-then t b job_cmp (λ x y. ordering_then (reach_cmp x y) (ordering_then (id_cmp x y) (rest_cmp x y))) job_total (λ x y. ordering_then (reach_cmp x y) (id_cmp x y))
    (Falls-then t b reach_cmp (λ x y. ordering_then (id_cmp x y) (rest_cmp x y)) reach_total id_cmp (Falls-first t b id_cmp rest_cmp id_total)) x y (sample (OnRecord job reach at))

-- ---- what a part's locks are
pub is_eq-then : (a b : Ordering) → is_eq (ordering_then a b) ≡ (is_eq a && is_eq b)
is_eq-then Less b = refl
is_eq-then Equal b = refl
is_eq-then Greater b = refl

pub both : (a b : Ordering) (p q : Bool) → is_eq a ≡ p → is_eq b ≡ q → is_eq (ordering_then a b) ≡ (p && q)
both a b p q e f = is_eq-then a b ∙ (ap (λ x. x && is_eq b) e ∙ ap (λ x. p && x) f)

pub is_eq-nat : (x y : ℕ) → is_eq (nat_cmp x y) ≡ (x == y)
is_eq-nat x y = grind (arith, nat_tests)

pub is_eq-open : (r : Reach) → is_eq (nat_cmp (reach_number r) 0) ≡ is_open r
is_eq-open Open = refl
is_eq-open Boundary = refl

pub is_eq-boundary : (r : Reach) → is_eq (nat_cmp (reach_number r) 1) ≡ not (is_open r)
is_eq-boundary Open = refl
is_eq-boundary Boundary = refl

is_eq-id : (at : RecordId) (l : Lock) → is_eq (ordering_then (nat_cmp l.at.member at.member) (nat_cmp l.at.rrn at.rrn)) ≡ is_on at l
is_eq-id at l = both (nat_cmp l.at.member at.member) (nat_cmp l.at.rrn at.rrn) (l.at.member == at.member) (l.at.rrn == at.rrn) (is_eq-nat l.at.member at.member) (is_eq-nat l.at.rrn at.rrn)

and_swap : (a b : Bool) → (a && b) ≡ (b && a)
and_swap true true = refl
and_swap true false = refl
and_swap false true = refl
and_swap false false = refl

and_turn : (a b c : Bool) → (a && (b && c)) ≡ (c && (b && a))
and_turn true true true = refl
and_turn true true false = refl
and_turn true false true = refl
and_turn true false false = refl
and_turn false true true = refl
and_turn false true false = refl
and_turn false false true = refl
and_turn false false false = refl

pub is_part-job : (job : ℕ) (l : Lock) → is_part (OfJob job) l ≡ is_by job l
is_part-job job l = is_eq-nat l.job job

module _ (job : ℕ) (l : Lock) where
  pub is_part-open : is_part (Reaching job Open) l ≡ is_of_job job l
  is_part-open = both (nat_cmp l.job job) (nat_cmp (reach_number l.reach) 0) (l.job == job) (is_open l.reach) (is_eq-nat l.job job) (is_eq-open l.reach) ∙ and_swap (l.job == job) (is_open l.reach)

  pub is_part-group : is_part (Reaching job Boundary) l ≡ is_of_group job l
  is_part-group = both (nat_cmp l.job job) (nat_cmp (reach_number l.reach) 1) (l.job == job) (not (is_open l.reach)) (is_eq-nat l.job job) (is_eq-boundary l.reach) ∙ and_swap (l.job == job) (not (is_open l.reach))

  -- by job, reach and one thing more
  three : (n : ℕ) (o : Ordering) (p q : Bool) → is_eq (nat_cmp (reach_number l.reach) n) ≡ p → is_eq o ≡ q → is_eq (ordering_then (nat_cmp l.job job) (ordering_then (nat_cmp (reach_number l.reach) n) o)) ≡ (q && (p && is_by job l))
  three n o p q e f =
      both (nat_cmp l.job job) (ordering_then (nat_cmp (reach_number l.reach) n) o) (l.job == job) (p && q) (is_eq-nat l.job job) (both (nat_cmp (reach_number l.reach) n) o p q e f)
      ∙ and_turn (l.job == job) p q

  pub is_part-member : (member : ℕ) → is_part (InMember job Boundary member) l ≡ (is_in member l && (not (is_open l.reach) && is_by job l))
  is_part-member member = three 1 (nat_cmp l.at.member member) (not (is_open l.reach)) (is_in member l) (is_eq-boundary l.reach) (is_eq-nat l.at.member member)

  pub is_part-record : (at : RecordId) → is_part (OnRecord job Open at) l ≡ (is_on at l && is_of_job job l)
  is_part-record at = three 0 (ordering_then (nat_cmp l.at.member at.member) (nat_cmp l.at.rrn at.rrn)) (is_open l.reach) (is_on at l) (is_eq-open l.reach) (is_eq-id at l)

  pub is_part-kept : (at : RecordId) → is_part (OnRecord job Boundary at) l ≡ (is_on at l && is_of_group job l)
  is_part-kept at = three 1 (ordering_then (nat_cmp l.at.member at.member) (nat_cmp l.at.rrn at.rrn)) (not (is_open l.reach)) (is_on at l) (is_eq-boundary l.reach) (is_eq-id at l)
