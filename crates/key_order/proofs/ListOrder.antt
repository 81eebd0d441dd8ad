-- The order of lists of bytes: of one list behind another, of digits, and of bytes turned round.
use Rattle.std.proofs.Common.{◌≡◌, ℕ, zero, suc, ◌+◌, ◌-◌, ◌*◌, ◌/◌, ◌%◌, ◌^◌, ◌<◌, ◌≤◌, Bool, List, [], ◌∷◌, ◌++◌, length, take, refl, sym, ◌∙◌, ap, arith, lit<}
use Rattle.std.specs.Prelude.{nat_eq, ◌&&◌}
use Rattle.std.specs.List.{starts_with, AllByRecursion}
use Rattle.std.specs.declared.cmp.Ordering.{Ordering}
use Rattle.std.specs.declared.cmp.Ordering.TheVariants.{Less, Equal, Greater}
use Rattle.std.specs.Ordering.{MatchOrdering, nat_cmp, ordering_then, ordering_reverse, is_eq}
use Rattle.std.specs.Cmp.Lexicographic.{slice_cmp}
use Rattle.std.specs.Cmp.{nat_cmp_is}
use Rattle.std.proofs.lemmas.Cmp.{ranked}
use Rattle.std.proofs.lemmas.Bool.{ne_eqb, eq-eqb}
use Rattle.std.proofs.Math.Nat.{pow-suc, pow-zero, one-le-pow, mod-one, mod-lt, mul-le-mul_right}
use Rattle.field_laws.specs.Digits.{digits_in}
use Rattle.field_laws.proofs.DigitLemmas.{mod-product}
use Rattle.key_order.specs.KeyBytes.{complement}

-- ---- one answer behind another

then_assoc : (a b c : Ordering) → ordering_then (ordering_then a b) c ≡ ordering_then a (ordering_then b c)
then_assoc Less b c = refl
then_assoc Equal b c = refl
then_assoc Greater b c = refl

reverse_then : (a b : Ordering) → ordering_reverse (ordering_then a b) ≡ ordering_then (ordering_reverse a) (ordering_reverse b)
reverse_then Less b = refl
reverse_then Equal b = refl
reverse_then Greater b = refl

-- ---- lists behind lists of one length

pub cmp-append : (a b x y : List ℕ) → length a ≡ length b → slice_cmp nat_cmp (a ++ x) (b ++ y) ≡ ordering_then (slice_cmp nat_cmp a b) (slice_cmp nat_cmp x y)
cmp-append [] [] x y same = refl
cmp-append [] (d ∷ b) x y same = cc
cmp-append (c ∷ a) [] x y same = cc
cmp-append (c ∷ a) (d ∷ b) x y same =
    let rest : length a ≡ length b = omega arith in
    ap (ordering_then (nat_cmp c d)) (cmp-append a b x y rest) ∙ sym (then_assoc (nat_cmp c d) (slice_cmp nat_cmp a b) (slice_cmp nat_cmp x y))

pub cmp-cut : (a b x y : List ℕ) → length a ≡ length b → slice_cmp nat_cmp (take (length (b ++ y)) (a ++ x)) (b ++ y) ≡ ordering_then (slice_cmp nat_cmp a b) (slice_cmp nat_cmp (take (length y) x) y)
cmp-cut [] [] x y same = refl
cmp-cut [] (d ∷ b) x y same = cc
cmp-cut (c ∷ a) [] x y same = cc
cmp-cut (c ∷ a) (d ∷ b) x y same =
    let rest : length a ≡ length b = omega arith in
    ap (ordering_then (nat_cmp c d)) (cmp-cut a b x y rest) ∙ sym (then_assoc (nat_cmp c d) (slice_cmp nat_cmp a b) (slice_cmp nat_cmp (take (length y) x) y))

-- a list begins with another where, cut to its length, it is equal to it
begins-then : (c d : ℕ) (o : Ordering) (b : Bool) → b ≡ is_eq o → (nat_eq d c && b) ≡ is_eq (ordering_then (nat_cmp c d) o)
begins-then c d o b same = rw same (begun (nat_cmp c d) (ranked c d (nat_cmp c d) refl))
  where
    begun : (first : Ordering) → MatchOrdering first (c < d) (c ≡ d) (d < c) → (nat_eq d c && is_eq o) ≡ is_eq (ordering_then first o)
    begun Less h = rw (ne_eqb d c (λ e. absurd (omega arith))) refl
    begun Equal h = rw (eq-eqb d c (sym h)) refl
    begun Greater h = rw (ne_eqb d c (λ e. absurd (omega arith))) refl

pub begins-cut : (key part : List ℕ) → starts_with nat_eq key part ≡ is_eq (slice_cmp nat_cmp (take (length part) key) part)
begins-cut [] [] = refl
begins-cut (k ∷ key) [] = refl
begins-cut [] (p ∷ part) = refl
begins-cut (k ∷ key) (p ∷ part) = begins-then k p (slice_cmp nat_cmp (take (length part) key) part) (starts_with nat_eq key part) (begins-cut key part)

-- ---- digits

nat_cmp-parts : (p q r s t : ℕ) → r < p → t < p → nat_cmp (q * p + r) (s * p + t) ≡ ordering_then (nat_cmp q s) (nat_cmp r t)
nat_cmp-parts p q r s t small low =
    sym (nat_cmp_is (q * p + r) (s * p + t) (ordering_then (nat_cmp q s) (nat_cmp r t)) (both (nat_cmp q s) (nat_cmp r t) (ranked q s (nat_cmp q s) refl) (ranked r t (nat_cmp r t) refl)))
  where
    both : (high rest : Ordering) → MatchOrdering high (q < s) (q ≡ s) (s < q) → MatchOrdering rest (r < t) (r ≡ t) (t < r)
        → MatchOrdering (ordering_then high rest) (q * p + r < s * p + t) (q * p + r ≡ s * p + t) (s * p + t < q * p + r)
    both Less rest h k = (let wide : (q + 1) * p ≤ s * p = mul-le-mul_right p (let le : q + 1 ≤ s = omega arith in le) in omega arith)
    both Greater rest h k = (let wide : (s + 1) * p ≤ q * p = mul-le-mul_right p (let le : s + 1 ≤ q = omega arith in le) in omega arith)
    both Equal Less h k = (let same : q * p ≡ s * p = ap (λ (n : ℕ). n * p) h in omega arith)
    both Equal Equal h k = (let same : q * p ≡ s * p = ap (λ (n : ℕ). n * p) h in omega arith)
    both Equal Greater h k = (let same : q * p ≡ s * p = ap (λ (n : ℕ). n * p) h in omega arith)

pub digits-cmp : (n a b : ℕ) → slice_cmp nat_cmp (digits_in 256 n a) (digits_in 256 n b) ≡ nat_cmp (a % 256 ^ n) (b % 256 ^ n)
digits-cmp zero a b = rw (pow-zero 256, mod-one a, mod-one b) refl
digits-cmp (suc n) a b =
    let some : 0 < 256 ^ n = one-le-pow n 256 (lit< tt) in
    let first : a % 256 ^ suc n ≡ a / 256 ^ n % 256 * 256 ^ n + a % 256 ^ n = ap (λ (k : ℕ). a % k) (pow-suc 256 n) ∙ mod-product a (256 ^ n) 256 some (lit< tt) in
    let second : b % 256 ^ suc n ≡ b / 256 ^ n % 256 * 256 ^ n + b % 256 ^ n = ap (λ (k : ℕ). b % k) (pow-suc 256 n) ∙ mod-product b (256 ^ n) 256 some (lit< tt) in
    let rest = digits-cmp n a b in
    let parts : nat_cmp (a / 256 ^ n % 256 * 256 ^ n + a % 256 ^ n) (b / 256 ^ n % 256 * 256 ^ n + b % 256 ^ n)
    ≡ ordering_then (nat_cmp (a / 256 ^ n % 256) (b / 256 ^ n % 256)) (nat_cmp (a % 256 ^ n) (b % 256 ^ n)) =
    nat_cmp-parts (256 ^ n) (a / 256 ^ n % 256) (a % 256 ^ n) (b / 256 ^ n % 256) (b % 256 ^ n) (mod-lt a some) (mod-lt b some) in
    rw (first, second) (ap (ordering_then (nat_cmp (a / 256 ^ n % 256) (b / 256 ^ n % 256))) rest ∙ sym parts)

-- the digits of bytes are bytes
pub digits-bytes : (n a : ℕ) → AllByRecursion (λ b. b < 256) (digits_in 256 n a)
digits-bytes zero a = tt
digits-bytes (suc n) a = (mod-lt (a / 256 ^ n) (lit< tt), digits-bytes n a)

-- ---- bytes turned round

turned-cmp : (c d : ℕ) → c < 256 → d < 256 → nat_cmp (255 - c) (255 - d) ≡ ordering_reverse (nat_cmp c d)
turned-cmp c d low high = sym (nat_cmp_is (255 - c) (255 - d) (ordering_reverse (nat_cmp c d)) (turned (nat_cmp c d) (ranked c d (nat_cmp c d) refl)))
  where
    turned : (o : Ordering) → MatchOrdering o (c < d) (c ≡ d) (d < c) → MatchOrdering (ordering_reverse o) (255 - c < 255 - d) (255 - c ≡ 255 - d) (255 - d < 255 - c)
    turned Less h = omega arith
    turned Equal h = omega arith
    turned Greater h = omega arith

pub complement-cmp : (a b : List ℕ) → AllByRecursion (λ n. n < 256) a → AllByRecursion (λ n. n < 256) b → length a ≡ length b
    → slice_cmp nat_cmp (complement a) (complement b) ≡ ordering_reverse (slice_cmp nat_cmp a b)
complement-cmp [] [] low high same = refl
complement-cmp [] (d ∷ b) low high same = cc
complement-cmp (c ∷ a) [] low high same = cc
complement-cmp (c ∷ a) (d ∷ b) low high same =
    let long : length a ≡ length b = omega arith in
    rw (turned-cmp c d low.0 high.0, complement-cmp a b low.1 high.1 long) (sym (reverse_then (nat_cmp c d) (slice_cmp nat_cmp a b)))

pub length-complement : (a : List ℕ) → length (complement a) ≡ length a
length-complement [] = refl
length-complement (c ∷ a) = ap suc (length-complement a)

-- ---- lists that are parted at their ends

-- the order of any two lists that go on from these, and of the second with the first cut to its length
pub record IsParted (a b : List ℕ) (o : Ordering) : Type 0 where
  pub whole : (x y : List ℕ) → slice_cmp nat_cmp (a ++ x) (b ++ y) ≡ ordering_then o (slice_cmp nat_cmp x y)
  pub cut : (x y : List ℕ) → slice_cmp nat_cmp (take (length (b ++ y)) (a ++ x)) (b ++ y) ≡ ordering_then o (slice_cmp nat_cmp (take (length y) x) y)

-- lists of one length
pub IsParted-same : (a b : List ℕ) (o : Ordering) → length a ≡ length b → slice_cmp nat_cmp a b ≡ o → IsParted a b o
IsParted-same a b o same is = record {
  whole = λ x y. cmp-append a b x y same ∙ ap (λ (p : Ordering). ordering_then p (slice_cmp nat_cmp x y)) is;
  cut = λ x y. cmp-cut a b x y same ∙ ap (λ (p : Ordering). ordering_then p (slice_cmp nat_cmp (take (length y) x) y)) is;
}
