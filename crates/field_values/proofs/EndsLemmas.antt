-- Where bytes stop being the beginning of a list whose bytes pass one test and whose last byte passes another.
use Rattle.std.proofs.Common.{◌≡◌, ℕ, zero, suc, Bool, true, false, not, cond, ◌&&◌, ◌==◌, Option, Some, None, List, [], ◌∷◌, ◌++◌, length, refl, sym, ◌∙◌, ap, subst, arith, length-append, position, option_map}
use Rattle.std.specs.Option.{option_or}
use Rattle.std.proofs.lemmas.Bool.{and_parts, and_from, eqb-true, eq-eqb}
use Rattle.std.proofs.lemmas.Bool.Decides.{nat_tests}
use Rattle.field_values.specs.Digits.{ends_pass}
use Rattle.field_values.specs.FirstBad.{TellsFirstBad}
use Rattle.field_values.proofs.FirstBadLemmas.{IsFirstBad-head, TellsFirstBad-behind, TellsFirstBad-same, first_failing, position-first_failing}

-- n bytes that pass
abbrev pub passes : (ℕ → Bool) → (ℕ → Bool) → ℕ → List ℕ → Bool
passes test final n w = (length w == n) && ends_pass test final w

-- n + 1 bytes that pass
abbrev pub word : ℕ → ℕ → ℕ → List ℕ
word x y zero = y ∷ []
word x y (suc n) = x ∷ word x y n

length-word : (x y n : ℕ) → length (word x y n) ≡ suc n
length-word x y zero = refl
length-word x y (suc n) = ap suc (length-word x y n)

ends_pass-word : (test final : ℕ → Bool) (x y n : ℕ) → test x ≡ true → final y ≡ true → ends_pass test final (word x y n) ≡ true
ends_pass-word test final x y zero t f = f
ends_pass-word test final x y (suc zero) t f = and_from (test x) (final y) t f
ends_pass-word test final x y (suc (suc n)) t f = and_from (test x) (ends_pass test final (word x y (suc n))) t (ends_pass-word test final x y (suc n) t f)

pub passes-word : (test final : ℕ → Bool) (x y n : ℕ) → test x ≡ true → final y ≡ true → passes test final (suc n) (word x y n) ≡ true
passes-word test final x y n t f = and_from (length (word x y n) == suc n) (ends_pass test final (word x y n)) (eq-eqb (length (word x y n)) (suc n) (length-word x y n)) (ends_pass-word test final x y n t f)

only-last : (test final : ℕ → Bool) (last : ℕ) (other : List ℕ) → passes test final 1 (last ∷ other) ≡ true → final last ≡ true
only-last test final last [] h = h
only-last test final last (o ∷ os) h =
    let one : suc (suc (length os)) ≡ 1 = eqb-true (suc (suc (length os))) 1 (and_parts (suc (suc (length os)) == 1) (ends_pass test final (last ∷ o ∷ os)) h).0 in
    absurd (omega arith)

head-passes : (test final : ℕ → Bool) (b n : ℕ) (other : List ℕ) → passes test final (suc (suc n)) (b ∷ other) ≡ true → test b ≡ true
head-passes test final b n [] h =
    let one : 1 ≡ suc (suc n) = eqb-true 1 (suc (suc n)) (and_parts (1 == suc (suc n)) (final b) h).0 in
    absurd (omega arith)
head-passes test final b n (o ∷ os) h = (and_parts (test b) (ends_pass test final (o ∷ os)) (and_parts (suc (suc (length os)) == suc (suc n)) (test b && ends_pass test final (o ∷ os)) h).1).0

-- behind a byte that passes
passes-behind : (test final : ℕ → Bool) (b n : ℕ) → test b ≡ true → (w : List ℕ) → passes test final (suc n) w ≡ passes test final (suc (suc n)) (b ∷ w)
passes-behind test final b n t [] = grind (arith, nat_tests)
passes-behind test final b n t (c ∷ cs) = rw t (grind (arith, nat_tests))

or_suc : (o p : Option ℕ) → option_or (option_map suc o) (option_map suc p) ≡ option_map suc (option_or o p)
or_suc None p = refl
or_suc (Some x) p = refl

last_suc : (b : Bool) (n : ℕ) → cond b None (Some (suc n)) ≡ option_map suc (cond b None (Some n))
last_suc true n = refl
last_suc false n = refl

at_last : (test final : ℕ → Bool) (y last : ℕ) (b : Bool) → final y ≡ true → final last ≡ b → TellsFirstBad (passes test final 1) (last ∷ []) (cond b None (Some 0))
at_last test final y last true f e = e
at_last test final y last false f e = IsFirstBad-head (passes test final 1) last [] (y ∷ []) f (λ other h. let there : final last ≡ true = only-last test final last other h in cc)

at_head : (test final : ℕ → Bool) (x y b : ℕ) (bs : List ℕ) (n : ℕ) (good : Bool) (place : Option ℕ) → test x ≡ true → final y ≡ true → test b ≡ good →
    TellsFirstBad (passes test final (suc n)) bs place → TellsFirstBad (passes test final (suc (suc n))) (b ∷ bs) (cond good (option_map suc place) (Some 0))
at_head test final x y b bs n true place t f e h =
    TellsFirstBad-behind (passes test final (suc (suc n))) b bs place
    (TellsFirstBad-same (passes test final (suc n)) (λ w. passes test final (suc (suc n)) (b ∷ w)) bs place (passes-behind test final b n e) h)
at_head test final x y b bs n false place t f e h =
    IsFirstBad-head (passes test final (suc (suc n))) b bs (word x y (suc n)) (passes-word test final x y (suc n) t f)
    (λ other p. let there : test b ≡ true = head-passes test final b n other p in cc)

or_place : (good : Bool) (o p : Option ℕ) → option_or (cond good (option_map suc o) (Some 0)) (option_map suc p) ≡ cond good (option_map suc (option_or o p)) (Some 0)
or_place true o p = or_suc o p
or_place false o p = refl

tells : (test final : ℕ → Bool) (x y : ℕ) (front : List ℕ) (last : ℕ) → test x ≡ true → final y ≡ true →
    TellsFirstBad (passes test final (suc (length front))) (front ++ last ∷ []) (option_or (first_failing test front) (cond (final last) None (Some (length front))))
tells test final x y [] last t f = at_last test final y last (final last) f refl
tells test final x y (b ∷ bs) last t f =
    rw (last_suc (final last) (length bs), or_place (test b) (first_failing test bs) (cond (final last) None (Some (length bs))))
    (at_head test final x y b (bs ++ last ∷ []) (length bs) (test b) (option_or (first_failing test bs) (cond (final last) None (Some (length bs)))) t f refl (tells test final x y bs last t f))

turned : (b : Bool) (n : ℕ) → cond (not b) (Some n) None ≡ cond b None (Some n)
turned true n = refl
turned false n = refl

-- the first byte of the front that does not pass, or else the last byte
pub TellsFirstBad-ends : (test final : ℕ → Bool) (x y : ℕ) (image front : List ℕ) (last : ℕ) → test x ≡ true → final y ≡ true → image ≡ front ++ last ∷ [] →
    TellsFirstBad (passes test final (length image)) image (option_or (position (λ b. not (test b)) front) (cond (not (final last)) (Some (length front)) None))
TellsFirstBad-ends test final x y image front last t f e =
    let long : suc (length front) ≡ length image = omega (arith, ap length e, length-append front (last ∷ [])) in
    let all : TellsFirstBad (passes test final (suc (length front))) (front ++ last ∷ []) (option_or (first_failing test front) (cond (final last) None (Some (length front)))) = tells test final x y front last t f in
    let here = subst (λ (n : ℕ). TellsFirstBad (passes test final n) (front ++ last ∷ []) (option_or (first_failing test front) (cond (final last) None (Some (length front))))) long all in
    let there = subst (λ (w : List ℕ). TellsFirstBad (passes test final (length image)) w (option_or (first_failing test front) (cond (final last) None (Some (length front))))) (sym e) here in
    let place : option_or (position (λ b. not (test b)) front) (cond (not (final last)) (Some (length front)) None) ≡ option_or (first_failing test front) (cond (final last) None (Some (length front))) =
    ap (λ o. option_or o (cond (not (final last)) (Some (length front)) None)) (position-first_failing test front) ∙ ap (λ p. option_or (first_failing test front) p) (turned (final last) (length front)) in
    subst (λ (p : Option ℕ). TellsFirstBad (passes test final (length image)) image p) (sym place) there
