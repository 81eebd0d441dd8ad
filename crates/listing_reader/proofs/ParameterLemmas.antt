-- A parameter as a word, and what the words of parameters give.
use Rattle.std.proofs.Common.{◌≡◌, ℕ, if◌then◌else◌, ◌-◌, ◌<◌, ◌^◌, true, false, ◌&&◌, nat_eq, Option, Some, None, List, [], ◌∷◌, ◌++◌, length, take, drop, codes, refl, ap, ◌∙◌, sym, append_assoc, append-nil, length-append, arith}
use Rattle.std.specs.Option.{option_or}
use Rattle.std.specs.Fmt.{decimal}
use Rattle.std.specs.Cmp.Lexicographic.{pointwise}
use Rattle.std.proofs.lemmas.Bool.{cond-true, cond-false, eq-eqb}
use Rattle.std.proofs.Math.Seq.{take-append_seam, drop-append_seam}
use Rattle.field_types.specs.SystemName.{is_name}
use Rattle.listing.specs.Texts.{parameter}
use Rattle.statement_reader.specs.Lists.{let_some}
use Rattle.statement_reader.specs.Parameters.{behind, before}
use Rattle.statement_reader.specs.Words.{after, is_outside, outside, has_text}
use Rattle.listing_words.specs.Values.{units, number_in, long_in}
use Rattle.listing_words.specs.Words.{is_break, inside, given, name_of, name_in}
use Rattle.listing_words.specs.declared.numbers.TheConstants.{MOST_NUMBER, MOST_LONG}
use Rattle.listing_reader.proofs.ScanLemmas.{scan, IsClosed, LiesInside, Opens, Follows, scan-append}
use Rattle.listing_reader.proofs.ValueLemmas.{number-decimal, long-decimal}

-- the word of a parameter
abbrev pub word_of : List ℕ → List ℕ → List ℕ
word_of keyword value = keyword ++ 40 ∷ (value ++ 41 ∷ [])

text-before : (a b : List ℕ) → has_text a ≡ true → has_text (a ++ b) ≡ true
text-before [] b some = absurd cc
text-before (c ∷ a) b some = refl

pub parameter-follows : (keyword value : List ℕ) → has_text keyword ≡ true → Opens keyword → LiesInside value → Follows (parameter keyword value) (word_of keyword value ∷ [])
unfolding parameter
parameter-follows keyword value some opens lies =
    let closed : IsClosed (word_of keyword value) =
    ap (scan is_outside after outside) (sym (append_assoc keyword (40 ∷ []) (value ++ 41 ∷ []))) ∙ scan-append is_outside after outside (keyword ++ 40 ∷ []) (value ++ 41
    ∷ []) (after outside 40) opens ∙ scan-append is_outside after (after outside 40) value (41 ∷ []) (after outside 40) lies in
    record { text_is = ap (λ t. 32 ∷ t) (sym (append-nil (word_of keyword value))); are = (record { text = text-before keyword (40 ∷ (value ++ 41 ∷ [])) some; closed = closed }, tt) }

pub same-words : (xs : List ℕ) → pointwise nat_eq xs xs ≡ true
same-words [] = refl
same-words (x ∷ xs) = ap (λ v. v && pointwise nat_eq xs xs) (eq-eqb x x refl) ∙ same-words xs

behind-own : (front rest : List ℕ) → behind front (front ++ rest) ≡ Some rest
behind-own front rest =
    ap (λ t. if pointwise nat_eq t front then Some (drop (length front) (front ++ rest)) else None) (take-append_seam front rest)
    ∙ cond-true (pointwise nat_eq front front) (Some (drop (length front) (front ++ rest))) None (same-words front)
    ∙ ap (λ t. Some t) (drop-append_seam front rest)

before-own : (value : List ℕ) → before (codes ")") (value ++ 41 ∷ []) ≡ Some value
before-own value =
    let count : length (value ++ 41 ∷ []) - 1 ≡ length value = omega (arith, length-append value (41 ∷ [])) in
    ap (λ n. if pointwise nat_eq (drop n (value ++ 41 ∷ [])) (41 ∷ []) then Some (take n (value ++ 41 ∷ [])) else None) count
    ∙ ap (λ t. if pointwise nat_eq t (41 ∷ []) then Some (take (length value) (value ++ 41 ∷ [])) else None) (drop-append_seam value (41 ∷ []))
    ∙ ap (λ t. Some t) (take-append_seam value (41 ∷ []))

pub inside-own : (keyword value : List ℕ) → inside keyword (word_of keyword value) ≡ Some value
unfolding inside
inside-own keyword value =
    ap (λ o. let_some o (λ rest. let_some (behind (codes "(") rest) (before (codes ")")))) (behind-own keyword (40 ∷ (value ++ 41 ∷ [])))
    ∙ ap (λ o. let_some o (before (codes ")"))) (behind-own (codes "(") (value ++ 41 ∷ []))
    ∙ before-own value

-- the keyword's own word
pub given-own : (keyword value : List ℕ) (words : List (List ℕ)) → is_break (word_of keyword value) ≡ false → given keyword (word_of keyword value ∷ words) ≡ Some value
given-own keyword value words word =
    cond-false (is_break (word_of keyword value)) None (option_or (inside keyword (word_of keyword value)) (given keyword words)) word
    ∙ ap (λ o. option_or o (given keyword words)) (inside-own keyword value)

-- a word of another keyword
pub given-next : (keyword word : List ℕ) (words : List (List ℕ)) → is_break word ≡ false → inside keyword word ≡ None → given keyword (word ∷ words) ≡ given keyword words
given-next keyword word words is other =
    cond-false (is_break word) None (option_or (inside keyword word) (given keyword words)) is ∙ ap (λ o. option_or o (given keyword words)) other

-- what is there leads on
pub some-then : {A B : Type 0} (o : Option A) (next : A → Option B) (a : A) (b : Option B) → o ≡ Some a → next a ≡ b → let_some o next ≡ b
some-then o next a b here there = ap (λ x. let_some x next) here ∙ there

pub name-given : (keyword value : List ℕ) (words : List (List ℕ)) → given keyword words ≡ Some value → is_name value ≡ true → name_in keyword words ≡ Some value
unfolding name_in
name-given keyword value words here is = ap (λ o. let_some o name_of) here ∙ cond-true (is_name value) (Some value) None is

pub number-given : (keyword : List ℕ) (value : ℕ) (words : List (List ℕ)) → given keyword words ≡ Some (decimal value) → value < 2 ^ 32 → number_in keyword words ≡ Some value
unfolding number_in
number-given keyword value words here small = ap (λ o. let_some o (units MOST_NUMBER)) here ∙ number-decimal value small

pub long-given : (keyword : List ℕ) (value : ℕ) (words : List (List ℕ)) → given keyword words ≡ Some (decimal value) → value < 2 ^ 64 → long_in keyword words ≡ Some value
unfolding long_in
long-given keyword value words here small = ap (λ o. let_some o (units MOST_LONG)) here ∙ long-decimal value small
