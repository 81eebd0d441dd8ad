-- Which texts are one word, and what the words of a text of words are.
use Rattle.std.specs.Prelude.{⊤}
use Rattle.std.proofs.Common.{◌≡◌, ℕ, if◌then◌else◌, Bool, true, false, cond, ◌&&◌, ◌||◌, ◌==◌, Option, Some, None, List, [], ◌∷◌, ◌++◌, refl, ap, ◌∙◌, sym, append_assoc, append-nil, is_some, true≢false}
use Rattle.std.specs.List.{filter}
use Rattle.std.specs.Option.{unwrap_or}
use Rattle.std.proofs.lemmas.Bool.{cond-true}
use Rattle.text_lines.specs.Lines.{is_blank, onto_first, lines_of}
use Rattle.statement_reader.specs.Words.{after, is_outside, outside, pieces, has_text, words}

-- where the place behind a text lies; None where the text has a blank that separates words, or a line feed
abbrev pub scan : {N : Type 0} → (N → Bool) → (N → ℕ → N) → N → List ℕ → Option N
scan out next n [] = Some n
scan out next n (c ∷ text) = if (out n && is_blank c) || (c == 10) then None else scan out next (next n c) text

-- a text that lies outside, from its beginning to its end
abbrev pub IsClosed : List ℕ → Type 0
IsClosed text = scan is_outside after outside text ≡ Some outside

-- a text that lies within one pair of parentheses
abbrev pub LiesInside : List ℕ → Type 0
LiesInside text = scan is_outside after (after outside 40) text ≡ Some (after outside 40)

-- a keyword, with the parenthesis behind it
abbrev pub Opens : List ℕ → Type 0
Opens keyword = scan is_outside after outside (keyword ++ 40 ∷ []) ≡ Some (after outside 40)

-- one word, which has no line feed
pub record IsWord (word : List ℕ) : Type 0 where
  pub text : has_text word ≡ true
  pub closed : IsClosed word

none-some : {A : Type 0} {x : A} → None ≡ Some x → ⊥
none-some h = true≢false (sym (ap is_some h))

some-same : {A : Type 0} (a b : A) → Some a ≡ Some b → a ≡ b
some-same a b h = ap (λ o. unwrap_or o a) h

pub scan-append : {N : Type 0} (out : N → Bool) (next : N → ℕ → N) (n : N) (a b : List ℕ) (m : N) → scan out next n a ≡ Some m → scan out next n (a ++ b) ≡ scan out next m b
scan-append out next n [] b m h = ap (λ x. scan out next x b) (some-same n m h)
scan-append out next n (c ∷ a) b m h =
    (elim ((out n && is_blank c) || (c == 10)) as (λ v. cond v None (scan out next (next n c) a) ≡ Some m → cond v None (scan out next (next n c) (a ++ b)) ≡ scan out next m b) [
      | true ↦ λ none. absurd (none-some none)
      | false ↦ λ on. scan-append out next (next n c) a b m on
    ]) h

pub inside-append : (a b : List ℕ) → LiesInside a → LiesInside b → LiesInside (a ++ b)
inside-append a b ha hb = scan-append is_outside after (after outside 40) a b (after outside 40) ha ∙ hb

-- a piece of a text is the text up to the blank behind it
pub piece : (n : _) (w rest : List ℕ) → scan is_outside after n w ≡ Some outside → pieces n (w ++ 32 ∷ rest) ≡ w ∷ pieces outside rest
piece n [] rest h = ap (λ x. pieces x (32 ∷ rest)) (some-same n outside h)
piece n (c ∷ w) rest h =
    let more = piece (after n c) w rest in
    (elim (is_outside n && is_blank c) as (λ v. cond (v || (c == 10)) None (scan is_outside after (after n c) w) ≡ Some outside → cond v ([] ∷ pieces outside (w ++ 32
    ∷ rest)) (onto_first c (pieces (after n c) (w ++ 32 ∷ rest))) ≡ (c ∷ w) ∷ pieces outside rest) [
      | true ↦ λ none. absurd (none-some none)
      | false ↦ (elim (c == 10) as (λ v. cond v None (scan is_outside after (after n c) w) ≡ Some outside → onto_first c (pieces (after n c) (w ++ 32 ∷ rest)) ≡ (c ∷ w)
          ∷ pieces outside rest) [ true ↦ λ none. absurd (none-some none) | false ↦ λ on. ap (onto_first c) (more on) ])
    ]) h

-- and the last piece is all of it
pub last-piece : (n m : _) (w : List ℕ) → scan is_outside after n w ≡ Some m → pieces n w ≡ w ∷ []
last-piece n m [] h = refl
last-piece n m (c ∷ w) h =
    let more = last-piece (after n c) m w in
    (elim (is_outside n && is_blank c) as (λ v. cond (v || (c == 10)) None (scan is_outside after (after n c) w) ≡ Some m → cond v ([]
    ∷ pieces outside w) (onto_first c (pieces (after n c) w)) ≡ (c ∷ w) ∷ []) [
      | true ↦ λ none. absurd (none-some none)
      | false ↦ (elim (c == 10) as (λ v. cond v None (scan is_outside after (after n c) w) ≡ Some m → onto_first c (pieces (after n c) w) ≡ (c ∷ w)
          ∷ []) [ true ↦ λ none. absurd (none-some none) | false ↦ λ on. ap (onto_first c) (more on) ])
    ]) h

-- a word without a line feed begins a line
abbrev pub has_feed : List ℕ → Bool
has_feed [] = false
has_feed (c ∷ text) = (c == 10) || has_feed text

pub scan-feed : {N : Type 0} (out : N → Bool) (next : N → ℕ → N) (n m : N) (w : List ℕ) → scan out next n w ≡ Some m → has_feed w ≡ false
scan-feed out next n m [] h = refl
scan-feed out next n m (c ∷ w) h =
    let more = scan-feed out next (next n c) m w in
    (elim (out n && is_blank c) as (λ v. cond (v || (c == 10)) None (scan out next (next n c) w) ≡ Some m → (c == 10) || has_feed w ≡ false) [
      | true ↦ λ none. absurd (none-some none)
      | false ↦ (elim (c == 10) as (λ v. cond v None (scan out next (next n c) w) ≡ Some m → v || has_feed w ≡ false) [ true ↦ λ none. absurd (none-some none) | false ↦ λ on. more on ])
    ]) h

pub word-feed : (word : List ℕ) → IsWord word → has_feed word ≡ false
word-feed word is = scan-feed is_outside after outside outside word is.closed

pub has_feed-append : (a b : List ℕ) → has_feed a ≡ false → has_feed b ≡ false → has_feed (a ++ b) ≡ false
has_feed-append [] b ha hb = hb
has_feed-append (c ∷ a) b ha hb =
    (elim (c == 10) as (λ v. v || has_feed a ≡ false → v || has_feed (a ++ b) ≡ false) [ true ↦ λ no. no | false ↦ λ no. has_feed-append a b no hb ]) ha

-- the first line
pub lines-first : (line rest : List ℕ) → has_feed line ≡ false → lines_of (line ++ 10 ∷ rest) ≡ line ∷ lines_of rest
lines-first [] rest h = refl
lines-first (c ∷ line) rest h =
    (elim (c == 10) as (λ v. v || has_feed line ≡ false → cond v ([] ∷ lines_of (line ++ 10 ∷ rest)) (onto_first c (lines_of (line ++ 10 ∷ rest))) ≡ (c ∷ line) ∷ lines_of rest) [
      | true ↦ λ no. absurd cc
      | false ↦ λ no. ap (onto_first c) (lines-first line rest no)
    ]) h

-- ---- words one after another

-- a blank and a word, for each
abbrev pub spaced : List (List ℕ) → List ℕ
spaced [] = []
spaced (word ∷ more) = 32 ∷ (word ++ spaced more)

pub spaced-append : (a b : List (List ℕ)) → spaced (a ++ b) ≡ spaced a ++ spaced b
spaced-append [] b = refl
spaced-append (word ∷ a) b = ap (λ t. 32 ∷ t) (ap (λ t. word ++ t) (spaced-append a b) ∙ sym (append_assoc word (spaced a) (spaced b)))

-- each is a word
abbrev pub AreWords : List (List ℕ) → Type 0
AreWords [] = ⊤
AreWords (word ∷ more) = IsWord word × AreWords more

pub are_words-append : (a b : List (List ℕ)) → AreWords a → AreWords b → AreWords (a ++ b)
are_words-append [] b ha hb = hb
are_words-append (word ∷ a) b ha hb = (ha.0, are_words-append a b ha.1 hb)

pub spaced-words : (word : List ℕ) (more : List (List ℕ)) → IsWord word → AreWords more → words (word ++ spaced more) ≡ word ∷ more
unfolding words
spaced-words word [] is are =
    ap (λ t. filter has_text (pieces outside t)) (append-nil word) ∙ ap (filter has_text) (last-piece outside outside word is.closed) ∙ cond-true (has_text word) (word ∷ []) [] is.text
spaced-words word (next ∷ more) is are =
    ap (filter has_text) (piece outside word (next ++ spaced more) is.closed)
    ∙ cond-true (has_text word) (word ∷ filter has_text (pieces outside (next ++ spaced more))) (filter has_text (pieces outside (next ++ spaced more))) is.text
    ∙ ap (λ ws. word ∷ ws) (spaced-words next more are.0 are.1)

pub spaced-feed : (more : List (List ℕ)) → AreWords more → has_feed (spaced more) ≡ false
spaced-feed [] are = refl
spaced-feed (word ∷ more) are = has_feed-append word (spaced more) (word-feed word are.0) (spaced-feed more are.1)

-- a text of a blank and a word, for each of these
pub record Follows (text : List ℕ) (ws : List (List ℕ)) : Type 0 where
  pub text_is : text ≡ spaced ws
  pub are : AreWords ws

pub both : (a b : List ℕ) (ws vs : List (List ℕ)) → Follows a ws → Follows b vs → Follows (a ++ b) (ws ++ vs)
both a b ws vs ha hb = record { text_is = ap (λ t. t ++ b) ha.text_is ∙ ap (λ t. spaced ws ++ t) hb.text_is ∙ sym (spaced-append ws vs); are = are_words-append ws vs ha.are hb.are }

pub nothing : Follows [] []
nothing = record { text_is = refl; are = tt }
