-- Where the lines of a section lie, and sections one after another.
use Rattle.std.proofs.Common.{◌≡◌, ℕ, suc, ◌+◌, ◌-◌, ◌<◌, ◌≤◌, true, false, cond, List, [], ◌∷◌, ◌++◌, length, take, drop, eqb, refl, sym, ap, ◌∙◌, arith, append_assoc, subst, ⊎_elim}
use Rattle.std.proofs.lemmas.Bool.{cases_Bool, cond-true, cond-false}
use Rattle.std.proofs.lemmas.List.{append-nil, drop-drop, drop_all, take_all}
use Rattle.text_lines.specs.Lines.{lines_of, onto_first}
use Rattle.input_cards.specs.declared.section.Section.{Section}
use Rattle.input_cards.specs.Cards.{is_card, card_of}
use Rattle.input_cards.specs.Sections.{Part, before_card, parts_from}
use Rattle.input_cards.specs.SectionTexts.{bytes_of, bytes_between, part_in, parts_in}

no_first : (b : ℕ) (lines : List (List ℕ)) → onto_first b lines ≡ [] → ⊥
no_first b [] e = cc
no_first b (line ∷ lines) e = cc

-- what has no lines is empty
pub no_lines : (text : List ℕ) → lines_of text ≡ [] → text ≡ []
no_lines [] e = refl
no_lines (b ∷ bs) e = ⊎_elim
    (λ feed. absurd (let some : [] ∷ lines_of bs ≡ [] = sym (cond-true (eqb b 10) ([] ∷ lines_of bs) (onto_first b (lines_of bs)) feed) ∙ e in cc))
    (λ other. absurd (no_first b (lines_of bs) (sym (cond-false (eqb b 10) ([] ∷ lines_of bs) (onto_first b (lines_of bs)) other) ∙ e)))
    (cases_Bool (eqb b 10))

-- the first line of a text cut behind it, and the lines of what is behind it
pub record Cut (text line : List ℕ) (others : List (List ℕ)) : Type 0 where
  pub behind : lines_of (drop (length line + 1) text) ≡ others
  pub taken : (k : ℕ) → lines_of (take ((length line + 1) + k) text) ≡ line ∷ lines_of (take k (drop (length line + 1) text))

cut-feed : (b : ℕ) (bs : List ℕ) → eqb b 10 ≡ true → Cut (b ∷ bs) [] (lines_of bs)
cut-feed b bs feed = record {
  behind = refl;
  taken = λ k. let one : (0 + 1) + k ≡ suc k = omega arith in rw one (cond-true (eqb b 10) ([] ∷ lines_of (take k bs)) (onto_first b (lines_of (take k bs))) feed);
}

cut-last : (b : ℕ) → eqb b 10 ≡ false → Cut (b ∷ []) (b ∷ []) []
cut-last b other =
    let none : drop (length (b ∷ []) + 1) (b ∷ []) ≡ [] = drop_all (length (b ∷ []) + 1) (b ∷ []) (omega arith) in
    record {
      behind = ap lines_of none;
      taken = λ k.
          ap lines_of (take_all ((length (b ∷ []) + 1) + k) (b ∷ []) (omega arith))
          ∙ cond-false (eqb b 10) ([] ∷ lines_of []) (onto_first b (lines_of [])) other
          ∙ ap (λ t. (b ∷ []) ∷ lines_of t) (sym (ap (take k) none ∙ take_all k [] (omega arith)));
    }

cut-more : (b : ℕ) (bs line : List ℕ) (others : List (List ℕ)) → eqb b 10 ≡ false → Cut bs line others → Cut (b ∷ bs) (b ∷ line) others
cut-more b bs line others other cut =
    let one : suc (length line) + 1 ≡ suc (length line + 1) = omega arith in
    record {
      behind = rw one cut.behind;
      taken = λ k.
          let more : (suc (length line) + 1) + k ≡ suc ((length line + 1) + k) = omega arith in
          rw (more, one)
          (cond-false (eqb b 10) ([] ∷ lines_of (take ((length line + 1) + k) bs)) (onto_first b (lines_of (take ((length line + 1) + k) bs))) other
          ∙ ap (onto_first b) (cut.taken k));
    }

-- the lines of what is behind the first byte, where that ends no line
cut-inside : (b : ℕ) (bs line : List ℕ) (others : List (List ℕ)) → eqb b 10 ≡ false → ((first : List ℕ) (more : List (List ℕ)) → lines_of bs ≡ first ∷ more → Cut bs first more)
    → (lines : List (List ℕ)) → lines_of bs ≡ lines → onto_first b lines ≡ line ∷ others → Cut (b ∷ bs) line others
cut-inside b bs line others other cut [] none here =
    let alone : b ∷ [] ≡ line = cc in
    let last : [] ≡ others = cc in
    let empty : [] ≡ bs = sym (no_lines bs none) in
    let P : List ℕ → Type 0 = λ l. Cut (b ∷ bs) l others in
    let Q : List (List ℕ) → Type 0 = λ o. Cut (b ∷ bs) (b ∷ []) o in
    let R : List ℕ → Type 0 = λ t. Cut (b ∷ t) (b ∷ []) [] in
    subst P alone (subst Q last (subst R empty (cut-last b other)))
cut-inside b bs line others other cut (first ∷ more) some here =
    let longer : b ∷ first ≡ line = cc in
    let same : more ≡ others = cc in
    let P : List ℕ → Type 0 = λ l. Cut (b ∷ bs) l others in
    let Q : List (List ℕ) → Type 0 = λ o. Cut (b ∷ bs) (b ∷ first) o in
    subst P longer (subst Q same (cut-more b bs first more other (cut first more some)))

pub cut-first : (text line : List ℕ) (others : List (List ℕ)) → lines_of text ≡ line ∷ others → Cut text line others
cut-first [] line others e = absurd cc
cut-first (b ∷ bs) line others e = ⊎_elim
    (λ feed.
    let here : [] ∷ lines_of bs ≡ line ∷ others = sym (cond-true (eqb b 10) ([] ∷ lines_of bs) (onto_first b (lines_of bs)) feed) ∙ e in
    let empty : [] ≡ line = cc in
    let behind : lines_of bs ≡ others = cc in
    let P : List ℕ → Type 0 = λ l. Cut (b ∷ bs) l others in
    let Q : List (List ℕ) → Type 0 = λ o. Cut (b ∷ bs) [] o in
    subst P empty (subst Q behind (cut-feed b bs feed)))
    (λ other.
    cut-inside b bs line others other (λ first more. cut-first bs first more) (lines_of bs) refl
    (sym (cond-false (eqb b 10) ([] ∷ lines_of bs) (onto_first b (lines_of bs)) other) ∙ e))
    (cases_Bool (eqb b 10))

-- the first lines of a text lie in its first bytes
pub front-lies : (text : List ℕ) (front others : List (List ℕ)) → lines_of text ≡ front ++ others → lines_of (take (bytes_of front) text) ≡ front
front-lies text [] others e = refl
front-lies text (line ∷ lines) others e =
    let cut = cut-first text line (lines ++ others) e in
    cut.taken (bytes_of lines) ∙ ap (λ l. line ∷ l) (front-lies (drop (length line + 1) text) lines others cut.behind)

-- the lines from the first card on
from_card : List (List ℕ) → List (List ℕ)
from_card [] = []
from_card (line ∷ lines) = cond (is_card line) (line ∷ lines) (from_card lines)

two_parts : (lines : List (List ℕ)) → lines ≡ before_card lines ++ from_card lines
unfolding from_card
two_parts [] = refl
two_parts (line ∷ lines) =
    elim (is_card line) as (λ v. line ∷ lines ≡ cond v [] (line ∷ before_card lines) ++ cond v (line ∷ lines) (from_card lines)) [ true ↦ refl | false ↦ ap (λ l. line ∷ l) (two_parts lines) ]

-- the lines of a section whose text begins at this place
pub section-lines : (bytes : List ℕ) (place n : ℕ) (lines : List (List ℕ)) → lines_of (drop place bytes) ≡ lines → n ≡ bytes_of (before_card lines)
    → lines_of (bytes_between place (place + n) bytes) ≡ before_card lines
section-lines bytes place n lines here count =
    let all : (place + n) - place ≡ bytes_of (before_card lines) = omega arith in
    ap (λ k. lines_of (take k (drop place bytes))) all ∙ front-lies (drop place bytes) (before_card lines) (from_card lines) (here ∙ two_parts lines)

-- one line further
pub next-lies : (bytes rest line : List ℕ) (others : List (List ℕ)) (place : ℕ) → lines_of (drop place bytes) ≡ lines_of rest → lines_of rest ≡ line ∷ others
    → lines_of (drop (place + (length line + 1)) bytes) ≡ others
next-lies bytes rest line others place here first =
    ap lines_of (sym (drop-drop (length line + 1) place bytes)) ∙ (cut-first (drop place bytes) line others (here ∙ first)).behind

-- ---- how many lines and bytes there are

lines-onto : (b n : ℕ) (lines : List (List ℕ)) → length lines ≤ n → length (onto_first b lines) ≤ suc n
lines-onto b n [] few = omega arith
lines-onto b n (line ∷ lines) few = omega arith

pub lines-few : (text : List ℕ) → length (lines_of text) ≤ length text
lines-few [] = omega arith
lines-few (b ∷ bs) =
    let others = lines-few bs in
    elim (eqb b 10) as (λ v. length (cond v ([] ∷ lines_of bs) (onto_first b (lines_of bs))) ≤ suc (length bs)) [ true ↦ omega arith | false ↦ lines-onto b (length bs) (lines_of bs) others ]

bytes-onto : (b n : ℕ) (lines : List (List ℕ)) → bytes_of lines ≤ n + 1 → bytes_of (onto_first b lines) ≤ suc n + 1
bytes-onto b n [] few = omega arith
bytes-onto b n (line ∷ lines) few = omega arith

pub bytes-few : (text : List ℕ) → bytes_of (lines_of text) ≤ length text + 1
bytes-few [] = omega arith
bytes-few (b ∷ bs) =
    let others = bytes-few bs in
    elim (eqb b 10) as (λ v. bytes_of (cond v ([] ∷ lines_of bs) (onto_first b (lines_of bs))) ≤ suc (length bs) + 1) [ true ↦ omega arith | false ↦ bytes-onto b (length bs) (lines_of bs) others ]

pub bytes-before : (lines : List (List ℕ)) → bytes_of (before_card lines) ≤ bytes_of lines
bytes-before [] = omega arith
bytes-before (line ∷ lines) =
    let others = bytes-before lines in
    elim (is_card line) as (λ v. bytes_of (cond v [] (line ∷ before_card lines)) ≤ (length line + 1) + bytes_of lines) [ true ↦ omega arith | false ↦ omega arith ]

-- ---- sections one after another

parts_in-append : (bytes : List ℕ) (made more : List Section) → parts_in bytes (made ++ more) ≡ parts_in bytes made ++ parts_in bytes more
parts_in-append bytes [] more = refl
parts_in-append bytes (section ∷ made) more = ap (λ parts. part_in bytes section ∷ parts) (parts_in-append bytes made more)

-- one section more
pub made-card : (bytes : List ℕ) (made : List Section) (section : Section) (number : ℕ) (line : List ℕ) (lines rest : List (List ℕ)) (all : List Part)
    → is_card line ≡ true → part_in bytes section ≡ record { line = number; card = card_of line; lines = before_card lines } → rest ≡ line ∷ lines
    → parts_in bytes made ++ parts_from number rest ≡ all → parts_in bytes (made ++ section ∷ []) ++ parts_from (number + 1) lines ≡ all
unfolding parts_from
made-card bytes made section number line lines rest all card same first before =
    ap (λ parts. parts ++ parts_from (number + 1) lines) (parts_in-append bytes made (section ∷ []))
    ∙ append_assoc (parts_in bytes made) (part_in bytes section ∷ []) (parts_from (number + 1) lines)
    ∙ ap (λ part. parts_in bytes made ++ part ∷ parts_from (number + 1) lines) same
    ∙ ap (λ parts. parts_in bytes made ++ parts)
    (sym (cond-true (is_card line) (record { line = number; card = card_of line; lines = before_card lines } ∷ parts_from (number + 1) lines) (parts_from (number + 1) lines) card))
    ∙ ap (λ r. parts_in bytes made ++ parts_from number r) (sym first)
    ∙ before

-- a line that is no card
pub made-line : (made : List Part) (number : ℕ) (line : List ℕ) (lines rest : List (List ℕ)) (all : List Part) → is_card line ≡ false → rest ≡ line ∷ lines
    → made ++ parts_from number rest ≡ all → made ++ parts_from (number + 1) lines ≡ all
unfolding parts_from
made-line made number line lines rest all other first before =
    ap (λ parts. made ++ parts)
    (sym (cond-false (is_card line) (record { line = number; card = card_of line; lines = before_card lines } ∷ parts_from (number + 1) lines) (parts_from (number + 1) lines) other))
    ∙ ap (λ r. made ++ parts_from number r) (sym first)
    ∙ before

-- nothing is left
pub made-all : (made : List Part) (number : ℕ) (rest : List (List ℕ)) (all : List Part) → rest ≡ [] → made ++ parts_from number rest ≡ all → made ≡ all
unfolding parts_from
made-all made number rest all empty before = sym (append-nil made) ∙ ap (λ r. made ++ parts_from number r) (sym empty) ∙ before

-- a line further, within the bytes of the input
pub record Place (bytes rest : List ℕ) (number place : ℕ) : Type 0 where
  pub lies : lines_of (drop place bytes) ≡ lines_of rest
  pub counted : number + length rest ≤ length bytes
  pub within : place + bytes_of (lines_of rest) ≤ length bytes + 1

pub further : (bytes rest line after : List ℕ) (number place : ℕ) → Place bytes rest number place → lines_of rest ≡ line ∷ lines_of after → length after < length rest
    → Place bytes after (number + 1) (place + (length line + 1))
further bytes rest line after number place here first less =
    let size : bytes_of (lines_of rest) ≡ (length line + 1) + bytes_of (lines_of after) = ap bytes_of first in
    record {
      lies = next-lies bytes rest line (lines_of after) place here.lies first;
      counted = omega (arith, here.counted);
      within = omega (arith, here.within);
    }

-- a text that is no longer than the input has no more lines than the input has bytes
pub few-within : (text bytes : List ℕ) → length text ≤ length bytes → length (lines_of text) ≤ length bytes
few-within text bytes within = let lines = lines-few text in omega arith
