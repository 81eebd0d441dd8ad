-- Where a line ends, and what is behind it.
use Rattle.std.proofs.Common.{◌≡◌, ℕ, ◌+◌, ◌<◌, ◌≤◌, Bool, true, false, cond, not, List, [], ◌∷◌, length, take, drop, eqb, refl, ap, ◌∙◌, arith, suc, sym, length-drop, Option, Some, None, IsTrue, ◌&&◌, ◌-◌, subst}
use Rattle.std.specs.Prelude.{IsSome, IfSome, ◌↔◌}
use Rattle.std.specs.List.{position_or_len}
use Rattle.std.proofs.lemmas.List.Sums.{prefix_len-le-length}
use Rattle.std.proofs.lemmas.List.Folds.{length-prefix_len}
use Rattle.std.proofs.lemmas.List.{take_all, drop_all}
use Rattle.std.specs.List.{list_all}
use Rattle.field_types.specs.SystemName.{is_name}
use Rattle.text_lines.specs.Lines.{lines_of, onto_first, is_blank, word_length, name_alone}

pub ruleset counted = (length-prefix_len, prefix_len-le-length)

-- one more byte before the first line and what is behind it
longer : (b : ℕ) (lines : List (List ℕ)) (n : ℕ) (bs : List ℕ) → lines ≡ take n bs ∷ lines_of (drop (n + 1) bs) → onto_first b lines ≡ take (1 + n) (b ∷ bs) ∷ lines_of (drop (1 + n + 1) (b ∷ bs))
longer b lines n bs h =
    let line_end : 1 + n ≡ suc n = omega arith in
    let behind : 1 + n + 1 ≡ suc (n + 1) = omega arith in
    ap (onto_first b) h ∙ rw (behind, line_end) refl

-- the first line goes up to the first line feed, and the others begin behind it
pub lines_of-cut : (text : List ℕ) → 0 < length text → lines_of text ≡ take (position_or_len (λ b. eqb b 10) text) text ∷ lines_of (drop (position_or_len (λ b. eqb b 10) text + 1) text)
lines_of-cut [] some = absurd (omega arith)
lines_of-cut (b ∷ []) some = elim (eqb b 10) as (λ v. cond v ([] ∷ []) ((b ∷ []) ∷ []) ≡ take (cond (not v) (1 + 0) 0) (b ∷ []) ∷ lines_of (drop (cond (not v) (1 + 0) 0 + 1) (b ∷ []))) [ true ↦ refl | false ↦ refl ]
lines_of-cut (b ∷ c ∷ bs) some =
    let others = lines_of-cut (c ∷ bs) (omega arith) in
    elim (eqb b 10) as (λ v. cond v ([] ∷ lines_of (c ∷ bs)) (onto_first b (lines_of (c ∷ bs))) ≡ take (cond (not v) (1 + position_or_len (λ b. eqb b 10) (c ∷ bs)) 0) (b ∷ c ∷ bs) ∷ lines_of (drop (cond (not v) (1 + position_or_len (λ b. eqb b 10) (c ∷ bs)) 0 + 1) (b ∷ c ∷ bs)))
    [ true ↦ refl | false ↦ longer b (lines_of (c ∷ bs)) (position_or_len (λ b. eqb b 10) (c ∷ bs)) (c ∷ bs) others ]

-- a name's text and the name that is read from it
name_from : (r : Option (List ℕ)) (text : List ℕ) (valid : Bool) → (IsSome r ↔ IsTrue valid) → IfSome r (λ n. n ≡ text) → r ≡ cond valid (Some text) None
name_from None text true valid value = absurd (let some : false ≡ true = valid.1 refl in cc)
name_from None text false valid value = refl
name_from (Some n) text true valid value = ap (λ x. Some x) value
name_from (Some n) text false valid value = absurd (let some : false ≡ true = valid.0 refl in cc)

-- the name in front of blanks, as it is read
pub name_alone-from : (text : List ℕ) (n : ℕ) (r : Option (List ℕ)) → n ≡ word_length text → list_all is_blank (drop n text) ≡ true → (IsSome r ↔ IsTrue (is_name (take n text))) → IfSome r (λ name. name ≡ take n text) → r ≡ name_alone text
name_alone-from text n r here blank valid value =
    let P : ℕ → Type 0 = λ k. r ≡ cond (list_all is_blank (drop k text) && is_name (take k text)) (Some (take k text)) None in
    subst P here (rw blank (name_from r (take n text) (is_name (take n text)) valid value))

pub name_alone-none : (text : List ℕ) (n : ℕ) → n ≡ word_length text → list_all is_blank (drop n text) ≡ false → None ≡ name_alone text
name_alone-none text n here blank =
    let P : ℕ → Type 0 = λ k. None ≡ cond (list_all is_blank (drop k text) && is_name (take k text)) (Some (take k text)) None in
    subst P here (rw blank refl)

-- what is left of the text from a place on
pub rest_of : (at : ℕ) (text : List ℕ) → take (length text - at) (drop at text) ≡ drop at text
rest_of at text = take_all (length text - at) (drop at text) (omega (arith, length-drop at text))

-- the first line, where a line feed is behind it
pub lines_of-split : (text : List ℕ) (n : ℕ) → n ≡ position_or_len (λ b. eqb b 10) text → n < length text → (lines_of text ≡ take n text ∷ lines_of (take (length text - (n + 1)) (drop (n + 1) text))) × (length (take (length text - (n + 1)) (drop (n + 1) text)) < length text)
lines_of-split text n here within =
    let P : ℕ → Type 0 = λ k. lines_of text ≡ take k text ∷ lines_of (drop (k + 1) text) in
    rw (rest_of (n + 1) text) (subst P (sym here) (lines_of-cut text (omega arith)), omega (arith, length-drop (n + 1) text))

-- the last line
pub lines_of-last : (text : List ℕ) (n : ℕ) → n ≡ position_or_len (λ b. eqb b 10) text → length text ≤ n → 0 < length text → (lines_of text ≡ text ∷ lines_of (take (length text - n) (drop n text))) × (length (take (length text - n) (drop n text)) < length text)
lines_of-last text n here past some =
    let P : ℕ → Type 0 = λ k. lines_of text ≡ take k text ∷ lines_of (drop (k + 1) text) in
    let nothing : drop n text ≡ [] = drop_all n text past in
    let all : take n text ≡ text = take_all n text past in
    let behind : drop (n + 1) text ≡ [] = drop_all (n + 1) text (omega arith) in
    let cut : lines_of text ≡ take n text ∷ lines_of (drop (n + 1) text) = subst P (sym here) (lines_of-cut text some) in
    rw (rest_of n text, nothing) (cut ∙ (λ i. all i ∷ lines_of (behind i)), some)
