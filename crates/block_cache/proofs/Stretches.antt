-- Stretches of a list by their sequences: one behind another, one of another, those of a longer list, and those that are read.
use Rattle.std.proofs.Common.{◌≡◌, ℕ, zero, suc, ◌+◌, ◌-◌, ◌≤◌, ◌<◌, List, [], ◌∷◌, ◌++◌, length, take, drop, refl, sym, ◌∙◌, ap, subst, arith, length-append, length-drop, take-append-drop}
use Rattle.std.proofs.Math.Seq.{take-add}
use Rattle.std.proofs.lemmas.List.{drop-append-le, drop-drop, drop-take, length-take-le, take-append-le}
use Rattle.entry_codec.specs.declared.entries.Entry.{Entry}
use Rattle.journal_model.specs.Journal.{AreNumbered}
use Rattle.journal_book.specs.Reads.{between}
use Rattle.journal_book.proofs.Numbering.{numbered-drop, numbered_front}
use Rattle.block_cache.specs.Cached.{AreStretches, IsStretch}
use Rattle.block_cache.specs.Walks.{IsWhole}

-- one behind another
pub between_on : (first lo r s : ℕ) (xs : List Entry) → first ≤ lo → lo ≤ r + 1 → r ≤ s → between first lo r xs ++ between first (r + 1) s xs ≡ between first lo s xs
between_on first lo r s xs from mid upto =
    let n = r + 1 - lo in
    let m = s + 1 - (r + 1) in
    let rest = drop (lo - first) xs in
    let moved : drop n rest ≡ drop (r + 1 - first) xs = drop-drop n (lo - first) xs ∙ ap (λ (k : ℕ). drop k xs) (omega (arith, from, mid)) in
    ap (λ (l : List Entry). take n rest ++ take m l) (sym moved) ∙ sym (take-add n m rest) ∙ ap (λ (k : ℕ). take k rest) (omega (arith, mid, upto))

take_none : (xs : List Entry) → take 0 xs ≡ []
take_none [] = refl
take_none (x ∷ xs) = refl

-- none that ends before it begins
pub between_none : (first lo hi : ℕ) (xs : List Entry) → hi < lo → between first lo hi xs ≡ []
between_none first lo hi xs past =
    let none : hi + 1 - lo ≡ 0 = omega (arith, past) in
    ap (λ (k : ℕ). take k (drop (lo - first) xs)) none ∙ take_none (drop (lo - first) xs)

take_front : (m n : ℕ) (xs : List Entry) → m ≤ n → take m (take n xs) ≡ take m xs
take_front zero n xs within = take_none (take n xs) ∙ sym (take_none xs)
take_front (suc m) zero xs within = absurd (omega (arith, within))
take_front (suc m) (suc n) [] within = refl
take_front (suc m) (suc n) (x ∷ xs) within = ap (λ (l : List Entry). x ∷ l) (take_front m n xs (omega (arith, within)))

-- a part of a front is a part of the list
part : (m j n : ℕ) (xs : List Entry) → j + m ≤ n → take m (drop j (take n xs)) ≡ take m (drop j xs)
part m j n xs within =
    let split : n ≡ j + (n - j) = omega (arith, within) in
    ap (λ (k : ℕ). take m (drop j (take k xs))) split ∙ ap (λ (l : List Entry). take m l) (drop-take j (n - j) xs) ∙ take_front m (n - j) (drop j xs) (omega (arith, within))

-- what a stretch has between two sequences, the list has there
pub stretch_between : (first b lo hi : ℕ) (all xs : List Entry) → AreNumbered b xs → IsStretch first all xs → b ≤ lo → lo ≤ hi → hi < b + length xs → between b lo hi xs ≡ between first lo hi all
stretch_between first b lo hi all [] numbered is from some upto = absurd is
stretch_between first b lo hi all (e ∷ more) numbered is from some upto =
    let at = numbered.0 in
    let n = e.sequence + length more + 1 - e.sequence in
    let rest = drop (e.sequence - first) all in
    let moved : drop (lo - b) rest ≡ drop (lo - first) all = drop-drop (lo - b) (e.sequence - first) all ∙ ap (λ (k : ℕ). drop k all) (omega (arith, at, from, is.0)) in
    ap (λ (l : List Entry). take (hi + 1 - lo) (drop (lo - b) l)) is.2 ∙ part (hi + 1 - lo) (lo - b) n rest (omega (arith, from, some, upto)) ∙ ap (λ (l : List Entry). take (hi + 1 - lo) l) moved

-- ---- a longer list

stretch_more : (first : ℕ) (entries more xs : List Entry) → IsStretch first entries xs → IsStretch first (entries ++ more) xs
stretch_more first entries more [] is = is
stretch_more first entries more (e ∷ xs) is =
    let k = e.sequence - first in
    let n = e.sequence + length xs + 1 - e.sequence in
    let long = length-drop k entries in
    let below : e.sequence + length xs < first + length (entries ++ more) = omega (arith, is.1, length-append entries more) in
    let same : take n (drop k (entries ++ more)) ≡ take n (drop k entries) =
    ap (λ (l : List Entry). take n l) (drop-append-le k entries more (omega (arith, is.0, is.1))) ∙ take-append-le n (drop k entries) more (omega (arith, is.0, is.1, long)) in
    (is.0, below, is.2 ∙ sym same)

pub stretches_more : (first : ℕ) (entries more : List Entry) (blocks : List (List Entry)) → AreStretches first entries blocks → AreStretches first (entries ++ more) blocks
stretches_more first entries more [] are = are
stretches_more first entries more (xs ∷ blocks) are = (stretch_more first entries more xs are.0, stretches_more first entries more blocks are.1)

-- ---- what is read

pub whole_between : (first lo hi : ℕ) (all : List Entry) → AreNumbered first all → first ≤ lo → lo ≤ hi → hi < first + length all → IsWhole lo hi (between first lo hi all)
whole_between first lo hi all are from some upto =
    let k = lo - first in
    let n = hi + 1 - lo in
    let rest = drop k all in
    let long = length-drop k all in
    let size = length-take-le n rest (omega (arith, from, some, upto, long)) in
    let behind : AreNumbered lo rest = subst (λ (m : ℕ). AreNumbered m rest) (omega (arith, from)) (numbered-drop k first all (omega (arith, from, some, upto)) are) in
    record {
      numbered = numbered_front lo (take n rest) (drop n rest) (subst (λ (l : List Entry). AreNumbered lo l) (sym (take-append-drop n rest)) behind);
      long = omega (arith, size, some);
    }

pub whole_stretch : (first lo hi : ℕ) (all xs : List Entry) → xs ≡ between first lo hi all → IsWhole lo hi xs → first ≤ lo → lo ≤ hi → hi < first + length all → IsStretch first all xs
whole_stretch first lo hi all [] is whole from some upto = absurd (omega (arith, whole.long, some))
whole_stretch first lo hi all (e ∷ more) is whole from some upto =
    let at : e.sequence ≡ lo = whole.numbered.0 in
    let end : hi ≡ e.sequence + length more = omega (arith, at, whole.long) in
    let below : e.sequence + length more < first + length all = omega (arith, end, upto) in
    let begins : first ≤ e.sequence = omega (arith, at, from) in
    (begins, below, is ∙ ap (λ (n : ℕ). between first n hi all) (sym at) ∙ ap (λ (n : ℕ). between first e.sequence n all) end)
