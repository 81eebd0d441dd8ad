-- The bytes that are looked for, field after field of a list.
use Rattle.std.proofs.Common.{◌≡◌, ℕ, zero, suc, ◌+◌, ◌<◌, ◌≤◌, Option, Some, None, List, [], ◌∷◌, ◌++◌, length, drop, get_or, refl, sym, ◌∙◌, ap, subst, arith, add-one}
use Rattle.std.specs.List.{AllByRecursion}
use Rattle.std.proofs.lemmas.List.{drop_all}
use Rattle.file_model.specs.declared.joins.JoinPair.{JoinPair}
use Rattle.join_rows.specs.WantedBytes.{sought_bytes, with_bytes, wanted_bytes}
use Rattle.join_rows.proofs.StepLemmas.{bytes-added, bytes-none, bytes-whole}

drop-here : {X : Type 0} (xs : List X) (i : ℕ) (x : X) → i < length xs → x ≡ get_or xs i x → drop i xs ≡ x ∷ drop (suc i) xs
drop-here [] i x lt is = absurd (omega (arith, lt))
drop-here {X} (y ∷ ys) zero x lt is = ap (λ (z : X). z ∷ ys) (sym is)
drop-here (y ∷ ys) (suc i) x lt is = drop-here ys i x (omega (arith, lt)) is

pub all-step : {X : Type 0} (P : X → Type 0) (xs : List X) (i : ℕ) (x : X) → i < length xs → x ≡ get_or xs i x → AllByRecursion P (drop i xs) → AllByRecursion P (drop (i + 1) xs)
all-step P xs i x lt is all = subst (λ (n : ℕ). AllByRecursion P (drop n xs)) (sym (add-one i)) (subst (AllByRecursion P) (drop-here xs i x lt is) all).1

pub wanted-start : (key : List ℕ) (whole : Option (List ℕ)) → key ≡ [] → with_bytes key whole ≡ whole
wanted-start key None none = refl
wanted-start key (Some bytes) none = ap (λ (w : List ℕ). Some (w ++ bytes)) none

module _ (pairs : List JoinPair) (image : List ℕ) (i : ℕ) (pair : JoinPair) (old : List ℕ) (within : i < length pairs) (is : pair ≡ get_or pairs i pair)
    (before : with_bytes old (wanted_bytes (drop i pairs) image) ≡ wanted_bytes pairs image) where
  here : with_bytes old (wanted_bytes (pair ∷ drop (suc i) pairs) image) ≡ wanted_bytes pairs image
  here = ap (λ (ps : List JoinPair). with_bytes old (wanted_bytes ps image)) (sym (drop-here pairs i pair within is)) ∙ before

  pub wanted-step : (new : List ℕ) → with_bytes old (sought_bytes pair image) ≡ Some new → with_bytes new (wanted_bytes (drop (i + 1) pairs) image) ≡ wanted_bytes pairs image
  wanted-step new added =
      ap (λ (n : ℕ). with_bytes new (wanted_bytes (drop n pairs) image)) (add-one i)
      ∙ bytes-added old new (sought_bytes pair image) (wanted_bytes (drop (suc i) pairs) image) (wanted_bytes pairs image) added here

  pub wanted-stop : with_bytes old (sought_bytes pair image) ≡ None → None ≡ wanted_bytes pairs image
  wanted-stop none = bytes-none old (sought_bytes pair image) (wanted_bytes (drop (suc i) pairs) image) (wanted_bytes pairs image) none here

pub wanted-end : (pairs : List JoinPair) (image : List ℕ) (i : ℕ) (key : List ℕ) → length pairs ≤ i
    → with_bytes key (wanted_bytes (drop i pairs) image) ≡ wanted_bytes pairs image → Some key ≡ wanted_bytes pairs image
wanted-end pairs image i key past before =
    bytes-whole key (wanted_bytes pairs image) (ap (λ (ps : List JoinPair). with_bytes key (wanted_bytes ps image)) (sym (drop_all i pairs past)) ∙ before)
