-- Lists of bytes taken piece by piece.
use Rattle.std.proofs.Common.{[], ◌∷◌, get_or, Result, Ok, Err, OnErr, ◌≡◌, ℕ, ◌+◌, ◌-◌, ◌≤◌, List, ◌++◌, length, take, drop, sym, ◌∙◌, ap, arith, append_assoc, length-take, length-drop}
use Rattle.std.proofs.Math.Seq.{take-add}
use Rattle.std.proofs.lemmas.List.{get_or_at, take_at, take_rest, drop-drop, take-append-drop}

-- a piece from a place on, as the front of what was read, and what is left behind it
pub read_front : (all piece rest : List ℕ) (place n m : ℕ) → n ≡ m → n ≤ length all - place → piece ≡ take m (drop place all) → drop place all ≡ take n (piece ++ rest) ++ drop (place + n) all
read_front all piece rest place n m same fits is =
    let size : length piece ≡ n = ap length is ∙ length-take m (drop place all) ∙ (let e = length-drop place all in omega arith) in
    let front : take n (piece ++ rest) ≡ take n (drop place all) = take_at piece rest n size ∙ is ∙ ap (λ (k : ℕ). take k (drop place all)) (sym same) in
    sym (ap (λ (l : List ℕ). l ++ drop (place + n) all) front ∙ ap (λ (l : List ℕ). take n (drop place all) ++ l) (sym (drop-drop n place all)) ∙ take-append-drop n (drop place all))

-- what a sink has taken after one piece more, from what was left of the bytes
pub taken_further : (first bytes old new : List ℕ) (done n : ℕ) → old ≡ first ++ take done bytes → new ≡ old ++ take n (take (length bytes - done) (drop done bytes)) → new ≡ first ++ take (done + n) bytes
taken_further first bytes old new done n so_far more =
    more ∙ ap (λ (l : List ℕ). old ++ take n l) (take_rest bytes done)
    ∙ ap (λ (l : List ℕ). l ++ take n (drop done bytes)) so_far
    ∙ append_assoc first (take done bytes) (take n (drop done bytes)) ∙ ap (λ (l : List ℕ). first ++ l) (sym (take-add done n bytes))

-- a plain fact at an exit that answers an error
pub on_err : {T E : Type 0} (r : Result T E) (P : Type 0) → P → OnErr r P
on_err (Ok x) P p = tt
on_err (Err e) P p = p

-- what was pushed stands at the place that was the end
pub last_is : {X : Type 0} (xs pushed : List X) (x y : X) (n : ℕ) → pushed ≡ xs ++ x ∷ [] → length xs ≡ n → y ≡ get_or pushed n y → y ≡ x
last_is {X} xs pushed x y n push size read = read ∙ ap (λ (l : List X). get_or l n y) push ∙ get_or_at xs x [] y n size
