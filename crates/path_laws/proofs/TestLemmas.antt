-- Tests that are joined, and tests of two lists: what they tell, and what they say of one list twice.
use Rattle.std.proofs.Common.{◌≡◌, refl, ℕ, Bool, true, ◌&&◌, ◌==◌, List, [], ◌∷◌}
use Rattle.std.specs.Cmp.{first_so, second_so}
use Rattle.std.specs.Cmp.Lexicographic.{pointwise}
use Rattle.std.proofs.lemmas.Bool.{false≢true}
use Rattle.std.proofs.lemmas.Bool.Decides.{Decides-eqb}

-- ---- a test with tests behind it that hold, and alone

pub with-one : {b : Bool} → b ≡ true → (b && true) ≡ true
with-one same = λ i. same i && true

pub with-two : {b : Bool} → b ≡ true → ((b && true) && true) ≡ true
with-two same = λ i. (same i && true) && true

pub with-three : (b : Bool) → b ≡ true → (((b && true) && true) && true) ≡ true
with-three b same = λ i. ((same i && true) && true) && true

pub but-one : {b : Bool} → (b && true) ≡ true → b ≡ true
but-one {b = b} same = first_so b true same

pub but-two : {b : Bool} → ((b && true) && true) ≡ true → b ≡ true
but-two {b = b} same = first_so b true (first_so (b && true) true same)

pub but-three : (b : Bool) → (((b && true) && true) && true) ≡ true → b ≡ true
but-three b same = first_so b true (first_so (b && true) true (first_so ((b && true) && true) true same))

-- ---- numbers

pub number-told : (n k : ℕ) → (n == k) ≡ true → n ≡ k
number-told n k = (Decides-eqb n k).0

pub number-own : (n : ℕ) → (n == n) ≡ true
number-own n = (Decides-eqb n n).1 refl

-- ---- lists

pub list-told : {A : Type 0} (test : A → A → Bool) → ((x y : A) → test x y ≡ true → x ≡ y) → (xs ys : List A) → pointwise test xs ys ≡ true → xs ≡ ys
list-told test told [] [] same = refl
list-told test told [] (y ∷ ys) same = absurd (false≢true same)
list-told test told (x ∷ xs) [] same = absurd (false≢true same)
list-told test told (x ∷ xs) (y ∷ ys) same =
    let here = told x y (first_so (test x y) (pointwise test xs ys) same) in
    let rest = list-told test told xs ys (second_so (test x y) (pointwise test xs ys) same) in
    λ i. here i ∷ rest i

pub list-own : {A : Type 0} (test : A → A → Bool) → ((x : A) → test x x ≡ true) → (xs : List A) → pointwise test xs xs ≡ true
list-own test own [] = refl
list-own test own (x ∷ xs) = let rest = list-own test own xs in λ i. own x i && rest i
