-- What is made visible has printable characters alone, and takes the room that it was given.
use Rattle.std.proofs.Common.{◌≡◌, ℕ, ◌+◌, ◌-◌, ◌/◌, ◌%◌, ◌≤◌, Bool, true, false, cond, leb, List, [], ◌∷◌, ◌++◌, length, refl, ap, ◌∙◌, sym, arith, length-append}
use Rattle.std.proofs.lemmas.Bool.Decides.{nat_tests}
use Rattle.std.specs.List.{list_all}
use Rattle.hints.specs.Shown.{hex_digit, is_printable, is_shown, shown, visible, width}

pub hex_digit-printable : (n : ℕ) → is_printable (hex_digit n) ≡ true
hex_digit-printable n = grind (arith, nat_tests)

pub visible-printable : (b : ℕ) → list_all is_printable (visible b) ≡ true
visible-printable b = grind (arith, nat_tests, hex_digit-printable)

pub length-visible : (b : ℕ) → length (visible b) ≡ width b
length-visible b = elim (is_printable b) as (λ v. length (cond v (b ∷ []) (92 ∷ 120 ∷ hex_digit (b / 16) ∷ hex_digit (b % 16) ∷ [])) ≡ cond v 1 4) [ true ↦ refl | false ↦ refl ]

pub printable-shown : (bytes : List ℕ) → list_all is_printable bytes ≡ true → list_all is_shown bytes ≡ true
printable-shown [] all = refl
printable-shown (b ∷ bs) all = let others : list_all is_printable bs ≡ true → list_all is_shown bs ≡ true = printable-shown bs in grind (arith, nat_tests, others)

pub visible-shown : (b : ℕ) → list_all is_shown (visible b) ≡ true
visible-shown b = printable-shown (visible b) (visible-printable b)

pub length-shown-le : (line : List ℕ) (room : ℕ) → length (shown line room) ≤ room
length-shown-le [] room = omega arith
length-shown-le (b ∷ bs) room =
    let others : length (shown bs (room - width b)) ≤ room - width b = length-shown-le bs (room - width b) in
    grind (arith, nat_tests, others, length-visible, length-append)

pub list_all-append : (test : ℕ → Bool) (xs ys : List ℕ) → list_all test xs ≡ true → list_all test ys ≡ true → list_all test (xs ++ ys) ≡ true
list_all-append test [] ys first second = second
list_all-append test (x ∷ xs) ys first second = let others : list_all test xs ≡ true → list_all test (xs ++ ys) ≡ true = λ h. list_all-append test xs ys h second in grind (arith, others)

pub shown-printable : (line : List ℕ) (room : ℕ) → list_all is_printable (shown line room) ≡ true
shown-printable [] room = refl
shown-printable (b ∷ bs) room =
    elim (leb (width b) room) as (λ v. list_all is_printable (cond v (visible b ++ shown bs (room - width b)) []) ≡ true)
    [ true ↦ list_all-append is_printable (visible b) (shown bs (room - width b)) (visible-printable b) (shown-printable bs (room - width b)) | false ↦ refl ]
