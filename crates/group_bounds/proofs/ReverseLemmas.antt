-- A range that is gone through backwards: its closed part at the end is the one at the beginning of the range turned round.
use Rattle.std.proofs.Common.{◌≡◌, ℕ, ◌-◌, ◌≤◌, Bool, true, false, ◌||◌, List, [], ◌∷◌, ◌++◌, length, take, drop, reverse, Option, Some, None, is_some, refl, sym, ap, ◌∙◌, arith}
use Rattle.std.specs.List.{list_any, cons_option}
use Rattle.std.proofs.lemmas.Bool.Decides.{nat_tests}
use Rattle.std.proofs.lemmas.List.{reverse-append, reverse-reverse, length-reverse, length-drop, take-append-drop, drop_at}
use Rattle.std.proofs.lemmas.List.Folds.{list_any-append}
use Rattle.journal_model.specs.Acts.{Act, Change, change_of, changes}
use Rattle.journal_model.specs.Closed.{begins, ends, greatest, is_closed, closed_prefix, closed_suffix, last}
use Rattle.journal_model.specs.Walks.{Numbered, numbered}
use Rattle.journal_model.specs.Ranges.{straddled}
use Rattle.journal_model.proofs.ClosedLemmas.{changes-append}
use Rattle.journal_model.proofs.SequenceLemmas.{unnumbered, unnumbered-numbered}
use Rattle.group_bounds.specs.Walk.{WalkState, cut_by, verdict, IsWalked}
use Rattle.group_bounds.proofs.SeenLemmas.{same_marks, changes_in, is_closed-same}
use Rattle.group_bounds.proofs.WalkLemmas.{first_cycle, greatest-same, straddled-cut}
use Rattle.group_bounds.proofs.EntryLemmas.{map-reverse}

list_any-reverse : {X : Type 0} (p : X → Bool) (xs : List X) → list_any p (reverse xs) ≡ list_any p xs
list_any-reverse p [] = refl
list_any-reverse p (x ∷ xs) = ap (list_any p) (reverse-append (x ∷ []) xs) ∙ list_any-append p (reverse xs) (x ∷ []) ∙ ap (λ b. b || (p x || false)) (list_any-reverse p xs)
    ∙ turned (list_any p xs) (p x) where
      turned : (a b : Bool) → a || (b || false) ≡ b || a
      turned a b = grind (arith, nat_tests)

is_closed-reverse : (xs : List Act) → is_closed (reverse xs) ≡ is_closed xs
is_closed-reverse xs = is_closed-same (reverse xs) xs (λ q. same_marks _ _ _ _ _ _ (list_any-reverse (changes_in q) xs) (list_any-reverse (begins q) xs) (list_any-reverse (ends q) xs))

-- the last acts are the first ones of the range turned round
last-reverse : {X : Type 0} (n : ℕ) (xs : List X) → n ≤ length xs → last n xs ≡ reverse (take n (reverse xs))
last-reverse n xs le =
    let back = reverse xs in
    let parts : reverse (drop n back) ++ reverse (take n back) ≡ xs = sym (reverse-append (take n back) (drop n back)) ∙ ap reverse (take-append-drop n back) ∙ reverse-reverse xs in
    let long : length (reverse (drop n back)) ≡ length xs - n = length-reverse (drop n back) ∙ length-drop n back ∙ ap (λ m. m - n) (length-reverse xs) in
    ap (drop (length xs - n)) (sym parts) ∙ drop_at (reverse (drop n back)) (reverse (take n back)) (length xs - n) long

pub closed_suffix-reverse : (xs : List Act) → closed_suffix xs ≡ closed_prefix (reverse xs)
closed_suffix-reverse xs =
    greatest-same (λ n. is_closed (last n xs)) (λ n. is_closed (take n (reverse xs))) (length xs) (λ n le. ap is_closed (last-reverse n xs le) ∙ is_closed-reverse (take n (reverse xs)))
    ∙ ap (greatest (λ n. is_closed (take n (reverse xs)))) (sym (length-reverse xs))

changes-reverse : (xs : List Act) → changes (reverse xs) ≡ reverse (changes xs)
changes-reverse [] = refl
changes-reverse (a ∷ xs) =
    ap changes (reverse-append (a ∷ []) xs) ∙ changes-append (reverse xs) (a ∷ []) ∙ ap (λ ys. ys ++ changes (a ∷ [])) (changes-reverse xs) ∙ at (change_of a)
  where
    none : (ys : List Change) → ys ++ [] ≡ ys
    none [] = refl
    none (y ∷ ys) = ap (λ zs. y ∷ zs) (none ys)

    at : (o : Option Change) → reverse (changes xs) ++ cons_option o [] ≡ reverse (cons_option o (changes xs))
    at None = none (reverse (changes xs))
    at (Some c) = sym (reverse-append (c ∷ []) (changes xs))

-- whether there is a change doesn't depend on the way
some-reverse : (cs : List Change) → is_some (first_cycle (reverse cs)) ≡ is_some (first_cycle cs)
some-reverse [] = refl
some-reverse (c ∷ cs) = ap (λ ys. is_some (first_cycle ys)) (reverse-append (c ∷ []) cs) ∙ at (reverse cs) where
  at : (ys : List Change) → is_some (first_cycle (ys ++ c ∷ [])) ≡ true
  at [] = refl
  at (d ∷ ys) = refl

-- a walk backwards tells whether a commit cycle cuts the range
pub cut-reverse : (first second : ℕ) (xs : List Act) (w : WalkState) → IsWalked (reverse xs) w → straddled (reverse (numbered first xs)) (numbered second (last w.closed xs)) ≡ verdict w
cut-reverse first second xs w h =
    let within : w.closed ≤ length xs = omega (arith, h.within, length-reverse xs) in
    let whole : unnumbered (reverse (numbered first xs)) ≡ unnumbered (numbered first (reverse xs)) =
    map-reverse (λ (n : Numbered). n.change) (numbered first xs) ∙ ap reverse (unnumbered-numbered first xs) ∙ sym (changes-reverse xs) ∙ sym (unnumbered-numbered first (reverse xs)) in
    let part : unnumbered (numbered second (last w.closed xs)) ≡ reverse (unnumbered (numbered second (take w.closed (reverse xs)))) =
    unnumbered-numbered second (last w.closed xs) ∙ ap changes (last-reverse w.closed xs within) ∙ changes-reverse (take w.closed (reverse xs))
    ∙ ap reverse (sym (unnumbered-numbered second (take w.closed (reverse xs)))) in
    straddled-cut (reverse (numbered first xs)) (numbered second (last w.closed xs))
    ∙ ap (λ cs. cut_by (first_cycle cs) (is_some (first_cycle (unnumbered (numbered second (last w.closed xs)))))) whole
    ∙ ap (λ cs. cut_by (first_cycle (unnumbered (numbered first (reverse xs)))) (is_some (first_cycle cs))) part
    ∙ ap (λ b. cut_by (first_cycle (unnumbered (numbered first (reverse xs)))) b) (some-reverse (unnumbered (numbered second (take w.closed (reverse xs)))))
    ∙ sym (straddled-cut (numbered first (reverse xs)) (numbered second (take w.closed (reverse xs))))
    ∙ h.cut first second
