-- Texts with blanks behind them, place by place.
use Rattle.std.proofs.Common.{◌≡◌, ℕ, zero, suc, ◌+◌, ◌-◌, ◌<◌, ◌≤◌, true, false, List, [], ◌∷◌, length, replicate, drop, get_or, refl, sym, ◌∙◌, arith, max, length-append, add-one, inl, inr}
use Rattle.std.specs.declared.cmp.Ordering.{Ordering}
use Rattle.std.specs.declared.cmp.Ordering.TheVariants.{Less, Equal, Greater}
use Rattle.std.specs.Ordering.{nat_cmp, ordering_then, is_ne}
use Rattle.std.specs.Cmp.Lexicographic.{slice_cmp}
use Rattle.std.proofs.lemmas.Bool.{cases_lt}
use Rattle.std.proofs.Math.Seq.{drop-cons}
use Rattle.std.proofs.Math.ListN.{get_or-append}
use Rattle.std.proofs.lemmas.List.{get_or-replicate, length-replicate, get_or-append_right, get_or_past}
use Rattle.script_numbers.specs.Order.{filled}
use Rattle.script_numbers.specs.declared.order.TheConstants.{BLANK}

pub length-filled : (size : ℕ) (text : List ℕ) → length (filled size text) ≡ max size (length text)
length-filled size text =
    let blanks : length (replicate (size - length text) BLANK) ≡ size - length text = length-replicate (size - length text) BLANK in
    rw length-append (omega (arith, blanks))

filled-blank : (size i : ℕ) (text : List ℕ) → length text ≤ i → i < size → get_or (filled size text) i 0 ≡ BLANK
filled-blank size i text past within =
    get_or-append_right text (replicate (size - length text) BLANK) (length text) i 0 refl past
    ∙ get_or-replicate (size - length text) (i - length text) BLANK 0 (omega arith)

last-default : (text : List ℕ) (i d e : ℕ) → i < length text → get_or text i d ≡ get_or text i e
last-default [] i d e within = absurd (omega arith)
last-default (x ∷ text) zero d e within = refl
last-default (x ∷ text) (suc i) d e within = last-default text i d e (omega arith)

pub filled-byte : (size i : ℕ) (text : List ℕ) → i < max size (length text) → get_or (filled size text) i 0 ≡ get_or text i BLANK
filled-byte size i text within = elim (cases_lt i (length text)) [
  | inl before ↦ get_or-append text (replicate (size - length text) BLANK) 0 i before ∙ last-default text i 0 BLANK before
  | inr past ↦ filled-blank size i text past (omega arith) ∙ sym (get_or_past text i BLANK past)
]

pub place-cmp : (left right : List ℕ) (i : ℕ) → i < max (length left) (length right) → slice_cmp nat_cmp (drop i (filled (length right) left)) (drop i (filled (length left) right)) ≡ ordering_then (nat_cmp (get_or left i BLANK) (get_or right i BLANK)) (slice_cmp nat_cmp (drop (i + 1) (filled (length right) left)) (drop (i + 1) (filled (length left) right)))
place-cmp left right i within =
    let long_left : i < length (filled (length right) left) = rw length-filled (omega arith) in
    let long_right : i < length (filled (length left) right) = rw length-filled (omega arith) in
    rw (
      drop-cons (filled (length right) left) i 0 long_left,
      drop-cons (filled (length left) right) i 0 long_right,
      filled-byte (length right) i left (omega arith),
      filled-byte (length left) i right (omega arith),
      add-one,
    ) refl

pub then-unequal : (o p : Ordering) → is_ne o ≡ true → ordering_then o p ≡ o
then-unequal Less p h = refl
then-unequal Equal p h = absurd cc
then-unequal Greater p h = refl

pub then-equal : (o p : Ordering) → is_ne o ≡ false → ordering_then o p ≡ p
then-equal Less p h = absurd cc
then-equal Equal p h = refl
then-equal Greater p h = absurd cc
