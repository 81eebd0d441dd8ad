-- A call that is done whole, or not at all, is one of the outcomes of a call that is torn.
use Rattle.std.specs.Prelude.{◌-◌, ◌≡◌, ◌≢◌, ℕ, ◌+◌, ◌≤◌, min, List, [], ◌∷◌, ◌++◌, length, take, drop, if◌then◌else◌, ◌==◌, refl}
use Rattle.std.proofs.Common.{sym, ◌∙◌, ap, subst, arith, inl, inr, length-append, length-take, length-drop}
use Rattle.std.proofs.lemmas.List.{take_all, take-take, take_min, drop_all, take-append-le, drop-drop}
use Rattle.std.proofs.Math.Seq.{drop-append-add}
use Rattle.std.proofs.lemmas.Bool.{cases_lt}
use Rattle.std.proofs.lemmas.Bool.Decides.{nat_tests}
use Rattle.store_model.specs.Disk.{Areas, Torn, Cut, written}
use Rattle.store_model.specs.Past.{blank, changed, MayAfter, seen_after, MayAfterAll, MayLeave}
use Rattle.store_model.specs.declared.past.Change.{Change}
use Rattle.store_model.specs.declared.past.Change.TheVariants.{Wrote, Shortened, Synced}

-- an area is put in place of what it was
pub put_here : (area : ℕ) (bytes : List ℕ) (seen : Areas) → (if area == area then bytes else seen area) ≡ bytes
put_here area bytes seen = let e : area ≡ area = refl in grind (arith, nat_tests)

pub put_others : (area : ℕ) (bytes : List ℕ) (seen : Areas) (other : ℕ) → other ≢ area → (if other == area then bytes else seen other) ≡ seen other
put_others area bytes seen other apart = grind (arith, nat_tests)

pub torn_not : (at n : ℕ) (old : List ℕ) → Torn at n old old
torn_not at n old = record { before = refl; after = refl; no_shorter = omega arith; no_longer = omega arith }

pub cut_not : (n : ℕ) (old : List ℕ) → Cut n old old
cut_not n old = record { no_shorter = omega arith; front = take_all (length old) old (omega arith) }

pub cut_whole : (n : ℕ) (old : List ℕ) → Cut n old (take n old)
cut_whole n old = record {
  no_shorter = omega (arith, length-take n old);
  front = ap (λ (k : ℕ). take k old) (length-take n old) ∙ take_min n old;
}

-- a front that has what stood before the place, some of the bytes, and what stood behind them
pub torn_part : (at n : ℕ) (old front piece : List ℕ) → take (min at (length old)) front ≡ take (min at (length old)) old → min at (length old) ≤ length front → length front ≤ at → length piece ≤ n
    → Torn at n old (front ++ piece ++ drop (at + length piece) old)
torn_part at n old front piece same reaches ends some = record {
  before = take-append-le (min at (length old)) (front ++ piece) (drop (at + length piece) old) (omega (arith, length-append front piece)) ∙ take-append-le (min at (length old)) front piece reaches ∙ same;
  after = elim (cases_lt (length old) (at + length piece)) [
    | inl short ↦ drop_all (at + n) (front ++ piece ++ drop (at + length piece) old) (omega (arith, size)) ∙ sym (drop_all (at + n) old (omega arith))
    | inr long ↦
        let whole : at + n ≡ length (front ++ piece) + (n - length piece) = omega (arith, length-append front piece) in
        ap (λ (k : ℕ). drop k (front ++ piece ++ drop (at + length piece) old)) whole ∙ drop-append-add (front ++ piece) (drop (at + length piece) old) (n - length piece)
        ∙ drop-drop (n - length piece) (at + length piece) old ∙ (let e : at + length piece + (n - length piece) ≡ at + n = omega arith in ap (λ (k : ℕ). drop k old) e)
  ];
  no_shorter = omega (arith, size);
  no_longer = omega (arith, size);
}
  where
    size : length (front ++ piece ++ drop (at + length piece) old) ≡ length front + length piece + (length old - (at + length piece))
    size = omega (arith, length-append (front ++ piece) (drop (at + length piece) old), length-append front piece, length-drop (at + length piece) old)

pub torn_whole : (at : ℕ) (bytes old : List ℕ) → Torn at (length bytes) old (written at bytes old)
torn_whole at bytes old =
    torn_part at (length bytes) old (take at old) bytes (take-take (min at (length old)) at old (omega arith))
    (omega (arith, length-take at old)) (omega (arith, length-take at old)) (omega arith)

-- a read gives what a stop may leave
whole_leaves : (seen : Areas) (may : Areas → Type 0) (changes : List Change) → may seen → MayAfterAll seen may changes (seen_after seen changes)
whole_leaves seen may [] here = here
whole_leaves seen may (Wrote area at bytes ∷ changes) here =
    whole_leaves (changed (Wrote area at bytes) seen) (MayAfter (Wrote area at bytes) seen may) changes
    (seen, here, record { here = subst (λ (l : List ℕ). Torn at (length bytes.items) (seen area) l) (sym (put_here area _ seen)) (torn_whole at bytes.items (seen area)); others = put_others area _ seen })
whole_leaves seen may (Shortened area n ∷ changes) here =
    whole_leaves (changed (Shortened area n) seen) (MayAfter (Shortened area n) seen may) changes
    (seen, here, record { here = subst (λ (l : List ℕ). Cut n (seen area) l) (sym (put_here area _ seen)) (cut_whole n (seen area)); others = put_others area _ seen })
whole_leaves seen may (Synced area ∷ changes) here = whole_leaves seen (MayAfter (Synced area) seen may) changes (here, refl)

pub seen_leaves : (changes : List Change) → MayLeave changes (seen_after blank changes)
seen_leaves changes = whole_leaves blank _ changes (λ area. refl)
