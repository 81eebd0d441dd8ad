-- The walk finds the longest closed part of the acts that it went over, and whether a commit cycle cuts them.
use Rattle.std.proofs.Common.{◌≡◌, ℕ, zero, suc, ◌+◌, ◌≤◌, ◌<◌, Bool, true, false, cond, List, [], ◌∷◌, ◌++◌, length, take, map, Option, Some}
use Rattle.std.proofs.Common.{None, is_some, unwrap_or, refl, sym, ap, ◌∙◌, subst, arith, append_assoc}
use Rattle.std.specs.List.{list_all}
use Rattle.std.proofs.lemmas.List.{take-append-le, take_all, length_push}
use Rattle.journal_model.specs.Acts.{Act, Changed, Began, Committed, RolledBack, Journaled, Stood, Cleared, Reorganized, Ended, Nothing, Change, changes}
use Rattle.journal_model.specs.Closed.{greatest, is_whole, is_closed, closed_prefix}
use Rattle.journal_model.specs.Walks.{Numbered, numbered}
use Rattle.journal_model.specs.Ranges.{straddled}
use Rattle.journal_model.proofs.ClosedLemmas.{changes-append}
use Rattle.journal_model.proofs.PartLemmas.{greatest-within, greatest-whole}
use Rattle.journal_model.proofs.SequenceLemmas.{unnumbered, unnumbered-numbered}
use Rattle.group_bounds.specs.declared.roles.Role.{Role}
use Rattle.group_bounds.specs.declared.roles.Role.TheVariants.{Changes, Begins, Ends, Other}
use Rattle.group_bounds.specs.Walk.{WalkState, start, role_of, first_or, noted, counted, passed, walked, cut_by, verdict, IsWalked}
use Rattle.group_bounds.proofs.SeenLemmas.{Sees, sees-closed, sees-more, cycles_with}

-- the commit cycle of the first change, 0 for none
abbrev pub first_cycle : List Change → Option ℕ
first_cycle [] = None
first_cycle (c ∷ cs) = Some (unwrap_or c.cycle 0)

-- what the walk holds of the acts that it went over
pub record Walking (acts : List Act) (w : WalkState) : Type 0 where
  pub sees : Sees acts w.cycles
  pub first : w.first ≡ first_cycle (changes acts)
  pub seen : w.seen ≡ length acts
  pub closed : w.closed ≡ closed_prefix acts
  pub closed_changes : w.closed_changes ≡ is_some (first_cycle (changes (take w.closed acts)))

-- ---- one act more

noted-cycles : (role : Role) (w : WalkState) → (noted role w).cycles ≡ cycles_with role w.cycles
noted-cycles (Changes None) w = refl
noted-cycles (Changes (Some n)) w = refl
noted-cycles (Begins n) w = refl
noted-cycles (Ends n) w = refl
noted-cycles Other w = refl

-- what noting an act leaves as it is
record NotedAlike (old new : WalkState) : Type 0 where
  seen : new.seen ≡ old.seen
  closed : new.closed ≡ old.closed
  closed_changes : new.closed_changes ≡ old.closed_changes

noted-alike : (role : Role) (w : WalkState) → NotedAlike w (noted role w)
noted-alike (Changes None) w = record { seen = refl; closed = refl; closed_changes = refl }
noted-alike (Changes (Some n)) w = record { seen = refl; closed = refl; closed_changes = refl }
noted-alike (Begins n) w = record { seen = refl; closed = refl; closed_changes = refl }
noted-alike (Ends n) w = record { seen = refl; closed = refl; closed_changes = refl }
noted-alike Other w = record { seen = refl; closed = refl; closed_changes = refl }

first_cycle-push : (cs : List Change) (c : Change) → first_cycle (cs ++ c ∷ []) ≡ Some (first_or (first_cycle cs) c.cycle)
first_cycle-push [] c = refl
first_cycle-push (d ∷ cs) c = refl

changes-push : (acts : List Act) (c : Change) → changes (acts ++ Changed c ∷ []) ≡ changes acts ++ c ∷ []
changes-push acts c = changes-append acts (Changed c ∷ [])

append-none : {X : Type 0} (xs : List X) → xs ++ [] ≡ xs
append-none [] = refl
append-none (x ∷ xs) = ap (λ ys. x ∷ ys) (append-none xs)

noted-first : (acts : List Act) (a : Act) (w : WalkState) → w.first ≡ first_cycle (changes acts) → (noted (role_of a) w).first ≡ first_cycle (changes (acts ++ a ∷ []))
noted-first acts (Changed c) w e = at c.cycle refl ∙ sym (ap first_cycle (changes-push acts c) ∙ first_cycle-push (changes acts) c) where
  at : (cycle : Option ℕ) → c.cycle ≡ cycle → (noted (Changes cycle) w).first ≡ Some (first_or (first_cycle (changes acts)) c.cycle)
  at None same = rw (e, same) refl
  at (Some n) same = rw (e, same) refl
noted-first acts (Began n) w e = e ∙ sym (ap first_cycle (changes-append acts (Began n ∷ []) ∙ append-none (changes acts)))
noted-first acts (Committed n) w e = e ∙ sym (ap first_cycle (changes-append acts (Committed n ∷ []) ∙ append-none (changes acts)))
noted-first acts (RolledBack n) w e = e ∙ sym (ap first_cycle (changes-append acts (RolledBack n ∷ []) ∙ append-none (changes acts)))
noted-first acts (Journaled images slots) w e = e ∙ sym (ap first_cycle (changes-append acts (Journaled images slots ∷ []) ∙ append-none (changes acts)))
noted-first acts (Stood place image) w e = e ∙ sym (ap first_cycle (changes-append acts (Stood place image ∷ []) ∙ append-none (changes acts)))
noted-first acts Cleared w e = e ∙ sym (ap first_cycle (changes-append acts (Cleared ∷ []) ∙ append-none (changes acts)))
noted-first acts Reorganized w e = e ∙ sym (ap first_cycle (changes-append acts (Reorganized ∷ []) ∙ append-none (changes acts)))
noted-first acts Ended w e = e ∙ sym (ap first_cycle (changes-append acts (Ended ∷ []) ∙ append-none (changes acts)))
noted-first acts Nothing w e = e ∙ sym (ap first_cycle (changes-append acts (Nothing ∷ []) ∙ append-none (changes acts)))

pub greatest-same : (p q : ℕ → Bool) (m : ℕ) → ((n : ℕ) → n ≤ m → p n ≡ q n) → greatest p m ≡ greatest q m
greatest-same p q zero h = refl
greatest-same p q (suc m) h =
    ap (λ (b : Bool). cond b (suc m) (greatest p m)) (h (suc m) (omega arith))
    ∙ ap (λ n. cond (q (suc m)) (suc m) n) (greatest-same p q m (λ n le. h n (omega arith)))

closed_prefix-push : (acts : List Act) (a : Act) → closed_prefix (acts ++ a ∷ []) ≡ cond (is_closed (acts ++ a ∷ [])) (length acts + 1) (closed_prefix acts)
closed_prefix-push xs a =
    let all = xs ++ a ∷ [] in
    let long : length all ≡ suc (length xs) = omega (arith, length_push xs a) in
    let whole : take (suc (length xs)) all ≡ all = take_all (suc (length xs)) all (omega (arith, long)) in
    let front : greatest (λ n. is_closed (take n all)) (length xs) ≡ closed_prefix xs = greatest-same _ _ (length xs) (λ n le. ap is_closed (take-append-le n xs (a ∷ []) le)) in
    ap (greatest (λ n. is_closed (take n all))) long
    ∙ ap (λ (b : Bool). cond b (suc (length xs)) (greatest (λ n. is_closed (take n all)) (length xs))) (ap is_closed whole)
    ∙ ap (λ n. cond (is_closed all) (suc (length xs)) n) front
    ∙ ap (λ n. cond (is_closed all) n (closed_prefix xs)) (omega arith)

closed_prefix-within : (acts : List Act) → closed_prefix acts ≤ length acts
closed_prefix-within xs = greatest-within (λ n. is_closed (take n xs)) (length xs)

-- the count, once the act is noted
abbrev counted_whole : WalkState → WalkState
counted_whole n = record n { seen = n.seen + 1; closed = n.seen + 1; closed_changes = is_some n.first }

abbrev counted_part : WalkState → WalkState
counted_part n = record n { seen = n.seen + 1 }

counted-more : (xs : List Act) (a : Act) (n : WalkState) → Sees (xs ++ a ∷ []) n.cycles → n.first ≡ first_cycle (changes (xs ++ a ∷ [])) → n.seen ≡ length xs → n.closed ≡ closed_prefix xs
    → n.closed_changes ≡ is_some (first_cycle (changes (take n.closed xs))) → Walking (xs ++ a ∷ []) (counted n)
counted-more xs a n sees first seen closed closed_changes =
    subst (λ b. Walking (xs ++ a ∷ []) (cond b (counted_whole n) (counted_part n))) (sees-closed (xs ++ a ∷ []) n.cycles sees) (at (is_closed (xs ++ a ∷ [])) refl) where
      more : n.seen + 1 ≡ length (xs ++ a ∷ [])
      more = omega (arith, length_push xs a)

      at : (b : Bool) → is_closed (xs ++ a ∷ []) ≡ b → Walking (xs ++ a ∷ []) (cond b (counted_whole n) (counted_part n))
      at true e = record {
        sees = sees;
        first = first;
        seen = more;
        closed = ap (λ m. m + 1) seen ∙ sym (closed_prefix-push xs a ∙ ap (λ b. cond b (length xs + 1) (closed_prefix xs)) e);
        closed_changes = ap is_some first ∙ ap (λ ys. is_some (first_cycle (changes ys))) (sym (take_all (n.seen + 1) (xs ++ a ∷ []) (omega (arith, more))));
      }
      at false e = record {
        sees = sees;
        first = first;
        seen = more;
        closed = closed ∙ sym (closed_prefix-push xs a ∙ ap (λ b. cond b (length xs + 1) (closed_prefix xs)) e);
        closed_changes = closed_changes ∙ ap (λ ys. is_some (first_cycle (changes ys))) (sym (take-append-le n.closed xs (a ∷ []) (omega (arith, closed, closed_prefix-within xs))));
      }

walking-more : (xs : List Act) (a : Act) (w : WalkState) → Walking xs w → Walking (xs ++ a ∷ []) (passed (role_of a) w)
walking-more xs a w h =
    let same = noted-alike (role_of a) w in
    counted-more xs a (noted (role_of a) w)
    (subst (λ cycles. Sees (xs ++ a ∷ []) cycles) (sym (noted-cycles (role_of a) w)) (sees-more xs a w.cycles h.sees))
    (noted-first xs a w h.first)
    (same.seen ∙ h.seen)
    (same.closed ∙ h.closed)
    (same.closed_changes ∙ h.closed_changes ∙ ap (λ m. is_some (first_cycle (changes (take m xs)))) (sym same.closed))

walking-all : (rest xs : List Act) (w : WalkState) → Walking xs w → Walking (xs ++ rest) (walked (map role_of rest) w)
walking-all [] xs w h = subst (λ ys. Walking ys w) (sym (append-none xs)) h
walking-all (a ∷ rest) xs w h =
    subst (λ ys. Walking ys (walked (map role_of (a ∷ rest)) w)) (append_assoc xs (a ∷ []) rest) (walking-all rest (xs ++ a ∷ []) (passed (role_of a) w) (walking-more xs a w h))

walking-start : Walking [] start
walking-start = record { sees = record { marks = λ q. refl; apart = tt }; first = refl; seen = refl; closed = refl; closed_changes = refl }

-- ---- what the whole walk tells

pub straddled-cut : (range part : List Numbered) → straddled range part ≡ cut_by (first_cycle (unnumbered range)) (is_some (first_cycle (unnumbered part)))
straddled-cut [] part = refl
straddled-cut (n ∷ range) [] = refl
straddled-cut (n ∷ range) (m ∷ part) = refl

none-closed_whole : (xs : List Act) → first_cycle (changes xs) ≡ None → closed_prefix xs ≡ length xs
none-closed_whole xs h = greatest-whole (λ n. is_closed (take n xs)) (length xs) (ap is_closed (take_all (length xs) xs (omega arith)) ∙ at (changes xs) h) where
  at : (cs : List Change) → first_cycle cs ≡ None → list_all (λ (c : Change). is_whole xs c.cycle) cs ≡ true
  at [] e = refl
  at (c ∷ cs) e = absurd (cc)

walked-some : (xs : List Act) (w : WalkState) → Walking xs w → verdict w ≡ None → 0 < length xs → 0 < w.closed
walked-some xs w h none long = at w.first refl w.closed_changes refl none where
  empty : w.closed ≡ 0 → w.closed_changes ≡ false
  empty e = h.closed_changes ∙ ap (λ m. is_some (first_cycle (changes (take m xs)))) e

  positive : (m : ℕ) → w.closed ≡ m → w.closed_changes ≡ true → 0 < w.closed
  positive zero e changed = let e' : true ≡ false = sym changed ∙ empty e in absurd (cc)
  positive (suc m) e changed = omega arith

  at : (first : Option ℕ) → w.first ≡ first → (changed : Bool) → w.closed_changes ≡ changed → cut_by first changed ≡ None → 0 < w.closed
  at None e changed e' told = omega (arith, h.closed, none-closed_whole xs (sym h.first ∙ e), long)
  at (Some cycle) e true e' told = positive w.closed refl e'
  at (Some cycle) e false e' told = absurd (cc)

walked-is : (xs : List Act) (w : WalkState) → Walking xs w → IsWalked xs w
walked-is xs w h = record {
  closed = h.closed;
  within = omega (arith, h.closed, closed_prefix-within xs);
  some = walked-some xs w h;
  cut = λ first second. straddled-cut (numbered first xs) (numbered second (take w.closed xs))
      ∙ ap (λ cs. cut_by (first_cycle cs) (is_some (first_cycle (unnumbered (numbered second (take w.closed xs)))))) (unnumbered-numbered first xs)
      ∙ ap (λ cs. cut_by (first_cycle (changes xs)) (is_some (first_cycle cs))) (unnumbered-numbered second (take w.closed xs))
      ∙ ap (λ o. cut_by o (is_some (first_cycle (changes (take w.closed xs))))) (sym h.first)
      ∙ ap (λ b. cut_by w.first b) (sym h.closed_changes);
}

pub walk-is : (xs : List Act) (w : WalkState) → w ≡ walked (map role_of xs) start → IsWalked xs w
walk-is xs w e = subst (λ v. IsWalked xs v) (sym e) (walked-is xs (walked (map role_of xs) start) (walking-all xs [] start walking-start))
