-- The two commands on a range: what they did, where they weren't refused, and that a closed range at the journal's end
-- is removed whole.
use Rattle.std.proofs.Common.{◌≡◌, ℕ, ◌+◌, ◌-◌, Bool, true, false, ◌||◌, cond, List, [], ◌∷◌, ◌++◌, length, reverse, Option, Some, None, Result, Ok, Err, refl, sym, ap, ◌∙◌, subst, arith, IsTrue, IsFalse}
use Rattle.std.specs.Prelude.{IsOkAnd}
use Rattle.std.specs.List.{list_any, find}
use Rattle.std.specs.Option.{option_map}
use Rattle.std.proofs.lemmas.Bool.Decides.{nat_tests}
use Rattle.std.proofs.lemmas.List.{reverse-append, take-append-drop}
use Rattle.member_slots.specs.declared.slot.Slot.{Slot}
use Rattle.journal_model.specs.Acts.{Act, Changed, Began, Committed, RolledBack, Journaled, Stood, Cleared, Reorganized, Ended, Nothing, changes}
use Rattle.journal_model.specs.Places.{slot_of, HasSameRecords}
use Rattle.journal_model.specs.Walks.{RangeFault, Gap, NotRemovable, NeedsBoth, Numbered, numbered, apply, remove}
use Rattle.journal_model.specs.Closed.{is_closed, closed_suffix, last}
use Rattle.journal_model.specs.Parts.{applied_part, not_applied, removed_part, not_removed, removed_from}
use Rattle.journal_model.specs.Ranges.{is_gap, is_renumbering, is_break, lacks_before, Placed, placed, straddled, first_gap, first_renumbering, first_lacking, first_fault, RangeDone, done, apply_range, remove_range, RemovesWhole}
use Rattle.journal_model.specs.Replay.{State, all_moved}
use Rattle.journal_model.specs.Replayable.{CanReplay}
use Rattle.journal_model.specs.AtSequence.{slot_at, touches, IsChained}
use Rattle.journal_model.proofs.PartLemmas.{last-whole, closed_suffix-whole}
use Rattle.journal_model.proofs.ReplayLemmas.{remove-replayed}
use Rattle.journal_model.proofs.SequenceLemmas.{removed-touched, removed-others, applied-touched, applied-others_of}

-- ---- looking for a fault

module _ {X : Type 0} (p : X → Bool) where
  none_found : (xs : List X) → find p xs ≡ None → list_any p xs ≡ false
  none_found [] h = refl
  none_found (x ∷ xs) h = elim (p x) as (λ b. cond b (Some x) (find p xs) ≡ None → b || list_any p xs ≡ false) [ true ↦ λ g. absurd (cc) | false ↦ λ g. none_found xs g ] h

  finds_none : (xs : List X) → list_any p xs ≡ false → find p xs ≡ None
  finds_none [] h = refl
  finds_none (x ∷ xs) h = elim (p x) as (λ b. b || list_any p xs ≡ false → cond b (Some x) (find p xs) ≡ None) [ true ↦ λ g. absurd (cc) | false ↦ λ g. finds_none xs g ] h

  list_any-reverse : (xs : List X) → list_any p (reverse xs) ≡ list_any p xs
  list_any-reverse [] = refl
  list_any-reverse (x ∷ xs) = ap (list_any p) (reverse-append (x ∷ []) xs) ∙ any-push (reverse xs) x ∙ ap (λ (b : Bool). p x || b) (list_any-reverse xs) where
    any-push : (ys : List X) (y : X) → list_any p (ys ++ y ∷ []) ≡ p y || list_any p ys
    any-push [] y = grind (arith, nat_tests)
    any-push (z ∷ ys) y = grind (arith, nat_tests, any-push ys y)

no_map : {X : Type 0} (f : X → RangeFault) (o : Option X) → option_map f o ≡ None → o ≡ None
no_map f None h = refl
no_map f (Some x) h = absurd (cc)

placed-any : (p : Act → Bool) (sequence : ℕ) (range : List Act) → list_any (λ (x : Placed). p x.act) (placed sequence range) ≡ list_any p range
placed-any p sequence [] = refl
placed-any p sequence (a ∷ range) = ap (λ (b : Bool). p a || b) (placed-any p (sequence + 1) range)

is_break-parts : (a : Act) → is_break a ≡ is_gap a || is_renumbering a
is_break-parts (Changed c) = refl
is_break-parts (Began n) = refl
is_break-parts (Committed n) = refl
is_break-parts (RolledBack n) = refl
is_break-parts (Journaled images number) = refl
is_break-parts (Stood place image) = refl
is_break-parts Cleared = refl
is_break-parts Reorganized = refl
is_break-parts Ended = refl
is_break-parts Nothing = refl

breaks : (range : List Act) → list_any is_break range ≡ list_any is_gap range || list_any is_renumbering range
breaks [] = refl
breaks (a ∷ range) = grind (arith, nat_tests, is_break-parts a, breaks range)

no_breaks : (range : List Act) → list_any is_gap range ≡ false → list_any is_renumbering range ≡ false → list_any is_break range ≡ false
no_breaks range g r = breaks range ∙ rw (g, r) refl

no_gaps : (range : List Act) → list_any is_break range ≡ false → (list_any is_gap range ≡ false) × (list_any is_renumbering range ≡ false)
no_gaps range h = neither (list_any is_gap range) (list_any is_renumbering range) (sym (breaks range) ∙ h) where
  neither : (a b : Bool) → a || b ≡ false → (a ≡ false) × (b ≡ false)
  neither a b h = grind (arith, nat_tests)

first_passes : (o : Option RangeFault) (faults : List (Option RangeFault)) (answer : Result RangeDone RangeFault) (d : RangeDone) → first_fault (o ∷ faults) answer ≡ Ok d
    → (o ≡ None) × (first_fault faults answer ≡ Ok d)
first_passes None faults answer d h = (refl, h)
first_passes (Some fault) faults answer d h = absurd (cc)

done_by : (first last : ℕ) (changes : List Numbered) (r : Result (List Slot) RangeFault) (d : RangeDone) → done first last changes r ≡ Ok d
    → (r ≡ Ok d.slots) × (d.first ≡ first) × (d.last ≡ last) × (d.changes ≡ changes)
done_by first last changes (Ok slots) d h =
    let e : record { first = first; last = last; changes = changes; slots = slots } ≡ d = cc in
    (ap (λ (x : RangeDone). Ok x.slots) e, ap (λ (x : RangeDone). x.first) (sym e), ap (λ (x : RangeDone). x.last) (sym e), ap (λ (x : RangeDone). x.changes) (sym e))
done_by first last changes (Err fault) d h = absurd (cc)

-- ---- a command that went

pub record Went (walk : List Numbered → List Slot → Result (List Slot) RangeFault) (first last : ℕ) (part : List Act) (slots : List Slot) (d : RangeDone) : Type 0 where
  pub whole : list_any is_break part ≡ false
  pub walked : walk (numbered first part) slots ≡ Ok d.slots
  pub begins : d.first ≡ first
  pub ends : d.last ≡ last
  pub changes : d.changes ≡ numbered first part

pub remove_range-went : (first : ℕ) (range : List Act) (slots : List Slot) (d : RangeDone) → remove_range first range slots ≡ Ok d
    → Went remove (removed_from first range) (first + length range - 1) (removed_part range) slots d
remove_range-went first range slots d h =
    let begins = removed_from first range in
    let part = removed_part range in
    let fits = numbered begins part in
    let answer = done begins (first + length range - 1) fits (remove fits slots) in
    let a = first_passes (straddled (reverse (numbered first range)) fits)
    (first_gap (reverse (placed begins part)) ∷ first_renumbering (reverse (placed begins part)) ∷ first_lacking (reverse fits) ∷ []) answer d h in
    let b = first_passes (first_gap (reverse (placed begins part))) (first_renumbering (reverse (placed begins part)) ∷ first_lacking (reverse fits) ∷ []) answer d a.1 in
    let c = first_passes (first_renumbering (reverse (placed begins part))) (first_lacking (reverse fits) ∷ []) answer d b.1 in
    let e = first_passes (first_lacking (reverse fits)) [] answer d c.1 in
    let w = done_by begins (first + length range - 1) fits (remove fits slots) d e.1 in
    record {
      whole = no_breaks part (no_such is_gap (λ n. Gap n) begins part b.0) (no_such is_renumbering (λ n. NotRemovable n) begins part c.0);
      walked = w.0;
      begins = w.1;
      ends = w.2;
      changes = w.3;
    }
  where
    no_such : (p : Act → Bool) (fault : ℕ → RangeFault) (begins : ℕ) (part : List Act)
        → option_map (λ (x : Placed). fault x.sequence) (find (λ (x : Placed). p x.act) (reverse (placed begins part))) ≡ None → list_any p part ≡ false
    no_such p fault begins part g =
        sym (list_any-reverse (λ (x : Placed). p x.act) (placed begins part) ∙ placed-any p begins part)
        ∙ none_found (λ (x : Placed). p x.act) (reverse (placed begins part)) (no_map (λ (x : Placed). fault x.sequence) _ g)

pub apply_range-went : (first : ℕ) (range : List Act) (slots : List Slot) (d : RangeDone) → apply_range first range slots ≡ Ok d
    → Went apply first (first + length (applied_part range) - 1) (applied_part range) slots d
apply_range-went first range slots d h =
    let part = applied_part range in
    let fits = numbered first part in
    let answer = done first (first + length part - 1) fits (apply fits slots) in
    let a = first_passes (straddled (numbered first range) fits) (first_gap (placed first part) ∷ first_renumbering (placed first part) ∷ []) answer d h in
    let b = first_passes (first_gap (placed first part)) (first_renumbering (placed first part) ∷ []) answer d a.1 in
    let c = first_passes (first_renumbering (placed first part)) [] answer d b.1 in
    let w = done_by first (first + length part - 1) fits (apply fits slots) d c.1 in
    record {
      whole = no_breaks part (no_such is_gap (λ n. Gap n) part b.0) (no_such is_renumbering (λ n. NotRemovable n) part c.0);
      walked = w.0;
      begins = w.1;
      ends = w.2;
      changes = w.3;
    }
  where
    no_such : (p : Act → Bool) (fault : ℕ → RangeFault) (part : List Act) → option_map (λ (x : Placed). fault x.sequence) (find (λ (x : Placed). p x.act) (placed first part)) ≡ None
        → list_any p part ≡ false
    no_such p fault part g =
        sym (placed-any p first part)
        ∙ none_found (λ (x : Placed). p x.act) (placed first part) (no_map (λ (x : Placed). fault x.sequence) _ g)

module _ (place first : ℕ) where
  pub remove_range-touched : (before range after : List Act) (slots : List Slot) (d : RangeDone) → IsChained place None (before ++ (range ++ after)) → remove_range first range slots ≡ Ok d
      → IsTrue (touches place (changes (removed_part range))) → slot_at place (before ++ not_removed range) (removed_part range ++ after) ≡ Some (slot_of d.slots place)
  remove_range-touched before range after slots d chained h t =
      let w = remove_range-went first range slots d h in
      removed-touched place (removed_from first range) (before ++ not_removed range) (removed_part range) after slots d.slots
      (subst (λ (all : List Act). IsChained place None all) parts chained) w.whole w.walked t
    where
      assoc : (xs ys zs : List Act) → xs ++ (ys ++ zs) ≡ (xs ++ ys) ++ zs
      assoc [] ys zs = refl
      assoc (a ∷ xs) ys zs = ap (λ all. a ∷ all) (assoc xs ys zs)

      parts : before ++ (range ++ after) ≡ (before ++ not_removed range) ++ (removed_part range ++ after)
      parts =
          ap (λ (all : List Act). before ++ (all ++ after)) (sym (take-append-drop (length range - closed_suffix range) range))
          ∙ ap (λ (all : List Act). before ++ all) (sym (assoc (not_removed range) (removed_part range) after))
          ∙ assoc before (not_removed range) (removed_part range ++ after)

  pub remove_range-others : (range : List Act) (slots : List Slot) (d : RangeDone) → remove_range first range slots ≡ Ok d → IsFalse (touches place (changes (removed_part range)))
      → slot_of d.slots place ≡ slot_of slots place
  remove_range-others range slots d h t = removed-others place (removed_from first range) (removed_part range) slots d.slots (remove_range-went first range slots d h).walked t

  pub apply_range-touched : (before range after : List Act) (slots : List Slot) (d : RangeDone) → apply_range first range slots ≡ Ok d
      → IsTrue (touches place (changes (applied_part range))) → slot_at place (before ++ applied_part range) (not_applied range ++ after) ≡ Some (slot_of d.slots place)
  apply_range-touched before range after slots d h t =
      let w = apply_range-went first range slots d h in
      applied-touched place first before (applied_part range) (not_applied range ++ after) slots d.slots w.whole w.walked t

  pub apply_range-others : (range : List Act) (slots : List Slot) (d : RangeDone) → apply_range first range slots ≡ Ok d → IsFalse (touches place (changes (applied_part range)))
      → slot_of d.slots place ≡ slot_of slots place
  apply_range-others range slots d h t = applied-others_of place first (applied_part range) slots d.slots (apply_range-went first range slots d h).walked t

-- ---- a closed range at the journal's end

not_straddled : (walk part : List Numbered) → (part ≡ [] → walk ≡ []) → straddled walk part ≡ None
not_straddled [] part h = refl
not_straddled (n ∷ walk) [] h = let e = h refl in absurd (cc)
not_straddled (n ∷ walk) (m ∷ part) h = refl

done_whole : (first last : ℕ) (range : List Act) (slots : List Slot) (r : Result (List Slot) RangeFault) → IsOkAnd r (λ given. HasSameRecords given slots)
    → IsOkAnd (done first last (numbered first range) r) (λ d. RemovesWhole first range slots d)
done_whole first last range slots (Ok given) h = record { from = refl; changes = refl; records = h }
done_whole first last range slots (Err fault) h = absurd h

by_parts : (first begins : ℕ) (range part : List Act) (slots : List Slot) → Result RangeDone RangeFault
by_parts first begins range part slots =
    first_fault
    (straddled (reverse (numbered first range)) (numbered begins part)
    ∷ first_gap (reverse (placed begins part)) ∷ first_renumbering (reverse (placed begins part)) ∷ first_lacking (reverse (numbered begins part)) ∷ [])
    (done begins (first + length range - 1) (numbered begins part) (remove (numbered begins part) slots))

finds_no : (p : Act → Bool) (fault : ℕ → RangeFault) (first : ℕ) (range : List Act) → list_any p range ≡ false
    → option_map (λ (x : Placed). fault x.sequence) (find (λ (x : Placed). p x.act) (reverse (placed first range))) ≡ None
finds_no p fault first range h =
    ap (option_map (λ (x : Placed). fault x.sequence))
    (finds_none (λ (x : Placed). p x.act) (reverse (placed first range)) (list_any-reverse (λ (x : Placed). p x.act) (placed first range) ∙ placed-any p first range ∙ h))

pub remove_range-whole : (first : ℕ) (range : List Act) (s : State) → CanReplay s range → IsTrue (is_closed range) → IsFalse (list_any is_break range)
    → IsFalse (list_any lacks_before (numbered first range)) → IsOkAnd (remove_range first range (all_moved s.slots range)) (λ d. RemovesWhole first range s.slots d)
unfolding by_parts
remove_range-whole first range s r closed b told =
    let slots = all_moved s.slots range in
    let n = closed_suffix-whole range closed in
    let begins : removed_from first range ≡ first = ap (λ (k : ℕ). first + length range - k) n ∙ omega arith in
    let part : removed_part range ≡ range = ap (λ (k : ℕ). last k range) n ∙ last-whole range in
    let own : remove_range first range slots ≡ by_parts first first range range slots =
    ap (λ (k : ℕ). by_parts first k range (removed_part range) slots) begins ∙ ap (λ (p : List Act). by_parts first first range p slots) part in
    let gaps = no_gaps range b in
    let a : straddled (reverse (numbered first range)) (numbered first range) ≡ None = not_straddled (reverse (numbered first range)) (numbered first range) (λ e. ap reverse e) in
    let g : first_gap (reverse (placed first range)) ≡ None = finds_no is_gap (λ k. Gap k) first range gaps.0 in
    let m : first_renumbering (reverse (placed first range)) ≡ None = finds_no is_renumbering (λ k. NotRemovable k) first range gaps.1 in
    let l : first_lacking (reverse (numbered first range)) ≡ None = ap (option_map (λ (x : Numbered). NeedsBoth x.sequence))
    (finds_none lacks_before (reverse (numbered first range)) (list_any-reverse lacks_before (numbered first range) ∙ told)) in
    let end = done first (first + length range - 1) (numbered first range) (remove (numbered first range) slots) in
    let goes : by_parts first first range range slots ≡ end =
    ap (λ (o : Option RangeFault). first_fault (o ∷ first_gap (reverse (placed first range)) ∷ first_renumbering (reverse (placed first range)) ∷ first_lacking
    (reverse (numbered first range)) ∷ []) end) a
    ∙ ap (λ (o : Option RangeFault). first_fault (o ∷ first_renumbering (reverse (placed first range)) ∷ first_lacking (reverse (numbered first range)) ∷ []) end) g
    ∙ ap (λ (o : Option RangeFault). first_fault (o ∷ first_lacking (reverse (numbered first range)) ∷ []) end) m
    ∙ ap (λ (o : Option RangeFault). first_fault (o ∷ []) end) l in
    subst (λ (x : Result RangeDone RangeFault). IsOkAnd x (λ d. RemovesWhole first range s.slots d)) (sym (own ∙ goes))
    (done_whole first (first + length range - 1) range s.slots (remove (numbered first range) slots) (remove-replayed range s first r b told))
