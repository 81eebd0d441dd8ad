-- A walk that fails ends at a change that doesn't fit what the walk has made of the member by then.
use Rattle.std.proofs.Common.{◌≡◌, List, [], ◌∷◌, Result, Ok, Err, refl, ap, ◌∙◌}
use Rattle.member_slots.specs.declared.slot.Slot.{Slot}
use Rattle.journal_model.specs.Walks.{Numbered, RangeFault, ◌then◌, apply, redo, remove, undo}
use Rattle.range_histories.specs.Stops.{StopsGoingBack, StopsGoingForward}

pub stops-back : (changes : List Numbered) (slots : List Slot) (fault : RangeFault) → remove changes slots ≡ Err fault → StopsGoingBack changes slots fault
stops-back [] slots fault h = absurd cc
stops-back (n ∷ changes) slots fault h = by (remove changes slots) refl h (λ f e. stops-back changes slots f e) where
  by : (r : Result (List Slot) RangeFault) → remove changes slots ≡ r → (r then undo n) ≡ Err fault → ((f : RangeFault) → remove changes slots ≡ Err f → StopsGoingBack changes slots f)
      → StopsGoingBack (n ∷ changes) slots fault
  by (Ok given) e g more = record { front = []; at = n; behind = changes; given = given; is = refl; walked = e; stops = g }
  by (Err other) e g more =
      let same : other ≡ fault = cc in
      let rest = more fault (e ∙ ap Err same) in
      record { front = n ∷ rest.front; at = rest.at; behind = rest.behind; given = rest.given; is = ap (λ all. n ∷ all) rest.is; walked = rest.walked; stops = rest.stops }

pub stops-forward : (changes : List Numbered) (slots : List Slot) (fault : RangeFault) → apply changes slots ≡ Err fault → StopsGoingForward changes slots fault
stops-forward [] slots fault h = absurd cc
stops-forward (n ∷ changes) slots fault h = by (redo n slots) refl h (λ s e. stops-forward changes s fault e) where
  by : (r : Result (List Slot) RangeFault) → redo n slots ≡ r → (r then apply changes) ≡ Err fault → ((s : List Slot) → apply changes s ≡ Err fault → StopsGoingForward changes s fault)
      → StopsGoingForward (n ∷ changes) slots fault
  by (Err other) e g more = record { front = []; at = n; behind = changes; given = slots; is = refl; walked = refl; stops = e ∙ g }
  by (Ok next) e g more =
      let rest = more next g in
      record {
        front = n ∷ rest.front;
        at = rest.at;
        behind = rest.behind;
        given = rest.given;
        is = ap (λ all. n ∷ all) rest.is;
        walked = ap (λ (r : Result (List Slot) RangeFault). r then apply rest.front) e ∙ rest.walked;
        stops = rest.stops;
      }
