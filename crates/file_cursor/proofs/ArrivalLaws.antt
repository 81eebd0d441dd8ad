-- What is found in arrival order is what is found among the records.
use Rattle.std.proofs.Common.{◌≡◌, ℕ, ◌==◌, false, List, [], ◌∷◌, map, reverse, refl, sym, ◌∙◌, ap}
use Rattle.std.specs.Prelude.{find}
use Rattle.std.specs.Option.{option_map}
use Rattle.std.specs.List.{AllByRecursion}
use Rattle.std.specs.Ordering.{nat_cmp, is_lt, is_gt}
use Rattle.key_spec.specs.declared.Ties.TheVariants.{Rising}
use Rattle.key_pages.specs.declared.entries.Entry.{Entry}
use Rattle.member_slots.specs.Member.{MemberState, records}
use Rattle.file_model.specs.Paths.{PathEntry, compare_entries}
use Rattle.file_model.specs.Positions as model
use Rattle.file_cursor.specs.Finding.{side_of, is_after, is_before, next_from, prior_from, chain_number}
use Rattle.file_cursor.specs.Reading.{numbered, arrival_entries}
use Rattle.file_cursor.specs.PositionBytes.{in_arrival, IsArrivalPosition, position_by_number, by_number}
use Rattle.file_cursor.proofs.LawLemmas.{find-mapped, find-reversed}

mapped : (xs : List (ℕ × List ℕ)) → map numbered (map (λ pair. pair.0) xs) ≡ map by_number (map model.arrival_entry xs)
mapped [] = refl
mapped (x ∷ xs) = ap (λ (w : List Entry). numbered x.0 ∷ w) (mapped xs)

-- an entry in arrival order
abbrev IsArrival : PathEntry → Type 0
IsArrival entry = entry ≡ in_arrival entry

all-arrival : (xs : List (ℕ × List ℕ)) → AllByRecursion IsArrival (map model.arrival_entry xs)
all-arrival [] = tt
all-arrival (x ∷ xs) = (refl, all-arrival xs)

module _ (member : MemberState) where
  entries-cmp : (a b : PathEntry) → IsArrival a → IsArrival b → nat_cmp a.rrn b.rrn ≡ compare_entries Rising a b
  entries-cmp a b first second =
      ap (λ (x : PathEntry). compare_entries Rising x (in_arrival b)) (sym first) ∙ ap (λ (x : PathEntry). compare_entries Rising a x) (sym second)

  side-same : (position : model.Position PathEntry) → IsArrivalPosition position → (e : PathEntry) → IsArrival e
      → side_of false (position_by_number position) (by_number e) ≡ model.side_of (model.arrival_reading member) position e
  side-same model.Start stands e is = refl
  side-same model.End stands e is = refl
  side-same (model.On other) stands e is = entries-cmp e other is stands
  side-same (model.Before (model.KeyBound values)) stands e is = absurd stands
  side-same (model.Before (model.NumberBound n)) stands e is = refl
  side-same (model.Past (model.KeyBound values)) stands e is = absurd stands
  side-same (model.Past (model.NumberBound n)) stands e is = refl

  module _ (position : model.Position PathEntry) (stands : IsArrivalPosition position) where
    pub next-by-number : next_from false (arrival_entries member) (position_by_number position)
        ≡ option_map by_number (model.next_from (model.arrival_reading member) position)
    next-by-number =
        ap (find (is_after false (position_by_number position))) (mapped (records member))
        ∙ find-mapped IsArrival by_number (is_after false (position_by_number position))
        (λ e. is_gt (model.side_of (model.arrival_reading member) position e))
        (λ e is. ap is_gt (side-same position stands e is))
        (map model.arrival_entry (records member)) (all-arrival (records member))

    pub prior-by-number : prior_from false (arrival_entries member) (position_by_number position)
        ≡ option_map by_number (model.prior_from (model.arrival_reading member) position)
    prior-by-number =
        ap (λ w. find (is_before false (position_by_number position)) (reverse w)) (mapped (records member))
        ∙ find-reversed IsArrival by_number (is_before false (position_by_number position))
        (λ e. is_lt (model.side_of (model.arrival_reading member) position e))
        (λ e is. ap is_lt (side-same position stands e is))
        (map model.arrival_entry (records member)) (all-arrival (records member))

  pub chain-by-number : (n : ℕ) → chain_number n (arrival_entries member) ≡ option_map by_number (model.chain_number (model.arrival_reading member) n)
  chain-by-number n =
      ap (find (λ entry. entry.rrn == n)) (mapped (records member))
      ∙ find-mapped IsArrival by_number (λ entry. entry.rrn == n) (λ e. e.rrn == n) (λ e is. refl)
      (map model.arrival_entry (records member)) (all-arrival (records member))
