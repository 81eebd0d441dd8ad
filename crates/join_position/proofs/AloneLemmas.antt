-- Each row of a join file is the one at its place.
use Rattle.std.proofs.Common.{◌≡◌, Option, Some, None, Bool, List, [], ◌∷◌, map, reverse, ◌==◌, ◌∙◌, ap, subst}
use Rattle.std.specs.Prelude.{IfSome}
use Rattle.std.specs.List.{AllByRecursion, find}
use Rattle.std.specs.List.Sorted.{IsStrictlySortedBy}
use Rattle.std.specs.declared.cmp.Ordering.TheVariants.{Less}
use Rattle.std.specs.Ordering.{is_eq, is_lt, is_gt}
use Rattle.std.proofs.lemmas.Bool.{cond-true, cond-false, cond_both}
use Rattle.std.proofs.lemmas.Cmp.{tied_itself}
use Rattle.key_spec.specs.declared.KeyPart.{KeyPart}
use Rattle.key_spec.specs.declared.Ties.{Ties}
use Rattle.member_slots.specs.Members.{NumberedMembers}
use Rattle.file_model.specs.declared.joins.JoinSpec.{JoinSpec}
use Rattle.file_model.specs.KeyOrder.{KeyValue, begins_with}
use Rattle.file_model.specs.Joins.{RowPlace, JoinRow, compare_places, rows_of}
use Rattle.file_model.specs.Positions as model
use Rattle.file_model.proofs.OrderLemmas.{compare_places-total}
use Rattle.join_rows.specs.NextRow.{rows_reading, next_row, prior_row}
use Rattle.open_position.specs.KeyValues.{values_in}
use Rattle.open_position.specs.declared.reads.ReadBy.{ReadBy}
use Rattle.open_position.specs.declared.reads.ReadBy.TheVariants as asked
use Rattle.join_position.specs.RowReads.{asked_row, where_row}
use Rattle.join_position.proofs.RowLemmas.{all-unmap, both-all}
use Rattle.join_position.proofs.FindLemmas.{all-reverse, find-holds}

module _ (ties : Ties) where
  abbrev is_at : RowPlace → JoinRow → Bool
  is_at place row = is_eq (compare_places ties row.place place)

  alone : (rows : List JoinRow) → IsStrictlySortedBy (compare_places ties) (map (λ row. row.place) rows) → AllByRecursion (λ row. find (is_at row.place) rows ≡ Some row) rows
  unfolding IsStrictlySortedBy
  alone [] sorted = tt
  alone (row ∷ rows) sorted = (
    cond-true (is_at row.place row) (Some row) (find (is_at row.place) rows) (ap is_eq (tied_itself (compare_places-total ties) row.place)),
    both-all (λ other. compare_places ties row.place other.place ≡ Less) (λ other. find (is_at other.place) rows ≡ Some other) (λ other. find (is_at other.place) (row ∷ rows) ≡ Some other)
        (λ other less found. cond-false (is_at other.place row) (Some row) (find (is_at other.place) rows) (ap is_eq less) ∙ found)
        rows (all-unmap (λ place. compare_places ties row.place place ≡ Less) (λ (other : JoinRow). other.place) rows sorted.0) (alone rows sorted.1),
  )

module _ (P : JoinRow → Type 0) (spec : JoinSpec) (members : NumberedMembers) (all : AllByRecursion P (rows_of spec members)) where
  where-holds : (values : List KeyValue) (o : Option JoinRow) → IfSome o P → IfSome (where_row values o) P
  where-holds values None holds = tt
  where-holds values (Some row) holds = cond_both (begins_with values row.place.primary.key) (Some row) None (λ (o : Option JoinRow). IfSome o P) (λ _. holds) (λ _. tt)

  next-holds : (position : model.Position RowPlace) → IfSome (next_row spec members position) P
  next-holds position = find-holds P (λ row. is_gt (model.side_of (rows_reading spec members) position row.place)) (rows_of spec members) all

  prior-holds : (position : model.Position RowPlace) → IfSome (prior_row spec members position) P
  prior-holds position =
      find-holds P (λ row. is_lt (model.side_of (rows_reading spec members) position row.place)) (reverse (rows_of spec members)) (all-reverse P (rows_of spec members) all)

  asked-holds : (by : ReadBy) (parts : List KeyPart) (position : model.Position RowPlace) → IfSome (asked_row by parts spec members position) P
  asked-holds asked.Next parts position = next-holds position
  asked-holds asked.Prior parts position = prior-holds position
  asked-holds (asked.NextEqual key) parts position = where-holds (values_in parts key.now) (next_row spec members position) (next-holds position)
  asked-holds (asked.PriorEqual key) parts position = where-holds (values_in parts key.now) (prior_row spec members position) (prior-holds position)
  asked-holds (asked.FirstEqual key) parts position = find-holds P (λ row. begins_with (values_in parts key.now) row.place.primary.key) (rows_of spec members) all
  asked-holds (asked.Number rrn) parts position = find-holds P (λ row. row.place.primary.rrn == rrn) (rows_of spec members) all

pub at-place : (by : ReadBy) (parts : List KeyPart) (spec : JoinSpec) (members : NumberedMembers) (position : model.Position RowPlace) (row : JoinRow)
    → IsStrictlySortedBy (compare_places spec.primary.ties) (map (λ other. other.place) (rows_of spec members)) → asked_row by parts spec members position ≡ Some row
    → find (λ other. is_eq (compare_places spec.primary.ties other.place row.place)) (rows_of spec members) ≡ Some row
at-place by parts spec members position row sorted found =
    subst (λ (o : Option JoinRow). IfSome o (λ other. find (is_at spec.primary.ties other.place) (rows_of spec members) ≡ Some other)) found
    (asked-holds (λ other. find (is_at spec.primary.ties other.place) (rows_of spec members) ≡ Some other) spec members (alone spec.primary.ties (rows_of spec members) sorted) by parts position)
