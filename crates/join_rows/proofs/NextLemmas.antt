-- The rows of a join file are a tree of levels, so the next row is found level by level, and so is the row before.
use Rattle.std.proofs.Common.{◌≡◌, Bool, true, false, not, cond, Option, Some, None, List, [], ◌∷◌, refl, ap, sym, ◌∙◌}
use Rattle.std.specs.Prelude.{find, flat_map, reverse}
use Rattle.std.specs.Option.{option_map}
use Rattle.std.specs.declared.cmp.Ordering.{Ordering}
use Rattle.std.specs.declared.cmp.Ordering.TheVariants.{Less, Equal, Greater}
use Rattle.std.specs.Ordering.{ordering_then, is_lt, is_eq, is_gt}
use Rattle.std.specs.Cmp.Lexicographic.{slice_cmp}
use Rattle.member_slots.specs.Members.{NumberedMembers}
use Rattle.file_model.specs.declared.joins.Secondary.{Secondary}
use Rattle.file_model.specs.declared.joins.JoinSpec.{JoinSpec}
use Rattle.file_model.specs.Joins.{Match, Matched, RowPlace, JoinRow, compare_matches, matches_of, or_missing, row_with, joined_rows, rows_of}
use Rattle.file_model.specs.Paths.{PathEntry, compare_entries, path}
use Rattle.file_model.specs.Positions.{Position, Start, End, On, Before, Past, side_of, next_from, prior_from}
use Rattle.join_rows.specs.Levels.{leaves, first_of}
use Rattle.join_rows.specs.NextRow.{rows_reading, next_row, prior_row, levels_of, match_of, row_of_entry, below_entry, entry_isnt_before, entry_isnt_after, next_below, prior_below, next_by_levels, prior_by_levels}
use Rattle.join_rows.proofs.LevelLemmas.{comes_after, comes_before, find-flat, find-flat-back, first_of-filter, filter-reverse, none-below, none-below-back, next-leaf, prior-leaf, find-map, map-reverse}
use Rattle.join_rows.proofs.OptionLemmas.{true-false}

pub rows-leaves : (keeps_missing : Bool) (files : List Secondary) (members : NumberedMembers) (row : JoinRow)
    → joined_rows keeps_missing files members row ≡ leaves row_with (levels_of keeps_missing members files) row
rows-leaves keeps_missing [] members row = refl
rows-leaves keeps_missing (file ∷ files) members row =
    ap (λ (f : Matched → List JoinRow). flat_map f (or_missing keeps_missing file (matches_of file members row))) (λ i m. rows-leaves keeps_missing files members (row_with row m) i)

abbrev root : JoinRow → PathEntry
root row = row.place.primary

abbrev keys : JoinRow → List Match
keys row = row.place.matches

module _ (spec : JoinSpec) (members : NumberedMembers) (position : Position RowPlace) where
  abbrev after : PathEntry → List Match → Bool
  after entry matches = is_gt (side_of (rows_reading spec members) position (record { primary = entry; matches = matches }))

  abbrev before : PathEntry → List Match → Bool
  before entry matches = is_lt (side_of (rows_reading spec members) position (record { primary = entry; matches = matches }))

abbrev Rests : (Option (List Match) → List Match → Bool) → (PathEntry → List Match → Bool) → PathEntry → Option (List Match) → Type 0
Rests comes test entry from = (t : List Match) → test entry t ≡ comes from t

after-kept : (spec : JoinSpec) (members : NumberedMembers) (position : Position RowPlace) (entry : PathEntry) → entry_isnt_before spec.primary.ties position entry ≡ true
    → Rests (comes_after row_with match_of compare_matches root keys (λ row m. refl) (λ row m. refl)) (after spec members position) entry (below_entry spec.primary.ties position entry)
after-kept spec members Start entry h t = refl
after-kept spec members End entry h t = true-false (sym h)
after-kept spec members (Before bound) entry h t = h
after-kept spec members (Past bound) entry h t = h
after-kept spec members (On place) entry h t = by (compare_entries spec.primary.ties entry place.primary) h
  where
    by : (o : Ordering) → not (is_lt o) ≡ true → is_gt (ordering_then o (slice_cmp compare_matches t place.matches))
        ≡ comes_after row_with match_of compare_matches root keys (λ row m. refl) (λ row m. refl) (cond (is_eq o) (Some place.matches) None) t
    by Less e = true-false (sym e)
    by Equal e = refl
    by Greater e = refl

after-dropped : (spec : JoinSpec) (members : NumberedMembers) (position : Position RowPlace) (entry : PathEntry) → entry_isnt_before spec.primary.ties position entry ≡ false
    → (t : List Match) → after spec members position entry t ≡ false
after-dropped spec members Start entry h t = true-false h
after-dropped spec members End entry h t = refl
after-dropped spec members (Before bound) entry h t = h
after-dropped spec members (Past bound) entry h t = h
after-dropped spec members (On place) entry h t = by (compare_entries spec.primary.ties entry place.primary) h
  where
    by : (o : Ordering) → not (is_lt o) ≡ false → is_gt (ordering_then o (slice_cmp compare_matches t place.matches)) ≡ false
    by Less e = refl
    by Equal e = true-false e
    by Greater e = true-false e

before-kept : (spec : JoinSpec) (members : NumberedMembers) (position : Position RowPlace) (entry : PathEntry) → entry_isnt_after spec.primary.ties position entry ≡ true
    → Rests (comes_before row_with match_of compare_matches root keys (λ row m. refl) (λ row m. refl)) (before spec members position) entry (below_entry spec.primary.ties position entry)
before-kept spec members Start entry h t = true-false (sym h)
before-kept spec members End entry h t = refl
before-kept spec members (Before bound) entry h t = h
before-kept spec members (Past bound) entry h t = h
before-kept spec members (On place) entry h t = by (compare_entries spec.primary.ties entry place.primary) h
  where
    by : (o : Ordering) → not (is_gt o) ≡ true → is_lt (ordering_then o (slice_cmp compare_matches t place.matches))
        ≡ comes_before row_with match_of compare_matches root keys (λ row m. refl) (λ row m. refl) (cond (is_eq o) (Some place.matches) None) t
    by Less e = refl
    by Equal e = refl
    by Greater e = true-false (sym e)

before-dropped : (spec : JoinSpec) (members : NumberedMembers) (position : Position RowPlace) (entry : PathEntry) → entry_isnt_after spec.primary.ties position entry ≡ false
    → (t : List Match) → before spec members position entry t ≡ false
before-dropped spec members Start entry h t = refl
before-dropped spec members End entry h t = true-false h
before-dropped spec members (Before bound) entry h t = h
before-dropped spec members (Past bound) entry h t = h
before-dropped spec members (On place) entry h t = by (compare_entries spec.primary.ties entry place.primary) h
  where
    by : (o : Ordering) → not (is_gt o) ≡ false → is_lt (ordering_then o (slice_cmp compare_matches t place.matches)) ≡ false
    by Less e = true-false e
    by Equal e = true-false e
    by Greater e = refl

-- ---- the file

module _ (spec : JoinSpec) (members : NumberedMembers) (position : Position RowPlace) where
  abbrev below_row : PathEntry → List JoinRow
  below_row entry = joined_rows spec.keeps_missing spec.secondaries members (row_of_entry spec members entry)

  abbrev levels : List (JoinRow → List Matched)
  levels = levels_of spec.keeps_missing members spec.secondaries

  tree : (entry : PathEntry) → below_row entry ≡ leaves row_with levels (row_of_entry spec members entry)
  tree entry = rows-leaves spec.keeps_missing spec.secondaries members (row_of_entry spec members entry)

  pub next-row : next_row spec members position ≡ next_by_levels spec members position
  next-row =
      find-flat (λ row. after spec members position (root row) (keys row)) below_row (path spec.primary members)
      ∙ first_of-filter (λ entry. find (λ row. after spec members position (root row) (keys row)) (below_row entry))
      (λ entry. next_below spec.keeps_missing members spec.secondaries (row_of_entry spec members entry) (below_entry spec.primary.ties position entry))
      (entry_isnt_before spec.primary.ties position)
      (λ entry is. ap (find (λ row. after spec members position (root row) (keys row))) (tree entry)
      ∙ next-leaf row_with match_of compare_matches root keys (λ row m. refl) (λ row m. refl) (after spec members position) levels
      (row_of_entry spec members entry) (below_entry spec.primary.ties position entry) (after-kept spec members position entry is))
      (λ entry is. ap (find (λ row. after spec members position (root row) (keys row))) (tree entry)
      ∙ none-below row_with match_of compare_matches root keys (λ row m. refl) (λ row m. refl) (after spec members position) levels
      (row_of_entry spec members entry) (after-dropped spec members position entry is))
      (path spec.primary members)

  pub prior-row : prior_row spec members position ≡ prior_by_levels spec members position
  prior-row =
      find-flat-back (λ row. before spec members position (root row) (keys row)) below_row (path spec.primary members)
      ∙ first_of-filter (λ entry. find (λ row. before spec members position (root row) (keys row)) (reverse (below_row entry)))
      (λ entry. prior_below spec.keeps_missing members spec.secondaries (row_of_entry spec members entry) (below_entry spec.primary.ties position entry))
      (entry_isnt_after spec.primary.ties position)
      (λ entry is. ap (λ rows. find (λ row. before spec members position (root row) (keys row)) (reverse rows)) (tree entry)
      ∙ prior-leaf row_with match_of compare_matches root keys (λ row m. refl) (λ row m. refl) (before spec members position) levels
      (row_of_entry spec members entry) (below_entry spec.primary.ties position entry) (before-kept spec members position entry is))
      (λ entry is. ap (λ rows. find (λ row. before spec members position (root row) (keys row)) (reverse rows)) (tree entry)
      ∙ none-below-back row_with match_of compare_matches root keys (λ row m. refl) (λ row m. refl) (before spec members position) levels
      (row_of_entry spec members entry) (before-dropped spec members position entry is))
      (reverse (path spec.primary members))
      ∙ ap (first_of (λ entry. prior_below spec.keeps_missing members spec.secondaries (row_of_entry spec members entry) (below_entry spec.primary.ties position entry)))
      (filter-reverse (entry_isnt_after spec.primary.ties position) (path spec.primary members))

  -- the place of the row is what the read finds
  pub next-place : option_map (λ row. row.place) (next_row spec members position) ≡ next_from (rows_reading spec members) position
  next-place = sym (find-map (λ (row : JoinRow). row.place) (λ place. is_gt (side_of (rows_reading spec members) position place)) (rows_of spec members))

  pub prior-place : option_map (λ row. row.place) (prior_row spec members position) ≡ prior_from (rows_reading spec members) position
  prior-place =
      sym (ap (find (λ place. is_lt (side_of (rows_reading spec members) position place))) (map-reverse (λ (row : JoinRow). row.place) (rows_of spec members))
      ∙ find-map (λ (row : JoinRow). row.place) (λ place. is_lt (side_of (rows_reading spec members) position place)) (reverse (rows_of spec members)))
