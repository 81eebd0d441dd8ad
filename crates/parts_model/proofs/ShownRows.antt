-- What a join shows of its row at a place.
use Rattle.std.proofs.Common.{◌≡◌, ◌∙◌, Bool, true, false, cond, Some, List, [], ◌∷◌, ap}
use Rattle.std.specs.List.{find}
use Rattle.std.specs.Ordering.{is_eq}
use Rattle.library_steps.below.dds_logical.specs.declared.join_views.JoinView.{JoinView}
use Rattle.file_model.specs.Joins.{JoinRow, RowPlace, compare_places, rows_of}
use Rattle.key_spec.specs.declared.Ties.{Ties}
use Rattle.lawful_states.proofs.NameLemmas.{some-equal}
use Rattle.library_steps.specs.LogicalFiles.{bases_of}
use Rattle.library_steps.specs.State.{Memory}
use Rattle.library_steps.specs.FilePaths.{join_of}
use Rattle.library_steps.specs.Formats.{images_at, row_at}
use Rattle.parts_model.specs.declared.rows.RowFound.{RowFound}
use Rattle.parts_model.specs.Rows.{IsRowAt, images_found}

images-there : (ties : Ties) (place : RowPlace) (rows : List JoinRow) (row : JoinRow) → find (λ other. is_eq (compare_places ties other.place place)) rows ≡ Some row
    → images_at ties place rows ≡ row.images
images-there ties place [] row found = absurd cc
images-there ties place (own ∷ rows) row found = by (is_eq (compare_places ties own.place place)) (λ h. images-there ties place rows row h) found
  where
    by : (b : Bool) → (find (λ other. is_eq (compare_places ties other.place place)) rows ≡ Some row → images_at ties place rows ≡ row.images)
        → cond b (Some own) (find (λ other. is_eq (compare_places ties other.place place)) rows) ≡ Some row → cond b own.images (images_at ties place rows) ≡ row.images
    by true next h = ap (λ (r : JoinRow). r.images) (some-equal h)
    by false next h = next h

pub row-images : (view : JoinView) (m : Memory) (place : RowPlace) (found : RowFound) → IsRowAt view m place found
    → (row_at (join_of (bases_of m) view) m.members place).images ≡ images_found m.members (bases_of m view.primary).member found
row-images view m place found its = images-there view.keys.ties place (rows_of (join_of (bases_of m) view) m.members) its.row.0 its.row.1 ∙ its.row.2
