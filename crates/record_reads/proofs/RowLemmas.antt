-- What a join shows of a row.
use Rattle.std.proofs.Common.{◌≡◌, ◌∙◌, ℕ, Option, Some, None, IsSome, List, refl, ap, sym}
use Rattle.std.specs.Borrow.{Bor}
use Rattle.std.specs.Option.{option_copied}
use Rattle.dds_logical.specs.declared.join_views.JoinView.{JoinView}
use Rattle.dds_logical.specs.declared.views.LogicalSpec.TheVariants.{Join}
use Rattle.field_types.specs.declared.values.Value.{Value}
use Rattle.file_model.specs.Joins.{RowPlace}
use Rattle.lawful_states.proofs.NameLemmas.{some-equal}
use Rattle.library_model.specs.declared.replies.RecordRead.{RecordRead}
use Rattle.library_steps.specs.LogicalFiles.{bases_of}
use Rattle.library_steps.specs.Reads.{Found, row_found}
use Rattle.library_steps.specs.State.{Memory, FileState, OpenState}
use Rattle.logical_model.specs.Bases.{FileSpec, LogicalFile}
use Rattle.logical_model.specs.Formats.{row_shown}
use Rattle.logical_model.specs.Readings.{join_in}
use Rattle.record_reads.specs.Plans.{record_shown}

-- the join of the file is told
pub view-there : (spec : FileSpec) (view : JoinView) → spec ≡ LogicalFile (Join view) → (o : Option (Bor JoinView)) → option_copied o ≡ join_in spec → IsSome o
view-there spec view is None told = absurd (let none : None ≡ Some view = told ∙ ap join_in is in cc)
view-there spec view is (Some its) told = refl

pub same-view : (spec : FileSpec) (view other : JoinView) → spec ≡ LogicalFile (Join view) → join_in spec ≡ Some other → view ≡ other
same-view spec view other is told = some-equal (sym (ap join_in is) ∙ told)

-- so its row is shown
pub shown-row : (m : Memory) (file : FileState) (opened : OpenState) (rrn : ℕ) (it : Found) (view : JoinView) → file.spec ≡ LogicalFile (Join view) → (place : RowPlace) → it ≡ row_found place
    → (other : JoinView) → view ≡ other → (values : List Value) → values ≡ (row_shown (bases_of m) m.members other place).values
    → (let shown : RecordRead = record { format = other.format.name; rrn = rrn; values = values } in shown) ≡ record_shown m file opened rrn it.row
shown-row m file opened rrn it view is place row other same values told =
    (λ i. record { format = (sym same i).format.name; rrn = rrn; values = (told ∙ ap (λ (v : JoinView). (row_shown (bases_of m) m.members v place).values) (sym same)) i })
    ∙ sym (shown-by ∙ ap (λ (f : Found). record_shown m (record file { spec = LogicalFile (Join view) }) opened rrn f.row) row)
  where
    shown-by : record_shown m file opened rrn it.row ≡ record_shown m (record file { spec = LogicalFile (Join view) }) opened rrn it.row
    shown-by = ap (λ (s : FileSpec). record_shown m (record file { spec = s }) opened rrn it.row) is
