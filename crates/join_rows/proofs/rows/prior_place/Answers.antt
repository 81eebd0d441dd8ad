use Rattle.std.proofs.Common.{◌∙◌, ap, sym}
use Rattle.file_cursor.specs.Finding.{side_of}
use Rattle.file_cursor.proofs.SideLemmas.{side-before, side-past}
use Rattle.join_rows.specs.declared.positions.RowPosition.{RowPosition}
use Rattle.join_rows.specs.Rows.{prior_place}
use Rattle.join_rows.proofs.rows.prior_place.Goals as goal

pub returns-in-Before : goal.returns-in-Before
returns-in-Before c = λ f entry.
    side-before c.in-Before.part.now entry.key ∙ ap (λ (from : RowPosition). side_of f (prior_place c.args.falling from) entry) (sym c.in-Before.is)

pub returns-in-Past : goal.returns-in-Past
returns-in-Past c = λ f entry.
    side-past c.in-Past.part.now entry.key ∙ ap (λ (from : RowPosition). side_of f (prior_place c.args.falling from) entry) (sym c.in-Past.is)
