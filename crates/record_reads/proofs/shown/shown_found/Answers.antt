use Rattle.std.proofs.Common.{◌≡◌, Option, ap, sym, subst}
use Rattle.std.specs.Prelude.{IfOk}
use Rattle.file_model.specs.Joins.{RowPlace}
use Rattle.library_model.specs.declared.replies.RecordRead.{RecordRead}
use Rattle.library_steps.specs.Reads.{Found}
use Rattle.library_steps.specs.State.{memory_of}
use Rattle.library_parts.below.parts_model.specs.declared.rows.RowFound.{RowFound}
use Rattle.record_reads.specs.Plans.{IsOfRow, record_shown}
use Rattle.record_reads.proofs.shown.shown_found.Goals as goal

pub row_shown-requires : goal.row_shown-requires
row_shown-requires c =
    (c.requires.found.0, subst (λ (row : Option RowFound). IsOfRow (memory_of c.args.contents.now.state) c.args.file.now.spec row c.requires.found.0) c.in-Some.is c.requires.found.1)

pub returns-in-Some : goal.returns-in-Some
returns-in-Some c = λ it its.
    c.row_shown.ensures it c.args.opened.now.state (subst (λ (row : Option RowFound). IsOfRow (memory_of c.args.contents.now.state) c.args.file.now.spec row it) c.in-Some.is its)

pub record_shown-requires : goal.record_shown-requires
record_shown-requires c = c.requires.shows c.in-None.is

pub returns-in-None : goal.returns-in-None
returns-in-None c = λ it its.
    let plain = subst (λ (row : Option RowFound). IsOfRow (memory_of c.args.contents.now.state) c.args.file.now.spec row it) c.in-None.is its in
    subst
    (λ (row : Option RowPlace). IfOk c.record_shown.result
    (λ (shown : RecordRead). shown ≡ record_shown (memory_of c.args.contents.now.state) c.args.file.now c.args.opened.now.state c.args.found.now.rrn row))
    (sym (ap (λ (f : Found). f.row) plain.is)) c.record_shown.ensures
