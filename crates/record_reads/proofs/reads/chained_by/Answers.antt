use Rattle.std.proofs.Common.{List, subst}
use Rattle.field_types.specs.declared.values.Value.{Value}
use Rattle.library_model.specs.declared.requests.ChainTo.TheVariants.{Key}
use Rattle.library_steps.specs.State.{memory_of}
use Rattle.record_reads.specs.Plans.{AsksOf, opened_with}
use Rattle.record_reads.proofs.reads.chained_by.Goals as goal

pub returns-in-Key : goal.returns-in-Key
returns-in-Key c =
    rw c.in-Key.is
    (subst (λ (values : List Value). AsksOf (memory_of c.args.contents.now.state) (opened_with c.args.opened.now.state c.args.file.now) (Key values) c.chained_by_key.result) c.as_slice.ensures
    c.chained_by_key.ensures)

pub returns-in-RecordNumber : goal.returns-in-RecordNumber
returns-in-RecordNumber c = rw c.in-RecordNumber.is c.chained_by_number.ensures
