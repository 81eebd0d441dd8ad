use Rattle.library_steps.specs.State.{memory_of}
use Rattle.record_changes.proofs.WriteLemmas.{write-given}
use Rattle.record_changes.proofs.FormatLemmas.{first-format}
use Rattle.record_changes.proofs.write.plan_write.Goals as goal

pub format_asked-requires : goal.format_asked-requires
format_asked-requires c =
    first-format c.args.contents.now.state.files c.in_ok-opened.field-0.file.now.spec c.in_ok-opened.ensures.view

pub returns-clause-plan : goal.returns-clause-plan
returns-clause-plan c =
    let opened = c.in_ok-opened.field-0.opened.now.state in
    let planned =
    write-given (memory_of c.args.contents.now.state) c.args.job opened c.in_ok-opened.field-0.file.now c.args.args.now _ c.in_ok-may_deposit.ensures.allowed
    c.in_ok-opened.ensures.found c.in_ok-number.ensures.asked (rw c.at_format-at.ensures.state at c.in_ok-may_change.ensures)
    in
    let given = rw c.at_format-at.ensures.state at c.plan_given.ensures.plan in
    rw planned given
