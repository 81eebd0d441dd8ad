use Rattle.std.proofs.Common.{◌≡◌, Some, sym}
use Rattle.member_slots.specs.declared.slot.Slot.TheVariants.{Deleted}
use Rattle.library_steps.specs.State.{memory_of}
use Rattle.library_steps.specs.Records.{live_record}
use Rattle.record_changes.proofs.PlaceLemmas.{MayPut-live, deleted-fits}
use Rattle.record_changes.proofs.delete.plan_delete.Goals as goal

pub returns-clause-may : goal.returns-clause-may
returns-clause-may c =
    let state = c.args.contents.now.state in
    let opened = c.in_ok-opened.field-0.opened.now.state in
    let its = c.in_ok-opened.ensures.there in
    let found : live_record opened.member c.in_ok-rrn.rrn (memory_of state) ≡ Some c.in-Some._old.now = sym (rw (c.member.ensures, c.here.ensures) at c.in-Some.ensures.image) in
    rw (c.of.ensures, c.here.ensures)
    (MayPut-live state its.base its.owner opened.member c.in_ok-rrn.rrn its.has c.in-Some._old.now found Deleted (deleted-fits state its.base its.owner opened.member its.has))
