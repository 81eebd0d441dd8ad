use Rattle.std.proofs.Common.{◌∙◌, List, ap, length}
use Rattle.member_slots.specs.declared.slot.Slot.{Slot}
use Rattle.member_slots.specs.Member.{records}
use Rattle.library_steps.specs.State.{MemberStatus, memory_of, with_status}
use Rattle.restarted_library.proofs.FitLemmas.{status-none, status-some}
use Rattle.restarted_library.proofs.filling.set_status.Goals as goal

pub returns-in-Some-clause-memory : goal.returns-in-Some-clause-memory
returns-in-Some-clause-memory c =
    c.start_journaling.ensures.memory
    ∙ ap (λ (f : MemberStatus → MemberStatus). with_status c.args.number f (memory_of c.args.contents.now.state))
    (status-some c.args.member.now c.images.result c.in-Some.images c.last_break-last.result c.images.ensures c.in-Some.is c.last_break-last.ensures)

pub returns-in-None-clause-memory : goal.returns-in-None-clause-memory
returns-in-None-clause-memory c =
    c.end_journaling.ensures.memory
    ∙ ap (λ (f : MemberStatus → MemberStatus). with_status c.args.number f (memory_of c.args.contents.now.state))
    (status-none c.args.member.now c.images.result c.last_break-last.result c.in_ok-count.count c.images.ensures c.in-None.is c.last_break-last.ensures
    (c.in_ok-count.ensures ∙ ap (λ (slots : List Slot). length (records (record { record_length = 0; slots = slots }))) c.slots.ensures))
