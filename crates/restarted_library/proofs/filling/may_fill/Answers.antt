use Rattle.restarted_library.proofs.FitLemmas.{may-fill}
use Rattle.restarted_library.proofs.filling.may_fill.Goals as goal

pub returns : goal.returns
returns c =
    may-fill c.args.contents.now.state c.args.number c.args.member.now.slots c.slots.result.now c.slots-2.result.now c.slots.ensures c.slots-2.ensures c.in_ok-has_records.ensures.there
    c.in_ok-has_records.ensures.values
    c.are_of_bytes.ensures c.in_ok-is_unused.ensures c.in_ok-has_room.ensures
