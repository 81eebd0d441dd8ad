use Rattle.std.proofs.Common.{◌∙◌, sym, arith}
use Rattle.replay_members.proofs.PutLemmas.{slot_of-there, slot_of-past}
use Rattle.replay_members.proofs.slots.slot_at.Goals as goal

pub returns-then-place-slots : goal.returns-then-place-slots
returns-then-place-slots c = c.index-slots-place.is ∙ slot_of-there c.args.slots.now c.args.place _ c.if-place-slots.true

pub returns-else-place-slots : goal.returns-else-place-slots
returns-else-place-slots c = sym (slot_of-past c.args.slots.now c.args.place (omega arith))
