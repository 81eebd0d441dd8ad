use Rattle.std.proofs.Common.{◌∙◌}
use Rattle.member_slots.specs.declared.slot.Slot.TheVariants.{Deleted}
use Rattle.restarted_library.proofs.CopyLemmas.{changed-last}
use Rattle.restarted_library.proofs.copies.add_deleted.Goals as goal

pub returns : goal.returns
returns c = c.set-record.ensures.changed ∙ changed-last c.args.member.now.state c.add_record.new.member.state _ Deleted c.slots-last.result c.in_ok-add_record.ensures c.slots-last.ensures.value
