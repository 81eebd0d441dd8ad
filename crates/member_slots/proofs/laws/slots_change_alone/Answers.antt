use Rattle.std.proofs.lemmas.List.Elements.{filter_passes}
use Rattle.member_slots.specs.Member.{is_live}
use Rattle.member_slots.proofs.ChangeLaws.{ChangesSlot-appended, ChangesSlot-changed, images-reorganized}
use Rattle.member_slots.proofs.laws.slots_change_alone.Goals as goal

pub returns : goal.returns
returns c = record {
  appended = ChangesSlot-appended;
  changed = ChangesSlot-changed;
  reorganized = images-reorganized;
  compact = λ member. filter_passes is_live member.slots;
}
