use Rattle.std.proofs.Common.{◌≡◌, ◌+◌, ◌≤◌, length, IsSome}
use Rattle.std.specs.Vec.Iter.{into_iter_items, into_iter_len}
use Rattle.member_slots.specs.Members.{member_at, member_of, spare_at}
use Rattle.range_images.specs.Given.{given_slots}
use Rattle.parts_model.specs.Given.{CanTake, members_given}
use Rattle.library_parts.proofs.given.put_all.Given as goal

abbrev pub invariant-loop-slot : goal.invariant-loop-slot
invariant-loop-slot l = record {
  members : members_given l.number (into_iter_items l.slot-iterator) l.members.members ≡ members_given l.number (into_iter_items l.initial.slot-iterator) l.initial.members.members;
  others : l.members.room ≡ l.initial.members.room;
  there : IsSome (member_at l.number l.members.members);
  takes : CanTake (member_of l.number l.members.members) (into_iter_items l.slot-iterator);
  room : length (given_slots (into_iter_items l.slot-iterator) (member_of l.number l.members.members).slots) ≤ length (member_of l.number l.members.members).slots + spare_at l.number l.members;
  long : into_iter_len l.slot-iterator ≡ length (into_iter_items l.slot-iterator);
}
