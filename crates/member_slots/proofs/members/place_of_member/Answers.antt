use Rattle.member_slots.proofs.SearchLemmas.{found_where_there}
use Rattle.member_slots.proofs.members.place_of_member.Goals as goal

pub unwrap-requires : goal.unwrap-requires
unwrap-requires c = found_where_there _ _ _ c.place_of.ensures.absent c.requires.there
