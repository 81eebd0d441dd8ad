use Rattle.std.proofs.Common.{◌≡◌, ◌≤◌, ◌<◌, length, vec_len, vec_capacity, arith, rules}
use Rattle.lawful_states.below.library_steps.specs.declared.limits.TheConstants.{MOST_MEMBERS}
use Rattle.file_catalogue.proofs.OwnMemberLemmas.{room-there, room-of}
use Rattle.file_catalogue.proofs.members.Members.push.Goals as goal

pub push_reserved-requires : goal.push_reserved-requires
push_reserved-requires c =
    let items = c.self.inside.members.items in
    let room : MOST_MEMBERS ≤ vec_capacity c.self.inside.members = room-there items (vec_capacity c.self.inside.members) c.self.invariant (rw (← c.self.view_is) at c.requires.some) in
    let few : length items < MOST_MEMBERS = rw (← c.self.view_is) at c.requires.few in
    let counted : vec_len c.self.inside.members ≡ length items = search rules in
    omega (arith, room, few, counted)

pub invariant_of-self : goal.invariant_of-self
invariant_of-self c =
    let room : MOST_MEMBERS ≤ vec_capacity c.self.inside.members =
    room-there c.self.inside.members.items (vec_capacity c.self.inside.members) c.self.invariant (rw (← c.self.view_is) at c.requires.some) in
    room-of c.push_reserved.new.self.items (vec_capacity c.push_reserved.new.self) (rw c.push_reserved.ensures.capacity room)
