use Rattle.std.proofs.Common.{◌≡◌, ◌≤◌, ◌-◌, ◌++◌, ℕ, nat_eq, length, map, take, drop}
use Rattle.std.specs.HashMap.{get}
use Rattle.path_set.specs.ManyChanges.{change_in}
use Rattle.range_images.specs.Given.{AreInPlace, given_slots, last_index}
use Rattle.given_changes.specs.GivenChanges.{changes_given}
use Rattle.given_changes.proofs.changes.image_changes.Given as goal

abbrev pub invariant-loop-index : goal.invariant-loop-index
invariant-loop-index l = record {
  within : l.index ≤ length l.given;
  places : AreInPlace 1 (drop l.index l.given) (given_slots (take l.index l.given) l.member.state.slots);
  latest : (place : ℕ) → get nat_eq l.latest place ≡ last_index place (take l.index l.given);
  telling : (number : ℕ) → map (change_in number) l.changes.items ++ changes_given number (drop l.index l.given) (given_slots (take l.index l.given) l.member.state.slots)
      ≡ changes_given number l.given l.member.state.slots;
}

abbrev pub decreases-loop-index : goal.decreases-loop-index
decreases-loop-index l = length l.given - l.index
