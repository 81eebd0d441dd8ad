use Rattle.std.proofs.Common.{◌≡◌, ◌≤◌, ◌-◌, ◌++◌, ℕ, nat_eq, length, map, take, drop}
use Rattle.std.specs.HashMap.{get}
use Rattle.library_steps.specs.Ranges.{given_drafts}
use Rattle.range_images.specs.Given.{given_slots, last_index}
use Rattle.range_requests.specs.Walks.{as_given}
use Rattle.given_changes.proofs.StoodLemmas.{IsStanding}
use Rattle.range_requests.proofs.tells.tell_changes.Given as goal

abbrev pub invariant-loop-index : goal.invariant-loop-index
invariant-loop-index l = record {
  within : l.index ≤ length l.given;
  standing : IsStanding l.given l.member.state.slots l.index l.count;
  latest : (place : ℕ) → get nat_eq l.latest place ≡ last_index place (take l.index l.given);
  telling : l.drafts.items ++ given_drafts l.teller.author l.teller.cycle l.teller.member (given_slots (take l.index l.given) l.member.state.slots) (map as_given (drop l.index l.given))
      ≡ l.fn.drafts.items ++ given_drafts l.teller.author l.teller.cycle l.teller.member l.member.state.slots (map as_given l.given);
}

abbrev pub decreases-loop-index : goal.decreases-loop-index
decreases-loop-index l = length l.given - l.index
