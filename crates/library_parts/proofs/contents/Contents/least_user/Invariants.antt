use Rattle.std.proofs.Common.{◌≡◌, ◌≤◌, length, drop}
use Rattle.library_steps.specs.State.{memory_of}
use Rattle.library_steps.specs.Uses.{user_of}
use Rattle.parts_model.specs.Users.{least_of_members}
use Rattle.library_parts.proofs.contents.Contents.least_user.Given as goal

abbrev pub invariant-loop-left : goal.invariant-loop-left
invariant-loop-left l = record {
  within : l.left ≤ length l.entries;
  least : l.least ≡ least_of_members (λ number. user_of number (memory_of l.self.state)) (drop l.left l.entries);
}

abbrev pub decreases-loop-left : goal.decreases-loop-left
decreases-loop-left l = l.left
