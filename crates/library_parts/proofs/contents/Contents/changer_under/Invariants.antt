use Rattle.std.proofs.Common.{◌≡◌, ◌≤◌, drop, length}
use Rattle.library_steps.specs.Bases.{base_members, base_names}
use Rattle.library_steps.specs.LogicalFiles.{bases_of}
use Rattle.library_steps.specs.State.{memory_of}
use Rattle.library_steps.specs.Uses.{changer_of_any}
use Rattle.library_parts.proofs.contents.Contents.changer_under.Given as goal

abbrev pub invariant-loop-left : goal.invariant-loop-left
invariant-loop-left l = record {
  within : l.left ≤ length (base_names l.view);
  least : l.least ≡ changer_of_any (drop l.left (base_members (bases_of (memory_of l.self.state)) l.view)) (memory_of l.self.state);
}

abbrev pub decreases-loop-left : goal.decreases-loop-left
decreases-loop-left l = l.left
