use Rattle.std.proofs.Common.{◌≡◌, ◌≤◌, drop, length}
use Rattle.std.specs.List.{list_any}
use Rattle.library_steps.specs.Bases.{base_members, base_names}
use Rattle.library_steps.specs.FilePaths.{logical_paths}
use Rattle.library_steps.specs.CreateLogicalFile.{has_many}
use Rattle.library_steps.specs.LogicalFiles.{bases_of}
use Rattle.library_steps.specs.State.{memory_of}
use Rattle.library_parts.proofs.contents.Contents.have_many_with.Given as goal

abbrev pub invariant-loop-left : goal.invariant-loop-left
invariant-loop-left l = record {
  within : l.left ≤ length (base_names l.view);
  many : l.many ≡ list_any (has_many (logical_paths (bases_of (memory_of l.self.state)) l.view) (memory_of l.self.state)) (drop l.left (base_members (bases_of (memory_of l.self.state)) l.view));
}

abbrev pub decreases-loop-left : goal.decreases-loop-left
decreases-loop-left l = l.left
