use Rattle.std.proofs.Common.{◌≡◌, take}
use Rattle.library_steps.specs.Bases.{base_members}
use Rattle.library_steps.specs.LogicalFiles.{bases_of}
use Rattle.library_steps.specs.State.{memory_of}
use Rattle.library_parts.proofs.contents.Contents.members_under.Given as goal

abbrev pub invariant-loop-place : goal.invariant-loop-place
invariant-loop-place l = l.members ≡ take l.place (base_members (bases_of (memory_of l.self.state)) l.view)
