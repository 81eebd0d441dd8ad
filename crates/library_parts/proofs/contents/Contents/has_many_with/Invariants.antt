use Rattle.std.proofs.Common.{◌≡◌, ◌++◌, take}
use Rattle.std.specs.Prelude.{filter}
use Rattle.library_steps.specs.FilePaths.{is_over}
use Rattle.library_steps.specs.SamePaths.{count_paths}
use Rattle.library_steps.specs.LogicalFiles.{paths_over}
use Rattle.library_steps.specs.State.{memory_of}
use Rattle.library_parts.proofs.contents.Contents.has_many_with.Given as goal

abbrev pub invariant-loop-place : goal.invariant-loop-place
invariant-loop-place l = l.count ≡ count_paths (paths_over l.member (memory_of l.self.state) ++ filter (is_over l.member) (take l.place l.paths))
