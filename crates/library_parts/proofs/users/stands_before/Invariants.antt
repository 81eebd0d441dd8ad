use Rattle.std.proofs.Common.{◌≡◌, length, take}
use Rattle.std.specs.List.{list_any}
use Rattle.library_steps.specs.SamePaths.{same_path}
use Rattle.library_parts.proofs.users.stands_before.Given as goal

abbrev pub invariant-loop-rest : goal.invariant-loop-rest
invariant-loop-rest l = list_any (same_path l.path) l.rest ≡ list_any (same_path l.path) (take l.place l.paths)

abbrev pub decreases-loop-rest : goal.decreases-loop-rest
decreases-loop-rest l = length l.rest
