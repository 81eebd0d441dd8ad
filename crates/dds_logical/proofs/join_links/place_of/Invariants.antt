use Rattle.std.proofs.Common.{◌≡◌, ◌+◌, length}
use Rattle.dds_logical.specs.JoinLines.{place_from}
use Rattle.dds_logical.proofs.join_links.place_of.Given as goal

abbrev pub invariant-loop-rest : goal.invariant-loop-rest
invariant-loop-rest l = (l.place + length l.rest ≡ length l.files) × (place_from l.place l.rest l.name ≡ place_from 0 l.files l.name)

abbrev pub decreases-loop-rest : goal.decreases-loop-rest
decreases-loop-rest l = length l.rest
