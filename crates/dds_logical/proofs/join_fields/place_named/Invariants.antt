use Rattle.std.proofs.Common.{◌≡◌, length}
use Rattle.dds_logical.specs.JoinSteps.{place_named}
use Rattle.dds_logical.proofs.join_fields.place_named.Given as goal

abbrev pub invariant-loop-fields : goal.invariant-loop-fields
invariant-loop-fields l = place_named l.fields l.rest l.name ≡ place_named l.named l.places l.name

abbrev pub decreases-loop-fields : goal.decreases-loop-fields
decreases-loop-fields l = length l.fields
