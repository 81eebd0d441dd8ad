use Rattle.std.proofs.Common.{◌≡◌, ◌++◌, length}
use Rattle.dds_logical.specs.JoinSteps.{AreLow, joined_of}
use Rattle.dds_logical.proofs.joins_described.joined_fields.Given as goal

abbrev pub invariant-loop-fields : goal.invariant-loop-fields
invariant-loop-fields l = record {
  low : AreLow l.rest;
  joined : l.joined ++ joined_of l.fields l.rest ≡ joined_of l.named l.places;
}

abbrev pub decreases-loop-fields : goal.decreases-loop-fields
decreases-loop-fields l = length l.fields
