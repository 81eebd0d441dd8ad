use Rattle.std.proofs.Common.{◌≡◌, [], length}
use Rattle.std.specs.List.{flat_map}
use Rattle.dds_source.specs.Faults.{first_after}
use Rattle.dds_source.specs.Continuation.{joined}
use Rattle.dds_source.specs.Reading.{all_added, has_record, joined_faults}
use Rattle.dds_source.proofs.reading.joined_source.Given as goal

abbrev pub invariant-loop-rest : goal.invariant-loop-rest
invariant-loop-rest l = record {
  record_known : l.has_record ≡ has_record l.source.specifications;
  read : all_added l.source (joined l.rest) ≡ all_added (record { file = []; specifications = []; last_line = l.fn.last_line }) (joined l.fn.lines);
  noted : first_after l.first.fault (flat_map joined_faults (joined l.rest)) ≡ first_after l.fn.first.fault (flat_map joined_faults (joined l.fn.lines));
}

abbrev pub decreases-loop-rest : goal.decreases-loop-rest
decreases-loop-rest l = length l.rest
