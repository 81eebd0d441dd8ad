use Rattle.std.proofs.Common.{◌≡◌, ◌+◌, ◌≤◌, List, length, drop}
use Rattle.std.specs.Option.{option_map}
use Rattle.file_model.specs.KeyOrder.{KeyValue}
use Rattle.file_model.specs.declared.paths.PathFormat.{PathFormat}
use Rattle.parts_model.specs.NewKeys.{IsKeyAt, least_reserved, reservation_of}
use Rattle.library_parts.proofs.contents.Contents.reservation_of_others.Given as goal

abbrev pub invariant-loop-left : goal.invariant-loop-left
invariant-loop-left l = record {
  within : l.left ≤ length l.self.state.jobs;
  least : (format : PathFormat) (key : List KeyValue) → IsKeyAt l.its.path l.its.member l.its.key.now format key l.self.room.paths.paths
      → option_map reservation_of l.least ≡ least_reserved format key l.job (l.left + 1) (drop l.left l.self.state.jobs);
}

abbrev pub decreases-loop-left : goal.decreases-loop-left
decreases-loop-left l = l.left
