use Rattle.std.proofs.Common.{◌≡◌, ◌≤◌, List, length, drop}
use Rattle.file_model.specs.KeyOrder.{KeyValue}
use Rattle.file_model.specs.declared.paths.PathFormat.{PathFormat}
use Rattle.parts_model.specs.NewKeys.{IsKeyAt, least_of, taken}
use Rattle.library_parts.proofs.contents.Contents.least_taken.Given as goal

abbrev pub invariant-loop-left : goal.invariant-loop-left
invariant-loop-left l = record {
  within : l.left ≤ length l.undos.changes;
  least : (format : PathFormat) (key : List KeyValue) → IsKeyAt l.its.path l.its.member l.its.key.now format key l.self.room.paths.paths
      → l.least ≡ least_of (taken format key (drop l.left l.undos.changes));
}

abbrev pub decreases-loop-left : goal.decreases-loop-left
decreases-loop-left l = l.left
