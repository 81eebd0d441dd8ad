use Rattle.std.proofs.Common.{◌≡◌, ◌≤◌, length, drop, map}
use Rattle.file_model.specs.KeyOrder.{merged_parts}
use Rattle.open_position.proofs.formats.merged_parts.Given as goal

abbrev pub invariant-loop-left : goal.invariant-loop-left
invariant-loop-left l = record {
  within : l.left ≤ length l.formats;
  merged : l.merged ≡ merged_parts (map (λ format. format.key) (drop l.left l.formats));
}

abbrev pub decreases-loop-left : goal.decreases-loop-left
decreases-loop-left l = l.left
