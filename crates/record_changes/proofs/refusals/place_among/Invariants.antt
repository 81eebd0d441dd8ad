use Rattle.std.proofs.Common.{◌≡◌, ◌≤◌, ◌+◌, ℕ, drop, length, map, option_map}
use Rattle.std.specs.List.{position}
use Rattle.std.specs.Str.{bytes_eq}
use Rattle.dds_logical.specs.declared.views.View.{View}
use Rattle.record_changes.proofs.refusals.place_among.Given as goal

abbrev pub invariant-loop-left : goal.invariant-loop-left
invariant-loop-left l = record {
  within : l.left ≤ length l.views;
  found : l.found ≡ option_map (λ (n : ℕ). l.left + n) (position (bytes_eq l.name) (map (λ (v : View). v.format.name) (drop l.left l.views)));
}

abbrev pub decreases-loop-left : goal.decreases-loop-left
decreases-loop-left l = l.left
