use Rattle.std.proofs.Common.{◌≡◌, ◌+◌, ◌-◌, ◌^◌, ◌<◌, ◌≤◌, ℕ, Option, option_map, map, drop, length}
use Rattle.field_values.specs.Bounds.{digit_from, spells_between}
use Rattle.field_values.specs.FirstBad.{TellsFirstBad}
use Rattle.field_values.proofs.BoundsLemmas.{reaches}
use Rattle.field_values.proofs.bounds.first_outside.Given as goal

abbrev pub invariant-loop-at : goal.invariant-loop-at
invariant-loop-at l = record {
  power : l.worth ≡ l.base ^ (length l.bytes - l.at);
  below : l.least ≤ l.high;
  above : l.low < l.least + l.worth;
  tells : (place : Option ℕ) → TellsFirstBad (reaches l.base l.low l.high l.least (length l.bytes - l.at)) (drop l.at (map (digit_from l.zero) l.bytes)) place
      → TellsFirstBad (spells_between l.base l.low l.high (length l.bytes)) (map (digit_from l.zero) l.bytes) (option_map (λ k. l.at + k) place);
}
