use Rattle.std.proofs.Common.{◌≡◌, drop}
use Rattle.std.specs.List.{AllByRecursion}
use Rattle.join_rows.specs.WantedBytes.{CanBeSought, with_bytes, wanted_bytes}
use Rattle.join_rows.proofs.wanted.wanted_key.Given as goal

abbrev pub invariant-loop-pair : goal.invariant-loop-pair
invariant-loop-pair l = record {
  there : AllByRecursion (CanBeSought l.image) (drop l.pair-index l.pairs);
  same : with_bytes l.key.items (wanted_bytes (drop l.pair-index l.pairs) l.image) ≡ wanted_bytes l.pairs l.image;
}
