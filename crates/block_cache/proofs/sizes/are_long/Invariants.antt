use Rattle.std.proofs.Common.{◌≡◌, ◌+◌, drop}
use Rattle.block_cache.specs.Sizes.{block_bytes}
use Rattle.block_cache.specs.declared.limits.TheConstants.{MOST_BYTES}
use Rattle.block_cache.proofs.sizes.are_long.Given as goal

abbrev pub invariant-loop-entry : goal.invariant-loop-entry
invariant-loop-entry l = MOST_BYTES + block_bytes (drop l.entry-index l.entries) ≡ l.left + block_bytes l.entries
