use Rattle.std.proofs.Common.{◌≡◌}
use Rattle.block_cache.specs.Cached.{key_of}
use Rattle.block_cache.proofs.lookup.key_of.Given as goal

abbrev pub invariant-loop-key : goal.invariant-loop-key
invariant-loop-key l = key_of l.sequence l.key-iterator ≡ key_of l.sequence l.blocks.entries
