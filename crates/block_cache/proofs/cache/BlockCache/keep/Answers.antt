use Rattle.std.proofs.Common.{inl, inr}
use Rattle.block_cache.specs.Sizes.{block_bytes}
use Rattle.block_cache.specs.declared.limits.TheConstants.{MOST_BYTES}
use Rattle.block_cache.proofs.Walking.{not_long}
use Rattle.block_cache.proofs.cache.BlockCache.keep.Goals as goal

pub returns-then-is_long-clause-stands : goal.returns-then-is_long-clause-stands
returns-then-is_long-clause-stands c = λ n has. inr (c.is_long.ensures.0 c.if-is_long.true)

pub put-requires : goal.put-requires
put-requires c = not_long c.is_long.result MOST_BYTES (block_bytes c.args.block) c.if-is_long.false c.is_long.ensures

pub returns-clause-stands : goal.returns-clause-stands
returns-clause-stands c = λ n has. inl (c.in_ok-put.ensures.stands n has)
