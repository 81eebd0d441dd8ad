use Rattle.block_cache.proofs.SizeLemmas.{block-bytes}
use Rattle.block_cache.proofs.laws.sizes_are_lengths.Goals as goal

pub returns : goal.returns
returns c = block-bytes
