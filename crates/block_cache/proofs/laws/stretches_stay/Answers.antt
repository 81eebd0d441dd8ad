use Rattle.block_cache.proofs.Stretches.{stretches_more}
use Rattle.block_cache.proofs.laws.stretches_stay.Goals as goal

pub returns : goal.returns
returns c = stretches_more
