use Rattle.std.proofs.Common.{◌<◌, ◌↔◌, ◌∙◌, IsTrue, List, subst}
use Rattle.entry_codec.specs.declared.entries.Entry.{Entry}
use Rattle.block_cache.specs.Sizes.{block_bytes}
use Rattle.block_cache.specs.declared.limits.TheConstants.{MOST_BYTES}
use Rattle.block_cache.proofs.block.Block.is_long.Goals as goal

pub returns : goal.returns
returns c = subst (λ (l : List Entry). IsTrue c.are_long.result ↔ (MOST_BYTES < block_bytes l)) (c.deref.ensures.value ∙ c.self.view_is) c.are_long.ensures
