use Rattle.std.proofs.Common.{◌≡◌, ◌∙◌, ℕ, Option, is_some, ap}
use Rattle.block_cache.proofs.Keys.{found_key}
use Rattle.block_cache.proofs.lookup.has_sequence.Goals as goal

pub returns : goal.returns
returns c = c.is_some.ensures ∙ ap (λ (o : Option ℕ). is_some o) c.key_of.ensures ∙ found_key c.args.sequence c.args.blocks.now.entries
