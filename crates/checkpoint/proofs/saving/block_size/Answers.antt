use Rattle.std.proofs.Common.{ℕ, List, length, ap, arith}
use Rattle.gated_log.proofs.Numbers.{length-frame}
use Rattle.checkpoint.proofs.saving.block_size.Goals as goal

pub returns : goal.returns
returns c = λ block is. omega (arith, ap (λ (l : List ℕ). length l) is, length-frame block)

pub overflow_sub-result : goal.overflow_sub-result
overflow_sub-result c = omega (arith, ap (λ (l : List ℕ). length l) c.requires.1, length-frame c.requires.0)
