use Rattle.std.proofs.Common.{◌∙◌, ◌-◌, ◌++◌, ℕ, take, drop, ap, arith}
use Rattle.block_cache.proofs.copies.copy_between.Goals as goal

pub returns-clause-copied : goal.returns-clause-copied
returns-clause-copied c = c.in_ok-copy_part.ensures ∙ ap (λ (n : ℕ). c.args.found.now.items ++ take n (drop (c.args.lo - c.args.first) c.args.entries.now)) (omega arith)
