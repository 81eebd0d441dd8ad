use Rattle.std.proofs.Common.{length, arith}
use Rattle.dds_source.proofs.NumberLemmas.{pow_below}
use Rattle.dds_source.proofs.numbers.unsigned_entry.Goals as goal

pub returns-then-are_digits-clause-bound : goal.returns-then-are_digits-clause-bound
returns-then-are_digits-clause-bound c =
    omega (arith, c.decimal.ensures.bound, pow_below (length c.from_first-digits.result.now) (length c.args.text.now) c.from_first-digits.ensures.shorter)
