use Rattle.std.proofs.Common.{sym, arith}
use Rattle.listing_words.proofs.ReadLemmas.{too-large}
use Rattle.listing_words.proofs.numbers.next_number.Goals as goal

pub returns-else-next-limit-clause-step : goal.returns-else-next-limit-clause-step
returns-else-next-limit-clause-step c =
    λ rest. too-large c.args.limit c.args.number c.args.digit rest (sym c.if-not-is_digit.ensures) (omega (arith, c.if-next-limit.false, c.from.ensures))
