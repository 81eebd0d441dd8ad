use Rattle.std.proofs.Common.{IfSome, Option, Some, None, Ok, Err, arith}
use Rattle.journal_book.proofs.Taking.{front_within}
use Rattle.journal_book.proofs.blocks.read_front.Goals as goal

pub returns-clause-within : goal.returns-clause-within
returns-clause-within c = front_within c.args.bytes.now c.in_ok-read.read c.in_ok-read.ensures.found
