use Rattle.std.proofs.Common.{◌≡◌, length}
use Rattle.statement_reader.specs.Lists.{with_front}
use Rattle.statement_reader.specs.Literals.{quoted}
use Rattle.listing_words.proofs.values.quoted.Given as goal

abbrev pub invariant-loop-byte : goal.invariant-loop-byte
invariant-loop-byte l = with_front l.bytes.items (quoted l.rest) ≡ quoted l.text

abbrev pub decreases-loop-byte : goal.decreases-loop-byte
decreases-loop-byte l = length l.rest
