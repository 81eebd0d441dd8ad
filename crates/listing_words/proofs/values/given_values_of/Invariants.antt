use Rattle.std.proofs.Common.{◌≡◌, length}
use Rattle.statement_reader.specs.Lists.{each, with_front}
use Rattle.statement_reader.specs.Words.{words}
use Rattle.listing_words.specs.Values.{given_value_of}
use Rattle.listing_words.proofs.values.given_values_of.Given as goal

abbrev pub invariant-loop-word : goal.invariant-loop-word
invariant-loop-word l = with_front l.values (each given_value_of (words l.rest)) ≡ each given_value_of (words l.text)

abbrev pub decreases-loop-word : goal.decreases-loop-word
decreases-loop-word l = length l.rest
