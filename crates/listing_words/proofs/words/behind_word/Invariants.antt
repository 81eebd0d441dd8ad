use Rattle.std.proofs.Common.{◌≡◌, length}
use Rattle.listing_words.specs.Words.{behind_word}
use Rattle.statement_reader.specs.Words.{words}
use Rattle.listing_words.proofs.words.behind_word.Given as goal

abbrev pub invariant-loop-word : goal.invariant-loop-word
invariant-loop-word l = behind_word l.spelling (words l.rest) ≡ behind_word l.spelling (words l.text)

abbrev pub decreases-loop-word : goal.decreases-loop-word
decreases-loop-word l = length l.rest
