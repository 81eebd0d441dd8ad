use Rattle.std.proofs.Common.{◌≡◌, ◌+◌, drop}
use Rattle.listing_words.specs.Words.{job_from}
use Rattle.listing_words.proofs.words.job_named.Given as goal

abbrev pub invariant-loop-i : goal.invariant-loop-i
invariant-loop-i l = job_from (l.i + 1) (drop l.i l.names) l.word ≡ job_from 1 l.names l.word
