use Rattle.std.proofs.Common.{◌≡◌, ◌≤◌, length}
use Rattle.statement_reader.specs.Words.{words}
use Rattle.listing_reader.specs.Entries.{entries_in}
use Rattle.listing_reader.proofs.entries.behind_stroke.Given as goal

abbrev pub invariant-loop-word : goal.invariant-loop-word
invariant-loop-word l = (entries_in (words l.rest) ≡ entries_in (words l.text)) × (length l.rest ≤ length l.text)

abbrev pub decreases-loop-word : goal.decreases-loop-word
decreases-loop-word l = length l.rest
