use Rattle.std.proofs.Common.{◌≡◌, length}
use Rattle.std.specs.List.{All}
use Rattle.entry_codec.specs.Spelling.{HasSpelling}
use Rattle.statement_reader.specs.Lists.{with_front}
use Rattle.statement_reader.specs.Words.{words}
use Rattle.listing_reader.specs.Entries.{entries_in}
use Rattle.listing_reader.proofs.entries.entries_in.Given as goal

abbrev pub invariant-loop-others : goal.invariant-loop-others
invariant-loop-others l =
    (with_front l.entries.items (entries_in (words l.rest)) ≡ entries_in (words l.text)) × All HasSpelling l.entries.items

abbrev pub decreases-loop-others : goal.decreases-loop-others
decreases-loop-others l = length l.rest
