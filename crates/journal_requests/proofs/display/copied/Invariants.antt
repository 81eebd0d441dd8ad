use Rattle.std.proofs.Common.{◌≡◌, ◌++◌, drop}
use Rattle.std.specs.List.{All}
use Rattle.entry_codec.specs.Spelling.{HasSpelling}
use Rattle.journal_requests.proofs.display.copied.Given as goal

abbrev pub invariant-loop-entry : goal.invariant-loop-entry
invariant-loop-entry l = (l.entries.items ++ drop l.entry-index l.shown ≡ l.shown) × All HasSpelling l.entries.items
