use Rattle.std.proofs.Common.{◌≡◌, ◌+◌, ◌++◌, ◌∷◌, drop}
use Rattle.std.specs.Prelude.{codes}
use Rattle.listing.specs.HistoryListing.{call_lines}
use Rattle.listing.proofs.history_listing.listing.Given as goal

abbrev pub invariant-loop-i : goal.invariant-loop-i
invariant-loop-i l =
    l.out.items ++ call_lines l.names (l.i + 1) (drop l.i l.calls) ≡ codes "HISTORY" ++ 10 ∷ call_lines l.names 1 l.calls
