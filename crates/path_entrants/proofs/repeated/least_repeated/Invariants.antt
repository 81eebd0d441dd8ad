use Rattle.std.proofs.Common.{◌≡◌, length}
use Rattle.std.specs.Prelude.{filter}
use Rattle.key_pages.specs.Position.{is_past}
use Rattle.access_path.specs.Clash.{lesser}
use Rattle.path_entrants.specs.Repeated.{least_repeated}
use Rattle.path_entrants.proofs.repeated.least_repeated.Given as goal

abbrev pub invariant-loop-entry : goal.invariant-loop-entry
invariant-loop-entry l = lesser l.least (least_repeated l.path.entries (filter (is_past l.path.falling l.from) l.path.entries)) ≡ least_repeated l.path.entries l.path.entries

abbrev pub decreases-loop-entry : goal.decreases-loop-entry
decreases-loop-entry l = length (filter (is_past l.path.falling l.from) l.path.entries)
