use Rattle.std.proofs.Common.{◌≡◌, false, length}
use Rattle.std.specs.Prelude.{filter}
use Rattle.std.specs.List.{AllByRecursion}
use Rattle.key_order.specs.Position.{is_less, is_past}
use Rattle.access_path.specs.Clash.{lesser, least_other}
use Rattle.access_path.proofs.clash.least_other.Given as goal

abbrev pub invariant-loop-entry : goal.invariant-loop-entry
invariant-loop-entry l = record {
  least : lesser l.least (least_other l.key l.rrn (filter (is_past l.pages.falling l.from) l.pages.entries)) ≡ least_other l.key l.rrn l.pages.entries;
  above : AllByRecursion (λ e. is_less e.key l.key ≡ false) (filter (is_past l.pages.falling l.from) l.pages.entries);
}

abbrev pub decreases-loop-entry : goal.decreases-loop-entry
decreases-loop-entry l = length (filter (is_past l.pages.falling l.from) l.pages.entries)
