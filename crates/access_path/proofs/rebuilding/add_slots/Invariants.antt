use Rattle.std.proofs.Common.{◌≡◌, ◌+◌, drop}
use Rattle.std.specs.Prelude.{All}
use Rattle.access_path.specs.KeptEntries.{entries_in}
use Rattle.access_path.specs.Rebuilding.{added, IsBefore}
use Rattle.access_path.proofs.rebuilding.add_slots.Given as goal

abbrev pub invariant-loop-i : goal.invariant-loop-i
invariant-loop-i g l = record {
  rest : added l.fn.pages.falling (entries_in (g.E.Entrant.keys l.by) l.format (l.i + 1) (drop l.i l.member.state.slots)) l.pages.entries
      ≡ added l.fn.pages.falling (entries_in (g.E.Entrant.keys l.by) l.format 1 l.member.state.slots) l.fn.pages.entries;
  before : All (IsBefore l.format (l.i + 1)) l.pages.entries;
  falling : l.pages.falling ≡ l.fn.pages.falling;
}
