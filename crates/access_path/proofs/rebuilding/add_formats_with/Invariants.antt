use Rattle.std.proofs.Common.{◌≡◌, [], drop}
use Rattle.std.specs.Prelude.{All}
use Rattle.member_slots.specs.Members.{with_member}
use Rattle.access_path.specs.KeptEntries.{entries_from}
use Rattle.access_path.specs.Rebuilding.{member_slots, TakesAll, added, IsBefore}
use Rattle.access_path.proofs.rebuilding.add_formats_with.Given as goal

abbrev pub invariant-loop-format : goal.invariant-loop-format
invariant-loop-format g l = record {
  rest : added l.fn.pages.falling (entries_from (g.E.Entrant.keys l.by) l.format (drop l.format (member_slots (g.E.Entrant.members l.by) (with_member l.number l.member.state l.members.members)))) l.pages.entries
      ≡ added l.fn.pages.falling (entries_from (g.E.Entrant.keys l.by) 0 (member_slots (g.E.Entrant.members l.by) (with_member l.number l.member.state l.members.members))) [];
  before : All (IsBefore l.format 1) l.pages.entries;
  taken : TakesAll (g.E.Entrant.takes l.by) l.format (drop l.format (member_slots (g.E.Entrant.members l.by) (with_member l.number l.member.state l.members.members)));
  falling : l.pages.falling ≡ l.fn.pages.falling;
}
