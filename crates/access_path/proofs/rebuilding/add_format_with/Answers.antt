use Rattle.std.proofs.Common.{◌≡◌, ◌≢◌, get_or, rules}
use Rattle.access_path.proofs.MemberLemmas.{with-here, with-others}
use Rattle.access_path.proofs.rebuilding.add_format_with.Goals as goal

pub add_slots-requires-clause-taken : goal.add_slots-requires-clause-taken
add_slots-requires-clause-taken g c =
    let same : get_or (g.E.Entrant.members c.args.by.now) c.args.format 0 ≡ c.args.number = search rules in
    rw (with-here _ _ c.args.member.now.state _ c.requires.there same) at c.requires.taken

pub add_format-requires-clause-taken : goal.add_format-requires-clause-taken
add_format-requires-clause-taken g c =
    let differs : get_or (g.E.Entrant.members c.args.by.now) c.args.format 0 ≢ c.args.number = search rules in
    rw (with-others _ _ c.args.member.now.state _ differs) at c.requires.taken

pub returns-then-member-number-clause-entries : goal.returns-then-member-number-clause-entries
returns-then-member-number-clause-entries g c =
    let same : get_or (g.E.Entrant.members c.args.by.now) c.args.format 0 ≡ c.args.number = search rules in
    rw (with-here _ _ c.args.member.now.state c.args.members.now.members c.requires.there same) c.add_slots.ensures.entries

pub returns-else-member-number-clause-entries : goal.returns-else-member-number-clause-entries
returns-else-member-number-clause-entries g c =
    let differs : get_or (g.E.Entrant.members c.args.by.now) c.args.format 0 ≢ c.args.number = search rules in
    rw (with-others _ _ c.args.member.now.state c.args.members.now.members differs) c.add_format.ensures.entries
