use Rattle.std.proofs.Common.{ap, sym, ◌∙◌}
use Rattle.std.specs.Option.{option_map}
use Rattle.file_cursor.specs.Reading.{numbered}
use Rattle.file_cursor.proofs.ReadLemmas.{next-none, next-gap}
use Rattle.file_cursor.proofs.arrival.next.Goals as goal

pub returns-in_default : goal.returns-in_default
returns-in_default c = sym (next-none c.args.spot.now.position c.args.member.now.state c.in_default.ensures)

pub returns : goal.returns
returns c =
    c.hit_on.ensures
    ∙ ap (option_map numbered) c.first_from.ensures
    ∙ next-gap c.args.spot.now.position c.args.member.now.state c.in-Some.gap c.in-Some.ensures
