use Rattle.std.proofs.Common.{Some, ap, sym, ◌∙◌}
use Rattle.file_cursor.proofs.NumberedLemmas.{next-numbered, next-never}
use Rattle.file_cursor.proofs.numbered.next.Goals as goal

pub returns-in_default : goal.returns-in_default
returns-in_default c = sym (next-never c.args.pages.now c.requires c.args.spot.now.position c.in_default.ensures)

pub returns-in_default-next_entry : goal.returns-in_default-next_entry
returns-in_default-next_entry c =
    c.in_default-next_entry.ensures
    ∙ next-numbered c.args.pages.now c.requires c.args.spot.now.position c.before_number.result c.in-Some.gap c.in-Some.ensures c.before_number.ensures

pub returns : goal.returns
returns c =
    ap Some c.hit_on.ensures
    ∙ c.in-Some-next_entry.ensures
    ∙ next-numbered c.args.pages.now c.requires c.args.spot.now.position c.before_number.result c.in-Some.gap c.in-Some.ensures c.before_number.ensures
