use Rattle.std.proofs.Common.{◌==◌, sym, ap, ◌∙◌}
use Rattle.std.specs.Option.{option_map}
use Rattle.file_cursor.specs.Reading.{numbered, numbers}
use Rattle.file_cursor.proofs.ListLemmas.{find-map}
use Rattle.file_cursor.proofs.arrival.record.Goals as goal

pub returns-then-is_record : goal.returns-then-is_record
returns-then-is_record c =
    c.hit_on.ensures
    ∙ sym (find-map numbered (λ entry. entry.rrn == c.args.rrn) (numbers c.args.member.now.state)
    ∙ ap (option_map numbered) c.if-is_record.ensures)

pub returns-else-is_record : goal.returns-else-is_record
returns-else-is_record c =
    sym (find-map numbered (λ entry. entry.rrn == c.args.rrn) (numbers c.args.member.now.state)
    ∙ ap (option_map numbered) c.if-is_record.ensures)
