use Rattle.std.proofs.Common.{false, length}
use Rattle.text_lines.specs.Lines.{lines_of}
use Rattle.input_cards.specs.SectionTexts.{parts_in}
use Rattle.input_cards.specs.CardFaults.{loose_line, bad_cards, after_schedule, after_end, missing_end, second_schedules}
use Rattle.input_cards.proofs.LeastLemmas.{least-six}
use Rattle.input_cards.proofs.faults.plain_fault.Goals as goal

pub returns : goal.returns
returns c =
    let bytes = c.args.bytes.now in
    let lines = lines_of bytes in
    let parts = parts_in bytes c.args.sections.now in
    let six = least-six (loose_line lines) (bad_cards parts) (after_schedule parts) (after_end (length lines) parts) (missing_end (length lines) parts) (second_schedules parts false) in
    let bad = c.bad_card.ensures bytes in
    let end = c.after_end.ensures bytes in
    let missing = c.missing_end.ensures bytes in
    let second = c.second_schedule.ensures bytes in
    let total = c.line_count-total.ensures.count in
    cc
