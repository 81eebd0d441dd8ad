use Rattle.std.proofs.Common.{◌<◌, length, arith, false-eqb}
use Rattle.text_lines.proofs.LineLemmas.{lines_of-split, lines_of-last}
use Rattle.text_lines.proofs.lines.split_line.Goals as goal

pub returns-then-end-text : goal.returns-then-end-text
returns-then-end-text c = lines_of-split c.args.text.now c.line_length-end.result c.line_length-end.ensures.line c.if-end-text.true

pub returns-else-end-text : goal.returns-else-end-text
returns-else-end-text c =
    let some : 0 < length c.args.text.now = omega (arith, false-eqb (length c.args.text.now) 0 c.if-is_empty.ensures) in
    lines_of-last c.args.text.now c.line_length-end.result c.line_length-end.ensures.line c.if-end-text.false some
