use Rattle.std.proofs.Common.{sym, ap, ◌∙◌}
use Rattle.std.specs.List.{list_all}
use Rattle.text_lines.specs.Lines.{is_blank}
use Rattle.text_lines.proofs.LineLemmas.{name_alone-from, name_alone-none, rest_of}
use Rattle.text_lines.proofs.lines.name_alone.Goals as goal

pub returns-then-are_blanks : goal.returns-then-are_blanks
returns-then-are_blanks c =
    name_alone-from c.args.text.now c.word_length-length.result c.from_bytes.result c.word_length-length.ensures.word
    (ap (list_all is_blank) (sym (rest_of c.word_length-length.result c.args.text.now)) ∙ sym c.if-are_blanks.ensures)
    c.from_bytes.ensures.valid c.from_bytes.ensures.value

pub returns-else-are_blanks : goal.returns-else-are_blanks
returns-else-are_blanks c =
    name_alone-none c.args.text.now c.word_length-length.result c.word_length-length.ensures.word
    (ap (list_all is_blank) (sym (rest_of c.word_length-length.result c.args.text.now)) ∙ sym c.if-are_blanks.ensures)
