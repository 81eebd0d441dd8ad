use Rattle.std.proofs.Common.{◌≡◌, ◌+◌, ◌++◌, ◌≤◌, length, drop}
use Rattle.text_lines.specs.Lines.{lines_of}
use Rattle.input_cards.specs.Sections.{parts_from, parts_of}
use Rattle.input_cards.specs.SectionTexts.{bytes_of, parts_in}
use Rattle.input_cards.proofs.sections.sections.Given as goal

abbrev pub invariant-loop-line : goal.invariant-loop-line
invariant-loop-line l = record {
  lies : lines_of (drop l.place l.bytes) ≡ lines_of l.rest;
  made : parts_in l.bytes l.sections ++ parts_from (l.number + 1) (lines_of l.rest) ≡ parts_of (lines_of l.bytes);
  counted : l.number + length l.rest ≤ length l.bytes;
  within : l.place + bytes_of (lines_of l.rest) ≤ length l.bytes + 1;
}

abbrev pub decreases-loop-line : goal.decreases-loop-line
decreases-loop-line l = length l.rest
