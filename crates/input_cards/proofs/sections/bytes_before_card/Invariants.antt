use Rattle.std.proofs.Common.{◌≡◌, ◌+◌, ◌≤◌, length}
use Rattle.text_lines.specs.Lines.{lines_of}
use Rattle.input_cards.specs.Sections.{before_card}
use Rattle.input_cards.specs.SectionTexts.{bytes_of}
use Rattle.input_cards.proofs.sections.bytes_before_card.Given as goal

abbrev pub invariant-loop-line : goal.invariant-loop-line
invariant-loop-line l = record {
  before : l.bytes + bytes_of (before_card (lines_of l.rest)) ≡ bytes_of (before_card (lines_of l.text));
  within : l.bytes + bytes_of (lines_of l.rest) ≤ length l.text + 1;
}

abbrev pub decreases-loop-line : goal.decreases-loop-line
decreases-loop-line l = length l.rest
