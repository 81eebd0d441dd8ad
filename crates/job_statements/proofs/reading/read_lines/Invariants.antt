use Rattle.std.proofs.Common.{◌≡◌, ◌+◌, [], length, None}
use Rattle.script_builder.specs.Least.{least}
use Rattle.text_lines.specs.Lines.{lines_of}
use Rattle.job_statements.specs.Texts.{texts_from}
use Rattle.job_statements.specs.Reading.{statements_of, unread_from, statements_ahead, unread_ahead}
use Rattle.job_statements.proofs.reading.read_lines.Given as goal

abbrev pub invariant-loop-line : goal.invariant-loop-line
invariant-loop-line l = record {
  statements : statements_ahead l.reading.statements.written.items l.reading.statements.variables (texts_from l.reading.continued l.number (lines_of l.rest)) ≡ statements_of l.first (lines_of l.text);
  unread : unread_ahead l.reading.statements.unread l.reading.statements.variables (texts_from l.reading.continued l.number (lines_of l.rest))
      ≡ least (unread_from [] (texts_from None l.first (lines_of l.text)));
  end : l.number + length (lines_of l.rest) ≡ l.first + length (lines_of l.text);
}

abbrev pub decreases-loop-line : goal.decreases-loop-line
decreases-loop-line l = length l.rest
