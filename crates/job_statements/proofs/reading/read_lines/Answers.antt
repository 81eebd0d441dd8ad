use Rattle.std.proofs.Common.{◌≡◌, [], None, rules}
use Rattle.script_builder.specs.Least.{least}
use Rattle.text_lines.specs.Lines.{lines_of}
use Rattle.job_statements.specs.Texts.{texts_from}
use Rattle.job_statements.specs.Reading.{statements_of, unread_from}
use Rattle.job_statements.proofs.ReadLemmas.{statements-all, unread-all}
use Rattle.job_statements.proofs.reading.read_lines.Goals as goal

pub returns-clause-statements : goal.returns-clause-statements
returns-clause-statements c =
    let l = c.loop-line in
    let r = l.reading.statements in
    let last = c.in_ok-end.field-0 in
    let none : l.rest.now ≡ [] = search rules in
    statements-all r.written.items last.written.items r.variables last.variables l.reading.continued l.number l.rest.now (statements_of c.args.first (lines_of c.args.text.now))
    none c.in_ok-end.ensures.statements l.invariant.statements

pub returns-clause-unread : goal.returns-clause-unread
returns-clause-unread c =
    let l = c.loop-line in
    let r = l.reading.statements in
    let last = c.in_ok-end.field-0 in
    let none : l.rest.now ≡ [] = search rules in
    unread-all r.unread last.unread r.variables last.variables l.reading.continued l.number l.rest.now (least (unread_from [] (texts_from None c.args.first (lines_of c.args.text.now))))
    none c.in_ok-end.ensures.unread l.invariant.unread
