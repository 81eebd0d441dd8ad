use Rattle.std.proofs.Common.{◌+◌, [], None, length, sym, ◌∙◌, ap, Err}
use Rattle.text_lines.specs.Lines.{lines_of}
use Rattle.job_statements.specs.Texts.{texts_from}
use Rattle.job_statements.specs.Reading.{statements_of, unread_from}
use Rattle.job_statements.proofs.ScriptLemmas.{built-sound, built-askable, built-fault, err-is}
use Rattle.job_statements.proofs.reading.read_script.Goals as goal

pub returns-in-None-clause-sound : goal.returns-in-None-clause-sound
returns-in-None-clause-sound c =
    let lines = lines_of c.args.text.now in
    let r = c.in_ok-read in
    built-sound r.read.unread (unread_from [] (texts_from None c.args.first lines)) c.from_vec.result r.read.written.items (statements_of c.args.first lines) r.end_line (c.args.first + length lines)
    c.in-None.is r.ensures.unread c.from_vec.ensures r.ensures.statements r.ensures.end c.in-Ok.ensures.sound

pub returns-in-None-clause-askable : goal.returns-in-None-clause-askable
returns-in-None-clause-askable c =
    let lines = lines_of c.args.text.now in
    let r = c.in_ok-read in
    built-askable c.in-Ok.script c.from_vec.result r.read.written.items (texts_from None c.args.first lines) r.read.unread
    c.in-Ok.ensures.script c.from_vec.ensures r.ensures.statements c.in-None.is r.ensures.unread

pub returns-clause-fault : goal.returns-clause-fault
returns-clause-fault c = λ line is.
    let lines = lines_of c.args.text.now in
    let r = c.in_ok-read in
    built-fault r.read.unread (unread_from [] (texts_from None c.args.first lines)) c.from_vec.result r.read.written.items (statements_of c.args.first lines) r.end_line
    (c.args.first + length lines) c.in-Err.error
    r.ensures.unread c.from_vec.ensures r.ensures.statements r.ensures.end (λ found same. c.in-Err.ensures.fault found (ap Err same)) line (sym c.earlier.ensures ∙ err-is c.earlier.result line is)
