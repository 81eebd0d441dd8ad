use Rattle.job_statements.proofs.TextLemmas.{no_sign-blank, no_sign-other}
use Rattle.job_statements.proofs.texts.before_sign.Goals as goal
use Rattle.job_statements.proofs.texts.before_sign.Goals.{else-blanks-line-via-then-blanks-line+else-line-blanks-eq43, else-blanks-line-via-else-blanks-line}

pub returns-else-blanks-line : goal.returns-else-blanks-line
returns-else-blanks-line c =
    let line = c.args.line.now in
    let blanks = c.end_blanks-blanks.result in
    elim c.else-blanks-line.branch [
      | else-blanks-line-via-then-blanks-line+else-line-blanks-eq43 w ↦ no_sign-other line blanks c.end_blanks-blanks.ensures w.if-blanks-line.true w.if-line-blanks-eq43.false
      | else-blanks-line-via-else-blanks-line w ↦ no_sign-blank line blanks c.end_blanks-blanks.ensures w.if-blanks-line.false
    ]
