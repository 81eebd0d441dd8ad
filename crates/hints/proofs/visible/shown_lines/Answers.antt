use Rattle.hints.proofs.ShownLemmas.{length-shown-le, shown-printable}
use Rattle.hints.proofs.visible.shown_lines.Goals as goal

pub returns-clause-short : goal.returns-clause-short
returns-clause-short c = length-shown-le c.args.line.now c.args.most

pub returns-clause-printable : goal.returns-clause-printable
returns-clause-printable c = shown-printable c.args.line.now c.args.most
