use Rattle.std.proofs.Common.{◌≡◌, ◌≤◌, ◌+◌, ◌++◌, ◌∷◌, [], length, arith, length-append}
use Rattle.hints.specs.Shown.{shown}
use Rattle.hints.proofs.ShownLemmas.{length-shown-le}
use Rattle.hints.proofs.script.line_help.Goals as goal

pub returns-in_ok-end_line-in-Some-clause-short : goal.returns-in_ok-end_line-in-Some-clause-short
returns-in_ok-end_line-in-Some-clause-short c =
    let front : length (shown c.in-Some.line.text.now 100) ≤ 100 = length-shown-le c.in-Some.line.text.now 100 in
    grind (arith, front, length-append, c.in_ok-push_cut-in-Some.ensures, c.in_ok-end_line-in-Some.ensures, c.new-help.ensures)
