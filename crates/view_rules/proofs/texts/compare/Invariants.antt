use Rattle.std.proofs.Common.{◌≡◌}
use Rattle.view_rules.specs.Operands.{text_of}
use Rattle.view_rules.proofs.TextLemmas.{compared_from}
use Rattle.view_rules.proofs.texts.compare.Given as goal

abbrev pub invariant-loop-i : goal.invariant-loop-i
invariant-loop-i l = compared_from l.i (text_of l.a) (text_of l.b) ≡ compared_from 0 (text_of l.a) (text_of l.b)
