use Rattle.std.proofs.Common.{◌≡◌, ◌++◌, map, take, drop}
use Rattle.text_lines.specs.Characters.{folded}
use Rattle.dds_source.proofs.lines.fold.Given as goal

abbrev pub invariant-loop-i : goal.invariant-loop-i
invariant-loop-i l = l.text ≡ map folded (take l.i l.fn.text) ++ drop l.i l.fn.text
