use Rattle.std.proofs.Common.{◌≡◌, ◌++◌, ◌+◌, ◌-◌, take, drop}
use Rattle.dds_source.specs.Continuation.{placed, line_text}
use Rattle.dds_source.proofs.lines.Line.push_text.Given as goal

abbrev pub invariant-loop-i : goal.invariant-loop-i
invariant-loop-i l = l.text.items ++ placed l.self.number (45 + l.i) (take (l.i-end - l.i) (drop l.i l.self.keywords)) ≡ l.fn.text.items ++ line_text l.behind_plus l.self
