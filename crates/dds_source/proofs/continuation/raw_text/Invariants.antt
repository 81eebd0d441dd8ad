use Rattle.std.proofs.Common.{◌≡◌, ◌++◌, drop, false}
use Rattle.dds_source.specs.Continuation.{raw_text}
use Rattle.dds_source.proofs.continuation.raw_text.Given as goal

abbrev pub invariant-loop-line : goal.invariant-loop-line
invariant-loop-line l = l.text.items ++ raw_text l.behind_plus (drop l.line-index l.lines) ≡ raw_text false l.lines
