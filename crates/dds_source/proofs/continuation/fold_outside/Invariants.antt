use Rattle.std.proofs.Common.{◌≡◌, ◌++◌, take, drop, false}
use Rattle.dds_source.specs.Continuation.{folded_outside}
use Rattle.dds_source.proofs.continuation.fold_outside.Given as goal

abbrev pub invariant-loop-i : goal.invariant-loop-i
invariant-loop-i l = record {
  rest : drop l.i l.text ≡ drop l.i l.fn.text;
  folded : take l.i l.text ++ folded_outside l.quoted (drop l.i l.fn.text) ≡ folded_outside false l.fn.text;
}
