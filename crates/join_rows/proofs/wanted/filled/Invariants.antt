use Rattle.std.proofs.Common.{◌≡◌, ◌++◌, replicate}
use Rattle.join_rows.proofs.wanted.filled.Given as goal

abbrev pub invariant-loop-i : goal.invariant-loop-i
invariant-loop-i l = l.bytes.items ≡ l.text ++ replicate l._i 0x40
