use Rattle.std.proofs.Common.{◌≡◌, ◌++◌, replicate}
use Rattle.view_rules.proofs.viewing.show_blanks.Given as goal

abbrev pub invariant-loop-i : goal.invariant-loop-i
invariant-loop-i l = l.into.items ≡ l.fn.into.items ++ replicate l._i 0x40
