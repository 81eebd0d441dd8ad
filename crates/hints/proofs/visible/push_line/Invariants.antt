use Rattle.std.proofs.Common.{◌≡◌, ◌++◌, drop, true}
use Rattle.std.specs.List.{list_all}
use Rattle.hints.specs.Shown.{is_shown, shown}
use Rattle.hints.proofs.visible.push_line.Given as goal

abbrev pub invariant-loop-byte : goal.invariant-loop-byte
invariant-loop-byte l = record {
  visible : l.out.items ++ shown (drop l.byte-index l.line) l.room ≡ l.fn.out.items ++ shown l.line l.most;
  shown : list_all is_shown l.fn.out.items ≡ true → list_all is_shown l.out.items ≡ true;
}
