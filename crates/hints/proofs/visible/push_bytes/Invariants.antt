use Rattle.std.proofs.Common.{◌≡◌, ◌++◌, drop, true}
use Rattle.std.specs.List.{list_all}
use Rattle.hints.specs.Shown.{is_shown, visible_text}
use Rattle.hints.proofs.visible.push_bytes.Given as goal

abbrev pub invariant-loop-byte : goal.invariant-loop-byte
invariant-loop-byte l = record {
  visible : l.out.items ++ visible_text (drop l.byte-index l.bytes) ≡ l.fn.out.items ++ visible_text l.bytes;
  shown : list_all is_shown l.fn.out.items ≡ true → list_all is_shown l.out.items ≡ true;
}
