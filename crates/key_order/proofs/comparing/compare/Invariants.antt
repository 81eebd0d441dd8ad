use Rattle.std.proofs.Common.{◌≡◌, drop}
use Rattle.file_model.specs.KeyOrder.{compare_keys, key_of}
use Rattle.key_order.proofs.comparing.compare.Given as goal

abbrev pub invariant-loop-part : goal.invariant-loop-part
invariant-loop-part l =
    compare_keys (key_of (drop l.part-index l.parts) l.a) (key_of (drop l.part-index l.parts) l.b) ≡ compare_keys (key_of l.parts l.a) (key_of l.parts l.b)
