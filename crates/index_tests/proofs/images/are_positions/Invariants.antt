use Rattle.std.proofs.Common.{ℕ, ◌<◌, get_or}
use Rattle.key_spec.specs.declared.KeyPart.{KeyPart}
use Rattle.key_order.specs.KeyFields.{IsPosition}
use Rattle.index_tests.proofs.images.are_positions.Given as goal

abbrev pub invariant-loop-part : goal.invariant-loop-part
invariant-loop-part l = (k : ℕ) (d : KeyPart) → k < l.part-index → IsPosition (get_or l.parts k d)
