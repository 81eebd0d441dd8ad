use Rattle.std.proofs.Common.{ℕ, ◌<◌, get_or}
use Rattle.key_spec.specs.declared.KeyPart.{KeyPart}
use Rattle.key_order.specs.KeyFields.{HasPosition}
use Rattle.index_tests.proofs.images.has_key.Given as goal

abbrev pub invariant-loop-part : goal.invariant-loop-part
invariant-loop-part l = (k : ℕ) (d : KeyPart) → k < l.part-index → HasPosition (get_or l.parts k d) l.image
