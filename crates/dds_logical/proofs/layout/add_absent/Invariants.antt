use Rattle.std.proofs.Common.{◌≡◌, ◌++◌, replicate}
use Rattle.key_spec.specs.declared.KeyPart.TheVariants as absent
use Rattle.dds_logical.proofs.layout.add_absent.Given as goal

abbrev pub invariant-loop-left : goal.invariant-loop-left
invariant-loop-left l = l.parts ++ replicate l.left absent.Absent ≡ l.fn.parts ++ replicate l.count absent.Absent

abbrev pub decreases-loop-left : goal.decreases-loop-left
decreases-loop-left l = l.left
