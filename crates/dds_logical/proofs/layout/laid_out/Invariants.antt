use Rattle.std.proofs.Common.{◌≡◌, take}
use Rattle.dds_logical.specs.Fields.{laid_out}
use Rattle.dds_logical.proofs.layout.laid_out.Given as goal

abbrev pub invariant-loop-field : goal.invariant-loop-field
invariant-loop-field l = l.fields ≡ laid_out 0 (take l.field-index l.described)
