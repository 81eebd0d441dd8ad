use Rattle.std.proofs.Common.{◌≡◌, take}
use Rattle.dds_logical.specs.Fields.{mapping_of}
use Rattle.dds_logical.proofs.layout.mapping_of.Given as goal

abbrev pub invariant-loop-field : goal.invariant-loop-field
invariant-loop-field l = l.mapping ≡ mapping_of (take l.field-index l.described)
