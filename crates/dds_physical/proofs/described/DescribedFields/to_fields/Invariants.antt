use Rattle.std.proofs.Common.{◌≡◌, take}
use Rattle.dds_physical.proofs.described.DescribedFields.to_fields.Given as goal

abbrev pub invariant-loop-field : goal.invariant-loop-field
invariant-loop-field l = l.fields ≡ take l.field-index l.described
