use Rattle.std.proofs.Common.{◌≡◌, take, map}
use Rattle.dds_logical.specs.Fields.{field_as_it_is}
use Rattle.dds_logical.proofs.named_fields.fields_as_they_are.Given as goal

abbrev pub invariant-loop-field : goal.invariant-loop-field
invariant-loop-field l = l.fields ≡ map field_as_it_is (take l.field-index l.base)
