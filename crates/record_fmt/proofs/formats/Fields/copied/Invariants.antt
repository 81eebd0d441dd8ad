use Rattle.std.proofs.Common.{◌≡◌, take}
use Rattle.record_fmt.proofs.formats.Fields.copied.Given as goal

abbrev pub invariant-loop-field : goal.invariant-loop-field
invariant-loop-field l = l.fields.items ≡ take l.field-index l.self
