use Rattle.std.proofs.Common.{◌≡◌, Some}
use Rattle.record_fmt.proofs.HeldLemmas.{first_held}
use Rattle.record_fmt.proofs.formats.Format.values.Given as goal

abbrev pub invariant-loop-field : goal.invariant-loop-field
invariant-loop-field l = first_held l.field-index l.fields l.image ≡ Some l.values.items
