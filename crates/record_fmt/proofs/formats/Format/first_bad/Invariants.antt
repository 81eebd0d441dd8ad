use Rattle.std.proofs.Common.{◌≡◌, true, is_some}
use Rattle.record_fmt.proofs.HeldLemmas.{first_held}
use Rattle.record_fmt.proofs.formats.Format.first_bad.Given as goal

abbrev pub invariant-loop-field : goal.invariant-loop-field
invariant-loop-field l = is_some (first_held l.field-index l.fields l.image) ≡ true
