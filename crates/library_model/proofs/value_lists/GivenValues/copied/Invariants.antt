use Rattle.std.proofs.Common.{◌≡◌, take}
use Rattle.library_model.proofs.value_lists.GivenValues.copied.Given as goal

abbrev pub invariant-loop-value : goal.invariant-loop-value
invariant-loop-value l = l.values.items ≡ take l.value-index l.self
