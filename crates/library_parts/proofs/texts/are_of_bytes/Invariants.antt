use Rattle.std.proofs.Common.{take}
use Rattle.std.specs.Prelude.{All}
use Rattle.access_path.specs.GivenValues.{IsOfBytes}
use Rattle.library_parts.proofs.texts.are_of_bytes.Given as goal

abbrev pub invariant-loop-value : goal.invariant-loop-value
invariant-loop-value l = All IsOfBytes (take l.value-index l.values)
