use Rattle.std.proofs.Common.{length}
use Rattle.std.specs.List.{AllByRecursion}
use Rattle.lawful_states.specs.Lawful.{HoldsValues}
use Rattle.restarted_library.proofs.filling.are_records.Given as goal

abbrev pub invariant-loop-rest : goal.invariant-loop-rest
invariant-loop-rest l = AllByRecursion (HoldsValues l.format.fields) l.rest → AllByRecursion (HoldsValues l.format.fields) l.slots

abbrev pub decreases-loop-rest : goal.decreases-loop-rest
decreases-loop-rest l = length l.rest
