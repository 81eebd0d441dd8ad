use Rattle.std.proofs.Common.{◌≡◌, [], ◌∷◌, ◌++◌, drop}
use Rattle.std.specs.List.{AllByRecursion}
use Rattle.entry_codec.specs.Spelling.{IsSpelled}
use Rattle.checkpoint.specs.States.{spelled}
use Rattle.checkpoint.proofs.state.framed_state.Given as goal

abbrev pub invariant-loop-entry : goal.invariant-loop-entry
invariant-loop-entry l = record {
  whole : l.framed.items ++ spelled (drop l.entry-index l.state) ≡ (0 ∷ 0 ∷ 0 ∷ 0 ∷ []) ++ spelled l.state;
  each : AllByRecursion IsSpelled (drop l.entry-index l.state) → AllByRecursion IsSpelled l.state;
}
