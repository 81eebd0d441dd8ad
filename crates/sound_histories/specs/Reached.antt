-- The libraries that jobs with these names come to from one with nothing in it, by calls that are a legal history. (Our own.)
use Rattle.std.specs.Prelude.{ℕ, List}
use Rattle.library_model.specs.declared.calls.Call.{Call}
use Rattle.library_model.specs.declared.sources.NamedSource.{NamedSource}
use Rattle.cycles_kept.specs.State.{State, begun, empty_library}
use Rattle.cycles_kept.specs.History.{Runs, Standing}

abbrev pub IsReached : List NamedSource → (names : List (List ℕ)) → List Call → State → Type 0
IsReached sources names calls s = Runs sources (Standing (begun empty_library names)) calls (Standing s)
