use Rattle.std.proofs.Common.{◌≤◌, length}
use Rattle.std.specs.List.{AllByRecursion}
use Rattle.record_changes.specs.Told.{IsTold}
use Rattle.library_core.proofs.reading.first_untold.Given as goal

abbrev pub invariant-loop-rest : goal.invariant-loop-rest
invariant-loop-rest l = record {
  within : length l.rest ≤ length l.fn.entries;
  on : AllByRecursion (IsTold l.contents.state.files) l.rest → AllByRecursion (IsTold l.contents.state.files) l.fn.entries;
  back : AllByRecursion (IsTold l.contents.state.files) l.fn.entries → AllByRecursion (IsTold l.contents.state.files) l.rest;
}

abbrev pub decreases-loop-rest : goal.decreases-loop-rest
decreases-loop-rest l = length l.rest
