use Rattle.std.proofs.Common.{◌≤◌, [], length, take}
use Rattle.restarted_library.specs.Steps.{Leads}
use Rattle.restarted_library.proofs.library.put_files.Given as goal

abbrev pub invariant-loop-place : goal.invariant-loop-place
invariant-loop-place l = record {
  built : Leads l.fn.contents.state [] [] l.contents.state (take l.place l.files) (take l.done l.members.members);
  few : l.done ≤ length l.members.members;
}
