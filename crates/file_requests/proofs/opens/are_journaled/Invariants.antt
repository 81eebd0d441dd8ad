use Rattle.std.proofs.Common.{◌≡◌, drop}
use Rattle.library_steps.specs.Opens.{first_unjournaled}
use Rattle.library_steps.specs.State.{memory_of}
use Rattle.file_requests.proofs.opens.are_journaled.Given as goal

abbrev pub invariant-loop-member : goal.invariant-loop-member
invariant-loop-member l = first_unjournaled (drop l.member-index l.members) (memory_of l.contents.state) ≡ first_unjournaled l.members (memory_of l.contents.state)
