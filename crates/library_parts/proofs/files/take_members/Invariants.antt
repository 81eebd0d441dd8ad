use Rattle.std.proofs.Common.{◌≡◌, ◌+◌, drop}
use Rattle.library_steps.specs.DeleteFile.{without_members}
use Rattle.library_steps.specs.Ranges.{library_bytes}
use Rattle.library_parts.proofs.files.take_members.Given as goal

abbrev pub invariant-loop-status : goal.invariant-loop-status
invariant-loop-status l =
    (without_members (drop l.status-index l.status-items) l.members.members ≡ without_members l.gone l.initial.members.members)
    × (library_bytes l.members.members + l.bytes ≡ library_bytes l.initial.members.members)
