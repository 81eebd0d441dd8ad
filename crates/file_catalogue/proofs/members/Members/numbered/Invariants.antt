use Rattle.std.proofs.Common.{◌≡◌, drop}
use Rattle.lawful_states.specs.SlotChange.{status_in}
use Rattle.file_catalogue.proofs.members.Members.numbered.Given as goal

abbrev pub invariant-loop-status : goal.invariant-loop-status
invariant-loop-status l = status_in l.number (drop l.status-index l.status-items) ≡ status_in l.number l.self
