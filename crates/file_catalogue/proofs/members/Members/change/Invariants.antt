use Rattle.std.proofs.Common.{◌≡◌, ◌++◌, ◌==◌, map, take, drop, if◌then◌else◌}
use Rattle.lawful_states.specs.Statuses.{after}
use Rattle.file_catalogue.proofs.members.Members.change.Given as goal

abbrev pub invariant-loop-status : goal.invariant-loop-status
invariant-loop-status l =
    take l.status-index l.status-items ++ map (λ entry. (entry.0, if entry.1.number == l.number then after l.change entry.1 else entry.1)) (drop l.status-index l.status-items)
    ≡ map (λ entry. (entry.0, if entry.1.number == l.number then after l.change entry.1 else entry.1)) l.initial.status-items
