use Rattle.std.proofs.Common.{◌≡◌, ◌≤◌, ℕ, Some, nat_eq, drop, length, if◌then◌else◌}
use Rattle.indexmap.specs.IndexMap.{get, spare}
use Rattle.lawful_states.specs.Owners.{has_number}
use Rattle.file_catalogue.proofs.owners.add_owned.Given as goal

abbrev pub invariant-loop-status : goal.invariant-loop-status
invariant-loop-status l =
    (length (drop l.status-index l.status-items) ≤ spare l.owners) ×
    ((number : ℕ) → (if has_number number (drop l.status-index l.status-items) then Some l.file else get nat_eq l.owners number)
    ≡ (if has_number number l.members then Some l.file else get nat_eq l.initial.owners number))
