use Rattle.std.proofs.Common.{◌≡◌, ℕ, None, nat_eq, drop, if◌then◌else◌}
use Rattle.indexmap.specs.IndexMap.{get}
use Rattle.lawful_states.specs.Owners.{has_number}
use Rattle.file_catalogue.proofs.owners.remove_owned.Given as goal

abbrev pub invariant-loop-status : goal.invariant-loop-status
invariant-loop-status l =
    (number : ℕ) → (if has_number number (drop l.status-index l.status-items) then None else get nat_eq l.owners number)
    ≡ (if has_number number l.members then None else get nat_eq l.initial.owners number)
