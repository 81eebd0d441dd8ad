use Rattle.std.proofs.Common.{◌≤◌, List, take}
use Rattle.journal_model.specs.Catalogue.{CatalogFile}
use Rattle.restarted_library.specs.Steps.{Leads}
use Rattle.restarted_library.proofs.library.put_members.Given as goal

abbrev pub invariant-loop-place : goal.invariant-loop-place
invariant-loop-place l =
    (l.place ≤ l.to) × ((catalog : List CatalogFile) → Leads l.fn.contents.state catalog (take l.from l.members.members) l.contents.state catalog (take l.place l.members.members))
