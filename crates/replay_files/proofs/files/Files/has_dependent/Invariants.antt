use Rattle.std.proofs.Common.{◌≡◌, map}
use Rattle.std.specs.List.{list_any}
use Rattle.journal_model.specs.Catalogue.{depends_on}
use Rattle.replay_files.specs.Files.{catalog_file}
use Rattle.replay_files.proofs.files.Files.has_dependent.Given as goal

abbrev pub invariant-loop-other : goal.invariant-loop-other
invariant-loop-other g l = list_any (depends_on (g.D.Describe.rules l.by) l.name) (map catalog_file l.other-iterator) ≡ list_any (depends_on (g.D.Describe.rules l.by) l.name) l.self
