use Rattle.std.proofs.Common.{◌≡◌}
use Rattle.lawful_states.specs.DeleteFile.{first_dependent}
use Rattle.file_catalogue.proofs.catalogue.Catalogue.first_dependent.Given as goal

abbrev pub invariant-loop-other : goal.invariant-loop-other
invariant-loop-other l = first_dependent l.name l.other-iterator ≡ first_dependent l.name l.self.files
