use Rattle.std.proofs.Common.{sym}
use Rattle.library_model.specs.Named.{named}
use Rattle.restarted_library.proofs.FitLemmas.{none-there}
use Rattle.restarted_library.proofs.placing.may_stand.Goals as goal

pub returns-clause-absent : goal.returns-clause-absent
returns-clause-absent c = none-there (named c.args.name.now c.args.contents.now.state.files) (sym c.if-has_file.ensures)
