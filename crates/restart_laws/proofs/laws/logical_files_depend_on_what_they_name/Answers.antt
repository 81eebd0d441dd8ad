use Rattle.restart_laws.proofs.ViewLemmas.{logical-same, logical-wider}
use Rattle.restart_laws.proofs.laws.logical_files_depend_on_what_they_name.Goals as goal

pub returns-clause-same : goal.returns-clause-same
returns-clause-same c = logical-same

pub returns-clause-wider : goal.returns-clause-wider
returns-clause-wider c = λ bases others source spec wider h. logical-wider bases others wider source spec h
