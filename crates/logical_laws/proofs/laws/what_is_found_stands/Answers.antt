use Rattle.logical_laws.proofs.FoundLemmas.{entry-stands, row-stands}
use Rattle.logical_laws.proofs.laws.what_is_found_stands.Goals as goal

pub returns-clause-entries : goal.returns-clause-entries
returns-clause-entries c = entry-stands

pub returns-clause-rows : goal.returns-clause-rows
returns-clause-rows c = row-stands
