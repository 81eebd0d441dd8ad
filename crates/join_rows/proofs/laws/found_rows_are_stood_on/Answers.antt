use Rattle.join_rows.proofs.StandLemmas.{stood-on, kept-place}
use Rattle.join_rows.proofs.laws.found_rows_are_stood_on.Goals as goal

pub returns-clause-found : goal.returns-clause-found
returns-clause-found c spec members primary secondaries can are = stood-on members are spec primary secondaries can

pub returns-clause-kept : goal.returns-clause-kept
returns-clause-kept c = kept-place
