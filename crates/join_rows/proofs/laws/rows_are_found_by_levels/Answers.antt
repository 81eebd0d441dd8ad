use Rattle.join_rows.proofs.NextLemmas.{next-row, prior-row, next-place, prior-place}
use Rattle.join_rows.proofs.laws.rows_are_found_by_levels.Goals as goal

pub returns-clause-next : goal.returns-clause-next
returns-clause-next c = next-row

pub returns-clause-prior : goal.returns-clause-prior
returns-clause-prior c = prior-row

pub returns-clause-next_place : goal.returns-clause-next_place
returns-clause-next_place c = next-place

pub returns-clause-prior_place : goal.returns-clause-prior_place
returns-clause-prior_place c = prior-place
