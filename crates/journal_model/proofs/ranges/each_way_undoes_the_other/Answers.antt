use Rattle.journal_model.proofs.WalkLemmas.{apply-removed, remove-gives_back}
use Rattle.journal_model.proofs.ranges.each_way_undoes_the_other.Goals as goal

pub returns : goal.returns
returns c = record { removed = apply-removed; applied = remove-gives_back }
