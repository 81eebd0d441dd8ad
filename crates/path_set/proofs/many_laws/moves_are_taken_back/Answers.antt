use Rattle.path_set.proofs.UndoLemmas.{over-ordered, moves-undone, undo-made}
use Rattle.path_set.proofs.many_laws.moves_are_taken_back.Goals as goal

pub returns-clause-in_order : goal.returns-clause-in_order
returns-clause-in_order c = over-ordered

pub returns-clause-undone : goal.returns-clause-undone
returns-clause-undone c = moves-undone

pub returns-clause-made : goal.returns-clause-made
returns-clause-made c = undo-made
