use Rattle.path_laws.proofs.CountLemmas.{count-most, count-there, count-new}
use Rattle.path_laws.proofs.DifferentLemmas.{count-different}
use Rattle.path_laws.proofs.laws.paths_are_counted_once.Goals as goal

pub returns-clause-at_most : goal.returns-clause-at_most
returns-clause-at_most c = count-most

pub returns-clause-counted : goal.returns-clause-counted
returns-clause-counted c = count-there

pub returns-clause-added : goal.returns-clause-added
returns-clause-added c = count-new

pub returns-clause-different : goal.returns-clause-different
returns-clause-different c = count-different
