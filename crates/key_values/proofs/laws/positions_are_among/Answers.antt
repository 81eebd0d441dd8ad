use Rattle.std.proofs.lemmas.List.Elements.{All-from_recursion}
use Rattle.key_order.specs.KeyOrder.{merged_parts}
use Rattle.key_values.specs.KeyValues.{AreAmong}
use Rattle.key_values.proofs.AmongLemmas.{among-itself, among-merged}
use Rattle.key_values.proofs.laws.positions_are_among.Goals as goal

pub returns-clause-itself : goal.returns-clause-itself
returns-clause-itself c = among-itself

pub returns-clause-merged : goal.returns-clause-merged
returns-clause-merged c formats pairs = All-from_recursion (λ own. AreAmong own (merged_parts formats)) formats (among-merged formats pairs)
