use Rattle.key_order.proofs.KeyLemmas.{Matches-itself, Matches-back, merged-match}
use Rattle.std.proofs.lemmas.List.Elements.{All-from_recursion}
use Rattle.file_model.specs.KeyOrder.{merged_parts}
use Rattle.key_order.specs.KeyFields.{Matches}
use Rattle.key_order.proofs.laws.formats_match.Goals as goal

pub returns-clause-itself : goal.returns-clause-itself
returns-clause-itself c = Matches-itself

pub returns-clause-back : goal.returns-clause-back
returns-clause-back c = Matches-back

pub returns-clause-merged : goal.returns-clause-merged
returns-clause-merged c formats pairs = All-from_recursion (λ format. Matches format (merged_parts formats)) formats (merged-match formats pairs)
