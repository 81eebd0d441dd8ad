use Rattle.range_images.proofs.CommandLemmas.{applied-by_parts, removed-by_parts}
use Rattle.range_images.proofs.laws.commands_answer_by_parts.Goals as goal

pub returns : goal.returns
returns c = record { applied = applied-by_parts; removed = removed-by_parts }
