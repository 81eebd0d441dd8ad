use Rattle.journal_model.proofs.WalkLemmas.{apply-append, remove-append}
use Rattle.journal_model.proofs.ranges.walks_go_in_parts.Goals as goal

pub returns : goal.returns
returns c = record { applied = apply-append; removed = remove-append }
