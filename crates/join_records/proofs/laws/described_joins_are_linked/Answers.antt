use Rattle.join_records.proofs.DescribedLemmas.{described-linked}
use Rattle.join_records.proofs.laws.described_joins_are_linked.Goals as goal

pub returns : goal.returns
returns c = described-linked
