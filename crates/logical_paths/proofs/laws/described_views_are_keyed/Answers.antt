use Rattle.logical_paths.proofs.DescribedLemmas.{described-keyed}
use Rattle.logical_paths.proofs.laws.described_views_are_keyed.Goals as goal

pub returns : goal.returns
returns c = described-keyed
