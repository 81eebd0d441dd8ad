use Rattle.dds_physical.proofs.LawLemmas.{references_copy}
use Rattle.dds_physical.proofs.laws.references_copy.Goals as goal

pub returns : goal.returns
returns c = λ formats file format copied. references_copy formats file format copied
