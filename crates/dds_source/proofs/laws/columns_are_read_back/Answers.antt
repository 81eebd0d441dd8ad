use Rattle.dds_source.proofs.LawLemmas.{source_of-written}
use Rattle.dds_source.proofs.laws.columns_are_read_back.Goals as goal

pub returns : goal.returns
returns c = source_of-written
