use Rattle.dds_source.proofs.LiteralLemmas.{quoted_text-literal}
use Rattle.dds_source.proofs.laws.literals_are_read_back.Goals as goal

pub returns : goal.returns
returns c = quoted_text-literal
