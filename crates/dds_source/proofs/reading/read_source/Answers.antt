use Rattle.dds_source.proofs.FaultLemmas.{found_is, first_is}
use Rattle.dds_source.proofs.reading.read_source.Goals as goal

pub returns-clause-found : goal.returns-clause-found
returns-clause-found c = found_is c.args.text.now c.read.result c.read.ensures

pub returns-clause-first : goal.returns-clause-first
returns-clause-first c = first_is c.args.text.now c.read.result c.read.ensures
