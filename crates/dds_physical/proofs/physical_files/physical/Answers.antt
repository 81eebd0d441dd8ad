use Rattle.dds_physical.proofs.FirstLemmas.{found_is, first_is}
use Rattle.dds_physical.proofs.physical_files.physical.Goals as goal

pub returns-clause-found : goal.returns-clause-found
returns-clause-found g c = found_is (g.R.Refs.formats c.args.refs.now) c.args.source.now c.judged.result c.judged.ensures

pub returns-clause-first : goal.returns-clause-first
returns-clause-first g c = first_is (g.R.Refs.formats c.args.refs.now) c.args.source.now c.judged.result c.judged.ensures
