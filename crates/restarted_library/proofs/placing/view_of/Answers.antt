use Rattle.library_steps.specs.State.{memory_of}
use Rattle.restarted_library.proofs.FitLemmas.{fails-is}
use Rattle.restarted_library.proofs.placing.view_of.Goals as goal

pub returns-in-Err-Fault : goal.returns-in-Err-Fault
returns-in-Err-Fault c = fails-is (memory_of c.args.contents.now.state) c.args.source.now _ _ c.in-Err-Fault.field-0-is c.in-Err-Fault.ensures
