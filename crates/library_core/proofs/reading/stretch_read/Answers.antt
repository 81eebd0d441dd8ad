use Rattle.std.proofs.Common.{refl}
use Rattle.library_core.proofs.reading.stretch_read.Goals as goal

pub returns-in-Err-clause-other : goal.returns-in-Err-clause-other
returns-in-Err-clause-other c = λ bad. c.in-Err.ensures.other refl
