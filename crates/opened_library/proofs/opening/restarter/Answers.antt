use Rattle.std.proofs.Common.{refl}
use Rattle.opened_library.proofs.OpenedLemmas.{name-of}
use Rattle.opened_library.proofs.opening.restarter.Goals as goal

pub returns-clause-job : goal.returns-clause-job
returns-clause-job c = name-of c.from_bytes.result _ _ c.from_bytes.ensures.valid refl c.from_bytes.ensures.value
