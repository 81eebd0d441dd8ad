use Rattle.std.proofs.Common.{ap, Err}
use Rattle.gated_log.specs.declared.fault.LogFault.{LogFault}
use Rattle.journal_opening.proofs.opening.open_written.Goals as goal

pub returns-in-Err-Damaged-clause-damaged : goal.returns-in-Err-Damaged-clause-damaged
returns-in-Err-Damaged-clause-damaged g c = λ area at is tells entries spells. c.in-Err-Damaged.ensures.damaged _ _ (ap (λ (e : LogFault). Err e) c.in-Err-Damaged.field-0-is) tells entries spells
