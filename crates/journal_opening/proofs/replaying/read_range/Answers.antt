use Rattle.std.proofs.Common.{ap, Err}
use Rattle.journal_book.specs.declared.fault.BookFault.{BookFault}
use Rattle.journal_opening.proofs.replaying.read_range.Goals as goal

pub returns-in-Err-BlockChanged-clause-whole : goal.returns-in-Err-BlockChanged-clause-whole
returns-in-Err-BlockChanged-clause-whole g c = λ area at is tells. c.in-Err-BlockChanged.ensures.whole _ _ _ (ap (λ (e : BookFault). Err e) c.in-Err-BlockChanged.field-0-is) tells
