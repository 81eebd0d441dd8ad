use Rattle.std.proofs.Common.{Err, ap}
use Rattle.journal_book.specs.declared.fault.BookFault.{BookFault}
use Rattle.ibmi_batch.proofs.ShownLemmas.{unread-by}
use Rattle.ibmi_batch.proofs.showing.changed_block.Goals as goal

pub returns-in-Ok-clause-fault : goal.returns-in-Ok-clause-fault
returns-in-Ok-clause-fault g c = c.requires.untold

pub returns-in-Err-clause-fault : goal.returns-in-Err-clause-fault
returns-in-Err-clause-fault g c =
    let its = c.in-Err.ensures in
    unread-by c.in-Err.fault _ _ (λ is. its.cause (ap (λ (e : BookFault). Err e) is)) (λ sequence area at is. its.whole sequence area at (ap (λ (e : BookFault). Err e) is)) (λ is. its.no_range (ap (λ (e : BookFault). Err e) is))
    (λ sequence is. its.named sequence (ap (λ (e : BookFault). Err e) is))
