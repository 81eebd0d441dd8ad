use Rattle.std.proofs.Common.{refl}
use Rattle.ibmi_batch.proofs.ShownLemmas.{displays-unread, with-text}
use Rattle.ibmi_batch.proofs.showing.write_display.Goals as goal

pub returns-in-Err-clause-written : goal.returns-in-Err-clause-written
returns-in-Err-clause-written g c = λ s seen.
    rw c.status_unread.ensures (displays-unread _ _ s _ _ (λ tells. refl) c.in-Err.ensures.fault)

pub returns-in-Ok-write_all-clause-written : goal.returns-in-Ok-write_all-clause-written
returns-in-Ok-write_all-clause-written g c = λ s seen.
    with-text _ s _ _ _ (c.in-Ok.ensures.shown s seen) c.as_slice.ensures.value c.in-Ok-write_all.ensures.taken

pub returns-clause-written : goal.returns-clause-written
returns-clause-written g c = λ s seen.
    with-text _ s _ _ _ (c.in-Ok.ensures.shown s seen) c.as_slice.ensures.value
    (c.in-Err-write_all.ensures.cause refl, λ told. let part = c.in-Err-write_all.ensures.prefix told in (part.0, part.2))
