use Rattle.std.proofs.Common.{◌∙◌, ap, subst, sym}
use Rattle.journal_book.specs.Book.{BookState, IsHeld}
use Rattle.ibmi_batch.proofs.ShownLemmas.{parts-seen}
use Rattle.ibmi_batch.proofs.showing.show_opened.Goals as goal

pub write_display-status-requires-clause-held : goal.write_display-status-requires-clause-held
write_display-status-requires-clause-held g c = λ told.
    let kept = c.into_parts-store.ensures.kept in
    subst (λ (b : BookState). IsHeld b (g.S.Store.disk c.into_parts-store.result.0)) (sym c.book.ensures) (∣ (kept.0.entries, kept.1.journaled.holds told) ∣₁)

pub write_display-status-requires-clause-settled : goal.write_display-status-requires-clause-settled
write_display-status-requires-clause-settled g c =
    ap (λ (b : BookState). b.waiting) (c.book.ensures ∙ c.into_parts-store.ensures.book) ∙ c.requires.settled

pub returns-clause-written : goal.returns-clause-written
returns-clause-written g c = λ s stands.
    let parts = c.into_parts-store.ensures in
    rw (sym parts.store)
    (c.write_display-status.ensures.written s
    (parts-seen g.S.Store.tells g.S.Store.disk c.args.library s stands _ _ _ parts.store (c.book.ensures ∙ parts.book) parts.state))

pub returns-clause-stays : goal.returns-clause-stays
returns-clause-stays g c = rw (sym c.into_parts-store.ensures.store) c.write_display-status.ensures.stays
