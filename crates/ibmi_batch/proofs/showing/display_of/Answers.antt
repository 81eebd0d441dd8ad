use Rattle.std.proofs.Common.{◌∙◌}
use Rattle.display.proofs.DisplayLemmas.{display-joined}
use Rattle.ibmi_batch.proofs.ShownLemmas.{is-display, last-seen}
use Rattle.ibmi_batch.proofs.showing.display_of.Goals as goal

pub returns-clause-shown : goal.returns-clause-shown
returns-clause-shown g c = λ s seen.
    let disk = g.S.Store.disk c.args.store.now in
    is-display g.S.Store.tells disk c.args.book.now c.args.contents.now.state s seen _ _ _
    (display-joined s _ _ _ _ _ (c.bounds-last.ensures.last ∙ last-seen g.S.Store.tells disk c.args.book.now c.args.contents.now.state s seen)
    (c.receivers-attached.ensures.attached ∙ seen.attached) (c.catalogue.ensures ∙ seen.files) (c.members.ensures ∙ seen.members) c.in_ok-text.ensures)
    c.in_ok-push_journal.ensures.read c.in_ok-end_display.ensures
