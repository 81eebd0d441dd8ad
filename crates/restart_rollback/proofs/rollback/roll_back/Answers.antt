use Rattle.std.proofs.Common.{◌++◌, ◌∙◌, List, length, sym, ap, subst}
use Rattle.store_model.specs.Disk.{Leaves}
use Rattle.entry_codec.specs.declared.entries.Entry.{Entry}
use Rattle.receiver_chain.proofs.Others.{roots_here}
use Rattle.journal_book.specs.Book.{Holds}
use Rattle.journal_book.specs.Kept.{IsForcedOrFrom}
use Rattle.journal_opening.specs.Journals.{IsLeftBy}
use Rattle.restart_rollback.specs.Rollbacks.{rollback_entries}
use Rattle.restart_rollback.proofs.PutLemmas.{still}
use Rattle.restart_rollback.proofs.Wholes.{put-replayed, replayed-still}
use Rattle.restart_rollback.proofs.rollback.roll_back.Goals as goal

pub returns-in_err-more-clause-moments : goal.returns-in_err-more-clause-moments
returns-in_err-more-clause-moments g c = λ tells.
    still c.args.journal.now c.args.entries.now.items (rollback_entries c.args.who.now.job c.args.who.now.moment c.args.entries.now.items) (g.S.Store.disk c.args.store.now) (c.requires.held tells)

pub returns-in_err-more-clause-replays : goal.returns-in_err-more-clause-replays
returns-in_err-more-clause-replays g c = λ tells whole.
    replayed-still (g.D.Describe.rules c.args.by.now) c.args.journal.now c.args.entries.now.items (rollback_entries c.args.who.now.job c.args.who.now.moment c.args.entries.now.items)
    (g.S.Store.disk c.args.store.now)
    (c.requires.held tells)

pub returns-in_err-more-clause-roots : goal.returns-in_err-more-clause-roots
returns-in_err-more-clause-roots g c = roots_here (g.S.Store.disk c.args.store.now)

pub returns-in_err-put-clause-replays : goal.returns-in_err-put-clause-replays
returns-in_err-put-clause-replays g c = λ tells whole.
    put-replayed (g.D.Describe.rules c.args.by.now) c.args.who.now.job c.args.who.now.moment c.args.entries.now.items c.deref.result.now c.in_ok-more.more.items c.prepare.new.replay
    c.args.journal.now.chain.first
    c.args.journal.now.forced (g.S.Store.disk c.args.store.now) (g.S.Store.disk c.put.new.store) c.deref.ensures.value c.in_ok-more.ensures.more c.in_ok-more.ensures.left whole
    (c.put.ensures.moments tells)

pub returns-clause-replays : goal.returns-clause-replays
returns-clause-replays g c = λ tells whole.
    put-replayed (g.D.Describe.rules c.args.by.now) c.args.who.now.job c.args.who.now.moment c.args.entries.now.items c.deref.result.now c.in_ok-more.more.items c.prepare.new.replay
    c.args.journal.now.chain.first
    c.args.journal.now.forced (g.S.Store.disk c.args.store.now) (g.S.Store.disk c.put.new.store) c.deref.ensures.value c.in_ok-more.ensures.more c.in_ok-more.ensures.left whole
    (c.put.ensures.moments tells)

pub prepare-requires-clause-left : goal.prepare-requires-clause-left
prepare-requires-clause-left g c = subst (λ (l : List Entry). IsLeftBy (g.D.Describe.rules c.args.by.now) l c.args.replay.now) (sym c.deref.ensures.value) c.requires.left

pub returns-clause-ended : goal.returns-clause-ended
returns-clause-ended g c =
    c.in_ok-put.ensures.put ∙ ap (λ (l : List Entry). c.args.entries.now.items ++ l)
    (c.in_ok-more.ensures.more ∙ ap (rollback_entries c.args.who.now.job c.args.who.now.moment) c.deref.ensures.value)

pub returns-clause-left : goal.returns-clause-left
returns-clause-left g c =
    subst (λ (l : List Entry). IsLeftBy (g.D.Describe.rules c.args.by.now) l c.prepare.new.replay)
    (ap (λ (l : List Entry). l ++ c.in_ok-more.more.items) c.deref.ensures.value ∙ sym c.in_ok-put.ensures.put) c.in_ok-more.ensures.left

pub returns-clause-held : goal.returns-clause-held
returns-clause-held g c = λ tells. subst (λ (l : List Entry). Holds c.put.new.journal l (g.S.Store.disk c.put.new.store)) (sym c.in_ok-put.ensures.put) (c.in_ok-put.ensures.held tells)

pub returns-in_err-put-clause-moments : goal.returns-in_err-put-clause-moments
returns-in_err-put-clause-moments g c = λ tells.
    subst (λ (l : List Entry). Leaves (g.S.Store.disk c.args.store.now) (g.S.Store.disk c.put.new.store)
    (IsForcedOrFrom c.args.journal.now.chain.first c.args.journal.now.forced (length (c.args.entries.now.items ++ l)) (c.args.entries.now.items ++ l)))
    (c.in_ok-more.ensures.more ∙ ap (rollback_entries c.args.who.now.job c.args.who.now.moment) c.deref.ensures.value) (c.put.ensures.moments tells)

pub returns-clause-moments : goal.returns-clause-moments
returns-clause-moments g c = λ tells.
    subst (λ (l : List Entry). Leaves (g.S.Store.disk c.args.store.now) (g.S.Store.disk c.put.new.store)
    (IsForcedOrFrom c.args.journal.now.chain.first c.args.journal.now.forced (length (c.args.entries.now.items ++ l)) (c.args.entries.now.items ++ l)))
    (c.in_ok-more.ensures.more ∙ ap (rollback_entries c.args.who.now.job c.args.who.now.moment) c.deref.ensures.value) (c.put.ensures.moments tells)
