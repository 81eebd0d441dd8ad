use Rattle.std.proofs.Common.{◌+◌, ◌++◌, ◌∷◌, List, [], ◌∙◌, length, ap, sym, subst}
use Rattle.entry_codec.specs.declared.entries.Entry.{Entry}
use Rattle.entry_codec.specs.Spelling.{HasSpelling}
use Rattle.receiver_chain.proofs.Others.{roots_here}
use Rattle.journal_book.specs.Book.{Holds}
use Rattle.restart_rollback.specs.Journals.{IsLeftBy}
use Rattle.restart_rollback.proofs.PutLemmas.{roomy-holds, still}
use Rattle.restart_rollback.proofs.Wholes.{replayed-still}
use Rattle.restarted_journal.specs.Restarts.{first_entry}
use Rattle.restarted_journal.proofs.Depositing.{entry-is, first-moments, first-replays, first-spelled}
use Rattle.restarted_journal.proofs.beginning.begin_behind.Goals as goal

pub returns-in_err-sequence-clause-moments : goal.returns-in_err-sequence-clause-moments
returns-in_err-sequence-clause-moments g c = λ tells.
    still c.args.book.now c.args.entries.now.items (first_entry c.args.who.now.job c.args.who.now.moment c.args.number (length c.args.entries.now.items + 1) ∷ [])
    (g.S.Store.disk c.args.store.now) (c.requires.held tells)

pub returns-in_err-sequence-clause-replays : goal.returns-in_err-sequence-clause-replays
returns-in_err-sequence-clause-replays g c = λ tells.
    replayed-still (g.D.Describe.rules c.args.by.now) c.args.book.now c.args.entries.now.items (first_entry c.args.who.now.job c.args.who.now.moment c.args.number
    (length c.args.entries.now.items + 1) ∷ []) (g.S.Store.disk c.args.store.now) (c.requires.held tells)

pub returns-in_err-sequence-clause-roots : goal.returns-in_err-sequence-clause-roots
returns-in_err-sequence-clause-roots g c = roots_here (g.S.Store.disk c.args.store.now)

pub returns-in_err-make_room-clause-moments : goal.returns-in_err-make_room-clause-moments
returns-in_err-make_room-clause-moments g c = λ tells.
    still c.args.book.now c.args.entries.now.items (first_entry c.args.who.now.job c.args.who.now.moment c.args.number (length c.args.entries.now.items + 1) ∷ [])
    (g.S.Store.disk c.args.store.now) (c.requires.held tells)

pub returns-in_err-make_room-clause-replays : goal.returns-in_err-make_room-clause-replays
returns-in_err-make_room-clause-replays g c = λ tells.
    replayed-still (g.D.Describe.rules c.args.by.now) c.args.book.now c.args.entries.now.items (first_entry c.args.who.now.job c.args.who.now.moment c.args.number
    (length c.args.entries.now.items + 1) ∷ []) (g.S.Store.disk c.args.store.now) (c.requires.held tells)

pub returns-in_err-make_room-clause-roots : goal.returns-in_err-make_room-clause-roots
returns-in_err-make_room-clause-roots g c = roots_here (g.S.Store.disk c.args.store.now)

pub returns-in_err-make_room-clause-receiver : goal.returns-in_err-make_room-clause-receiver
returns-in_err-make_room-clause-receiver g c = c.make_room.ensures.same.receiver

pub returns-then-not-may_begin-clause-moments : goal.returns-then-not-may_begin-clause-moments
returns-then-not-may_begin-clause-moments g c = λ tells.
    still c.args.book.now c.args.entries.now.items (first_entry c.args.who.now.job c.args.who.now.moment c.args.number (length c.args.entries.now.items + 1) ∷ [])
    (g.S.Store.disk c.args.store.now) (c.requires.held tells)

pub returns-then-not-may_begin-clause-replays : goal.returns-then-not-may_begin-clause-replays
returns-then-not-may_begin-clause-replays g c = λ tells.
    replayed-still (g.D.Describe.rules c.args.by.now) c.args.book.now c.args.entries.now.items (first_entry c.args.who.now.job c.args.who.now.moment c.args.number
    (length c.args.entries.now.items + 1) ∷ []) (g.S.Store.disk c.args.store.now) (c.requires.held tells)

pub returns-then-not-may_begin-clause-roots : goal.returns-then-not-may_begin-clause-roots
returns-then-not-may_begin-clause-roots g c = roots_here (g.S.Store.disk c.args.store.now)

pub returns-then-not-may_begin-clause-receiver : goal.returns-then-not-may_begin-clause-receiver
returns-then-not-may_begin-clause-receiver g c = c.make_room.ensures.same.receiver

pub returns-in_err-take-clause-moments : goal.returns-in_err-take-clause-moments
returns-in_err-take-clause-moments g c = λ tells.
    still c.args.book.now c.args.entries.now.items (first_entry c.args.who.now.job c.args.who.now.moment c.args.number (length c.args.entries.now.items + 1) ∷ [])
    (g.S.Store.disk c.args.store.now) (c.requires.held tells)

pub returns-in_err-take-clause-replays : goal.returns-in_err-take-clause-replays
returns-in_err-take-clause-replays g c = λ tells.
    replayed-still (g.D.Describe.rules c.args.by.now) c.args.book.now c.args.entries.now.items (first_entry c.args.who.now.job c.args.who.now.moment c.args.number
    (length c.args.entries.now.items + 1) ∷ []) (g.S.Store.disk c.args.store.now) (c.requires.held tells)

pub returns-in_err-take-clause-roots : goal.returns-in_err-take-clause-roots
returns-in_err-take-clause-roots g c = roots_here (g.S.Store.disk c.args.store.now)

pub returns-in_err-take-clause-receiver : goal.returns-in_err-take-clause-receiver
returns-in_err-take-clause-receiver g c = c.make_room.ensures.same.receiver

pub put-requires-clause-held : goal.put-requires-clause-held
put-requires-clause-held g c = λ tells. roomy-holds c.args.book.now c.make_room.new.book c.args.entries.now.items [] (g.S.Store.disk c.args.store.now) c.make_room.ensures.same (c.requires.held tells)

pub put-requires-clause-alone : goal.put-requires-clause-alone
put-requires-clause-alone g c = c.make_room.ensures.same.waiting ∙ c.requires.alone

pub make_room-requires : goal.make_room-requires
make_room-requires g c =
    subst (λ (x : Entry). HasSpelling x) (sym (entry-is c.args.who.now.job c.args.who.now.moment c.args.number c.deref.result.now c.args.entries.now.items c.first_draft.result
    c.numbered-entry.result c.in_ok-sequence.sequence c.deref.ensures.value c.first_draft.ensures c.numbered-entry.ensures c.in_ok-sequence.ensures))
    (first-spelled c.args.number (length c.args.entries.now.items + 1))

pub put-requires-clause-spelled : goal.put-requires-clause-spelled
put-requires-clause-spelled g c =
    subst (λ (x : Entry). HasSpelling x) (sym (entry-is c.args.who.now.job c.args.who.now.moment c.args.number c.deref.result.now c.args.entries.now.items c.first_draft.result
    c.numbered-entry.result c.in_ok-sequence.sequence c.deref.ensures.value c.first_draft.ensures c.numbered-entry.ensures c.in_ok-sequence.ensures))
    (first-spelled c.args.number (length c.args.entries.now.items + 1))

pub returns-in_err-put-clause-moments : goal.returns-in_err-put-clause-moments
returns-in_err-put-clause-moments g c = λ tells.
    first-moments c.args.who.now.job c.args.who.now.moment c.args.number (length c.args.entries.now.items + 1) c.args.book.now c.make_room.new.book c.make_room.ensures.same
    c.args.entries.now.items c.numbered-entry.result (entry-is c.args.who.now.job c.args.who.now.moment c.args.number c.deref.result.now c.args.entries.now.items c.first_draft.result
    c.numbered-entry.result c.in_ok-sequence.sequence c.deref.ensures.value c.first_draft.ensures c.numbered-entry.ensures c.in_ok-sequence.ensures) (g.S.Store.disk c.args.store.now)
    (g.S.Store.disk c.put.new.store) (c.put.ensures.moments tells)

pub returns-in_err-put-clause-replays : goal.returns-in_err-put-clause-replays
returns-in_err-put-clause-replays g c = λ tells.
    first-replays c.args.who.now.job c.args.who.now.moment c.args.number (length c.args.entries.now.items + 1) c.args.book.now c.make_room.new.book c.make_room.ensures.same
    c.args.entries.now.items c.numbered-entry.result (entry-is c.args.who.now.job c.args.who.now.moment c.args.number c.deref.result.now c.args.entries.now.items c.first_draft.result
    c.numbered-entry.result c.in_ok-sequence.sequence c.deref.ensures.value c.first_draft.ensures c.numbered-entry.ensures c.in_ok-sequence.ensures) (g.S.Store.disk c.args.store.now)
    (g.S.Store.disk c.put.new.store) (c.put.ensures.moments tells) (g.D.Describe.rules c.args.by.now) c.take.new.replay (c.in_ok-take.ensures c.args.entries.now.items c.requires.left)

pub returns-in_err-put-clause-receiver : goal.returns-in_err-put-clause-receiver
returns-in_err-put-clause-receiver g c = c.put.ensures.receiver ∙ c.make_room.ensures.same.receiver

pub returns-clause-moments : goal.returns-clause-moments
returns-clause-moments g c = λ tells.
    first-moments c.args.who.now.job c.args.who.now.moment c.args.number (length c.args.entries.now.items + 1) c.args.book.now c.make_room.new.book c.make_room.ensures.same
    c.args.entries.now.items c.numbered-entry.result (entry-is c.args.who.now.job c.args.who.now.moment c.args.number c.deref.result.now c.args.entries.now.items c.first_draft.result
    c.numbered-entry.result c.in_ok-sequence.sequence c.deref.ensures.value c.first_draft.ensures c.numbered-entry.ensures c.in_ok-sequence.ensures) (g.S.Store.disk c.args.store.now)
    (g.S.Store.disk c.put.new.store) (c.put.ensures.moments tells)

pub returns-clause-replays : goal.returns-clause-replays
returns-clause-replays g c = λ tells.
    first-replays c.args.who.now.job c.args.who.now.moment c.args.number (length c.args.entries.now.items + 1) c.args.book.now c.make_room.new.book c.make_room.ensures.same
    c.args.entries.now.items c.numbered-entry.result (entry-is c.args.who.now.job c.args.who.now.moment c.args.number c.deref.result.now c.args.entries.now.items c.first_draft.result
    c.numbered-entry.result c.in_ok-sequence.sequence c.deref.ensures.value c.first_draft.ensures c.numbered-entry.ensures c.in_ok-sequence.ensures) (g.S.Store.disk c.args.store.now)
    (g.S.Store.disk c.put.new.store) (c.put.ensures.moments tells) (g.D.Describe.rules c.args.by.now) c.take.new.replay (c.in_ok-take.ensures c.args.entries.now.items c.requires.left)

pub returns-clause-receiver : goal.returns-clause-receiver
returns-clause-receiver g c = c.put.ensures.receiver ∙ c.make_room.ensures.same.receiver

pub returns-clause-ended : goal.returns-clause-ended
returns-clause-ended g c =
    c.in_ok-put.ensures.put ∙ ap (λ (x : Entry). c.args.entries.now.items ++ x ∷ [])
    (entry-is c.args.who.now.job c.args.who.now.moment c.args.number c.deref.result.now c.args.entries.now.items c.first_draft.result c.numbered-entry.result c.in_ok-sequence.sequence
    c.deref.ensures.value c.first_draft.ensures c.numbered-entry.ensures c.in_ok-sequence.ensures)

pub returns-clause-left : goal.returns-clause-left
returns-clause-left g c = subst (λ (l : List Entry). IsLeftBy (g.D.Describe.rules c.args.by.now) l c.take.new.replay) (sym c.in_ok-put.ensures.put) (c.in_ok-take.ensures c.args.entries.now.items c.requires.left)

pub returns-clause-held : goal.returns-clause-held
returns-clause-held g c = λ tells. subst (λ (l : List Entry). Holds c.put.new.book l (g.S.Store.disk c.put.new.store)) (sym c.in_ok-put.ensures.put) (c.in_ok-put.ensures.held tells)
