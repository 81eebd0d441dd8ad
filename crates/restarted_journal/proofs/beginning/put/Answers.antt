use Rattle.std.proofs.Common.{◌≤◌, ◌∷◌, [], ◌++◌, ◌∙◌, length, ap, subst}
use Rattle.entry_codec.specs.declared.entries.Entry.{Entry}
use Rattle.entry_codec.specs.Drafts.{numbered}
use Rattle.entry_codec.specs.Spelling.{HasSpelling, spelling}
use Rattle.receiver_chain.proofs.Others.{roots_here}
use Rattle.journal_book.specs.Book.{BookState, next_of}
use Rattle.restart_rollback.proofs.PutLemmas.{still}
use Rattle.restarted_journal.proofs.Depositing.{deposited-held, deposited-holds, deposited-moments, deposited-place, deposited-small, deposited-some}
use Rattle.restarted_journal.proofs.beginning.put.Goals as goal

pub begin-sequence-requires-clause-spelled : goal.begin-sequence-requires-clause-spelled
begin-sequence-requires-clause-spelled g c = subst (λ (x : Entry). HasSpelling x) c.requires.is c.requires.spelled

pub begin-sequence-requires-clause-room : goal.begin-sequence-requires-clause-room
begin-sequence-requires-clause-room g c = subst (λ (x : Entry). length (spelling x) ≤ c.args.book.now.bytes) c.requires.is c.requires.room

pub force-requires-clause-held : goal.force-requires-clause-held
force-requires-clause-held g c = λ tells.
    deposited-held c.args.book.now c.begin-sequence.new.self c.args.entry (numbered c.args.draft (next_of c.args.book.now)) c.requires.is c.begin-sequence.ensures.deposited
    c.begin-sequence.ensures.holds c.args.entries.now.items
    (g.S.Store.disk c.args.store.now) (c.requires.held tells)

pub force-requires-clause-place : goal.force-requires-clause-place
force-requires-clause-place g c = λ some. deposited-place c.args.book.now c.begin-sequence.new.self c.args.entry (numbered c.args.draft (next_of c.args.book.now)) c.requires.is
    c.begin-sequence.ensures.deposited c.requires.place

pub force-requires-clause-small : goal.force-requires-clause-small
force-requires-clause-small g c = deposited-small c.args.book.now c.begin-sequence.new.self c.args.entry (numbered c.args.draft (next_of c.args.book.now)) c.requires.is
    c.begin-sequence.ensures.deposited c.requires.empty c.requires.small

pub returns-in_err-force-clause-receiver : goal.returns-in_err-force-clause-receiver
returns-in_err-force-clause-receiver g c = c.force.ensures.receiver ∙ ap (λ (b : BookState). b.chain.first) c.begin-sequence.ensures.deposited

pub returns-in_err-force-clause-moments : goal.returns-in_err-force-clause-moments
returns-in_err-force-clause-moments g c = λ tells.
    deposited-moments c.args.book.now c.begin-sequence.new.self c.args.entry (numbered c.args.draft (next_of c.args.book.now)) c.requires.is c.begin-sequence.ensures.deposited
    c.begin-sequence.ensures.holds c.args.entries.now.items
    (g.S.Store.disk c.args.store.now) (g.S.Store.disk c.force.new.store) (c.force.ensures.exactly tells (c.args.entries.now.items ++ c.args.entry ∷ [])
    (deposited-holds c.args.book.now c.begin-sequence.new.self c.args.entry (numbered c.args.draft (next_of c.args.book.now)) c.requires.is c.begin-sequence.ensures.deposited
    c.begin-sequence.ensures.holds c.args.entries.now.items
    (g.S.Store.disk c.args.store.now) (c.requires.held tells)))

pub returns-in_err-reserve-clause-moments : goal.returns-in_err-reserve-clause-moments
returns-in_err-reserve-clause-moments g c = λ tells. still c.args.book.now c.args.entries.now.items (c.args.entry ∷ []) (g.S.Store.disk c.args.store.now) (c.requires.held tells)

pub returns-clause-receiver : goal.returns-clause-receiver
returns-clause-receiver g c = c.force.ensures.receiver ∙ ap (λ (b : BookState). b.chain.first) c.begin-sequence.ensures.deposited

pub returns-clause-begun : goal.returns-clause-begun
returns-clause-begun g c = c.in_ok-force.ensures.begins (deposited-some c.args.book.now c.begin-sequence.new.self c.args.entry (numbered c.args.draft (next_of c.args.book.now)) c.requires.is
    c.begin-sequence.ensures.deposited)

pub returns-clause-held : goal.returns-clause-held
returns-clause-held g c = λ tells. c.in_ok-force.ensures.forced tells (c.args.entries.now.items ++ c.args.entry ∷ [])
    (deposited-holds c.args.book.now c.begin-sequence.new.self c.args.entry (numbered c.args.draft (next_of c.args.book.now)) c.requires.is c.begin-sequence.ensures.deposited
    c.begin-sequence.ensures.holds c.args.entries.now.items
    (g.S.Store.disk c.args.store.now) (c.requires.held tells))

pub returns-clause-moments : goal.returns-clause-moments
returns-clause-moments g c = λ tells.
    deposited-moments c.args.book.now c.begin-sequence.new.self c.args.entry (numbered c.args.draft (next_of c.args.book.now)) c.requires.is c.begin-sequence.ensures.deposited
    c.begin-sequence.ensures.holds c.args.entries.now.items
    (g.S.Store.disk c.args.store.now) (g.S.Store.disk c.force.new.store) (c.force.ensures.exactly tells (c.args.entries.now.items ++ c.args.entry ∷ [])
    (deposited-holds c.args.book.now c.begin-sequence.new.self c.args.entry (numbered c.args.draft (next_of c.args.book.now)) c.requires.is c.begin-sequence.ensures.deposited
    c.begin-sequence.ensures.holds c.args.entries.now.items
    (g.S.Store.disk c.args.store.now) (c.requires.held tells)))

pub returns-in_err-reserve-clause-roots : goal.returns-in_err-reserve-clause-roots
returns-in_err-reserve-clause-roots g c = roots_here (g.S.Store.disk c.args.store.now)
