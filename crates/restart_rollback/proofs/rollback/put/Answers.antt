use Rattle.std.proofs.Common.{◌++◌, ◌∙◌, List, length, subst, arith}
use Rattle.store_model.specs.Disk.{Leaves}
use Rattle.entry_codec.specs.declared.entries.Entry.{Entry}
use Rattle.receiver_chain.proofs.Others.{roots_here}
use Rattle.journal_book.specs.Book.{Holds}
use Rattle.journal_book.specs.Kept.{IsForcedOrFrom}
use Rattle.restart_rollback.proofs.PutLemmas.{roomy-held, roomy-holds, roomy-moments, still}
use Rattle.restart_rollback.proofs.rollback.put.Goals as goal

pub put_call-requires-clause-held : goal.put_call-requires-clause-held
put_call-requires-clause-held g c = λ tells. roomy-held c.args.journal.now c.reserve.new.self c.args.entries.now.items c.args.more.items (g.S.Store.disk c.args.store.now) c.reserve.ensures.same (c.requires.held tells)

pub put_call-requires-clause-place : goal.put_call-requires-clause-place
put_call-requires-clause-place g c = omega (arith, c.in_ok-reserve.ensures.places)

pub returns-in_err-reserve-clause-moments : goal.returns-in_err-reserve-clause-moments
returns-in_err-reserve-clause-moments g c = λ tells. still c.args.journal.now c.args.entries.now.items c.args.more.items (g.S.Store.disk c.args.store.now) (c.requires.held tells)

pub returns-then-not-may_take-clause-moments : goal.returns-then-not-may_take-clause-moments
returns-then-not-may_take-clause-moments g c = λ tells. still c.args.journal.now c.args.entries.now.items c.args.more.items (g.S.Store.disk c.args.store.now) (c.requires.held tells)

pub returns-in_err-put_call-clause-moments : goal.returns-in_err-put_call-clause-moments
returns-in_err-put_call-clause-moments g c = λ tells.
    subst (λ (l : List Entry). Leaves (g.S.Store.disk c.args.store.now) (g.S.Store.disk c.put_call.new.store) (IsForcedOrFrom c.args.journal.now.chain.first c.args.journal.now.forced (length (c.args.entries.now.items ++ l)) (c.args.entries.now.items ++ l))) c.deref-2.ensures.value
    (roomy-moments c.args.journal.now c.reserve.new.self c.args.entries.now.items c.deref-2.result.now (g.S.Store.disk c.args.store.now) c.reserve.ensures.same (g.S.Store.disk c.put_call.new.store)
    (c.put_call.ensures.moments tells c.args.entries.now.items (roomy-holds c.args.journal.now c.reserve.new.self c.args.entries.now.items c.deref-2.result.now (g.S.Store.disk c.args.store.now) c.reserve.ensures.same (c.requires.held tells))))

pub returns-in_err-append-clause-moments : goal.returns-in_err-append-clause-moments
returns-in_err-append-clause-moments g c = λ tells.
    subst (λ (l : List Entry). Leaves (g.S.Store.disk c.args.store.now) (g.S.Store.disk c.put_call.new.store) (IsForcedOrFrom c.args.journal.now.chain.first c.args.journal.now.forced (length (c.args.entries.now.items ++ l)) (c.args.entries.now.items ++ l))) c.deref-2.ensures.value
    (roomy-moments c.args.journal.now c.reserve.new.self c.args.entries.now.items c.deref-2.result.now (g.S.Store.disk c.args.store.now) c.reserve.ensures.same (g.S.Store.disk c.put_call.new.store)
    (c.put_call.ensures.moments tells c.args.entries.now.items (roomy-holds c.args.journal.now c.reserve.new.self c.args.entries.now.items c.deref-2.result.now (g.S.Store.disk c.args.store.now) c.reserve.ensures.same (c.requires.held tells))))

pub returns-clause-moments : goal.returns-clause-moments
returns-clause-moments g c = λ tells.
    subst (λ (l : List Entry). Leaves (g.S.Store.disk c.args.store.now) (g.S.Store.disk c.put_call.new.store) (IsForcedOrFrom c.args.journal.now.chain.first c.args.journal.now.forced (length (c.args.entries.now.items ++ l)) (c.args.entries.now.items ++ l))) c.deref-2.ensures.value
    (roomy-moments c.args.journal.now c.reserve.new.self c.args.entries.now.items c.deref-2.result.now (g.S.Store.disk c.args.store.now) c.reserve.ensures.same (g.S.Store.disk c.put_call.new.store)
    (c.put_call.ensures.moments tells c.args.entries.now.items (roomy-holds c.args.journal.now c.reserve.new.self c.args.entries.now.items c.deref-2.result.now (g.S.Store.disk c.args.store.now) c.reserve.ensures.same (c.requires.held tells))))

pub returns-clause-held : goal.returns-clause-held
returns-clause-held g c = λ tells.
    subst (λ (l : List Entry). Holds c.put_call.new.self (c.args.entries.now.items ++ l) (g.S.Store.disk c.put_call.new.store)) c.deref-2.ensures.value
    (c.in_ok-put_call.ensures.kept tells c.args.entries.now.items (roomy-holds c.args.journal.now c.reserve.new.self c.args.entries.now.items c.deref-2.result.now (g.S.Store.disk c.args.store.now) c.reserve.ensures.same (c.requires.held tells)))

pub returns-in_err-reserve-clause-receiver : goal.returns-in_err-reserve-clause-receiver
returns-in_err-reserve-clause-receiver g c = c.reserve.ensures.same.receiver

pub returns-then-not-may_take-clause-receiver : goal.returns-then-not-may_take-clause-receiver
returns-then-not-may_take-clause-receiver g c = c.reserve.ensures.same.receiver

pub returns-in_err-put_call-clause-receiver : goal.returns-in_err-put_call-clause-receiver
returns-in_err-put_call-clause-receiver g c = c.put_call.ensures.receiver ∙ c.reserve.ensures.same.receiver

pub returns-in_err-append-clause-receiver : goal.returns-in_err-append-clause-receiver
returns-in_err-append-clause-receiver g c = c.put_call.ensures.receiver ∙ c.reserve.ensures.same.receiver

pub returns-clause-receiver : goal.returns-clause-receiver
returns-clause-receiver g c = c.put_call.ensures.receiver ∙ c.reserve.ensures.same.receiver

pub returns-in_err-reserve-clause-roots : goal.returns-in_err-reserve-clause-roots
returns-in_err-reserve-clause-roots g c = roots_here (g.S.Store.disk c.args.store.now)

pub returns-then-not-may_take-clause-roots : goal.returns-then-not-may_take-clause-roots
returns-then-not-may_take-clause-roots g c = roots_here (g.S.Store.disk c.args.store.now)
