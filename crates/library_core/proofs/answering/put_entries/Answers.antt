use Rattle.std.proofs.Common.{◌≡◌, true, false, sym, ◌∙◌}
use Rattle.library_core.specs.Puts.{are_put}
use Rattle.library_core.proofs.PutLemmas.{none-taken, place-there, put-taken}
use Rattle.library_core.proofs.answering.put_entries.Goals as goal

pub put_call-requires-clause-place : goal.put_call-requires-clause-place
put_call-requires-clause-place g c =
    let put : are_put c.args.request.now c.args.entries.now ≡ true = sym c.are_put.ensures ∙ c.if-are_put.true in
    place-there c.args.request.now c.args.entries.now c.args.journal.now.chain.room put c.requires.place

pub returns-then-are_put : goal.returns-then-are_put
returns-then-are_put g c =
    let put : are_put c.args.request.now c.args.entries.now ≡ true = sym c.are_put.ensures ∙ c.if-are_put.true in
    put-taken g.S.Store.tells (g.S.Store.disk c.args.store.now) (g.S.Store.disk c.put_call.new.store) c.args.journal.now c.put_call.new.self c.args.request.now c.args.entries.now c.is_forced.result
    c.put_call.result put c.is_forced.ensures
    c.put_call.ensures.kept c.put_call.ensures.moments c.put_call.ensures.acknowledged c.put_call.ensures.whole c.put_call.ensures.little c.put_call.ensures.next c.put_call.ensures.first
    c.put_call.ensures.receiver c.put_call.ensures.number
    c.put_call.ensures.less_places c.put_call.ensures.roots c.put_call.ensures.faults c.put_call.ensures.cause

pub returns-else-are_put : goal.returns-else-are_put
returns-else-are_put g c =
    let put : are_put c.args.request.now c.args.entries.now ≡ false = sym c.are_put.ensures ∙ c.if-are_put.false in
    none-taken g.S.Store.tells (g.S.Store.disk c.args.store.now) c.args.journal.now c.args.request.now c.args.entries.now put c.requires.little
