use Rattle.std.proofs.Common.{◌≡◌, true, sym, ◌∙◌, subst}
use Rattle.library_model.specs.declared.requests.Request.{Request}
use Rattle.journal_fronts.specs.Deposits.{switches}
use Rattle.library_core.specs.Puts.{HasCome}
use Rattle.library_core.proofs.RequestLemmas.{is-switch}
use Rattle.library_core.proofs.answering.answer.Goals as goal

pub returns-then-switches-clause-come : goal.returns-then-switches-clause-come
returns-then-switches-clause-come g c = λ s is.
    let asked : switches c.args.request.now ≡ true = sym c.switches.ensures ∙ c.if-switches.true in
    subst (λ (r : Request). HasCome g.S.Store.tells c.args.sources.now (g.S.Store.disk c.args.store.now) (g.S.Store.disk c.attach_receiver.new.store) c.args.journal.now
    c.attach_receiver.new.journal c.attach_receiver.new.contents.state s
    (record { job = c.args.job; timestamp = c.args.timestamp; request = r; reply = c.attach_receiver.result.0 }) c.attach_receiver.result.1)
    (sym (is-switch c.args.request.now asked)) (c.attach_receiver.ensures c.args.sources.now s is)

pub returns-then-switches-clause-cached : goal.returns-then-switches-clause-cached
returns-then-switches-clause-cached g c = c.requires.cached

pub returns-else-switches-clause-come : goal.returns-else-switches-clause-come
returns-else-switches-clause-come g c = c.answer_other.ensures.come

pub returns-else-switches-clause-cached : goal.returns-else-switches-clause-cached
returns-else-switches-clause-cached g c = c.answer_other.ensures.cached
