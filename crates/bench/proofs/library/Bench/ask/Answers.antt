use Rattle.std.proofs.Common.{sym, ◌∙◌}
use Rattle.bench.proofs.ReadyLemmas.{AreReady-each, AreReady-on}
use Rattle.bench.proofs.library.Bench.ask.Goals as goal

pub call-reply-requires-clause-ready : goal.call-reply-requires-clause-ready
call-reply-requires-clause-ready c =
    let within = rw (← c.self.view_is) at c.requires in
    let alive = sym c.failed.ensures.failed ∙ c.if-failed.false in
    AreReady-each _ c.args.job _ (c.self.invariant.0 alive) within.0 within.1

pub invariant_of-self : goal.invariant_of-self
invariant_of-self c =
    let alive = sym c.failed.ensures.failed ∙ c.if-failed.false in
    (λ still. AreReady-on _ c.args.job _ _ _ (c.self.invariant.0 alive) c.as_request.ensures.goes_on still c.call-reply.ensures.running, c.self.invariant.1)
