use Rattle.std.proofs.Common.{sym, subst}
use Rattle.gated_log.specs.Log.{LogState, Settled, IsSettled}
use Rattle.receiver_chain.specs.Receivers.{receiver_at}
use Rattle.receiver_chain.proofs.Kept.{held_log, log_of}
use Rattle.receiver_chain.proofs.chain.Chain.block.Goals as goal

pub block-requires-clause-settled : goal.block-requires-clause-settled
block-requires-clause-settled g c = λ tells.
    subst (λ (l : LogState). IsSettled l (g.S.Store.disk c.args.store.now)) (sym c.log-log.ensures)
    (held_log c.args.self.now (g.S.Store.disk c.args.store.now) c.args.receiver (c.requires.held tells) c.requires.from c.requires.upto)

pub returns-clause-block : goal.returns-clause-block
returns-clause-block g c = λ tells kept holds.
    let r = receiver_at c.args.self.now.first kept c.args.receiver in
    c.in_ok-bytes.ensures.block tells r.blocks
    (subst (λ (l : LogState). Settled l r.blocks (g.S.Store.disk c.args.store.now)) (sym c.log-log.ensures)
    (log_of c.args.self.now kept (g.S.Store.disk c.args.store.now) c.args.receiver holds c.requires.from c.requires.upto).settled)
