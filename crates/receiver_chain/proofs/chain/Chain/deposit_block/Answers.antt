use Rattle.std.proofs.Common.{◌+◌, sym, subst, arith}
use Rattle.gated_log.specs.Log.{Anything}
use Rattle.receiver_chain.specs.Links.{IsNoLink}
use Rattle.receiver_chain.specs.Chain.{ChainState, Holds, IsHeld, attached_of}
use Rattle.receiver_chain.proofs.Deposits.{held_settled, deposit_moment, deposit_holds}
use Rattle.receiver_chain.proofs.Others.{roots_does}
use Rattle.receiver_chain.proofs.chain.Chain.deposit_block.Goals as goal

pub append-requires-clause-settled : goal.append-requires-clause-settled
append-requires-clause-settled g c = λ tells. held_settled _ (g.S.Store.disk c.args.store.now) (subst (λ (v : ChainState). IsHeld v (g.S.Store.disk c.args.store.now)) (sym c.self.view_is) (c.requires.held tells))

pub returns-in_err-append-clause-any_moment : goal.returns-in_err-append-clause-any_moment
returns-in_err-append-clause-any_moment g c = λ tells kept block framed holds.
    let here = subst (λ (v : ChainState). Holds v kept (g.S.Store.disk c.args.store.now)) (sym c.self.view_is) holds in
    let none = subst (λ (v : ChainState). IsNoLink (attached_of v + 1) block) (sym c.self.view_is) (c.requires.no_link block framed) in
    subst (λ (v : ChainState). Rattle.store_model.specs.Disk.Leaves (g.S.Store.disk c.args.store.now) (g.S.Store.disk c.append.new.store)
    (Rattle.receiver_chain.specs.Chain.IsWithOrWithout v.first kept block)) c.self.view_is
    (deposit_moment c.self.inside.first c.self.inside.room c.self.inside.earlier.items c.self.inside.attached kept (g.S.Store.disk c.args.store.now) here block none (g.S.Store.disk c.append.new.store)
    (c.append.ensures.any_moment tells kept.attached.blocks block framed here.leads.log_of.settled))

pub returns-clause-deposited : goal.returns-clause-deposited
returns-clause-deposited g c = λ tells kept block framed holds.
    let here = subst (λ (v : ChainState). Holds v kept (g.S.Store.disk c.args.store.now)) (sym c.self.view_is) holds in
    let none = subst (λ (v : ChainState). IsNoLink (attached_of v + 1) block) (sym c.self.view_is) (c.requires.no_link block framed) in
    deposit_holds c.self.inside.first c.self.inside.room c.self.inside.earlier.items c.self.inside.attached kept (g.S.Store.disk c.args.store.now) here block none (g.S.Store.disk c.append.new.store)
    c.append.new.self _ c.append.ensures.apart c.append.ensures.same_area c.append.ensures.same_first c.append.ensures.same_version
    (c.in_ok-append.ensures.appended tells kept.attached.blocks block framed here.leads.log_of.settled)

pub returns-clause-any_moment : goal.returns-clause-any_moment
returns-clause-any_moment g c = λ tells kept block framed holds.
    let here = subst (λ (v : ChainState). Holds v kept (g.S.Store.disk c.args.store.now)) (sym c.self.view_is) holds in
    let none = subst (λ (v : ChainState). IsNoLink (attached_of v + 1) block) (sym c.self.view_is) (c.requires.no_link block framed) in
    subst (λ (v : ChainState). Rattle.store_model.specs.Disk.Leaves (g.S.Store.disk c.args.store.now) (g.S.Store.disk c.append.new.store)
    (Rattle.receiver_chain.specs.Chain.IsWithOrWithout v.first kept block)) c.self.view_is
    (deposit_moment c.self.inside.first c.self.inside.room c.self.inside.earlier.items c.self.inside.attached kept (g.S.Store.disk c.args.store.now) here block none (g.S.Store.disk c.append.new.store)
    (c.append.ensures.any_moment tells kept.attached.blocks block framed here.leads.log_of.settled))

pub returns-in_err-append-clause-roots : goal.returns-in_err-append-clause-roots
returns-in_err-append-clause-roots g c =
    roots_does c.self.inside.attached.area Anything (g.S.Store.disk c.args.store.now) (g.S.Store.disk c.append.new.store) (omega (arith, c.self.invariant.0, c.self.invariant.2)) c.append.ensures.apart

pub returns-clause-roots : goal.returns-clause-roots
returns-clause-roots g c =
    roots_does c.self.inside.attached.area Anything (g.S.Store.disk c.args.store.now) (g.S.Store.disk c.append.new.store) (omega (arith, c.self.invariant.0, c.self.invariant.2)) c.append.ensures.apart
