use Rattle.std.proofs.Common.{◌≡◌, ℕ, ◌+◌, ◌<◌, List, length, drop, sym, subst}
use Rattle.store_model.specs.Disk.{Cut, Does}
use Rattle.gated_log.specs.Log.{LogState}
use Rattle.receiver_chain.specs.Receivers.{dropped}
use Rattle.receiver_chain.specs.Chain.{ChainState, Holds}
use Rattle.receiver_chain.proofs.Drops.{drop_cut_holds}
use Rattle.receiver_chain.proofs.chain.Chain.drop_first.Goals as goal

pub returns-in_err-cut-clause-holds : goal.returns-in_err-cut-clause-holds
returns-in_err-cut-clause-holds g c = λ tells kept holds.
    let some : 0 < length c.self.inside.earlier.items = subst (λ (v : ChainState). 0 < length v.earlier) (sym c.self.view_is) c.requires in
    let items : c.remove.new.self.items ≡ drop 1 c.self.inside.earlier.items = c.remove.ensures.items in
    let does = subst (λ (a : ℕ). Does a (Cut 0) (g.S.Store.disk c.args.store.now) (g.S.Store.disk c.cut.new.self)) c.area_of-area.ensures c.cut.ensures.does in
    subst (λ (l : List LogState). Holds (record { first = c.self.inside.first + 1; earlier = l; attached = c.self.inside.attached; room = c.self.inside.room }) (dropped 1 kept)
    (g.S.Store.disk c.cut.new.self)) (sym items)
    (drop_cut_holds c.self.inside.first c.self.inside.room c.self.inside.earlier.items c.self.inside.attached kept (g.S.Store.disk c.args.store.now) (g.S.Store.disk c.cut.new.self)
    c.self.invariant.0 some does
    (subst (λ (v : ChainState). Holds v kept (g.S.Store.disk c.args.store.now)) (sym c.self.view_is) holds))

pub returns-clause-holds : goal.returns-clause-holds
returns-clause-holds g c = λ tells kept holds.
    let some : 0 < length c.self.inside.earlier.items = subst (λ (v : ChainState). 0 < length v.earlier) (sym c.self.view_is) c.requires in
    let items : c.remove.new.self.items ≡ drop 1 c.self.inside.earlier.items = c.remove.ensures.items in
    let does = subst (λ (a : ℕ). Does a (Cut 0) (g.S.Store.disk c.args.store.now) (g.S.Store.disk c.cut.new.self)) c.area_of-area.ensures c.cut.ensures.does in
    subst (λ (l : List LogState). Holds (record { first = c.self.inside.first + 1; earlier = l; attached = c.self.inside.attached; room = c.self.inside.room }) (dropped 1 kept)
    (g.S.Store.disk c.cut.new.self)) (sym items)
    (drop_cut_holds c.self.inside.first c.self.inside.room c.self.inside.earlier.items c.self.inside.attached kept (g.S.Store.disk c.args.store.now) (g.S.Store.disk c.cut.new.self)
    c.self.invariant.0 some does
    (subst (λ (v : ChainState). Holds v kept (g.S.Store.disk c.args.store.now)) (sym c.self.view_is) holds))
