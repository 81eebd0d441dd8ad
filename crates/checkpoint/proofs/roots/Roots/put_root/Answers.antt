use Rattle.std.proofs.Common.{ℕ, List, [], ◌∷◌, ◌++◌, length, ap, sym, subst, arith}
use Rattle.std.proofs.Math.Logic.{∥∥₁_map}
use Rattle.store_model.specs.Disk.{Does}
use Rattle.gated_log.specs.Log.{Anything}
use Rattle.gated_log.proofs.Numbers.{length-frame}
use Rattle.checkpoint.specs.declared.layout.TheConstants.{ROOT_AREA}
use Rattle.checkpoint.specs.Roots.{IsPutting, root_blocks, root_bytes}
use Rattle.checkpoint.specs.Holding.{Holds, IsHeld, RootsState}
use Rattle.checkpoint.proofs.RootBytes.{length-root_bytes}
use Rattle.checkpoint.proofs.Puttings.{put_holds, put_moment}
use Rattle.checkpoint.proofs.roots.Roots.put_root.Goals as goal

pub append-requires-clause-settled : goal.append-requires-clause-settled
append-requires-clause-settled g c = λ tells.
    ∥∥₁_map (subst (λ (v : RootsState). IsHeld v (g.S.Store.disk c.args.store.now)) (sym c.self.view_is) (c.requires.held tells)) (λ has. (root_blocks (has.0 ++ c.self.inside.last ∷ []), has.1.settled))

pub append-requires-clause-small : goal.append-requires-clause-small
append-requires-clause-small g c = omega (arith, ap (λ (l : List ℕ). length l) c.framed_root.ensures, length-frame (root_bytes c.args.root), length-root_bytes c.args.root)

pub returns-in_err-append-clause-any_moment : goal.returns-in_err-append-clause-any_moment
returns-in_err-append-clause-any_moment g c = λ tells earlier holds.
    let here = subst (λ (v : RootsState). Holds v earlier (g.S.Store.disk c.args.store.now)) (sym c.self.view_is) holds in
    subst (λ (v : RootsState). Does ROOT_AREA (λ _ bytes. IsPutting earlier v.last c.args.root bytes) (g.S.Store.disk c.args.store.now) (g.S.Store.disk c.append.new.store)) c.self.view_is
    (put_moment c.self.inside.log c.self.inside.last earlier c.args.root (g.S.Store.disk c.args.store.now) (g.S.Store.disk c.append.new.store) here c.requires.ranges
    (c.append.ensures.any_moment tells (root_blocks (earlier ++ c.self.inside.last ∷ [])) (root_bytes c.args.root) c.framed_root.ensures here.settled))

pub returns-in_err-append-clause-apart : goal.returns-in_err-append-clause-apart
returns-in_err-append-clause-apart g c = subst (λ (a : ℕ). Does a Anything (g.S.Store.disk c.args.store.now) (g.S.Store.disk c.append.new.store)) c.self.invariant.1 c.append.ensures.apart

pub returns-clause-any_moment : goal.returns-clause-any_moment
returns-clause-any_moment g c = λ tells earlier holds.
    let here = subst (λ (v : RootsState). Holds v earlier (g.S.Store.disk c.args.store.now)) (sym c.self.view_is) holds in
    subst (λ (v : RootsState). Does ROOT_AREA (λ _ bytes. IsPutting earlier v.last c.args.root bytes) (g.S.Store.disk c.args.store.now) (g.S.Store.disk c.append.new.store)) c.self.view_is
    (put_moment c.self.inside.log c.self.inside.last earlier c.args.root (g.S.Store.disk c.args.store.now) (g.S.Store.disk c.append.new.store) here c.requires.ranges
    (c.append.ensures.any_moment tells (root_blocks (earlier ++ c.self.inside.last ∷ [])) (root_bytes c.args.root) c.framed_root.ensures here.settled))

pub returns-clause-apart : goal.returns-clause-apart
returns-clause-apart g c = subst (λ (a : ℕ). Does a Anything (g.S.Store.disk c.args.store.now) (g.S.Store.disk c.append.new.store)) c.self.invariant.1 c.append.ensures.apart

pub returns-clause-put : goal.returns-clause-put
returns-clause-put g c = λ tells earlier holds.
    let here = subst (λ (v : RootsState). Holds v earlier (g.S.Store.disk c.args.store.now)) (sym c.self.view_is) holds in
    subst (λ (v : RootsState). Holds (record { log = c.append.new.self; last = c.args.root }) (earlier ++ v.last ∷ []) (g.S.Store.disk c.append.new.store)) c.self.view_is
    (put_holds c.self.inside.log c.self.inside.last earlier c.args.root (g.S.Store.disk c.args.store.now) (g.S.Store.disk c.append.new.store) here c.requires.ranges c.append.new.self c.append.ensures.same_area
    (c.in_ok-append.ensures.appended tells (root_blocks (earlier ++ c.self.inside.last ∷ [])) (root_bytes c.args.root) c.framed_root.ensures here.settled))
