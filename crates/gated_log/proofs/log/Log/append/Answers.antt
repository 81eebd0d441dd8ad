use Rattle.std.proofs.Common.{◌≡◌, ◌-◌, ◌^◌, ◌<◌, ◌≤◌, ℕ, List, [], ◌∷◌, ◌++◌, length, refl, ap, subst, ◌∙◌, arith}
use Rattle.store_model.specs.Disk.{Does}
use Rattle.gated_log.specs.Log.{Anything}
use Rattle.gated_log.specs.Blocks.{frame}
use Rattle.gated_log.specs.Places.{lengths_of}
use Rattle.gated_log.specs.declared.log.Place.{Place}
use Rattle.gated_log.proofs.Blocks.{placed_further, lengths_of-push}
use Rattle.gated_log.proofs.Numbers.{length-frame}
use Rattle.gated_log.proofs.Staging.{any_first, any_more}
use Rattle.gated_log.proofs.Whole.{gate_in, gate_in_staged, stage_moment, whole_moment, appended}
use Rattle.gated_log.proofs.log.Log.append.Goals as goal

-- a framed block is short enough for its length to stand in four bytes, and its frame has five
short : (framed block : List ℕ) → framed ≡ frame block → length framed ≤ 536870917 → length block < 2 ^ 32
short framed block is small = omega (arith, small, ap length is, length-frame block)

long : (framed block : List ℕ) → framed ≡ frame block → 5 ≤ length framed
long framed block is = omega (arith, ap length is, length-frame block)

pub stage-requires : goal.stage-requires
stage-requires g c = λ tells.
    gate_in c.args.self.now c.self.inside.area c.self.inside.end c.self.inside.places.items (ap (λ v. v.area) c.self.view_is) (ap (λ v. v.lengths) c.self.view_is) c.self.invariant.0 _ (c.requires.settled tells)

pub open_gate-requires : goal.open_gate-requires
open_gate-requires g c = λ tells.
    let block = c.requires.framed.0 in
    let is = c.requires.framed.1 in
    gate_in_staged c.args.self.now c.self.inside.area c.self.inside.end c.self.inside.places.items (ap (λ v. v.area) c.self.view_is) (ap (λ v. v.lengths) c.self.view_is) c.self.invariant.0 _ (g.S.Store.disk c.stage.new.store) block (short c.args.framed.now block is c.requires.small) (c.requires.settled tells) (c.in_ok-stage.ensures.staged tells block is)

pub returns-in_err-stage-clause-any_moment : goal.returns-in_err-stage-clause-any_moment
returns-in_err-stage-clause-any_moment g c = λ tells blocks block is settled.
    let small = short c.args.framed.now block is c.requires.small in
    stage_moment c.args.self.now c.self.inside.area c.self.inside.end c.self.inside.places.items (ap (λ v. v.area) c.self.view_is) (ap (λ v. v.lengths) c.self.view_is) c.self.invariant.0 blocks block _ settled small _ c.stage.ensures.any_moment

pub returns-in_err-stage-clause-apart : goal.returns-in_err-stage-clause-apart
returns-in_err-stage-clause-apart g c =
    subst (λ (a : ℕ). Does a Anything (g.S.Store.disk c.args.store.now) (g.S.Store.disk c.stage.new.store)) (ap (λ v. v.area) c.self.view_is) (any_first c.self.inside.area _ _ _ c.stage.ensures.any_moment)

pub returns-in_err-open_gate-clause-any_moment : goal.returns-in_err-open_gate-clause-any_moment
returns-in_err-open_gate-clause-any_moment g c = λ tells blocks block is settled.
    let small = short c.args.framed.now block is c.requires.small in
    whole_moment c.args.self.now c.self.inside.area c.self.inside.end c.self.inside.places.items (ap (λ v. v.area) c.self.view_is) (ap (λ v. v.lengths) c.self.view_is) c.self.invariant.0 blocks block _ settled small _ _
    c.stage.ensures.any_moment (c.in_ok-stage.ensures.durable tells) (c.in_ok-stage.ensures.staged tells block is) c.open_gate.ensures.any_moment

pub returns-in_err-open_gate-clause-apart : goal.returns-in_err-open_gate-clause-apart
returns-in_err-open_gate-clause-apart g c =
    subst (λ (a : ℕ). Does a Anything (g.S.Store.disk c.args.store.now) (g.S.Store.disk c.open_gate.new.store)) (ap (λ v. v.area) c.self.view_is)
    (any_more c.self.inside.area _ _ _ _ (any_first c.self.inside.area _ _ _ c.stage.ensures.any_moment) c.open_gate.ensures.any_moment)

pub returns-clause-any_moment : goal.returns-clause-any_moment
returns-clause-any_moment g c = λ tells blocks block is settled.
    let small = short c.args.framed.now block is c.requires.small in
    whole_moment c.args.self.now c.self.inside.area c.self.inside.end c.self.inside.places.items (ap (λ v. v.area) c.self.view_is) (ap (λ v. v.lengths) c.self.view_is) c.self.invariant.0 blocks block _ settled small _ _
    c.stage.ensures.any_moment (c.in_ok-stage.ensures.durable tells) (c.in_ok-stage.ensures.staged tells block is) c.open_gate.ensures.any_moment

pub returns-clause-apart : goal.returns-clause-apart
returns-clause-apart g c =
    subst (λ (a : ℕ). Does a Anything (g.S.Store.disk c.args.store.now) (g.S.Store.disk c.open_gate.new.store)) (ap (λ v. v.area) c.self.view_is)
    (any_more c.self.inside.area _ _ _ _ (any_first c.self.inside.area _ _ _ c.stage.ensures.any_moment) c.open_gate.ensures.any_moment)

-- the lengths with that of the new block
more : (places pushed : List Place) (place : Place) (framed block : List ℕ) → pushed ≡ places ++ place ∷ [] → place.length ≡ length framed - 5 → framed ≡ frame block → lengths_of pushed ≡ lengths_of places ++ length block ∷ []
more places pushed place framed block push is frames =
    let size : place.length ≡ length block = omega (arith, is, ap length frames, length-frame block) in
    ap (λ (l : List Place). lengths_of l) push ∙ lengths_of-push places place ∙ ap (λ (n : ℕ). lengths_of places ++ n ∷ []) size

pub returns-clause-appended : goal.returns-clause-appended
returns-clause-appended g c = λ tells blocks block is settled.
    let small = short c.args.framed.now block is c.requires.small in
    appended c.args.self.now c.self.inside.area c.self.inside.end c.self.inside.places.items (ap (λ v. v.area) c.self.view_is) (ap (λ v. v.lengths) c.self.view_is) c.self.invariant.0 blocks block _ settled small _ (g.S.Store.disk c.stage.new.store) (g.S.Store.disk c.open_gate.new.store)
    refl (ap (λ v. v.first) c.self.view_is) (ap (λ v. v.version) c.self.view_is) (more c.self.inside.places.items c.push_reserved.new.self.items _ c.args.framed.now block c.push_reserved.ensures.items refl is)
    (c.in_ok-stage.ensures.staged tells block is) (c.in_ok-open_gate.ensures.opened tells) (c.in_ok-open_gate.ensures.durable tells)

pub returns-clause-lengths : goal.returns-clause-lengths
returns-clause-lengths g c = λ block is.
    more c.self.inside.places.items c.push_reserved.new.self.items _ c.args.framed.now block c.push_reserved.ensures.items refl is ∙ ap (λ (l : List ℕ). l ++ length block ∷ []) (ap (λ v. v.lengths) c.self.view_is)

pub overflow_sub-block : goal.overflow_sub-block
overflow_sub-block g c = long c.args.framed.now c.requires.framed.0 c.requires.framed.1

pub invariant_of-self : goal.invariant_of-self
invariant_of-self g c =
    let least = long c.args.framed.now c.requires.framed.0 c.requires.framed.1 in
    (placed_further 32 c.self.inside.places.items c.push_reserved.new.self.items c.self.inside.end _ _ c.self.invariant.0 c.push_reserved.ensures.items refl (omega arith), omega (arith, c.in_ok-stage.ensures.bound))
