use Rattle.std.proofs.Common.{◌≡◌, ◌<◌, ◌≤◌, ℕ, List, length, ap, subst, arith, Err, IsErrOf}
use Rattle.std.proofs.lemmas.Result.{err_from_is_err_and}
use Rattle.store_model.proofs.Runs.{stays_trans}
use Rattle.gated_log.specs.declared.fault.LogFault.{LogFault}
use Rattle.gated_log.specs.declared.fault.LogFault.TheVariants.{Damaged}
use Rattle.checkpoint.specs.declared.layout.TheConstants.{ROOT_AREA}
use Rattle.checkpoint.specs.declared.root.Root.{Root}
use Rattle.checkpoint.specs.Roots.{IsRootsDamagedAt}
use Rattle.checkpoint.proofs.Readings.{first_fault, next_fault, read_all, read_first, read_next}
use Rattle.checkpoint.proofs.opening.read_roots.Goals as goal

pub read_root-requires-clause-settled : goal.read_root-requires-clause-settled
read_root-requires-clause-settled g c = λ tells. ∣ c.requires.settled tells ∣₁

pub returns-in_err-last-clause-damaged : goal.returns-in_err-last-clause-damaged
returns-in_err-last-clause-damaged g c = λ area at is.
    let p = err_from_is_err_and c.from_residual.result c.from_residual.ensures.1 in
    let same : c.in_err-last.field-0.0 ≡ Damaged area at = cc (p.1, p.2, is) in
    let named : IsErrOf {T = Root} (Err c.in_err-last.field-0.0) (Damaged area at) = ap (λ (e : LogFault). Err e) same in
    let told = c.in_err-last.ensures.damaged area at named in
    (told.0, λ tells. first_fault c.args.log.now at (g.S.Store.disk c.args.store.now) c.requires.area (c.requires.settled tells) c.requires.some told.1 (told.2 tells))

pub loop-n-init : goal.loop-n-init
loop-n-init g c = record {
  stays = c.read_root.ensures.stays;
  ranges = c.in_ok-last.ensures.ranges;
  read = λ tells.
      read_first c.args.log.now c.in_ok-last.last (g.S.Store.disk c.args.store.now) (g.S.Store.disk c.read_root.new.store) c.read_root.ensures.stays (c.requires.settled tells) c.in_ok-last.ensures.ranges c.requires.some (c.in_ok-last.ensures.root tells);
}

pub read_root-requires-in-loop-n-clause-settled : goal.read_root-requires-in-loop-n-clause-settled
read_root-requires-in-loop-n-clause-settled g c = λ tells. let read = c.loop-n.invariant.read tells in ∣ (read.blocks, read.settled) ∣₁

pub returns-in_err-last-2-clause-damaged : goal.returns-in_err-last-2-clause-damaged
returns-in_err-last-2-clause-damaged g c = λ area at is.
    let p = err_from_is_err_and c.from_residual-in_err-last-2.result c.from_residual-in_err-last-2.ensures.1 in
    let same : c.in_err-last-2.field-0.0 ≡ Damaged area at = cc (p.1, p.2, is) in
    let named : IsErrOf {T = Root} (Err c.in_err-last-2.field-0.0) (Damaged area at) = ap (λ (e : LogFault). Err e) same in
    let told = c.in_err-last-2.ensures.damaged area at named in
    let below : c.loop-n.n < length c.args.log.now.lengths = omega (arith, c.loop-n-test.true, c.count-count.ensures.count) in (
      told.0,
      λ tells.
          subst (λ (l : List ℕ). IsRootsDamagedAt l at) (c.loop-n.invariant.stays.seen ROOT_AREA)
          (next_fault c.args.log.now c.loop-n.n at c.loop-n.last (g.S.Store.disk c.loop-n.store) c.requires.area (c.loop-n.invariant.read tells) below told.1 (told.2 tells)),
    )

pub loop-n-preserved : goal.loop-n-preserved
loop-n-preserved g c =
    let below : c.loop-n.n < length c.args.log.now.lengths = omega (arith, c.loop-n-test.true, c.count-count.ensures.count) in
    record {
      stays = stays_trans _ _ _ c.loop-n.invariant.stays c.read_root-in-loop-n.ensures.stays;
      ranges = c.in_ok-last-2.ensures.ranges;
      read = λ tells.
          read_next c.args.log.now c.loop-n.n c.loop-n.last c.in_ok-last-2.last (g.S.Store.disk c.loop-n.store) (g.S.Store.disk c.read_root-in-loop-n.new.store) c.read_root-in-loop-n.ensures.stays (c.loop-n.invariant.read tells) c.in_ok-last-2.ensures.ranges below
          (c.in_ok-last-2.ensures.root tells);
    }

pub returns-clause-read : goal.returns-clause-read
returns-clause-read g c = λ tells.
    let past : length c.args.log.now.lengths ≤ c.loop-n.n = omega (arith, c.loop-n-test.false, c.count-count.ensures.count) in
    read_all c.args.log.now c.loop-n.n c.loop-n.last (g.S.Store.disk c.loop-n.store) c.requires.area (c.loop-n.invariant.read tells) past
