use Rattle.std.proofs.Common.{◌≡◌, inl, ◌-◌, ◌<◌, ℕ, List, [], ◌∷◌, length, ap, sym, subst, arith, Err, IsErrOf}
use Rattle.std.specs.Global.{Vec}
use Rattle.std.proofs.lemmas.Result.{err_from_is_err_and}
use Rattle.store_model.specs.Disk.{IsDurable}
use Rattle.store_model.proofs.Runs.{stays_durable}
use Rattle.gated_log.specs.Blocks.{Spells}
use Rattle.gated_log.specs.Log.{LogState}
use Rattle.gated_log.specs.declared.fault.LogFault.{LogFault}
use Rattle.gated_log.specs.declared.fault.LogFault.TheVariants.{Damaged}
use Rattle.gated_log.proofs.Walking.{damaged_is}
use Rattle.checkpoint.specs.declared.layout.TheConstants.{FIRST_BLOCK, FIRST_GATE, VERSION}
use Rattle.checkpoint.proofs.Loads.{more_there, none_there, not_one_before, one_there, other_there}
use Rattle.checkpoint.proofs.loading.one_block.Goals as goal

pub returns-in_err-log-clause-damaged : goal.returns-in_err-log-clause-damaged
returns-in_err-log-clause-damaged g c = λ area at is.
    let p = err_from_is_err_and c.from_residual.result c.from_residual.ensures.1 in
    let same : c.in_err-log.field-0.0 ≡ Damaged area at = cc (p.1, p.2, is) in
    let named : IsErrOf {T = LogState} (Err c.in_err-log.field-0.0) (Damaged area at) = ap (λ (e : LogFault). Err e) same in
    let told = c.in_err-log.ensures.damaged area at named in
    (told.0, λ tells. inl (told.1 tells))

pub returns-then-count-eq0-clause-damaged : goal.returns-then-count-eq0-clause-damaged
returns-then-count-eq0-clause-damaged g c = λ area at is.
    let parts = damaged_is {T = Vec ℕ} c.args.root.area FIRST_GATE area at is in (
      parts.0,
      λ tells.
          not_one_before c.args.root.area c.args.root.length at FIRST_GATE (g.S.Store.disk c.args.store.now) (g.S.Store.disk c.«open».new.store) c.«open».ensures.stays parts.1
          (none_there c.in_ok-log.log c.args.root.area c.args.root.length (g.S.Store.disk c.«open».new.store) c.requires.ranges.area c.in_ok-log.ensures.area (c.in_ok-log.ensures.opened tells) (omega (arith, c.count.ensures.count, c.if-count-eq0.true))),
    )

pub returns-then-as_slice-root-clause-damaged : goal.returns-then-as_slice-root-clause-damaged
returns-then-as_slice-root-clause-damaged g c = λ area at is.
    let parts = damaged_is {T = Vec ℕ} c.args.root.area FIRST_BLOCK area at is in
    let some : 0 < length c.in_ok-log.log.lengths = omega (arith, c.count.ensures.count, c.if-count-eq0.false) in (
      parts.0,
      λ tells.
          not_one_before c.args.root.area c.args.root.length at FIRST_BLOCK (g.S.Store.disk c.args.store.now) (g.S.Store.disk c.«open».new.store) c.«open».ensures.stays parts.1
          (other_there c.in_ok-log.log c.args.root.area c.args.root.length (g.S.Store.disk c.«open».new.store) c.requires.ranges.area c.in_ok-log.ensures.area (c.in_ok-log.ensures.opened tells) c.in_ok-block.block.items
          (λ blocks settled. c.in_ok-block.ensures.block tells blocks settled) some (λ same. c.if-as_slice-root.true (omega (arith, ap (λ (l : List ℕ). length l) c.as_slice.ensures.value, same)))),
    )

pub returns-then-count-gt1-clause-damaged : goal.returns-then-count-gt1-clause-damaged
returns-then-count-gt1-clause-damaged g c = λ area at is.
    let parts = damaged_is {T = Vec ℕ} c.args.root.area (c.place-at.result - 1) area at is in (
      parts.0,
      λ tells.
          not_one_before c.args.root.area c.args.root.length at (c.place-at.result - 1) (g.S.Store.disk c.args.store.now) (g.S.Store.disk c.«open».new.store) c.«open».ensures.stays parts.1
          (more_there c.in_ok-log.log c.args.root.area c.args.root.length (g.S.Store.disk c.«open».new.store) c.requires.ranges.area c.in_ok-log.ensures.area (c.in_ok-log.ensures.opened tells) c.in_ok-block.block.items
          (λ blocks settled. c.in_ok-block.ensures.block tells blocks settled) (c.place-at.result - 1) (omega (arith, c.count-2.ensures.count, c.if-count-gt1.true)) (omega (arith, ap (λ (l : List ℕ). length l) c.as_slice.ensures.value, c.if-as_slice-root.false)) (ap (λ (n : ℕ). n - 1) c.place-at.ensures.place)),
    )

pub returns-clause-spells : goal.returns-clause-spells
returns-clause-spells g c = λ tells.
    let one : length c.in_ok-log.log.lengths ≡ 1 = omega (arith, c.count.ensures.count, c.if-count-eq0.false, c.count-2.ensures.count, c.if-count-gt1.false) in
    subst (λ (l : List ℕ). Spells c.args.root.area 0 VERSION (c.in_ok-block.block.items ∷ []) l) (sym (c.block.ensures.stays.seen c.args.root.area))
    (one_there c.in_ok-log.log c.args.root.area c.args.root.length (g.S.Store.disk c.«open».new.store) c.requires.ranges.area c.in_ok-log.ensures.area (c.in_ok-log.ensures.opened tells) c.in_ok-block.block.items
    (λ blocks settled. c.in_ok-block.ensures.block tells blocks settled) one)

pub returns-clause-durable : goal.returns-clause-durable
returns-clause-durable g c = λ tells.
    stays_durable c.args.root.area _ _ c.block.ensures.stays (subst (λ (a : ℕ). IsDurable a (g.S.Store.disk c.«open».new.store)) c.in_ok-log.ensures.area (c.in_ok-log.ensures.opened tells).1.durable)
