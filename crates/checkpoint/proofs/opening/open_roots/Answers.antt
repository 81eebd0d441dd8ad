use Rattle.std.proofs.Common.{◌≡◌, inl, ℕ, List, ap, sym, subst, arith, Err, IsErrOf}
use Rattle.std.proofs.lemmas.Result.{err_from_is_err_and}
use Rattle.gated_log.specs.Log.{LogState}
use Rattle.gated_log.specs.declared.fault.LogFault.{LogFault}
use Rattle.gated_log.specs.declared.fault.LogFault.TheVariants.{Damaged}
use Rattle.gated_log.proofs.Walking.{damaged_is}
use Rattle.checkpoint.specs.declared.layout.TheConstants.{FIRST_GATE, ROOT_AREA}
use Rattle.checkpoint.specs.declared.root.Root.{Root}
use Rattle.checkpoint.specs.Roots.{IsRootsDamagedAt}
use Rattle.checkpoint.specs.Holding.{RootsState}
use Rattle.checkpoint.proofs.Readings.{read_none}
use Rattle.checkpoint.proofs.opening.open_roots.Goals as goal

pub returns-in_err-log-clause-damaged : goal.returns-in_err-log-clause-damaged
returns-in_err-log-clause-damaged g c = λ area at is.
    let p = err_from_is_err_and c.from_residual.result c.from_residual.ensures.1 in
    let same : c.in_err-log.field-0.0 ≡ Damaged area at = cc (p.1, p.2, is) in
    let named : IsErrOf {T = LogState} (Err c.in_err-log.field-0.0) (Damaged area at) = ap (λ (e : LogFault). Err e) same in
    let told = c.in_err-log.ensures.damaged area at named in
    (told.0, λ tells. inl (told.1 tells))

pub returns-then-count-eq0-clause-damaged : goal.returns-then-count-eq0-clause-damaged
returns-then-count-eq0-clause-damaged g c = λ area at is.
    let parts = damaged_is {T = RootsState} ROOT_AREA FIRST_GATE area at is in (
      parts.0,
      λ tells.
          subst (λ (n : ℕ). IsRootsDamagedAt ((g.S.Store.disk c.args.store.now).seen ROOT_AREA) n) (sym parts.1)
          (subst (λ (l : List ℕ). IsRootsDamagedAt l FIRST_GATE) (c.«open».ensures.stays.seen ROOT_AREA)
          (read_none c.in_ok-log.log (g.S.Store.disk c.«open».new.store) c.in_ok-log.ensures.area (c.in_ok-log.ensures.opened tells) (omega (arith, c.count.ensures.count, c.if-count-eq0.true)))),
    )

pub returns-in_err-last-clause-damaged : goal.returns-in_err-last-clause-damaged
returns-in_err-last-clause-damaged g c = λ area at is.
    let p = err_from_is_err_and c.from_residual-in_err-last.result c.from_residual-in_err-last.ensures.1 in
    let same : c.in_err-last.field-0.0 ≡ Damaged area at = cc (p.1, p.2, is) in
    let named : IsErrOf {T = Root} (Err c.in_err-last.field-0.0) (Damaged area at) = ap (λ (e : LogFault). Err e) same in
    let told = c.in_err-last.ensures.damaged area at named in
    (told.0, λ tells. subst (λ (l : List ℕ). IsRootsDamagedAt l at) (c.«open».ensures.stays.seen ROOT_AREA) (told.1 tells))
