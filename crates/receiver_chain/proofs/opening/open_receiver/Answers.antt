use Rattle.std.proofs.Common.{◌≡◌, ℕ, List, ◌∙◌, ap, subst, Err, IsErrOf}
use Rattle.std.proofs.lemmas.Result.{err_from_is_err_and}
use Rattle.gated_log.specs.Blocks.{IsDamagedAt}
use Rattle.gated_log.specs.Log.{LogState}
use Rattle.gated_log.specs.declared.fault.LogFault.{LogFault}
use Rattle.gated_log.specs.declared.fault.LogFault.TheVariants.{Damaged}
use Rattle.receiver_chain.specs.Receivers.{IsReceiverDamagedAt}
use Rattle.receiver_chain.proofs.Firsts.{receiver_damaged}
use Rattle.receiver_chain.proofs.opening.open_receiver.Goals as goal

pub returns-in_err-log-clause-damaged : goal.returns-in_err-log-clause-damaged
returns-in_err-log-clause-damaged g c = λ a at is.
    let p = err_from_is_err_and c.from_residual-in_err-log.result c.from_residual-in_err-log.ensures.1 in
    let same : c.in_err-log.field-0.0 ≡ Damaged a at = cc (p.1, p.2, is) in
    let named : IsErrOf {T = LogState} (Err c.in_err-log.field-0.0) (Damaged a at) = ap (λ (e : LogFault). Err e) same in
    let told = c.in_err-log.ensures.damaged a at named in
    let area_is = c.area_of-area.ensures in (
      told.0 ∙ area_is,
      λ tells.
          subst (λ (n : ℕ). IsReceiverDamagedAt n c.args.before ((g.S.Store.disk c.args.store.now).seen n) at) area_is
          (receiver_damaged c.area_of-area.result c.args.before ((g.S.Store.disk c.args.store.now).seen c.area_of-area.result) at
          (c.in_ok-check_first.ensures.follows tells)
          (subst (λ (l : List ℕ). IsDamagedAt c.area_of-area.result l at) (c.check_first.ensures.stays.seen c.area_of-area.result) (told.1 tells))),
    )
