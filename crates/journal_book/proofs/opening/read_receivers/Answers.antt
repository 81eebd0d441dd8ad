use Rattle.std.proofs.Common.{◌≡◌, ◌≢◌, ◌+◌, ◌-◌, ◌≤◌, ◌<◌, ℕ, List, [], ◌∷◌, drop, take, length, sym, ◌∙◌, ap, subst, arith, rules, Err, IsErrOf}
use Rattle.std.proofs.lemmas.Result.{err_from_is_err_and}
use Rattle.gated_log.proofs.Walking.{damaged_is}
use Rattle.gated_log.specs.Log.{LogState}
use Rattle.gated_log.specs.declared.fault.LogFault.{LogFault}
use Rattle.gated_log.specs.declared.fault.LogFault.TheVariants.{Damaged}
use Rattle.receiver_chain.specs.Receivers.{area_of, receiver_at}
use Rattle.receiver_chain.specs.Chain.{attached_of, log_at}
use Rattle.receiver_chain.proofs.Kept.{holds_stays, is_held_stays}
use Rattle.store_model.proofs.Runs.{stays_trans}
use Rattle.receiver_chain.proofs.Switches.{stays_here}
use Rattle.journal_book.proofs.Chains.{walk_broken, walk_ends, walk_ends_broken, walk_on}
use Rattle.journal_book.proofs.Walking.{walk_from}
use Rattle.journal_book.proofs.opening.read_receivers.Goals as goal

pub loop-receiver-init : goal.loop-receiver-init
loop-receiver-init g c =
    let number = c.first-receiver.ensures.number in
    record {
      stays = stays_here (g.S.Store.disk c.args.store.now);
      above = omega arith;
      from = omega (arith, number);
      upto = omega (arith, number);
      read = λ tells kept holds. walk_from c.args.chain.now.first c.args.before kept.earlier kept.attached c.first-receiver.result number;
    }

pub read_ended-requires-clause-held : goal.read_ended-requires-clause-held
read_ended-requires-clause-held g c = λ tells. is_held_stays c.args.chain.now (g.S.Store.disk c.args.store.now) (g.S.Store.disk c.loop-receiver.store) c.loop-receiver.invariant.stays (c.requires.held tells)

pub returns-in_err-last-clause-damaged : goal.returns-in_err-last-clause-damaged
returns-in_err-last-clause-damaged g c = λ area at is.
    let p = err_from_is_err_and c.from_residual.result c.from_residual.ensures.1 in
    let same : c.in_err-last.field-0.0 ≡ Damaged area at = cc (p.1, p.2, is) in
    let named : IsErrOf {T = ℕ} (Err c.in_err-last.field-0.0) (Damaged area at) = ap (λ (e : LogFault). Err e) same in
    let told = c.in_err-last.ensures.damaged area at named in
    let so_far = c.loop-receiver.invariant in (
      omega (arith, told.0, so_far.from),
      λ tells kept holds.
          let chain = c.args.chain.now in
          let there = holds_stays chain kept (g.S.Store.disk c.args.store.now) (g.S.Store.disk c.loop-receiver.store) so_far.stays holds in
          let below : c.loop-receiver.receiver < attached_of chain = omega (arith, c.loop-receiver-test.true, c.attached-attached.ensures.number) in
          walk_broken chain kept (g.S.Store.disk c.args.store.now) holds c.args.before c.loop-receiver.receiver c.loop-receiver.last (so_far.read tells kept holds) so_far.from below (told.1 tells kept there),
    )

pub loop-receiver-preserved : goal.loop-receiver-preserved
loop-receiver-preserved g c =
    let so_far = c.loop-receiver.invariant in
    let chain = c.args.chain.now in
    let below : c.loop-receiver.receiver < attached_of chain = omega (arith, c.loop-receiver-test.true, c.attached-attached.ensures.number) in
    record {
      stays = stays_trans _ _ _ so_far.stays c.read_ended.ensures.stays;
      above = omega (arith, so_far.above, c.in_ok-last.ensures.above);
      from = omega (arith, so_far.from);
      upto = omega (arith, below);
      read = λ tells kept holds.
          let there = holds_stays chain kept (g.S.Store.disk c.args.store.now) (g.S.Store.disk c.loop-receiver.store) so_far.stays holds in
          walk_on chain kept (g.S.Store.disk c.args.store.now) holds c.args.before c.loop-receiver.receiver c.loop-receiver.last (so_far.read tells kept holds) c.in_ok-last.last so_far.from below (c.in_ok-last.ensures.read tells kept there);
    }

pub read_attached-requires : goal.read_attached-requires
read_attached-requires g c = record { held = λ tells. is_held_stays c.args.chain.now (g.S.Store.disk c.args.store.now) (g.S.Store.disk c.loop-receiver.store) c.loop-receiver.invariant.stays (c.requires.held tells) }

pub returns-in_err-reached-clause-damaged : goal.returns-in_err-reached-clause-damaged
returns-in_err-reached-clause-damaged g c = λ area at is.
    let p = err_from_is_err_and c.from_residual-in_err-reached.result c.from_residual-in_err-reached.ensures.1 in
    let same : c.in_err-reached.field-0.0 ≡ Damaged area at = cc (p.1, p.2, is) in
    let named : IsErrOf {T = ℕ} (Err c.in_err-reached.field-0.0) (Damaged area at) = ap (λ (e : LogFault). Err e) same in
    let told = c.in_err-reached.ensures.damaged area at named in
    let so_far = c.loop-receiver.invariant in
    let chain = c.args.chain.now in
    let last : c.loop-receiver.receiver ≡ attached_of chain = omega (arith, c.loop-receiver-test.false, c.attached-attached.ensures.number, so_far.upto) in (
      omega (arith, told.0),
      λ tells kept holds.
          let there = holds_stays chain kept (g.S.Store.disk c.args.store.now) (g.S.Store.disk c.loop-receiver.store) so_far.stays holds in
          walk_ends_broken chain kept (g.S.Store.disk c.args.store.now) holds c.args.before c.loop-receiver.receiver c.loop-receiver.last (so_far.read tells kept holds) last (told.1 tells kept there),
    )

pub returns-clause-read : goal.returns-clause-read
returns-clause-read g c = λ tells kept holds.
    let so_far = c.loop-receiver.invariant in
    let chain = c.args.chain.now in
    let last : c.loop-receiver.receiver ≡ attached_of chain = omega (arith, c.loop-receiver-test.false, c.attached-attached.ensures.number, so_far.upto) in
    let there = holds_stays chain kept (g.S.Store.disk c.args.store.now) (g.S.Store.disk c.loop-receiver.store) so_far.stays holds in
    walk_ends chain kept (g.S.Store.disk c.args.store.now) holds c.args.before c.loop-receiver.receiver c.loop-receiver.last (so_far.read tells kept holds) c.in_ok-reached.reached last (c.in_ok-reached.ensures.read tells kept there)
