use Rattle.std.proofs.Common.{◌≡◌, ◌+◌, ℕ, List, [], ◌∷◌, ◌++◌, length, Option, MatchOption, ap, sym, subst, ◌∙◌, arith, Err, IsErrOf, IfSome, ◌<◌, length-append}
use Rattle.std.proofs.lemmas.Result.{err_from_is_err_and}
use Rattle.store_model.proofs.Runs.{stays_trans}
use Rattle.gated_log.specs.Log.{LogState}
use Rattle.gated_log.specs.declared.fault.LogFault.{LogFault}
use Rattle.gated_log.specs.declared.fault.LogFault.TheVariants.{Damaged}
use Rattle.receiver_chain.specs.declared.numbers.TheConstants.{MAX_RECEIVER}
use Rattle.receiver_chain.specs.Links.{EndsInLink, EndsInNoLink}
use Rattle.receiver_chain.specs.Receivers.{Follows, IsReceiverDamagedAt, area_of}
use Rattle.receiver_chain.proofs.Walks.{IsLed, led_begin, led_further, led_holds, first_damaged, led_damaged}
use Rattle.receiver_chain.proofs.opening.open.Goals as goal

pub returns-in_err-log-clause-damaged : goal.returns-in_err-log-clause-damaged
returns-in_err-log-clause-damaged g c = λ area at is tells.
    let p = err_from_is_err_and c.from_residual.result c.from_residual.ensures.1 in
    let same : c.in_err-log.field-0.0 ≡ Damaged area at = cc (p.1, p.2, is) in
    let named : IsErrOf {T = LogState} (Err c.in_err-log.field-0.0) (Damaged area at) = ap (λ (e : LogFault). Err e) same in
    let told = c.in_err-log.ensures.damaged area at named in
    first_damaged c.args.first area at (g.S.Store.disk c.args.store.now).seen told.0
    (subst (λ (o : Option ℕ). IsReceiverDamagedAt (area_of c.args.first) o ((g.S.Store.disk c.args.store.now).seen (area_of c.args.first)) at) c.before_first.ensures (told.1 tells))

pub loop-log-init : goal.loop-log-init
loop-log-init g c = record {
  stays = c.open_receiver.ensures.stays;
  first = c.requires.0;
  count = omega (arith, ap length c.new-earlier.ensures.items);
  most = c.requires.1;
  area = c.in_ok-log.ensures.area;
  led = λ tells.
      subst (λ (l : List LogState). IsLed c.args.first l c.args.first c.in_ok-log.log (g.S.Store.disk c.open_receiver.new.store)) (sym c.new-earlier.ensures.items)
      (led_begin c.args.first c.in_ok-log.log (g.S.Store.disk c.open_receiver.new.store) (c.in_ok-log.ensures.opened tells) c.in_ok-log.ensures.area
      (subst (λ (o : Option ℕ). Follows o c.in_ok-log.log.first) c.before_first.ensures (c.in_ok-log.ensures.follows tells)));
}

pub returns-in_err-next-clause-damaged : goal.returns-in_err-next-clause-damaged
returns-in_err-next-clause-damaged g c = λ area at is tells.
    let p = err_from_is_err_and c.from_residual-in_err-next.result c.from_residual-in_err-next.ensures.1 in
    let same : c.in_err-next.field-0.0 ≡ Damaged area at = cc (p.1, p.2, is) in
    let named : IsErrOf {T = LogState} (Err c.in_err-next.field-0.0) (Damaged area at) = ap (λ (e : LogFault). Err e) same in
    let told = c.in_err-next.ensures.damaged area at named in
    let n = c.loop-log.receiver in
    led_damaged c.args.first n (n + 1) c.in-Some.before area at c.loop-log.earlier.items c.loop-log.log (g.S.Store.disk c.args.store.now) (g.S.Store.disk c.loop-log.store)
    (g.S.Store.disk c.link_of.new.store)
    (c.loop-log.invariant.led tells) c.loop-log.invariant.stays c.link_of.ensures.stays
    (λ blocks settled. subst (λ (o : Option ℕ). MatchOption o (EndsInNoLink (n + 1) blocks) (λ before. EndsInLink (n + 1) before blocks)) c.in-Some.is
    (c.in_ok-before.ensures.link tells blocks settled))
    (omega arith) told.0 (told.1 tells)

pub loop-log-preserved : goal.loop-log-preserved
loop-log-preserved g c =
    let n = c.loop-log.receiver in
    let pushed : c.push.new.self.items ≡ c.loop-log.earlier.items ++ c.loop-log.log ∷ [] = c.in_ok-push.ensures.items ∙ ap (λ (x : LogState). c.loop-log.earlier.items ++ x ∷ [])
    c.replace.ensures.value in
    let stays = stays_trans _ _ _ c.link_of.ensures.stays c.open_receiver-in-Some.ensures.stays in
    let below : n < MAX_RECEIVER = subst (λ (o : Option ℕ). IfSome o (λ _. n < MAX_RECEIVER)) c.in-Some.is c.in_ok-before.ensures.below in
    let there : c.replace.new.dest ≡ c.in_ok-next.next = c.replace.ensures.after in
    record {
      stays = stays_trans _ _ _ c.loop-log.invariant.stays stays;
      first = c.loop-log.invariant.first;
      count = omega (arith, ap length pushed, c.loop-log.invariant.count, length-append c.loop-log.earlier.items (c.loop-log.log ∷ []));
      most = omega (arith, below);
      area = ap (λ (l : LogState). l.area) there ∙ c.in_ok-next.ensures.area;
      led = λ tells.
          subst (λ (l : LogState). IsLed c.args.first c.push.new.self.items (n + 1) l (g.S.Store.disk c.open_receiver-in-Some.new.store)) (sym there)
          (led_further c.args.first n (n + 1) c.in-Some.before c.loop-log.earlier.items c.push.new.self.items c.loop-log.log c.in_ok-next.next (g.S.Store.disk c.loop-log.store)
          (g.S.Store.disk c.open_receiver-in-Some.new.store)
          (c.loop-log.invariant.led tells) stays
          (λ blocks settled. subst (λ (o : Option ℕ). MatchOption o (EndsInNoLink (n + 1) blocks) (λ before. EndsInLink (n + 1) before blocks)) c.in-Some.is
          (c.in_ok-before.ensures.link tells blocks settled))
          pushed (omega arith) (c.in_ok-next.ensures.opened tells) c.in_ok-next.ensures.area (c.in_ok-next.ensures.follows tells));
    }

pub returns-clause-opened : goal.returns-clause-opened
returns-clause-opened g c = λ tells.
    let n = c.loop-log.receiver in
    led_holds c.args.first n c.loop-log.earlier.items c.loop-log.log (g.S.Store.disk c.loop-log.store) (g.S.Store.disk c.link_of.new.store) (c.loop-log.invariant.led tells)
    c.link_of.ensures.stays c.loop-log.invariant.count
    (λ blocks settled. subst (λ (o : Option ℕ). MatchOption o (EndsInNoLink (n + 1) blocks) (λ before. EndsInLink (n + 1) before blocks)) c.in_default.is
    (c.in_ok-before.ensures.link tells blocks settled))
