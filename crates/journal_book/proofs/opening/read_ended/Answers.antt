use Rattle.std.proofs.Common.{◌≡◌, ◌≢◌, ◌+◌, ◌-◌, ◌≤◌, ◌<◌, ℕ, List, [], ◌∷◌, drop, take, length, sym, ◌∙◌, ap, subst, arith, rules, Err, IsErrOf}
use Rattle.std.proofs.lemmas.Bool.{false≢true}
use Rattle.std.proofs.lemmas.Result.{err_from_is_err_and}
use Rattle.gated_log.proofs.Walking.{damaged_is}
use Rattle.gated_log.specs.Log.{LogState}
use Rattle.gated_log.specs.declared.fault.LogFault.{LogFault}
use Rattle.gated_log.specs.declared.fault.LogFault.TheVariants.{Damaged}
use Rattle.receiver_chain.specs.Receivers.{area_of, receiver_at}
use Rattle.receiver_chain.specs.Chain.{attached_of, log_at}
use Rattle.receiver_chain.proofs.Kept.{holds_stays, is_held_stays}
use Rattle.journal_book.specs.Openings.{HasBodies, HasNoBodies}
use Rattle.journal_book.proofs.Chains.{link_of, some_block}
use Rattle.journal_book.proofs.Counts.{count_is}
use Rattle.journal_book.proofs.Endings.{ended_no_bodies, ended_no_end, ended_no_front, ended_read}
use Rattle.journal_book.proofs.opening.read_ended.Goals as goal

pub returns-in_default-clause-damaged : goal.returns-in_default-clause-damaged
returns-in_default-clause-damaged g c = λ area at is. (
  (damaged_is {T = ℕ} (2 + c.args.receiver) 32 area at is).0,
  λ tells kept holds.
      let nought : length (log_at c.args.chain.now c.args.receiver).lengths ≡ 0 = search rules in
      λ groups read. some_block c.args.chain.now kept (g.S.Store.disk c.args.store.now) c.args.receiver holds c.requires.from c.requires.below nought,
)

pub returns-in_err-from-clause-damaged : goal.returns-in_err-from-clause-damaged
returns-in_err-from-clause-damaged g c = λ area at is.
    let p = err_from_is_err_and c.from_residual.result c.from_residual.ensures.1 in
    let same : c.in_err-from.field-0.0 ≡ Damaged area at = cc (p.1, p.2, is) in
    let named : IsErrOf {T = ℕ × ℕ} (Err c.in_err-from.field-0.0) (Damaged area at) = ap (λ (e : LogFault). Err e) same in
    let told = c.in_err-from.ensures.damaged area at named in
    let some : c.in-Some.to + 1 ≡ length (log_at c.args.chain.now c.args.receiver).lengths = search rules in (
      told.0,
      λ tells kept holds.
          let chain = c.args.chain.now in
          let count : c.in-Some.to + 1 ≡ length (receiver_at chain.first kept c.args.receiver).blocks = omega (arith, some, count_is chain kept (g.S.Store.disk c.args.store.now) c.args.receiver holds c.requires.from (omega (arith, c.requires.below))) in
          ended_no_front c.args.receiver c.args.last (receiver_at chain.first kept c.args.receiver).blocks c.in-Some.to count (told.1 tells kept holds),
    )

pub read_bodies-requires-clause-held : goal.read_bodies-requires-clause-held
read_bodies-requires-clause-held g c = λ tells. is_held_stays c.args.chain.now (g.S.Store.disk c.args.store.now) (g.S.Store.disk c.read_front.new.store) c.read_front.ensures.stays (c.requires.held tells)

pub returns-in_err-reached-clause-damaged : goal.returns-in_err-reached-clause-damaged
returns-in_err-reached-clause-damaged g c = λ area at is.
    let p = err_from_is_err_and c.from_residual-in_err-reached.result c.from_residual-in_err-reached.ensures.1 in
    let same : c.in_err-reached.field-0.0 ≡ Damaged area at = cc (p.1, p.2, is) in
    let named : IsErrOf {T = ℕ} (Err c.in_err-reached.field-0.0) (Damaged area at) = ap (λ (e : LogFault). Err e) same in
    let told = c.in_err-reached.ensures.damaged area at named in
    let some : c.in-Some.to + 1 ≡ length (log_at c.args.chain.now c.args.receiver).lengths = search rules in (
      told.0,
      λ tells kept holds.
          let chain = c.args.chain.now in
          let count : c.in-Some.to + 1 ≡ length (receiver_at chain.first kept c.args.receiver).blocks = omega (arith, some, count_is chain kept (g.S.Store.disk c.args.store.now) c.args.receiver holds c.requires.from (omega (arith, c.requires.below))) in
          let there = holds_stays chain kept (g.S.Store.disk c.args.store.now) (g.S.Store.disk c.read_front.new.store) c.read_front.ensures.stays holds in
          ended_no_bodies c.args.receiver c.args.last (receiver_at chain.first kept c.args.receiver).blocks c.in-Some.to count c.in_ok-from.from c.in_ok-from.begun (c.in_ok-from.ensures.front tells kept holds) (told.1 tells kept there),
    )

pub returns-else-is_second-clause-damaged : goal.returns-else-is_second-clause-damaged
returns-else-is_second-clause-damaged g c = λ area at is.
    let some : c.in-Some.to + 1 ≡ length (log_at c.args.chain.now c.args.receiver).lengths = search rules in (
      (damaged_is {T = ℕ} (2 + c.args.receiver) c.place_of.result area at is).0,
      λ tells kept holds.
          let chain = c.args.chain.now in
          let count : c.in-Some.to + 1 ≡ length (receiver_at chain.first kept c.args.receiver).blocks = omega (arith, some, count_is chain kept (g.S.Store.disk c.args.store.now) c.args.receiver holds c.requires.from (omega (arith, c.requires.below))) in
          let there = holds_stays chain kept (g.S.Store.disk c.args.store.now) (g.S.Store.disk c.read_front.new.store) c.read_front.ensures.stays holds in
          let link = link_of chain kept (g.S.Store.disk c.args.store.now) c.args.receiver holds c.requires.from c.requires.below in
          let next : c.first.result ≡ (log_at chain (c.args.receiver + 1)).first = c.first.ensures ∙ ap (λ (l : LogState). l.first) c.log-2.ensures in
          ended_no_end c.args.receiver c.args.last (receiver_at chain.first kept c.args.receiver).blocks c.in-Some.to count c.in_ok-from.from c.in_ok-from.begun (c.in_ok-from.ensures.front tells kept holds) c.in_ok-reached.reached link.0
          (c.in_ok-reached.ensures.read tells kept there) link.1 (λ follows. false≢true (sym c.if-is_second.false ∙ c.is_second.ensures.second.1 (omega (arith, next, link.2, follows)))),
    )

pub returns-then-is_second-clause-read : goal.returns-then-is_second-clause-read
returns-then-is_second-clause-read g c = λ tells kept holds.
    let some : c.in-Some.to + 1 ≡ length (log_at c.args.chain.now c.args.receiver).lengths = search rules in
    let chain = c.args.chain.now in
    let count : c.in-Some.to + 1 ≡ length (receiver_at chain.first kept c.args.receiver).blocks = omega (arith, some, count_is chain kept (g.S.Store.disk c.args.store.now) c.args.receiver holds c.requires.from (omega (arith, c.requires.below))) in
    let there = holds_stays chain kept (g.S.Store.disk c.args.store.now) (g.S.Store.disk c.read_front.new.store) c.read_front.ensures.stays holds in
    let link = link_of chain kept (g.S.Store.disk c.args.store.now) c.args.receiver holds c.requires.from c.requires.below in
    let next : c.first.result ≡ (log_at chain (c.args.receiver + 1)).first = c.first.ensures ∙ ap (λ (l : LogState). l.first) c.log-2.ensures in
    ended_read c.args.receiver c.args.last (receiver_at chain.first kept c.args.receiver).blocks c.in-Some.to count c.in_ok-from.from c.in_ok-from.begun (c.in_ok-from.ensures.front tells kept holds) c.in_ok-reached.reached link.0
    (c.in_ok-reached.ensures.read tells kept there) link.1 (omega (arith, next, link.2, c.is_second.ensures.second.0 c.if-is_second.true))
