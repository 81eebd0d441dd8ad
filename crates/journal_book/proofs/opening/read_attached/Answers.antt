use Rattle.std.proofs.Common.{◌≡◌, ◌≢◌, ◌+◌, ◌-◌, ◌≤◌, ◌<◌, ℕ, List, [], ◌∷◌, drop, take, length, sym, ◌∙◌, ap, subst, arith, rules, Err, IsErrOf}
use Rattle.std.proofs.lemmas.Result.{err_from_is_err_and}
use Rattle.gated_log.proofs.Walking.{damaged_is}
use Rattle.gated_log.specs.Log.{LogState}
use Rattle.gated_log.specs.declared.fault.LogFault.{LogFault}
use Rattle.gated_log.specs.declared.fault.LogFault.TheVariants.{Damaged}
use Rattle.receiver_chain.specs.Receivers.{area_of, receiver_at}
use Rattle.receiver_chain.specs.Chain.{attached_of, log_at}
use Rattle.receiver_chain.proofs.Kept.{holds_stays, is_held_stays}
use Rattle.std.proofs.lemmas.List.{take_all}
use Rattle.journal_book.specs.Openings.{HasBodies, HasNoBodies, HasNoFront, IsFront}
use Rattle.journal_book.proofs.Chains.{at_attached}
use Rattle.journal_book.proofs.Counts.{count_is}
use Rattle.journal_book.proofs.Openings.{attached_no_bodies, attached_no_front, attached_read}
use Rattle.journal_book.proofs.opening.read_attached.Goals as goal

pub returns-in_err-from-clause-damaged : goal.returns-in_err-from-clause-damaged
returns-in_err-from-clause-damaged g c = λ area at is.
    let p = err_from_is_err_and c.from_residual.result c.from_residual.ensures.1 in
    let same : c.in_err-from.field-0.0 ≡ Damaged area at = cc (p.1, p.2, is) in
    let named : IsErrOf {T = ℕ × ℕ} (Err c.in_err-from.field-0.0) (Damaged area at) = ap (λ (e : LogFault). Err e) same in
    let told = c.in_err-from.ensures.damaged area at named in
    let number = c.attached-receiver.ensures.number in (
      told.0 ∙ ap (λ (n : ℕ). area_of n) number,
      λ tells kept holds.
          let chain = c.args.chain.now in
          attached_no_front (attached_of chain) c.args.last kept.attached.blocks
          (at_attached (λ n blocks. HasNoFront n c.args.last blocks) chain kept (g.S.Store.disk c.args.store.now) c.attached-receiver.result holds number (told.1 tells kept holds)),
    )

pub read_bodies-requires-clause-held : goal.read_bodies-requires-clause-held
read_bodies-requires-clause-held g c = λ tells. is_held_stays c.args.chain.now (g.S.Store.disk c.args.store.now) (g.S.Store.disk c.read_front.new.store) c.read_front.ensures.stays (c.requires.held tells)

pub returns-in_err-reached-clause-damaged : goal.returns-in_err-reached-clause-damaged
returns-in_err-reached-clause-damaged g c = λ area at is.
    let p = err_from_is_err_and c.from_residual-in_err-reached.result c.from_residual-in_err-reached.ensures.1 in
    let same : c.in_err-reached.field-0.0 ≡ Damaged area at = cc (p.1, p.2, is) in
    let named : IsErrOf {T = ℕ} (Err c.in_err-reached.field-0.0) (Damaged area at) = ap (λ (e : LogFault). Err e) same in
    let told = c.in_err-reached.ensures.damaged area at named in
    let number = c.attached-receiver.ensures.number in
    let some : c.count-to.result ≡ length (log_at c.args.chain.now c.attached-receiver.result).lengths = search rules in (
      told.0 ∙ ap (λ (n : ℕ). area_of n) number,
      λ tells kept holds.
          let chain = c.args.chain.now in
          let receiver = c.attached-receiver.result in
          let blocks = (receiver_at chain.first kept receiver).blocks in
          let there = holds_stays chain kept (g.S.Store.disk c.args.store.now) (g.S.Store.disk c.read_front.new.store) c.read_front.ensures.stays holds in
          let count = count_is chain kept (g.S.Store.disk c.args.store.now) receiver holds c.attached-receiver.ensures.above (omega (arith, number)) in
          let whole : take c.count-to.result blocks ≡ blocks = take_all c.count-to.result blocks (omega (arith, some, count)) in
          let none = subst (λ (l : List (List ℕ)). HasNoBodies c.in_ok-from.begun (drop c.in_ok-from.from l)) whole (told.1 tells kept there) in
          attached_no_bodies (attached_of chain) c.args.last kept.attached.blocks c.in_ok-from.from c.in_ok-from.begun
          (at_attached (λ n b. IsFront n c.args.last b c.in_ok-from.from c.in_ok-from.begun) chain kept (g.S.Store.disk c.args.store.now) receiver holds number (c.in_ok-from.ensures.front tells kept holds))
          (at_attached (λ n b. HasNoBodies c.in_ok-from.begun (drop c.in_ok-from.from b)) chain kept (g.S.Store.disk c.args.store.now) receiver holds number none),
    )

pub returns-clause-read : goal.returns-clause-read
returns-clause-read g c = λ tells kept holds.
    let number = c.attached-receiver.ensures.number in
    let some : c.count-to.result ≡ length (log_at c.args.chain.now c.attached-receiver.result).lengths = search rules in
    let chain = c.args.chain.now in
    let receiver = c.attached-receiver.result in
    let blocks = (receiver_at chain.first kept receiver).blocks in
    let there = holds_stays chain kept (g.S.Store.disk c.args.store.now) (g.S.Store.disk c.read_front.new.store) c.read_front.ensures.stays holds in
    let count = count_is chain kept (g.S.Store.disk c.args.store.now) receiver holds c.attached-receiver.ensures.above (omega (arith, number)) in
    let whole : take c.count-to.result blocks ≡ blocks = take_all c.count-to.result blocks (omega (arith, some, count)) in
    let bodies = subst (λ (l : List (List ℕ)). HasBodies c.in_ok-from.begun (drop c.in_ok-from.from l) c.in_ok-reached.reached) whole (c.in_ok-reached.ensures.read tells kept there) in
    attached_read (attached_of chain) c.args.last kept.attached.blocks c.in_ok-from.from c.in_ok-from.begun c.in_ok-reached.reached
    (at_attached (λ n b. IsFront n c.args.last b c.in_ok-from.from c.in_ok-from.begun) chain kept (g.S.Store.disk c.args.store.now) receiver holds number (c.in_ok-from.ensures.front tells kept holds))
    (at_attached (λ n b. HasBodies c.in_ok-from.begun (drop c.in_ok-from.from b) c.in_ok-reached.reached) chain kept (g.S.Store.disk c.args.store.now) receiver holds number bodies)
