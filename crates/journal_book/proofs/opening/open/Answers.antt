use Rattle.std.proofs.Common.{◌≡◌, ◌≢◌, ◌+◌, ◌-◌, ◌≤◌, ◌<◌, ℕ, List, [], ◌∷◌, drop, take, length, sym, ◌∙◌, ap, subst, arith, Err, IsErrOf, vec_len, vec_capacity}
use Rattle.std.proofs.lemmas.Result.{err_from_is_err_and}
use Rattle.gated_log.proofs.Walking.{damaged_is}
use Rattle.gated_log.specs.Log.{LogState}
use Rattle.gated_log.specs.declared.fault.LogFault.{LogFault}
use Rattle.gated_log.specs.declared.fault.LogFault.TheVariants.{Damaged}
use Rattle.receiver_chain.specs.Receivers.{area_of, receiver_at}
use Rattle.receiver_chain.specs.Chain.{attached_of, log_at}
use Rattle.receiver_chain.proofs.Kept.{holds_stays, is_held_stays}
use Rattle.receiver_chain.specs.Chain.{ChainState}
use Rattle.receiver_chain.proofs.Chaining.{lead_number}
use Rattle.receiver_chain.proofs.ReadingLaws.{never_both}
use Rattle.journal_book.specs.Book.{BookState, HasEntries}
use Rattle.journal_book.specs.Kept.{SpellEntries}
use Rattle.journal_book.proofs.Chains.{first_kept}
use Rattle.journal_book.proofs.Walking.{open_holds, open_none, open_zero}
use Rattle.journal_book.proofs.opening.open.Goals as goal

pub returns-in_err-chain-clause-damaged : goal.returns-in_err-chain-clause-damaged
returns-in_err-chain-clause-damaged g c = λ area at is tells.
    let p = err_from_is_err_and c.from_residual.result c.from_residual.ensures.1 in
    let same : c.in_err-chain.field-0.0 ≡ Damaged area at = cc (p.1, p.2, is) in
    let named : IsErrOf {T = ChainState} (Err c.in_err-chain.field-0.0) (Damaged area at) = ap (λ (e : LogFault). Err e) same in
    let told = c.in_err-chain.ensures.damaged area at named tells in (
      omega (arith, told.here, lead_number c.args.first _ told.earlier told.number told.before told.lead),
      λ entries spells. never_both c.args.first area at spells.kept (g.S.Store.disk c.args.store.now).seen told spells.chained,
    )

pub returns-then-first_sequence-eq0-clause-damaged : goal.returns-then-first_sequence-eq0-clause-damaged
returns-then-first_sequence-eq0-clause-damaged g c = λ area at is tells.
    let chain = c.in_ok-chain.chain in
    let has = c.in_ok-chain.ensures.opened tells in
    let here = first_kept chain has.0 _ c.args.first has.1 c.in_ok-chain.ensures.first in
    let nought = here ∙ sym (c.first-first_sequence.ensures ∙ ap (λ (l : LogState). l.first) c.log.ensures) ∙ c.if-first_sequence-eq0.true in (
      omega (arith, (damaged_is {T = BookState} (2 + c.args.first) 0 area at is).0),
      λ entries spells.
          open_zero chain has.0 _ has.1 nought entries (g.S.Store.disk c.args.store.now).seen (λ a. sym (c.in_ok-chain.ensures.stays.seen a)) (subst (λ (f : ℕ). SpellEntries f entries (g.S.Store.disk c.args.store.now).seen) (sym c.in_ok-chain.ensures.first) spells),
    )

pub returns-in_err-last-clause-damaged : goal.returns-in_err-last-clause-damaged
returns-in_err-last-clause-damaged g c = λ area at is tells.
    let p = err_from_is_err_and c.from_residual-in_err-last.result c.from_residual-in_err-last.ensures.1 in
    let same : c.in_err-last.field-0.0 ≡ Damaged area at = cc (p.1, p.2, is) in
    let named : IsErrOf {T = ℕ} (Err c.in_err-last.field-0.0) (Damaged area at) = ap (λ (e : LogFault). Err e) same in
    let told = c.in_err-last.ensures.damaged area at named in
    let chain = c.in_ok-chain.chain in
    let has = c.in_ok-chain.ensures.opened tells in
    let here = first_kept chain has.0 _ c.args.first has.1 c.in_ok-chain.ensures.first in
    let first = c.first-first_sequence.ensures ∙ ap (λ (l : LogState). l.first) c.log.ensures in (
      omega (arith, told.0, c.in_ok-chain.ensures.first),
      λ entries spells.
          open_none chain has.0 _ has.1 (c.first-first_sequence.result - 1) (omega (arith, here, first, c.if-first_sequence-eq0.false)) entries (g.S.Store.disk c.args.store.now).seen (λ a. sym (c.in_ok-chain.ensures.stays.seen a))
          (told.1 tells has.0 has.1) (subst (λ (f : ℕ). SpellEntries f entries (g.S.Store.disk c.args.store.now).seen) (sym c.in_ok-chain.ensures.first) spells),
    )

pub returns-clause-opened : goal.returns-clause-opened
returns-clause-opened g c = λ tells.
    let chain = c.in_ok-chain.chain in
    let has = c.in_ok-chain.ensures.opened tells in
    let here = first_kept chain has.0 _ c.args.first has.1 c.in_ok-chain.ensures.first in
    let first = c.first-first_sequence.ensures ∙ ap (λ (l : LogState). l.first) c.log.ensures in
    let before = c.first-first_sequence.result - 1 in
    let there = holds_stays chain has.0 _ (g.S.Store.disk c.read_receivers.new.store) c.read_receivers.ensures.stays has.1 in
    let framed = c.in_ok-framed.framed in
    let bytes = vec_capacity framed - (vec_len framed + 1) in
    let opened =
    open_holds chain has.0 (g.S.Store.disk c.read_receivers.new.store) there before (omega (arith, here, first, c.if-first_sequence-eq0.false)) c.has_begun-begun.result bytes c.first-first_sequence.result c.in_ok-last.last (c.in_ok-last.last - before)
    (c.in_ok-last.ensures.read tells has.0 has.1) (omega (arith, c.if-first_sequence-eq0.false)) (omega (arith, c.in_ok-last.ensures.above)) c.has_begun-begun.ensures.begun c.has_begun-begun.ensures.bare in
    subst (λ (b : List ℕ). HasEntries (record { chain = chain; first = c.first-first_sequence.result; forced = c.in_ok-last.last - before; waiting = 0; begun = c.has_begun-begun.result; buffered = b; bytes = bytes }) (g.S.Store.disk c.read_receivers.new.store)) (sym c.in_ok-framed.ensures.none) opened
