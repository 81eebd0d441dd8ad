use Rattle.std.proofs.Common.{◌≡◌, ◌++◌, ◌+◌, ◌-◌, ◌≤◌, ◌<◌, ℕ, List, Err, ap, subst, arith}
use Rattle.std.proofs.lemmas.Result.{err_from_is_err_and}
use Rattle.store_model.proofs.Runs.{stays_trans}
use Rattle.receiver_chain.proofs.Switches.{stays_here}
use Rattle.receiver_chain.proofs.Kept.{holds_stays, is_held_stays}
use Rattle.journal_book.specs.Reads.{IsAhead, blocks_behind}
use Rattle.journal_book.specs.declared.fault.BookFault.{BookFault}
use Rattle.journal_book.specs.declared.fault.BookFault.TheVariants.{BlockChanged}
use Rattle.journal_book.proofs.Starting.{last_blocks, next_blocks}
use Rattle.journal_book.proofs.Taking.{ended, none_is, some_match}
use Rattle.journal_book.proofs.ranges.take_behind.Goals as goal

pub loop-receiver-init : goal.loop-receiver-init
loop-receiver-init g c = record { stays = stays_here (g.S.Store.disk c.args.store.now); from = c.requires.from; upto = c.requires.upto; ahead = λ tells kept entries old holds ahead. ahead }

pub take_receiver-requires-clause-held : goal.take_receiver-requires-clause-held
take_receiver-requires-clause-held g c = λ tells. is_held_stays c.args.chain.now (g.S.Store.disk c.args.store.now) (g.S.Store.disk c.loop-receiver.store) c.loop-receiver.invariant.stays (c.requires.held tells)

pub returns-in_err-sequence-clause-whole : goal.returns-in_err-sequence-clause-whole
returns-in_err-sequence-clause-whole g c = λ sequence area at is tells kept entries old holds ahead.
    let p = err_from_is_err_and c.from_residual.result c.from_residual.ensures.1 in
    let same : c.in_err-sequence.field-0.0 ≡ BlockChanged sequence area at = cc (p.1, p.2, is) in
    let chain = c.args.chain.now in
    let lo = c.args.range.lo in
    let hi = c.args.range.hi in
    let receiver = c.loop-receiver.receiver in
    let later = blocks_behind kept.earlier kept.attached (receiver - chain.first) in
    let here = c.loop-receiver.invariant.ahead tells kept entries old holds ahead in
    let there = holds_stays chain kept (g.S.Store.disk c.args.store.now) (g.S.Store.disk c.loop-receiver.store) c.loop-receiver.invariant.stays holds in
    c.in_err-sequence.ensures.whole sequence area at (ap (λ (e : BookFault). Err e) same) tells kept entries old later there here

pub returns-in_default-clause-taken : goal.returns-in_default-clause-taken
returns-in_default-clause-taken g c = λ tells kept entries old holds ahead.
    let chain = c.args.chain.now in
    let lo = c.args.range.lo in
    let hi = c.args.range.hi in
    let receiver = c.loop-receiver.receiver in
    let later = blocks_behind kept.earlier kept.attached (receiver - chain.first) in
    let here = c.loop-receiver.invariant.ahead tells kept entries old holds ahead in
    let there = holds_stays chain kept (g.S.Store.disk c.args.store.now) (g.S.Store.disk c.loop-receiver.store) c.loop-receiver.invariant.stays holds in
    none_is _ _ _ c.in_default.is (c.in_ok-sequence.ensures.taken tells kept entries old later there here)

pub loop-receiver-preserved : goal.loop-receiver-preserved
loop-receiver-preserved g c = record {
  stays = stays_trans _ _ _ c.loop-receiver.invariant.stays c.take_receiver.ensures.stays;
  from = omega (arith, c.loop-receiver.invariant.from);
  upto = omega (arith, c.loop-receiver-test.true, c.attached-attached.ensures.number);
  ahead = λ tells kept entries old holds ahead.
      let chain = c.args.chain.now in
      let lo = c.args.range.lo in
      let hi = c.args.range.hi in
      let receiver = c.loop-receiver.receiver in
      let later = blocks_behind kept.earlier kept.attached (receiver - chain.first) in
      let here = c.loop-receiver.invariant.ahead tells kept entries old holds ahead in
      let there = holds_stays chain kept (g.S.Store.disk c.args.store.now) (g.S.Store.disk c.loop-receiver.store) c.loop-receiver.invariant.stays holds in
      let next = next_blocks chain kept (g.S.Store.disk c.args.store.now) receiver holds c.loop-receiver.invariant.from (omega (arith, c.loop-receiver-test.true, c.attached-attached.ensures.number)) in
      subst (λ (l : List (List ℕ)). IsAhead lo hi entries old c.in-Some.sequence c.take_receiver.new.found.items l) next (some_match _ _ _ _ c.in-Some.is (c.in_ok-sequence.ensures.taken tells kept entries old later there here));
}

pub take_receiver-requires-2-clause-held : goal.take_receiver-requires-2-clause-held
take_receiver-requires-2-clause-held g c = λ tells. is_held_stays c.args.chain.now (g.S.Store.disk c.args.store.now) (g.S.Store.disk c.loop-receiver.store) c.loop-receiver.invariant.stays (c.requires.held tells)

pub returns-in_err-_end-clause-whole : goal.returns-in_err-_end-clause-whole
returns-in_err-_end-clause-whole g c = λ sequence area at is tells kept entries old holds ahead.
    let p = err_from_is_err_and c.from_residual-in_err-_end.result c.from_residual-in_err-_end.ensures.1 in
    let same : c.in_err-_end.field-0.0 ≡ BlockChanged sequence area at = cc (p.1, p.2, is) in
    let chain = c.args.chain.now in
    let lo = c.args.range.lo in
    let hi = c.args.range.hi in
    let receiver = c.loop-receiver.receiver in
    let later = blocks_behind kept.earlier kept.attached (receiver - chain.first) in
    let here = c.loop-receiver.invariant.ahead tells kept entries old holds ahead in
    let there = holds_stays chain kept (g.S.Store.disk c.args.store.now) (g.S.Store.disk c.loop-receiver.store) c.loop-receiver.invariant.stays holds in
    c.in_err-_end.ensures.whole sequence area at (ap (λ (e : BookFault). Err e) same) tells kept entries old later there here

pub returns-clause-taken : goal.returns-clause-taken
returns-clause-taken g c = λ tells kept entries old holds ahead.
    let chain = c.args.chain.now in
    let lo = c.args.range.lo in
    let hi = c.args.range.hi in
    let receiver = c.loop-receiver.receiver in
    let later = blocks_behind kept.earlier kept.attached (receiver - chain.first) in
    let here = c.loop-receiver.invariant.ahead tells kept entries old holds ahead in
    let there = holds_stays chain kept (g.S.Store.disk c.args.store.now) (g.S.Store.disk c.loop-receiver.store) c.loop-receiver.invariant.stays holds in
    let last = last_blocks chain kept (g.S.Store.disk c.args.store.now) receiver holds (omega (arith, c.loop-receiver-test.false, c.attached-attached.ensures.number)) in
    ended lo hi entries old c.take_receiver-2.new.found.items later _ last (c.in_ok-_end.ensures.taken tells kept entries old later there here)
