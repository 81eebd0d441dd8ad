use Rattle.std.proofs.Common.{◌≡◌, ◌+◌, ◌-◌, ◌≤◌, ◌<◌, ℕ, List, [], Err, ap, subst, arith}
use Rattle.std.proofs.lemmas.Result.{err_from_is_err_and}
use Rattle.store_model.proofs.Runs.{stays_trans}
use Rattle.receiver_chain.specs.Receivers.{area_of}
use Rattle.receiver_chain.proofs.Switches.{stays_here}
use Rattle.receiver_chain.proofs.Kept.{holds_stays, is_held_stays}
use Rattle.journal_book.specs.Reads.{IsAhead, blocks_behind}
use Rattle.journal_book.specs.Searches.{IsSoughtIn}
use Rattle.journal_book.specs.declared.fault.BookFault.{BookFault}
use Rattle.journal_book.specs.declared.fault.BookFault.TheVariants.{BlockChanged}
use Rattle.journal_book.specs.declared.placing.Sought.{Sought}
use Rattle.journal_book.specs.declared.placing.Sought.TheVariants.{At}
use Rattle.journal_book.proofs.Seeking.{sought_none}
use Rattle.journal_book.proofs.Starting.{last_blocks, next_blocks}
use Rattle.journal_book.proofs.placing.seek_from.Goals as goal

pub loop-receiver-init : goal.loop-receiver-init
loop-receiver-init g c = record { stays = stays_here (g.S.Store.disk c.args.store.now); from = c.requires.from; upto = c.requires.upto; ahead = λ tells kept entries holds ahead. ahead }

pub seek_receiver-requires-clause-held : goal.seek_receiver-requires-clause-held
seek_receiver-requires-clause-held g c = λ tells. is_held_stays c.args.chain.now (g.S.Store.disk c.args.store.now) (g.S.Store.disk c.loop-receiver.store) c.loop-receiver.invariant.stays (c.requires.held tells)

pub returns-in_err-found-clause-whole : goal.returns-in_err-found-clause-whole
returns-in_err-found-clause-whole g c = λ other area at is tells kept entries holds ahead.
    let p = err_from_is_err_and c.from_residual.result c.from_residual.ensures.1 in
    let same : c.in_err-found.field-0.0 ≡ BlockChanged other area at = cc (p.1, p.2, is) in
    let chain = c.args.chain.now in
    let later = blocks_behind kept.earlier kept.attached (c.loop-receiver.receiver - chain.first) in
    let here = c.loop-receiver.invariant.ahead tells kept entries holds ahead in
    let there = holds_stays chain kept (g.S.Store.disk c.args.store.now) (g.S.Store.disk c.loop-receiver.store) c.loop-receiver.invariant.stays holds in
    absurd (c.in_err-found.ensures.whole other area at (ap (λ (e : BookFault). Err e) same) tells kept entries later there here)

pub returns-in-At-clause-stands : goal.returns-in-At-clause-stands
returns-in-At-clause-stands g c = λ tells kept entries holds ahead.
    let chain = c.args.chain.now in
    let s = c.args.sequence in
    let receiver = c.loop-receiver.receiver in
    let later = blocks_behind kept.earlier kept.attached (receiver - chain.first) in
    let here = c.loop-receiver.invariant.ahead tells kept entries holds ahead in
    let there = holds_stays chain kept (g.S.Store.disk c.args.store.now) (g.S.Store.disk c.loop-receiver.store) c.loop-receiver.invariant.stays holds in
    let found = c.in_ok-found.ensures.sought tells kept entries later there here in
    let kind = subst (λ (f : Sought). IsSoughtIn s entries later ((g.S.Store.disk c.loop-receiver.store).seen (area_of receiver)) f) c.in-At.is found in
    subst (λ (b : List ℕ). IsSoughtIn s entries later b (At c.in-At.at)) (c.loop-receiver.invariant.stays.seen (area_of receiver)) kind

pub loop-receiver-preserved : goal.loop-receiver-preserved
loop-receiver-preserved g c = record {
  stays = stays_trans _ _ _ c.loop-receiver.invariant.stays c.seek_receiver.ensures.stays;
  from = omega (arith, c.loop-receiver.invariant.from);
  upto = omega (arith, c.loop-receiver-test.true, c.attached-attached.ensures.number);
  ahead = λ tells kept entries holds ahead.
      let chain = c.args.chain.now in
      let s = c.args.sequence in
      let receiver = c.loop-receiver.receiver in
      let later = blocks_behind kept.earlier kept.attached (receiver - chain.first) in
      let here = c.loop-receiver.invariant.ahead tells kept entries holds ahead in
      let there = holds_stays chain kept (g.S.Store.disk c.args.store.now) (g.S.Store.disk c.loop-receiver.store) c.loop-receiver.invariant.stays holds in
      let next = next_blocks chain kept (g.S.Store.disk c.args.store.now) receiver holds c.loop-receiver.invariant.from (omega (arith, c.loop-receiver-test.true, c.attached-attached.ensures.number)) in
      let found = c.in_ok-found.ensures.sought tells kept entries later there here in
      let kind = subst (λ (f : Sought). IsSoughtIn s entries later ((g.S.Store.disk c.loop-receiver.store).seen (area_of receiver)) f) c.in-Behind.is found in
      subst (λ (l : List (List ℕ)). IsAhead s s entries [] c.in-Behind.behind [] l) next kind;
}

pub seek_receiver-requires-2-clause-held : goal.seek_receiver-requires-2-clause-held
seek_receiver-requires-2-clause-held g c = λ tells. is_held_stays c.args.chain.now (g.S.Store.disk c.args.store.now) (g.S.Store.disk c.loop-receiver.store) c.loop-receiver.invariant.stays (c.requires.held tells)

pub returns-in_err-last-clause-whole : goal.returns-in_err-last-clause-whole
returns-in_err-last-clause-whole g c = λ other area at is tells kept entries holds ahead.
    let p = err_from_is_err_and c.from_residual-in_err-last.result c.from_residual-in_err-last.ensures.1 in
    let same : c.in_err-last.field-0.0 ≡ BlockChanged other area at = cc (p.1, p.2, is) in
    let chain = c.args.chain.now in
    let later = blocks_behind kept.earlier kept.attached (c.loop-receiver.receiver - chain.first) in
    let here = c.loop-receiver.invariant.ahead tells kept entries holds ahead in
    let there = holds_stays chain kept (g.S.Store.disk c.args.store.now) (g.S.Store.disk c.loop-receiver.store) c.loop-receiver.invariant.stays holds in
    absurd (c.in_err-last.ensures.whole other area at (ap (λ (e : BookFault). Err e) same) tells kept entries later there here)

pub returns-in-At-last-clause-stands : goal.returns-in-At-last-clause-stands
returns-in-At-last-clause-stands g c = λ tells kept entries holds ahead.
    let chain = c.args.chain.now in
    let s = c.args.sequence in
    let receiver = c.loop-receiver.receiver in
    let later = blocks_behind kept.earlier kept.attached (receiver - chain.first) in
    let here = c.loop-receiver.invariant.ahead tells kept entries holds ahead in
    let there = holds_stays chain kept (g.S.Store.disk c.args.store.now) (g.S.Store.disk c.loop-receiver.store) c.loop-receiver.invariant.stays holds in
    let found = c.in_ok-last.ensures.sought tells kept entries later there here in
    let kind = subst (λ (f : Sought). IsSoughtIn s entries later ((g.S.Store.disk c.loop-receiver.store).seen (area_of receiver)) f) c.in-At-last.is found in
    subst (λ (b : List ℕ). IsSoughtIn s entries later b (At c.in-At-last.at)) (c.loop-receiver.invariant.stays.seen (area_of receiver)) kind

pub returns-in-Behind-last-clause-whole : goal.returns-in-Behind-last-clause-whole
returns-in-Behind-last-clause-whole g c = λ other area at is tells kept entries holds ahead.
    let chain = c.args.chain.now in
    let s = c.args.sequence in
    let receiver = c.loop-receiver.receiver in
    let later = blocks_behind kept.earlier kept.attached (receiver - chain.first) in
    let here = c.loop-receiver.invariant.ahead tells kept entries holds ahead in
    let there = holds_stays chain kept (g.S.Store.disk c.args.store.now) (g.S.Store.disk c.loop-receiver.store) c.loop-receiver.invariant.stays holds in
    let none = last_blocks chain kept (g.S.Store.disk c.args.store.now) receiver holds (omega (arith, c.loop-receiver-test.false, c.attached-attached.ensures.number)) in
    let found = c.in_ok-last.ensures.sought tells kept entries later there here in
    let kind = subst (λ (f : Sought). IsSoughtIn s entries later ((g.S.Store.disk c.loop-receiver.store).seen (area_of receiver)) f) c.in-Behind-last.is found in
    sought_none s entries _ later none kind
