use Rattle.std.proofs.Common.{◌≡◌, ◌++◌, ◌+◌, ◌≤◌, ◌<◌, ℕ, List, [], drop, get_or, length, Err, ap, subst, arith}
use Rattle.std.proofs.lemmas.List.{drop_all}
use Rattle.std.proofs.lemmas.Result.{err_from_is_err_and}
use Rattle.store_model.proofs.Runs.{stays_trans}
use Rattle.gated_log.specs.Log.{LogState}
use Rattle.receiver_chain.specs.Receivers.{receiver_at}
use Rattle.receiver_chain.proofs.Switches.{stays_here}
use Rattle.receiver_chain.proofs.Kept.{holds_stays, is_held_stays}
use Rattle.journal_book.specs.Reads.{IsAhead}
use Rattle.journal_book.specs.declared.fault.BookFault.{BookFault}
use Rattle.journal_book.specs.declared.fault.BookFault.TheVariants.{BlockChanged}
use Rattle.journal_book.proofs.Counts.{count_is, from_nth}
use Rattle.journal_book.proofs.Taking.{ahead_further, ahead_none, ahead_past}
use Rattle.journal_book.proofs.ranges.take_receiver.Goals as goal

pub loop-n-init : goal.loop-n-init
loop-n-init g c = record { stays = stays_here (g.S.Store.disk c.args.store.now); ahead = λ tells kept entries old later holds ahead. ahead }

pub take_block-requires-clause-held : goal.take_block-requires-clause-held
take_block-requires-clause-held g c = λ tells. is_held_stays c.args.chain.now (g.S.Store.disk c.args.store.now) (g.S.Store.disk c.loop-n.store) c.loop-n.invariant.stays (c.requires.held tells)

pub returns-then-ends-clause-taken : goal.returns-then-ends-clause-taken
returns-then-ends-clause-taken g c = λ tells kept entries old later holds ahead.
    let chain = c.args.chain.now in
    let blocks = (receiver_at chain.first kept c.args.place.receiver).blocks in
    let lo = c.args.range.lo in
    let hi = c.args.range.hi in
    let n = c.loop-n.n in
    let reached = c.loop-n.reached in
    let found = c.loop-n.found.items in
    let here = c.loop-n.invariant.ahead tells kept entries old later holds ahead in
    ahead_past lo hi entries old reached found (drop n blocks ++ later) (c.ends.ensures.0 c.if-ends.true) here

pub returns-in_err-reached-clause-whole : goal.returns-in_err-reached-clause-whole
returns-in_err-reached-clause-whole g c = λ sequence area at is tells kept entries old later holds ahead.
    let p = err_from_is_err_and c.from_residual.result c.from_residual.ensures.1 in
    let same : c.in_err-reached.field-0.0 ≡ BlockChanged sequence area at = cc (p.1, p.2, is) in
    let chain = c.args.chain.now in
    let blocks = (receiver_at chain.first kept c.args.place.receiver).blocks in
    let lo = c.args.range.lo in
    let hi = c.args.range.hi in
    let n = c.loop-n.n in
    let reached = c.loop-n.reached in
    let found = c.loop-n.found.items in
    let here = c.loop-n.invariant.ahead tells kept entries old later holds ahead in
    let there = holds_stays chain kept (g.S.Store.disk c.args.store.now) (g.S.Store.disk c.loop-n.store) c.loop-n.invariant.stays holds in
    let below : n < length blocks = omega (arith, c.loop-n-test.true, c.count-count.ensures.count, ap (λ (l : LogState). length l.lengths) c.log.ensures, count_is chain kept (g.S.Store.disk c.args.store.now) c.args.place.receiver holds c.requires.from c.requires.upto) in
    let split = subst (λ (l : List (List ℕ)). IsAhead lo hi entries old reached found (l ++ later)) (from_nth blocks n [] below) here in
    ahead_none lo hi entries old reached found (get_or blocks n []) (drop (n + 1) blocks ++ later) (λ group block follow. c.in_err-reached.ensures.whole sequence area at (ap (λ (e : BookFault). Err e) same) tells kept group there block follow) split

pub loop-n-preserved : goal.loop-n-preserved
loop-n-preserved g c = record {
  stays = stays_trans _ _ _ c.loop-n.invariant.stays c.take_block.ensures.stays;
  ahead = λ tells kept entries old later holds ahead.
      let chain = c.args.chain.now in
      let blocks = (receiver_at chain.first kept c.args.place.receiver).blocks in
      let lo = c.args.range.lo in
      let hi = c.args.range.hi in
      let n = c.loop-n.n in
      let reached = c.loop-n.reached in
      let found = c.loop-n.found.items in
      let here = c.loop-n.invariant.ahead tells kept entries old later holds ahead in
      let there = holds_stays chain kept (g.S.Store.disk c.args.store.now) (g.S.Store.disk c.loop-n.store) c.loop-n.invariant.stays holds in
      let below : n < length blocks = omega (arith, c.loop-n-test.true, c.count-count.ensures.count, ap (λ (l : LogState). length l.lengths) c.log.ensures, count_is chain kept (g.S.Store.disk c.args.store.now) c.args.place.receiver holds c.requires.from c.requires.upto) in
      let split = subst (λ (l : List (List ℕ)). IsAhead lo hi entries old reached found (l ++ later)) (from_nth blocks n [] below) here in
      ahead_further lo hi entries old reached found (get_or blocks n []) (drop (n + 1) blocks ++ later) c.in_ok-reached.reached c.take_block.new.found.items (λ group block follow. c.in_ok-reached.ensures.taken tells kept group there block follow) split;
}

pub returns-clause-taken : goal.returns-clause-taken
returns-clause-taken g c = λ tells kept entries old later holds ahead.
    let chain = c.args.chain.now in
    let blocks = (receiver_at chain.first kept c.args.place.receiver).blocks in
    let lo = c.args.range.lo in
    let hi = c.args.range.hi in
    let n = c.loop-n.n in
    let reached = c.loop-n.reached in
    let found = c.loop-n.found.items in
    let here = c.loop-n.invariant.ahead tells kept entries old later holds ahead in
    let past : length blocks ≤ n = omega (arith, c.loop-n-test.false, c.count-count.ensures.count, ap (λ (l : LogState). length l.lengths) c.log.ensures, count_is chain kept (g.S.Store.disk c.args.store.now) c.args.place.receiver holds c.requires.from c.requires.upto) in
    subst (λ (l : List (List ℕ)). IsAhead lo hi entries old reached found (l ++ later)) (drop_all n blocks past) here
