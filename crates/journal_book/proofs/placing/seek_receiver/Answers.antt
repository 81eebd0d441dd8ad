use Rattle.std.proofs.Common.{◌≡◌, ◌++◌, ◌+◌, ◌≤◌, ◌<◌, ℕ, List, [], drop, get_or, length, Err, ap, subst, arith}
use Rattle.std.proofs.lemmas.List.{drop_all}
use Rattle.std.proofs.lemmas.Result.{err_from_is_err_and}
use Rattle.store_model.proofs.Runs.{stays_trans}
use Rattle.gated_log.specs.Log.{LogState}
use Rattle.receiver_chain.specs.Receivers.{area_of, receiver_at}
use Rattle.receiver_chain.proofs.Switches.{stays_here}
use Rattle.receiver_chain.proofs.Kept.{holds_stays, is_held_stays}
use Rattle.journal_book.specs.Reads.{IsAhead}
use Rattle.journal_book.specs.Searches.{IsSoughtIn}
use Rattle.journal_book.specs.declared.fault.BookFault.{BookFault}
use Rattle.journal_book.specs.declared.fault.BookFault.TheVariants.{BlockChanged}
use Rattle.journal_book.specs.declared.placing.Sought.{Sought}
use Rattle.journal_book.proofs.Counts.{count_is, from_nth}
use Rattle.journal_book.proofs.Seeking.{sought_on}
use Rattle.journal_book.proofs.Taking.{ahead_none}
use Rattle.journal_book.proofs.placing.seek_receiver.Goals as goal

pub loop-n-init : goal.loop-n-init
loop-n-init g c = record { stays = stays_here (g.S.Store.disk c.args.store.now); ahead = λ tells kept entries later holds ahead. ahead }

pub seek_block-requires-clause-held : goal.seek_block-requires-clause-held
seek_block-requires-clause-held g c = λ tells. is_held_stays c.args.chain.now (g.S.Store.disk c.args.store.now) (g.S.Store.disk c.loop-n.store) c.loop-n.invariant.stays (c.requires.held tells)

pub returns-in_err-found-clause-whole : goal.returns-in_err-found-clause-whole
returns-in_err-found-clause-whole g c = λ other area at is tells kept entries later holds ahead.
    let p = err_from_is_err_and c.from_residual.result c.from_residual.ensures.1 in
    let same : c.in_err-found.field-0.0 ≡ BlockChanged other area at = cc (p.1, p.2, is) in
    let chain = c.args.chain.now in
    let blocks = (receiver_at chain.first kept c.args.place.receiver).blocks in
    let s = c.args.sequence in
    let n = c.loop-n.n in
    let here = c.loop-n.invariant.ahead tells kept entries later holds ahead in
    let there = holds_stays chain kept (g.S.Store.disk c.args.store.now) (g.S.Store.disk c.loop-n.store) c.loop-n.invariant.stays holds in
    let below : n < length blocks = omega (arith, c.loop-n-test.true, c.count-count.ensures.count, ap (λ (l : LogState). length l.lengths) c.log.ensures, count_is chain kept (g.S.Store.disk c.args.store.now) c.args.place.receiver holds c.requires.from c.requires.upto) in
    let split = subst (λ (l : List (List ℕ)). IsAhead s s entries [] c.loop-n.reached [] (l ++ later)) (from_nth blocks n [] below) here in
    ahead_none s s entries [] c.loop-n.reached [] (get_or blocks n []) (drop (n + 1) blocks ++ later) (λ group block follow. c.in_err-found.ensures.whole other area at (ap (λ (e : BookFault). Err e) same) tells kept group there block follow) split

pub returns-in-At-clause-sought : goal.returns-in-At-clause-sought
returns-in-At-clause-sought g c = λ tells kept entries later holds ahead.
    let chain = c.args.chain.now in
    let blocks = (receiver_at chain.first kept c.args.place.receiver).blocks in
    let s = c.args.sequence in
    let n = c.loop-n.n in
    let area = area_of c.args.place.receiver in
    let here = c.loop-n.invariant.ahead tells kept entries later holds ahead in
    let there = holds_stays chain kept (g.S.Store.disk c.args.store.now) (g.S.Store.disk c.loop-n.store) c.loop-n.invariant.stays holds in
    let below : n < length blocks = omega (arith, c.loop-n-test.true, c.count-count.ensures.count, ap (λ (l : LogState). length l.lengths) c.log.ensures, count_is chain kept (g.S.Store.disk c.args.store.now) c.args.place.receiver holds c.requires.from c.requires.upto) in
    let split = subst (λ (l : List (List ℕ)). IsAhead s s entries [] c.loop-n.reached [] (l ++ later)) (from_nth blocks n [] below) here in
    let found = sought_on s entries c.loop-n.reached (get_or blocks n []) (drop (n + 1) blocks ++ later) ((g.S.Store.disk c.loop-n.store).seen area) c.in_ok-found.found (λ group block follow. c.in_ok-found.ensures.sought tells kept group there block follow) split in
    let kind = subst (λ (f : Sought). IsSoughtIn s entries (drop (n + 1) blocks ++ later) ((g.S.Store.disk c.loop-n.store).seen area) f) c.in-At.is found in
    subst (λ (b : List ℕ). IsSoughtIn s entries (drop (n + 1) blocks ++ later) b (Rattle.journal_book.specs.declared.placing.Sought.TheVariants.At c.in-At.at)) (c.loop-n.invariant.stays.seen area) kind

pub loop-n-preserved : goal.loop-n-preserved
loop-n-preserved g c = record {
  stays = stays_trans _ _ _ c.loop-n.invariant.stays c.seek_block.ensures.stays;
  ahead = λ tells kept entries later holds ahead.
      let chain = c.args.chain.now in
      let blocks = (receiver_at chain.first kept c.args.place.receiver).blocks in
      let s = c.args.sequence in
      let n = c.loop-n.n in
      let area = area_of c.args.place.receiver in
      let here = c.loop-n.invariant.ahead tells kept entries later holds ahead in
      let there = holds_stays chain kept (g.S.Store.disk c.args.store.now) (g.S.Store.disk c.loop-n.store) c.loop-n.invariant.stays holds in
      let below : n < length blocks = omega (arith, c.loop-n-test.true, c.count-count.ensures.count, ap (λ (l : LogState). length l.lengths) c.log.ensures, count_is chain kept (g.S.Store.disk c.args.store.now) c.args.place.receiver holds c.requires.from c.requires.upto) in
      let split = subst (λ (l : List (List ℕ)). IsAhead s s entries [] c.loop-n.reached [] (l ++ later)) (from_nth blocks n [] below) here in
      let found = sought_on s entries c.loop-n.reached (get_or blocks n []) (drop (n + 1) blocks ++ later) ((g.S.Store.disk c.loop-n.store).seen area) c.in_ok-found.found (λ group block follow. c.in_ok-found.ensures.sought tells kept group there block follow) split in
      subst (λ (f : Sought). IsSoughtIn s entries (drop (n + 1) blocks ++ later) ((g.S.Store.disk c.loop-n.store).seen area) f) c.in-Behind.is found;
}

pub returns-clause-sought : goal.returns-clause-sought
returns-clause-sought g c = λ tells kept entries later holds ahead.
    let chain = c.args.chain.now in
    let blocks = (receiver_at chain.first kept c.args.place.receiver).blocks in
    let s = c.args.sequence in
    let n = c.loop-n.n in
    let here = c.loop-n.invariant.ahead tells kept entries later holds ahead in
    let past : length blocks ≤ n = omega (arith, c.loop-n-test.false, c.count-count.ensures.count, ap (λ (l : LogState). length l.lengths) c.log.ensures, count_is chain kept (g.S.Store.disk c.args.store.now) c.args.place.receiver holds c.requires.from c.requires.upto) in
    subst (λ (l : List (List ℕ)). IsAhead s s entries [] c.loop-n.reached [] (l ++ later)) (drop_all n blocks past) here
