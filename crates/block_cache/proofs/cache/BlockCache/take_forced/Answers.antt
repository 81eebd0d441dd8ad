use Rattle.std.proofs.Common.{◌≡◌, ◌∙◌, ◌+◌, ◌≤◌, ◌<◌, ℕ, List, Err, refl, ap, arith}
use Rattle.std.proofs.Math.Logic.{∥∥₁_map}
use Rattle.std.proofs.lemmas.Result.{err_from_is_err_and}
use Rattle.store_model.proofs.Runs.{stays_trans}
use Rattle.entry_codec.specs.declared.entries.Entry.{Entry}
use Rattle.receiver_chain.proofs.Switches.{stays_here}
use Rattle.journal_book.specs.Book.{Holds}
use Rattle.journal_book.specs.declared.fault.BookFault.{BookFault}
use Rattle.journal_book.specs.declared.fault.BookFault.TheVariants.{BlockChanged, StoreFault}
use Rattle.journal_book.proofs.Deposits.{stays_holds}
use Rattle.block_cache.proofs.Walking.{next_there, stops, taken_none, taken_on}
use Rattle.block_cache.proofs.cache.BlockCache.take_forced.Goals as goal

pub loop-alloc-init : goal.loop-alloc-init
loop-alloc-init g c = record {
  stays = stays_here (g.S.Store.disk c.args.store.now);
  taken = taken_none g.S.Store.tells (λ (all : List Entry). Holds c.args.book.now all (g.S.Store.disk c.args.store.now)) c.args.book.now.first c.args.self.now c.args.lo c.args.hi
      c.args.found.now.items (omega (arith, c.requires.least, c.requires.kept)) c.requires.some;
  cached = λ tells all holds are. are;
  untouched = λ kept. refl;
  keep = λ kept n has. has;
}

pub take_block-requires-clause-held : goal.take_block-requires-clause-held
take_block-requires-clause-held g c = λ tells.
    ∥∥₁_map (c.requires.held tells) (λ has. (has.0, stays_holds c.args.book.now has.0 (g.S.Store.disk c.args.store.now) (g.S.Store.disk c.loop-alloc.store) c.loop-alloc.invariant.stays has.1))

pub take_block-requires-clause-kept : goal.take_block-requires-clause-kept
take_block-requires-clause-kept g c = omega (arith, c.requires.kept, c.loop-alloc.invariant.taken.from)

pub take_block-requires-clause-forced : goal.take_block-requires-clause-forced
take_block-requires-clause-forced g c = (c.goes_on.ensures.0 c.loop-alloc-test.true).1

pub take_block-requires-clause-some : goal.take_block-requires-clause-some
take_block-requires-clause-some g c = let goes = c.goes_on.ensures.0 c.loop-alloc-test.true in omega (arith, goes.0)

pub returns-in_err-reached-clause-whole : goal.returns-in_err-reached-clause-whole
returns-in_err-reached-clause-whole g c = λ sequence area at is tells.
    let p = err_from_is_err_and c.from_residual.result c.from_residual.ensures.1 in
    let same : c.in_err-reached.field-0.0 ≡ BlockChanged sequence area at = cc (p.1, p.2, is) in
    c.in_err-reached.ensures.whole sequence area at (ap (λ (e : BookFault). Err e) same) tells

pub returns-in_err-reached-clause-untouched : goal.returns-in_err-reached-clause-untouched
returns-in_err-reached-clause-untouched g c = λ kept.
    let inv = c.loop-alloc.invariant in
    let r = c.loop-alloc.reached in
    let goes = c.goes_on.ensures.0 c.loop-alloc-test.true in
    c.take_block.ensures.untouched (next_there c.args.self.now c.loop-alloc.self c.args.book.now (r + 1) goes.1 (kept (r + 1) inv.taken.from (omega (arith, goes.0))) (inv.keep kept (r + 1)))
    ∙ inv.untouched kept

pub returns-in_err-reached-clause-never : goal.returns-in_err-reached-clause-never
returns-in_err-reached-clause-never g c = λ kept is.
    let inv = c.loop-alloc.invariant in
    let r = c.loop-alloc.reached in
    let goes = c.goes_on.ensures.0 c.loop-alloc-test.true in
    let p = err_from_is_err_and c.from_residual.result c.from_residual.ensures.1 in
    let same : c.in_err-reached.field-0.0 ≡ StoreFault = cc (p.1, p.2, is) in
    c.in_err-reached.ensures.never (next_there c.args.self.now c.loop-alloc.self c.args.book.now (r + 1) goes.1 (kept (r + 1) inv.taken.from (omega (arith, goes.0))) (inv.keep kept (r + 1)))
    (ap (λ (e : BookFault). Err e) same)

pub returns-in_err-reached-clause-unchanged : goal.returns-in_err-reached-clause-unchanged
returns-in_err-reached-clause-unchanged g c = λ kept sequence area at is.
    let inv = c.loop-alloc.invariant in
    let r = c.loop-alloc.reached in
    let goes = c.goes_on.ensures.0 c.loop-alloc-test.true in
    let p = err_from_is_err_and c.from_residual.result c.from_residual.ensures.1 in
    let same : c.in_err-reached.field-0.0 ≡ BlockChanged sequence area at = cc (p.1, p.2, is) in
    c.in_err-reached.ensures.unchanged (next_there c.args.self.now c.loop-alloc.self c.args.book.now (r + 1) goes.1 (kept (r + 1) inv.taken.from (omega (arith, goes.0))) (inv.keep kept (r + 1)))
    sequence area at (ap (λ (e : BookFault). Err e) same)

pub returns-in_err-reached-clause-cached : goal.returns-in_err-reached-clause-cached
returns-in_err-reached-clause-cached g c = λ tells all holds are.
    let inv = c.loop-alloc.invariant in
    let there = stays_holds c.args.book.now all (g.S.Store.disk c.args.store.now) (g.S.Store.disk c.loop-alloc.store) inv.stays holds in
    c.take_block.ensures.cached tells all there (inv.cached tells all holds are)

pub loop-alloc-preserved : goal.loop-alloc-preserved
loop-alloc-preserved g c =
    let inv = c.loop-alloc.invariant in
    let r = c.loop-alloc.reached in
    let goes = c.goes_on.ensures.0 c.loop-alloc-test.true in
    let old = g.S.Store.disk c.args.store.now in
    let now = g.S.Store.disk c.loop-alloc.store in
    record {
      stays = stays_trans _ _ _ inv.stays c.take_block.ensures.stays;
      taken = taken_on g.S.Store.tells (λ (all : List Entry). Holds c.args.book.now all old) (λ (all : List Entry). Holds c.args.book.now all now) c.args.book.now.first
          (λ all holds. stays_holds c.args.book.now all old now inv.stays holds)
          c.args.self.now c.loop-alloc.self c.take_block.new.self c.args.lo c.args.hi r c.in_ok-reached.reached c.args.found.now.items c.loop-alloc.found.items c.take_block.new.found.items
          c.requires.kept inv.cached inv.taken c.in_ok-reached.ensures.taken;
      cached = λ tells all holds are. c.take_block.ensures.cached tells all (stays_holds c.args.book.now all old now inv.stays holds) (inv.cached tells all holds are);
      untouched = λ kept. c.take_block.ensures.untouched (next_there c.args.self.now c.loop-alloc.self c.args.book.now (r + 1) goes.1 (kept (r + 1) inv.taken.from (omega (arith, goes.0)))
          (inv.keep kept (r + 1))) ∙ inv.untouched kept;
      keep = λ kept n has. c.take_block.ensures.keep (next_there c.args.self.now c.loop-alloc.self c.args.book.now (r + 1) goes.1 (kept (r + 1) inv.taken.from (omega (arith, goes.0)))
          (inv.keep kept (r + 1))) n (inv.keep kept n has);
    }

pub returns-clause-taken : goal.returns-clause-taken
returns-clause-taken g c = c.loop-alloc.invariant.taken

pub returns-clause-ends : goal.returns-clause-ends
returns-clause-ends g c = stops c.goes_on.result c.loop-alloc.reached c.args.hi (c.args.book.now.first + c.args.book.now.forced) c.loop-alloc-test.false c.goes_on.ensures

pub returns-clause-untouched : goal.returns-clause-untouched
returns-clause-untouched g c = c.loop-alloc.invariant.untouched

pub returns-clause-cached : goal.returns-clause-cached
returns-clause-cached g c = c.loop-alloc.invariant.cached
