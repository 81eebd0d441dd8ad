use Rattle.std.proofs.Common.{◌≡◌, ℕ, List, Err, ap}
use Rattle.std.proofs.lemmas.Result.{err_from_is_err_and}
use Rattle.entry_codec.specs.declared.entries.Entry.{Entry}
use Rattle.journal_book.specs.Book.{Holds}
use Rattle.journal_book.specs.declared.fault.BookFault.{BookFault}
use Rattle.journal_book.specs.declared.fault.BookFault.TheVariants.{BlockChanged}
use Rattle.journal_book.proofs.Taking.{if_is}
use Rattle.block_cache.proofs.Keys.{if_none}
use Rattle.block_cache.proofs.Walking.{taken_found, taken_read}
use Rattle.block_cache.proofs.cache.BlockCache.take_block.Goals as goal

pub returns-in_err-reached-clause-keep : goal.returns-in_err-reached-clause-keep
returns-in_err-reached-clause-keep g c = λ there n has. c.take_kept.ensures.keep n has

pub returns-in_err-reached-clause-cached : goal.returns-in_err-reached-clause-cached
returns-in_err-reached-clause-cached g c = λ tells all holds are. c.take_kept.ensures.cached c.args.book.now.first all are

pub returns-in_err-last-clause-whole : goal.returns-in_err-last-clause-whole
returns-in_err-last-clause-whole g c = λ sequence area at is tells.
    let p = err_from_is_err_and c.from_residual-in_err-last.result c.from_residual-in_err-last.ensures.1 in
    let same : c.in_err-last.field-0.0 ≡ BlockChanged sequence area at = cc (p.1, p.2, is) in
    c.in_err-last.ensures.whole sequence area at (ap (λ (e : BookFault). Err e) same) tells

pub returns-in_err-last-clause-untouched : goal.returns-in_err-last-clause-untouched
returns-in_err-last-clause-untouched g c = λ there. absurd (if_none _ _ c.in_default.is c.in_ok-reached.ensures.none there)

pub returns-in_err-last-clause-never : goal.returns-in_err-last-clause-never
returns-in_err-last-clause-never g c = λ there is. if_none _ _ c.in_default.is c.in_ok-reached.ensures.none there

pub returns-in_err-last-clause-unchanged : goal.returns-in_err-last-clause-unchanged
returns-in_err-last-clause-unchanged g c = λ there sequence area at is. if_none _ _ c.in_default.is c.in_ok-reached.ensures.none there

pub returns-in_err-last-clause-keep : goal.returns-in_err-last-clause-keep
returns-in_err-last-clause-keep g c = λ there n has. absurd (if_none _ _ c.in_default.is c.in_ok-reached.ensures.none there)

pub returns-in_err-last-clause-cached : goal.returns-in_err-last-clause-cached
returns-in_err-last-clause-cached g c = λ tells all holds are. c.take_read.ensures.cached tells all holds (c.take_kept.ensures.cached c.args.book.now.first all are)

pub returns-in_default-clause-taken : goal.returns-in_default-clause-taken
returns-in_default-clause-taken g c =
    taken_read g.S.Store.tells (λ (all : List Entry). Holds c.args.book.now all (g.S.Store.disk c.args.store.now)) c.args.book.now.first c.args.self.now c.take_kept.new.self c.take_read.new.self
    c.args.lo c.args.hi c.in_ok-last.last
    c.args.found.now.items c.take_kept.new.found.items c.take_read.new.found.items (λ all are. c.take_kept.ensures.cached c.args.book.now.first all are)
    (if_none _ _ c.in_default.is c.in_ok-reached.ensures.nothing) c.in_ok-last.ensures.taken

pub returns-in_default-clause-untouched : goal.returns-in_default-clause-untouched
returns-in_default-clause-untouched g c = λ there. absurd (if_none _ _ c.in_default.is c.in_ok-reached.ensures.none there)

pub returns-in_default-clause-keep : goal.returns-in_default-clause-keep
returns-in_default-clause-keep g c = λ there n has. absurd (if_none _ _ c.in_default.is c.in_ok-reached.ensures.none there)

pub returns-in_default-clause-cached : goal.returns-in_default-clause-cached
returns-in_default-clause-cached g c = λ tells all holds are. c.take_read.ensures.cached tells all holds (c.take_kept.ensures.cached c.args.book.now.first all are)

pub returns-clause-taken : goal.returns-clause-taken
returns-clause-taken g c =
    taken_found g.S.Store.tells (λ (all : List Entry). Holds c.args.book.now all (g.S.Store.disk c.args.store.now)) c.args.book.now.first c.args.self.now c.take_kept.new.self c.args.lo c.args.hi
    c.in-Some.reached
    c.args.found.now.items c.take_kept.new.found.items (if_is _ _ _ c.in-Some.is c.in_ok-reached.ensures.taken)

pub returns-clause-keep : goal.returns-clause-keep
returns-clause-keep g c = λ there n has. c.take_kept.ensures.keep n has

pub returns-clause-cached : goal.returns-clause-cached
returns-clause-cached g c = λ tells all holds are. c.take_kept.ensures.cached c.args.book.now.first all are
