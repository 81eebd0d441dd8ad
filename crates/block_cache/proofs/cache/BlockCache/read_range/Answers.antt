use Rattle.std.proofs.Common.{◌≡◌, ◌∙◌, ◌+◌, ◌≤◌, inr, ℕ, List, Err, ap, arith}
use Rattle.std.proofs.Math.Logic.{∥∥₁_map}
use Rattle.std.proofs.lemmas.Result.{err_from_is_err_and}
use Rattle.entry_codec.specs.declared.entries.Entry.{Entry}
use Rattle.journal_book.specs.Book.{Holds}
use Rattle.journal_book.specs.declared.fault.BookFault.{BookFault}
use Rattle.journal_book.specs.declared.fault.BookFault.TheVariants.{BlockChanged, StoreFault}
use Rattle.journal_book.proofs.Deposits.{stays_holds}
use Rattle.block_cache.proofs.Walking.{at_end, kept_last, read_all}
use Rattle.block_cache.proofs.cache.BlockCache.read_range.Goals as goal

pub take_waiting-requires-clause-held : goal.take_waiting-requires-clause-held
take_waiting-requires-clause-held g c = λ tells.
    ∥∥₁_map (c.requires.held tells) (λ has. (has.0, stays_holds c.args.book.now has.0 (g.S.Store.disk c.args.store.now) (g.S.Store.disk c.take_forced.new.store) c.take_forced.ensures.stays has.1))

pub returns-in_err-reached-clause-whole : goal.returns-in_err-reached-clause-whole
returns-in_err-reached-clause-whole g c = λ sequence area at is tells.
    let p = err_from_is_err_and c.from_residual.result c.from_residual.ensures.1 in
    let same : c.in_err-reached.field-0.0 ≡ BlockChanged sequence area at = cc (p.1, p.2, is) in
    c.in_err-reached.ensures.whole sequence area at (ap (λ (e : BookFault). Err e) same) tells

pub returns-in_err-reached-clause-untouched : goal.returns-in_err-reached-clause-untouched
returns-in_err-reached-clause-untouched g c = λ below all. c.take_forced.ensures.untouched (λ n from upto. inr (all n from upto))

pub returns-in_err-reached-clause-unread : goal.returns-in_err-reached-clause-unread
returns-in_err-reached-clause-unread g c = λ kept. ap (λ (it : g.row.S.Denot). (g.S.Store.disk it).faults) (c.take_forced.ensures.untouched kept)

pub returns-in_err-reached-clause-never : goal.returns-in_err-reached-clause-never
returns-in_err-reached-clause-never g c = λ kept is.
    let p = err_from_is_err_and c.from_residual.result c.from_residual.ensures.1 in
    let same : c.in_err-reached.field-0.0 ≡ StoreFault = cc (p.1, p.2, is) in
    c.in_err-reached.ensures.never kept (ap (λ (e : BookFault). Err e) same)

pub returns-in_err-reached-clause-unchanged : goal.returns-in_err-reached-clause-unchanged
returns-in_err-reached-clause-unchanged g c = λ kept sequence area at is.
    let p = err_from_is_err_and c.from_residual.result c.from_residual.ensures.1 in
    let same : c.in_err-reached.field-0.0 ≡ BlockChanged sequence area at = cc (p.1, p.2, is) in
    c.in_err-reached.ensures.unchanged kept sequence area at (ap (λ (e : BookFault). Err e) same)

pub returns-in_err-take_waiting-clause-untouched : goal.returns-in_err-take_waiting-clause-untouched
returns-in_err-take_waiting-clause-untouched g c = λ below all.
    c.take_waiting.ensures.same (at_end c.in_ok-reached.reached c.args.hi (c.args.book.now.first + c.args.book.now.forced) c.in_ok-reached.ensures.ends below)
    ∙ c.take_forced.ensures.untouched (λ n from upto. inr (all n from upto))

pub returns-in_err-take_waiting-clause-unread : goal.returns-in_err-take_waiting-clause-unread
returns-in_err-take_waiting-clause-unread g c = λ kept. c.take_waiting.ensures.unread ∙ ap (λ (it : g.row.S.Denot). (g.S.Store.disk it).faults) (c.take_forced.ensures.untouched kept)

pub returns-clause-entries : goal.returns-clause-entries
returns-clause-entries g c = λ tells all holds are.
    let taken = c.in_ok-reached.ensures.taken in
    let there = stays_holds c.args.book.now all (g.S.Store.disk c.args.store.now) (g.S.Store.disk c.take_forced.new.store) c.take_forced.ensures.stays holds in
    read_all c.args.book.now.first c.args.lo c.args.hi c.in_ok-reached.reached all _ c.take_forced.new.found.items c.take_waiting.new.found.items c.requires.kept taken.from taken.upto
    c.new-found.ensures.items (taken.taken tells all holds are)
    (c.in_ok-take_waiting.ensures.taken tells all there)

pub returns-clause-untouched : goal.returns-clause-untouched
returns-clause-untouched g c = λ below all.
    c.take_waiting.ensures.same (at_end c.in_ok-reached.reached c.args.hi (c.args.book.now.first + c.args.book.now.forced) c.in_ok-reached.ensures.ends below)
    ∙ c.take_forced.ensures.untouched (λ n from upto. inr (all n from upto))

pub returns-clause-unread : goal.returns-clause-unread
returns-clause-unread g c = λ kept. c.take_waiting.ensures.unread ∙ ap (λ (it : g.row.S.Denot). (g.S.Store.disk it).faults) (c.take_forced.ensures.untouched kept)

pub returns-clause-keeps : goal.returns-clause-keeps
returns-clause-keeps g c =
    kept_last g.S.Store.tells (λ (all : List Entry). Holds c.args.book.now all (g.S.Store.disk c.args.store.now)) c.args.book.now.first c.args.self.now c.take_forced.new.self c.args.book.now
    c.args.lo c.args.hi c.in_ok-reached.reached _ c.take_forced.new.found.items
    c.requires.some c.in_ok-reached.ensures.taken c.in_ok-reached.ensures.ends
