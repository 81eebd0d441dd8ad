use Rattle.std.proofs.Common.{◌≡◌, ◌+◌, ◌≤◌, ◌<◌, true, List, Err, sym, ap, subst, arith}
use Rattle.std.proofs.Math.Bridge.{le_prop}
use Rattle.std.proofs.Math.Logic.{∥∥₁_elim, ∥∥₁_map}
use Rattle.std.proofs.lemmas.Result.{err_from_is_err_and}
use Rattle.entry_codec.specs.declared.entries.Entry.{Entry}
use Rattle.journal_book.specs.declared.fault.BookFault.{BookFault}
use Rattle.journal_book.specs.declared.fault.BookFault.TheVariants.{BlockChanged, NoSuchEntry, ReceiverGone}
use Rattle.journal_book.proofs.Deposits.{stays_holds}
use Rattle.journal_book.proofs.Taking.{none_is, some_match}
use Rattle.block_cache.specs.Cached.{IsStretch, has_entry}
use Rattle.block_cache.specs.Walks.{IsWhole}
use Rattle.block_cache.proofs.Finds.{has_there}
use Rattle.block_cache.proofs.Forced.{forced_there, forced_whole}
use Rattle.block_cache.proofs.Stretches.{whole_stretch}
use Rattle.block_cache.proofs.reading.read_block.Goals as goal

pub returns-in_err-entries-clause-named : goal.returns-in_err-entries-clause-named
returns-in_err-entries-clause-named g c = λ sequence is.
    let p = err_from_is_err_and c.from_residual.result c.from_residual.ensures.1 in
    let same : c.in_err-entries.field-0.0 ≡ ReceiverGone sequence = cc (p.1, p.2, is) in
    c.in_err-entries.ensures.kept c.requires.from sequence (ap (λ (e : BookFault). Err e) same)

pub returns-in_err-entries-clause-no_range : goal.returns-in_err-entries-clause-no_range
returns-in_err-entries-clause-no_range g c = λ is.
    let p = err_from_is_err_and c.from_residual.result c.from_residual.ensures.1 in
    let same : c.in_err-entries.field-0.0 ≡ NoSuchEntry = cc (p.1, p.2, is) in
    c.in_err-entries.ensures.there c.requires.some (omega (arith, c.requires.least, c.requires.from)) (omega (arith, c.requires.forced)) (ap (λ (e : BookFault). Err e) same)

pub returns-in_err-entries-clause-whole : goal.returns-in_err-entries-clause-whole
returns-in_err-entries-clause-whole g c = λ sequence area at is tells.
    let p = err_from_is_err_and c.from_residual.result c.from_residual.ensures.1 in
    let same : c.in_err-entries.field-0.0 ≡ BlockChanged sequence area at = cc (p.1, p.2, is) in
    c.in_err-entries.ensures.whole sequence area at (ap (λ (e : BookFault). Err e) same) tells

pub place-requires-clause-held : goal.place-requires-clause-held
place-requires-clause-held g c = λ tells.
    ∥∥₁_map (c.requires.held tells) (λ has. (has.0, stays_holds c.args.book.now has.0 (g.S.Store.disk c.args.store.now) (g.S.Store.disk c.entries.new.store) c.entries.ensures.stays has.1))

pub returns-in_err-place-clause-whole : goal.returns-in_err-place-clause-whole
returns-in_err-place-clause-whole g c = λ sequence area at is tells.
    let p = err_from_is_err_and c.from_residual-in_err-place.result c.from_residual-in_err-place.ensures.1 in
    let same : c.in_err-place.field-0.0 ≡ BlockChanged sequence area at = cc (p.1, p.2, is) in
    c.in_err-place.ensures.whole sequence area at (ap (λ (e : BookFault). Err e) same) tells

pub returns-in_default-clause-whole : goal.returns-in_default-clause-whole
returns-in_default-clause-whole g c = λ sequence area at is tells.
    let bounds = c.args.bounds in
    let book = c.args.book.now in
    let never : 1 ≤ 0 = ∥∥₁_elim (c.requires.held tells) le_prop (λ has.
    let read = c.in_ok-entries.ensures.entries tells has.0 has.1 in
    let whole = forced_whole book has.0 (g.S.Store.disk c.args.store.now) has.1 bounds.first bounds.last c.requires.from c.requires.some c.requires.forced in
    absurd (none_is _ _ _ c.in_default.is c.of.ensures (subst (λ (l : List Entry). IsWhole bounds.first bounds.last l) (sym read) whole))) in
    absurd (omega (arith, never))

pub returns-clause-has : goal.returns-clause-has
returns-clause-has g c = λ n from upto.
    let told = some_match _ _ _ _ c.in-Some.is c.of.ensures in
    subst (λ (l : List Entry). has_entry n l ≡ true) (sym told.0) (has_there n c.args.bounds.first c.in_ok-entries.entries.items told.1.numbered from (omega (arith, upto, told.1.long)))

pub returns-clause-there : goal.returns-clause-there
returns-clause-there g c = λ tells all holds.
    let bounds = c.args.bounds in
    let book = c.args.book.now in
    let told = some_match _ _ _ _ c.in-Some.is c.of.ensures in
    let read = c.in_ok-entries.ensures.entries tells all holds in
    let below = forced_there book all (g.S.Store.disk c.args.store.now) holds bounds.last c.requires.forced in
    subst (λ (l : List Entry). IsStretch book.first all l) (sym told.0) (whole_stretch book.first bounds.first bounds.last all c.in_ok-entries.entries.items read told.1 c.requires.from
    c.requires.some below)
