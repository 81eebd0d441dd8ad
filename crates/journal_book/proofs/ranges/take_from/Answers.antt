use Rattle.std.proofs.Common.{◌≡◌, ◌++◌, ℕ, List, filter, Err, ◌∙◌, ap}
use Rattle.std.proofs.lemmas.Result.{err_from_is_err_and}
use Rattle.entry_codec.specs.declared.entries.Entry.{Entry}
use Rattle.receiver_chain.proofs.Kept.{holds_stays, is_held_stays}
use Rattle.journal_book.specs.Reads.{is_between}
use Rattle.journal_book.specs.declared.fault.BookFault.{BookFault}
use Rattle.journal_book.specs.declared.fault.BookFault.TheVariants.{BlockChanged}
use Rattle.journal_book.proofs.Taking.{none_is, some_match}
use Rattle.journal_book.proofs.ranges.take_from.Goals as goal

pub take_all-requires : goal.take_all-requires
take_all-requires g c = record { held = λ tells. is_held_stays c.args.chain.now (g.S.Store.disk c.args.store.now) (g.S.Store.disk c.take_start.new.store) c.take_start.ensures.stays (c.requires.held tells) }

pub take_behind-requires-clause-held : goal.take_behind-requires-clause-held
take_behind-requires-clause-held g c = λ tells. is_held_stays c.args.chain.now (g.S.Store.disk c.args.store.now) (g.S.Store.disk c.take_start.new.store) c.take_start.ensures.stays (c.requires.held tells)

pub returns-in_err-reached-clause-whole : goal.returns-in_err-reached-clause-whole
returns-in_err-reached-clause-whole g c = λ sequence area at is tells kept entries holds on.
    let p = err_from_is_err_and c.from_residual.result c.from_residual.ensures.1 in
    let same : c.in_err-reached.field-0.0 ≡ BlockChanged sequence area at = cc (p.1, p.2, is) in
    c.in_err-reached.ensures.whole sequence area at (ap (λ (e : BookFault). Err e) same)

pub returns-in_err-take_all-clause-whole : goal.returns-in_err-take_all-clause-whole
returns-in_err-take_all-clause-whole g c = λ sequence area at is tells kept entries holds on.
    let p = err_from_is_err_and c.from_residual-in_err-take_all.result c.from_residual-in_err-take_all.ensures.1 in
    let same : c.in_err-take_all.field-0.0 ≡ BlockChanged sequence area at = cc (p.1, p.2, is) in
    let there = holds_stays c.args.chain.now kept (g.S.Store.disk c.args.store.now) (g.S.Store.disk c.take_start.new.store) c.take_start.ensures.stays holds in
    c.in_err-take_all.ensures.whole sequence area at (ap (λ (e : BookFault). Err e) same) tells kept entries there on

pub returns-in_default-clause-taken : goal.returns-in_default-clause-taken
returns-in_default-clause-taken g c = λ tells kept entries holds on.
    let there = holds_stays c.args.chain.now kept (g.S.Store.disk c.args.store.now) (g.S.Store.disk c.take_start.new.store) c.take_start.ensures.stays holds in
    c.in_ok-take_all.ensures.taken tells kept entries there on
    ∙ ap (λ (l : List Entry). l ++ filter (is_between c.args.range.lo c.args.range.hi) entries) (none_is _ _ _ c.in_default.is (c.in_ok-reached.ensures.taken tells kept entries holds on))

pub returns-in_err-take_behind-clause-whole : goal.returns-in_err-take_behind-clause-whole
returns-in_err-take_behind-clause-whole g c = λ sequence area at is tells kept entries holds on.
    let p = err_from_is_err_and c.from_residual-in_err-take_behind.result c.from_residual-in_err-take_behind.ensures.1 in
    let same : c.in_err-take_behind.field-0.0 ≡ BlockChanged sequence area at = cc (p.1, p.2, is) in
    let there = holds_stays c.args.chain.now kept (g.S.Store.disk c.args.store.now) (g.S.Store.disk c.take_start.new.store) c.take_start.ensures.stays holds in
    c.in_err-take_behind.ensures.whole sequence area at (ap (λ (e : BookFault). Err e) same) tells kept entries c.args.found.now.items there (some_match _ _ _ _ c.in-Some.is (c.in_ok-reached.ensures.taken tells kept entries holds on))

pub returns-clause-taken : goal.returns-clause-taken
returns-clause-taken g c = λ tells kept entries holds on.
    let there = holds_stays c.args.chain.now kept (g.S.Store.disk c.args.store.now) (g.S.Store.disk c.take_start.new.store) c.take_start.ensures.stays holds in
    c.in_ok-take_behind.ensures.taken tells kept entries c.args.found.now.items there (some_match _ _ _ _ c.in-Some.is (c.in_ok-reached.ensures.taken tells kept entries holds on))
