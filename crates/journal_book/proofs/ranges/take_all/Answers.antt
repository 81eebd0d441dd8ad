use Rattle.std.proofs.Common.{◌≡◌, ◌-◌, ℕ, Err, ◌∙◌, ap}
use Rattle.std.proofs.lemmas.Result.{err_from_is_err_and}
use Rattle.gated_log.specs.Log.{LogState}
use Rattle.journal_book.specs.declared.fault.BookFault.{BookFault}
use Rattle.journal_book.specs.declared.fault.BookFault.TheVariants.{BlockChanged}
use Rattle.journal_book.proofs.Starting.{ahead_begin}
use Rattle.journal_book.proofs.ranges.take_all.Goals as goal

pub returns-in_err-take_behind-clause-whole : goal.returns-in_err-take_behind-clause-whole
returns-in_err-take_behind-clause-whole g c = λ sequence area at is tells kept entries holds on.
    let p = err_from_is_err_and c.from_residual.result c.from_residual.ensures.1 in
    let same : c.in_err-take_behind.field-0.0 ≡ BlockChanged sequence area at = cc (p.1, p.2, is) in
    let begins = c.receiver_of-receiver.ensures in
    let first = c.first.ensures ∙ ap (λ (l : LogState). l.first) c.log.ensures in
    let ahead =
    ahead_begin c.args.range.lo c.args.range.hi c.args.chain.now kept (g.S.Store.disk c.args.store.now) entries c.receiver_of-receiver.result holds on begins.from begins.upto c.args.found.now.items c.saturating_sub-last.result begins.begins
    (c.saturating_sub-last.ensures ∙ ap (λ (n : ℕ). n - 1) first) in
    c.in_err-take_behind.ensures.whole sequence area at (ap (λ (e : BookFault). Err e) same) tells kept entries c.args.found.now.items holds ahead

pub returns-clause-taken : goal.returns-clause-taken
returns-clause-taken g c = λ tells kept entries holds on.
    let begins = c.receiver_of-receiver.ensures in
    let first = c.first.ensures ∙ ap (λ (l : LogState). l.first) c.log.ensures in
    let ahead =
    ahead_begin c.args.range.lo c.args.range.hi c.args.chain.now kept (g.S.Store.disk c.args.store.now) entries c.receiver_of-receiver.result holds on begins.from begins.upto c.args.found.now.items c.saturating_sub-last.result begins.begins
    (c.saturating_sub-last.ensures ∙ ap (λ (n : ℕ). n - 1) first) in
    c.in_ok-take_behind.ensures.taken tells kept entries c.args.found.now.items holds ahead
