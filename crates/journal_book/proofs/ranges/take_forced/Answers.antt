use Rattle.std.proofs.Common.{◌≡◌, ℕ, Err, ap}
use Rattle.std.proofs.lemmas.Result.{err_from_is_err_and}
use Rattle.journal_book.specs.declared.fault.BookFault.{BookFault}
use Rattle.journal_book.specs.declared.fault.BookFault.TheVariants.{BlockChanged}
use Rattle.journal_book.proofs.ranges.take_forced.Goals as goal

pub returns-in_err-take_all-clause-whole : goal.returns-in_err-take_all-clause-whole
returns-in_err-take_all-clause-whole g c = λ sequence area at is.
    let p = err_from_is_err_and c.from_residual.result c.from_residual.ensures.1 in
    let same : c.in_err-take_all.field-0.0 ≡ BlockChanged sequence area at = cc (p.1, p.2, is) in
    c.in_err-take_all.ensures.whole sequence area at (ap (λ (e : BookFault). Err e) same)

pub returns-in_err-take_from-clause-whole : goal.returns-in_err-take_from-clause-whole
returns-in_err-take_from-clause-whole g c = λ sequence area at is.
    let p = err_from_is_err_and c.from_residual-in_err-take_from.result c.from_residual-in_err-take_from.ensures.1 in
    let same : c.in_err-take_from.field-0.0 ≡ BlockChanged sequence area at = cc (p.1, p.2, is) in
    c.in_err-take_from.ensures.whole sequence area at (ap (λ (e : BookFault). Err e) same)
