use Rattle.std.proofs.Common.{◌≡◌, ℕ, List, [], get_or, Err, sym, ◌∙◌, ap, subst}
use Rattle.std.proofs.lemmas.Result.{err_from_is_err_and}
use Rattle.receiver_chain.specs.Receivers.{receiver_at}
use Rattle.journal_book.specs.Entries.{IsBlock}
use Rattle.journal_book.specs.declared.fault.BookFault.{BookFault}
use Rattle.journal_book.specs.declared.fault.BookFault.TheVariants.{BlockChanged}
use Rattle.journal_book.proofs.placing.begins_there.Goals as goal

pub returns-in_err-block-clause-whole : goal.returns-in_err-block-clause-whole
returns-in_err-block-clause-whole g c = λ other area at is.
    let p = err_from_is_err_and c.from_residual.result c.from_residual.ensures.1 in
    let same : c.in_err-block.field-0.0 ≡ BlockChanged other area at = cc (p.1, p.2, is) in
    c.in_err-block.ensures.whole other area at (ap (λ (e : BookFault). Err e) same)

pub returns-clause-begins : goal.returns-clause-begins
returns-clause-begins g c = λ found tells kept group holds is.
    let bytes : c.deref.result.now ≡ get_or (receiver_at c.args.chain.now.first kept c.args.start.receiver).blocks c.args.start.n [] = c.deref.ensures.value ∙ c.in_ok-block.ensures.block tells kept holds in
    c.in_ok-found.ensures found group (subst (λ (b : List ℕ). IsBlock group b) (sym bytes) is)
