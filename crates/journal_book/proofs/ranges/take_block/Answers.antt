use Rattle.std.proofs.Common.{◌≡◌, ◌+◌, ◌++◌, ℕ, List, [], filter, get_or, length, Err, sym, ◌∙◌, ap, subst}
use Rattle.std.proofs.lemmas.Result.{err_from_is_err_and}
use Rattle.receiver_chain.specs.Receivers.{receiver_at}
use Rattle.journal_book.specs.Entries.{IsBlock}
use Rattle.journal_book.specs.declared.fault.BookFault.{BookFault}
use Rattle.journal_book.specs.declared.fault.BookFault.TheVariants.{BlockChanged}
use Rattle.journal_book.proofs.Taking.{none_match, some_match}
use Rattle.journal_book.proofs.ranges.take_block.Goals as goal

pub returns-in_err-block-clause-whole : goal.returns-in_err-block-clause-whole
returns-in_err-block-clause-whole g c = λ sequence area at is tells kept entries holds block numbered.
    let p = err_from_is_err_and c.from_residual.result c.from_residual.ensures.1 in
    let same : c.in_err-block.field-0.0 ≡ BlockChanged sequence area at = cc (p.1, p.2, is) in
    c.in_err-block.ensures.whole sequence area at (ap (λ (e : BookFault). Err e) same)

pub returns-in_default-clause-whole : goal.returns-in_default-clause-whole
returns-in_default-clause-whole g c = λ sequence area at is tells kept entries holds block numbered.
    let bytes : c.deref.result.now ≡ get_or (receiver_at c.args.chain.now.first kept c.args.place.receiver).blocks c.args.place.n [] = c.deref.ensures.value ∙ c.in_ok-block.ensures.block tells kept holds in
    none_match _ _ c.in_default.is (c.in_ok-taken.ensures entries (subst (λ (b : List ℕ). IsBlock entries b) (sym bytes) block) numbered)

pub returns-clause-taken : goal.returns-clause-taken
returns-clause-taken g c = λ tells kept entries holds block numbered.
    let bytes : c.deref.result.now ≡ get_or (receiver_at c.args.chain.now.first kept c.args.place.receiver).blocks c.args.place.n [] = c.deref.ensures.value ∙ c.in_ok-block.ensures.block tells kept holds in
    some_match _ _ _ _ c.in-Some.is (c.in_ok-taken.ensures entries (subst (λ (b : List ℕ). IsBlock entries b) (sym bytes) block) numbered)
