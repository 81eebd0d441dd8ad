use Rattle.std.proofs.Common.{◌≡◌, ◌+◌, ℕ, List, [], get_or, length, Err, sym, ◌∙◌, ap, subst}
use Rattle.std.proofs.lemmas.Result.{err_from_is_err_and}
use Rattle.gated_log.specs.Blocks.{StandsAt}
use Rattle.receiver_chain.specs.Receivers.{area_of, receiver_at}
use Rattle.journal_book.specs.Entries.{IsBlock}
use Rattle.journal_book.specs.Searches.{IsSought}
use Rattle.journal_book.specs.declared.fault.BookFault.{BookFault}
use Rattle.journal_book.specs.declared.fault.BookFault.TheVariants.{BlockChanged}
use Rattle.journal_book.proofs.Seeking.{stands_there}
use Rattle.journal_book.proofs.Taking.{none_match, some_match}
use Rattle.journal_book.proofs.placing.seek_block.Goals as goal

pub returns-in_err-block-clause-whole : goal.returns-in_err-block-clause-whole
returns-in_err-block-clause-whole g c = λ other area at is tells kept group holds block numbered.
    let p = err_from_is_err_and c.from_residual.result c.from_residual.ensures.1 in
    let same : c.in_err-block.field-0.0 ≡ BlockChanged other area at = cc (p.1, p.2, is) in
    c.in_err-block.ensures.whole other area at (ap (λ (e : BookFault). Err e) same)

pub returns-in_default-clause-whole : goal.returns-in_default-clause-whole
returns-in_default-clause-whole g c = λ other area at is tells kept group holds block numbered.
    let bytes : c.deref.result.now ≡ get_or (receiver_at c.args.chain.now.first kept c.args.place.receiver).blocks c.args.place.n [] = c.deref.ensures.value ∙ c.in_ok-block.ensures.block tells kept holds in
    none_match _ _ c.in_default.is (c.in_ok-sought.ensures group (subst (λ (b : List ℕ). IsBlock group b) (sym bytes) block) numbered)

pub returns-clause-sought : goal.returns-clause-sought
returns-clause-sought g c = λ tells kept group holds block numbered.
    let chain = c.args.chain.now in
    let receiver = c.args.place.receiver in
    let bytes : c.deref.result.now ≡ get_or (receiver_at chain.first kept receiver).blocks c.args.place.n [] = c.deref.ensures.value ∙ c.in_ok-block.ensures.block tells kept holds in
    let found = some_match _ _ _ _ c.in-Some.is (c.in_ok-sought.ensures group (subst (λ (b : List ℕ). IsBlock group b) (sym bytes) block) numbered) in
    let stands : StandsAt c.place-start.result c.deref.result.now ((g.S.Store.disk c.args.store.now).seen (area_of receiver)) =
    subst (λ (b : List ℕ). StandsAt c.place-start.result b ((g.S.Store.disk c.args.store.now).seen (area_of receiver))) (sym bytes)
    (stands_there chain kept (g.S.Store.disk c.args.store.now) receiver c.args.place.n c.place-start.result c.log-2.result.now holds c.requires.from c.requires.upto c.log-2.ensures c.place-start.ensures.stands) in
    c.moved-there.ensures c.args.sequence c.args.last group c.deref.result.now ((g.S.Store.disk c.args.store.now).seen (area_of receiver)) stands (g.met.S.Store.fits c.args.store.now (area_of receiver) tells) found
