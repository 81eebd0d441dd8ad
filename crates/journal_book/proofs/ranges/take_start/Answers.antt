use Rattle.std.proofs.Common.{◌≡◌, ◌+◌, ◌<◌, ℕ, List, [], get_or, length, Err, sym, ◌∙◌, ap, subst, arith}
use Rattle.std.proofs.lemmas.Result.{err_from_is_err_and}
use Rattle.receiver_chain.specs.Receivers.{receiver_at}
use Rattle.journal_book.specs.Entries.{IsBlock}
use Rattle.journal_book.specs.declared.fault.BookFault.{BookFault}
use Rattle.journal_book.specs.declared.fault.BookFault.TheVariants.{BlockChanged}
use Rattle.journal_book.proofs.Counts.{count_is}
use Rattle.journal_book.proofs.Starting.{start_taken}
use Rattle.journal_book.proofs.ranges.take_start.Goals as goal

pub returns-in_err-block-clause-whole : goal.returns-in_err-block-clause-whole
returns-in_err-block-clause-whole g c = λ sequence area at is.
    let p = err_from_is_err_and c.from_residual.result c.from_residual.ensures.1 in
    let same : c.in_err-block.field-0.0 ≡ BlockChanged sequence area at = cc (p.1, p.2, is) in
    c.in_err-block.ensures.whole sequence area at (ap (λ (e : BookFault). Err e) same)

pub returns-then-branch-clause-taken : goal.returns-then-branch-clause-taken
returns-then-branch-clause-taken g c = λ tells kept entries holds on.
    let chain = c.args.chain.now in
    let start = c.args.start in
    let block = get_or (receiver_at chain.first kept start.receiver).blocks start.n [] in
    let same : c.deref.result.now ≡ block = c.deref.ensures.value ∙ c.in_ok-block.ensures.block tells kept holds in
    let again : c.deref-then-branch.result.now ≡ block = c.deref-then-branch.ensures.value ∙ c.in_ok-block.ensures.block tells kept holds in
    let below : start.n < length (receiver_at chain.first kept start.receiver).blocks = omega (arith, c.requires.below, count_is chain kept (g.S.Store.disk c.args.store.now) start.receiver holds c.requires.from c.requires.upto) in
    start_taken c.args.range.lo c.args.range.hi chain kept (g.S.Store.disk c.args.store.now) entries start.receiver holds on c.requires.from c.requires.upto start.n start.before below c.requires.before
    (λ group is. c.in_ok-begins_behind.ensures c.if-branch.true group (subst (λ (b : List ℕ). IsBlock group b) (sym same) is)) _ c.args.found.now.items c.take_entries.new.found.items _
    (λ group is numbered. c.in_ok-taken.ensures group (subst (λ (b : List ℕ). IsBlock group b) (sym again) is) numbered)
