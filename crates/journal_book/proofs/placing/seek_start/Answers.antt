use Rattle.std.proofs.Common.{◌≡◌, ◌<◌, ℕ, List, [], length, Err, sym, ap, subst, arith}
use Rattle.std.proofs.lemmas.Result.{err_from_is_err_and}
use Rattle.receiver_chain.specs.Receivers.{receiver_at}
use Rattle.journal_book.specs.Reads.{IsAhead, blocks_from}
use Rattle.journal_book.specs.declared.fault.BookFault.{BookFault}
use Rattle.journal_book.specs.declared.fault.BookFault.TheVariants.{BlockChanged}
use Rattle.journal_book.proofs.Counts.{count_is}
use Rattle.journal_book.proofs.Starting.{ahead_begin, ahead_there}
use Rattle.journal_book.proofs.placing.seek_start.Goals as goal

pub returns-in_default-clause-ahead : goal.returns-in_default-clause-ahead
returns-in_default-clause-ahead g c = λ tells kept entries holds on.
    let s = c.args.sequence in
    let chain = c.args.chain.now in
    let is = c.first_start-first.ensures in
    let start = c.first_start-first.result in
    subst (λ (n : ℕ). IsAhead s s entries [] start.before [] (blocks_from chain.first kept start.receiver n)) (sym is.front)
    (ahead_begin s s chain kept (g.S.Store.disk c.args.store.now) entries start.receiver holds on is.from is.upto [] start.before is.begins is.before)

pub returns-in_err-begins_there-clause-whole : goal.returns-in_err-begins_there-clause-whole
returns-in_err-begins_there-clause-whole g c = λ other area at is.
    let p = err_from_is_err_and c.from_residual.result c.from_residual.ensures.1 in
    let same : c.in_err-begins_there.field-0.0 ≡ BlockChanged other area at = cc (p.1, p.2, is) in
    c.in_err-begins_there.ensures.whole other area at (ap (λ (e : BookFault). Err e) same)

pub returns-then-branch-clause-ahead : goal.returns-then-branch-clause-ahead
returns-then-branch-clause-ahead g c = λ tells kept entries holds on.
    let s = c.args.sequence in
    let chain = c.args.chain.now in
    let start = c.in-Some.start in
    let is = c.in-Some.ensures in
    let below : start.n < length (receiver_at chain.first kept start.receiver).blocks = omega (arith, is.below, count_is chain kept (g.S.Store.disk c.args.store.now) start.receiver holds is.from is.upto) in
    ahead_there s s chain kept (g.S.Store.disk c.args.store.now) entries start.receiver holds on is.from is.upto start.n start.before below is.before (λ group block. c.in_ok-begins_there.ensures.begins c.if-branch.true tells kept group holds block) []

pub returns-else-branch-clause-ahead : goal.returns-else-branch-clause-ahead
returns-else-branch-clause-ahead g c = λ tells kept entries holds on.
    let s = c.args.sequence in
    let chain = c.args.chain.now in
    let is = c.first_start-front.ensures in
    let start = c.first_start-front.result in
    subst (λ (n : ℕ). IsAhead s s entries [] start.before [] (blocks_from chain.first kept start.receiver n)) (sym is.front)
    (ahead_begin s s chain kept (g.S.Store.disk c.args.store.now) entries start.receiver holds on is.from is.upto [] start.before is.begins is.before)
