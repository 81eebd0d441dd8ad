use Rattle.std.proofs.Common.{◌≡◌, Err, length, ap, arith, rules}
use Rattle.journal_book.specs.declared.fault.BookFault.{BookFault}
use Rattle.ibmi_batch.proofs.ShownLemmas.{as-many, handed-on, unread-by}
use Rattle.ibmi_batch.proofs.showing.read_piece.Goals as goal

pub returns-in_err-found-clause-fault : goal.returns-in_err-found-clause-fault
returns-in_err-found-clause-fault g c =
    let its = c.in_err-found.ensures in
    handed-on _ _ _ c.from_residual.ensures.1
    (unread-by c.in_err-found.field-0.0 _ _ (λ is. its.cause (ap (λ (e : BookFault). Err e) is)) (λ sequence area at is. its.whole sequence area at (ap (λ (e : BookFault). Err e) is))
    (λ is. its.there c.requires.some (omega (arith, c.requires.least, c.requires.from)) (omega (arith, c.requires.forced)) (ap (λ (e : BookFault). Err e) is))
    (λ sequence is. its.kept c.requires.from sequence (ap (λ (e : BookFault). Err e) is)))

pub changed_block-requires-clause-untold : goal.changed_block-requires-clause-untold
changed_block-requires-clause-untold g c = λ told.
    let many =
    as-many g.S.Store.tells c.args.book.now (g.S.Store.disk c.args.store.now) c.args.lo c.args.hi c.in_ok-found.found.items c.requires.held c.requires.from c.requires.some c.requires.forced
    c.in_ok-found.ensures.entries told in
    let same : c.len.result ≡ length c.in_ok-found.found.items = search (rules, c.len.ensures) in
    absurd (c.if-len-hi.true (let some = c.requires.some in omega (arith, same, many, some)))

pub returns-then-len-hi-clause-cached : goal.returns-then-len-hi-clause-cached
returns-then-len-hi-clause-cached g c = λ told all holds.
    let many =
    as-many g.S.Store.tells c.args.book.now (g.S.Store.disk c.args.store.now) c.args.lo c.args.hi c.in_ok-found.found.items c.requires.held c.requires.from c.requires.some c.requires.forced
    c.in_ok-found.ensures.entries told in
    let same : c.len.result ≡ length c.in_ok-found.found.items = search (rules, c.len.ensures) in
    absurd (c.if-len-hi.true (let some = c.requires.some in omega (arith, same, many, some)))
