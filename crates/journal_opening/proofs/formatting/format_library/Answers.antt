use Rattle.std.proofs.Common.{◌≡◌, ap, Err}
use Rattle.std.proofs.lemmas.Result.{err_from_is_err_and}
use Rattle.journal_opening.specs.declared.fault.FormatFault.{FormatFault}
use Rattle.journal_opening.specs.declared.fault.FormatFault.TheVariants.{NoMemory}
use Rattle.journal_opening.proofs.Moments.{formatting_since, formatting_stays, receiver_since}
use Rattle.journal_opening.proofs.formatting.format_library.Goals as goal

pub returns-in_err-is_written-clause-moments : goal.returns-in_err-is_written-clause-moments
returns-in_err-is_written-clause-moments g c = λ tells. formatting_stays _ _ c.is_written.ensures.stays

pub returns-then-branch-clause-moments : goal.returns-then-branch-clause-moments
returns-then-branch-clause-moments g c = λ tells. formatting_stays _ _ c.is_written.ensures.stays

pub returns-in_err-make_library-clause-moments : goal.returns-in_err-make_library-clause-moments
returns-in_err-make_library-clause-moments g c = λ tells.
    formatting_since (g.S.Store.disk c.args.store.now) (g.S.Store.disk c.is_written.new.store) (g.S.Store.disk c.make_library.new.store) c.is_written.ensures.stays
    (c.make_library.ensures.moments tells)

pub returns-clause-moments : goal.returns-clause-moments
returns-clause-moments g c = λ tells.
    formatting_since (g.S.Store.disk c.args.store.now) (g.S.Store.disk c.is_written.new.store) (g.S.Store.disk c.make_library.new.store) c.is_written.ensures.stays
    (c.make_library.ensures.moments tells)

pub returns-in_err-make_library-clause-no_memory : goal.returns-in_err-make_library-clause-no_memory
returns-in_err-make_library-clause-no_memory g c = λ is.
    let p = err_from_is_err_and c.from_residual-in_err-make_library.result c.from_residual-in_err-make_library.ensures.1 in
    let same : c.in_err-make_library.field-0.0 ≡ NoMemory = cc (p.1, p.2, is) in
    receiver_since (g.S.Store.disk c.args.store.now) (g.S.Store.disk c.is_written.new.store) (g.S.Store.disk c.make_library.new.store) c.is_written.ensures.stays
    (c.in_err-make_library.ensures.no_memory (ap (λ (e : FormatFault). Err e) same))

-- a store that has bytes in area 0 doesn't come so far

pub returns-in_err-make_library-clause-kept : goal.returns-in_err-make_library-clause-kept
returns-in_err-make_library-clause-kept g c = λ tells some. absurd (some (c.in_ok-is_written.ensures.none c.if-branch.false tells))

pub returns-clause-kept : goal.returns-clause-kept
returns-clause-kept g c = λ tells some. absurd (some (c.in_ok-is_written.ensures.none c.if-branch.false tells))

-- a store that is made a library had none

pub returns-clause-empty : goal.returns-clause-empty
returns-clause-empty g c = c.in_ok-is_written.ensures.none c.if-branch.false
