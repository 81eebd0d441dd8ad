use Rattle.std.proofs.Common.{ℕ, List, [], length, ap, ◌∙◌, subst, arith}
use Rattle.store_model.specs.Disk.{IsDurable}
use Rattle.gated_log.proofs.Numbers.{length-frame}
use Rattle.checkpoint.specs.Roots.{first_root, root_bytes}
use Rattle.checkpoint.proofs.RootBytes.{length-root_bytes}
use Rattle.checkpoint.proofs.Formats.{blank_moment, first_moment, formatted, none_moment, stays_here}
use Rattle.checkpoint.proofs.formatting.format_roots.Goals as goal

pub returns-in_err-log-clause-any_moment : goal.returns-in_err-log-clause-any_moment
returns-in_err-log-clause-any_moment g c = λ tells. none_moment (g.S.Store.disk c.args.store.now) (c.requires.empty tells) (c.requires.settled tells)

pub returns-in_err-log-clause-no_memory : goal.returns-in_err-log-clause-no_memory
returns-in_err-log-clause-no_memory g c = λ is. stays_here (g.S.Store.disk c.args.store.now)

pub returns-in_err-make-clause-any_moment : goal.returns-in_err-make-clause-any_moment
returns-in_err-make-clause-any_moment g c = λ tells. blank_moment (g.S.Store.disk c.args.store.now) (c.requires.empty tells) (c.requires.settled tells) (g.S.Store.disk c.make.new.store) c.make.ensures.short

pub append-requires-clause-settled : goal.append-requires-clause-settled
append-requires-clause-settled g c = λ tells. ∣ ([], c.in_ok-make.ensures.settled tells) ∣₁

pub append-requires-clause-small : goal.append-requires-clause-small
append-requires-clause-small g c = omega (arith, ap (λ (l : List ℕ). length l) c.framed_root.ensures, length-frame (root_bytes first_root), length-root_bytes first_root)

pub returns-in_err-append-clause-any_moment : goal.returns-in_err-append-clause-any_moment
returns-in_err-append-clause-any_moment g c = λ tells.
    first_moment (g.S.Store.disk c.args.store.now) (c.requires.empty tells) (c.requires.settled tells) c.in_ok-log.log (g.S.Store.disk c.make.new.store) (g.S.Store.disk c.append.new.store) c.in_ok-log.ensures.blank.area c.make.ensures.short
    (c.append.ensures.any_moment tells [] (root_bytes first_root) c.framed_root.ensures (c.in_ok-make.ensures.settled tells))

pub returns-clause-any_moment : goal.returns-clause-any_moment
returns-clause-any_moment g c = λ tells.
    first_moment (g.S.Store.disk c.args.store.now) (c.requires.empty tells) (c.requires.settled tells) c.in_ok-log.log (g.S.Store.disk c.make.new.store) (g.S.Store.disk c.append.new.store) c.in_ok-log.ensures.blank.area c.make.ensures.short
    (c.append.ensures.any_moment tells [] (root_bytes first_root) c.framed_root.ensures (c.in_ok-make.ensures.settled tells))

pub returns-clause-formatted : goal.returns-clause-formatted
returns-clause-formatted g c = λ tells.
    formatted c.append.new.self (g.S.Store.disk c.append.new.store) (c.append.ensures.same_area ∙ c.in_ok-log.ensures.blank.area)
    (c.in_ok-append.ensures.appended tells [] (root_bytes first_root) c.framed_root.ensures (c.in_ok-make.ensures.settled tells))

pub returns-clause-durable : goal.returns-clause-durable
returns-clause-durable g c = λ tells.
    subst (λ (a : ℕ). IsDurable a (g.S.Store.disk c.append.new.store)) (c.append.ensures.same_area ∙ c.in_ok-log.ensures.blank.area)
    (c.in_ok-append.ensures.appended tells [] (root_bytes first_root) c.framed_root.ensures (c.in_ok-make.ensures.settled tells)).durable
