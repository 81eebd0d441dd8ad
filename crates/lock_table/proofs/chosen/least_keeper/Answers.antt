-- A job that keeps one is the least, since those before it don't; one that doesn't is passed over.
use Rattle.std.proofs.Common.{◌≤◌, arith, sym, ◌∙◌}
use Rattle.lock_table.specs.Lock.{is_boundary_in}
use Rattle.lock_table.proofs.Found.{NoneBefore-next, NoneBefore-start, least_job-here, least_job-none, next_least}
use Rattle.lock_table.proofs.chosen.least_keeper.Goals as goal

pub loop-first-init : goal.loop-first-init
loop-first-init c = NoneBefore-start (is_boundary_in c.args.member) c.args.tree.now

pub returns-then-keeps_in : goal.returns-then-keeps_in
returns-then-keeps_in c =
    sym (least_job-here (is_boundary_in c.args.member) c.loop-first.from c.args.tree.now c.requires c.loop-first.invariant c.in-Some.first (sym c.in-Some.ensures) (sym c.keeps_in.ensures ∙ c.if-keeps_in.true))

pub loop-first-preserved : goal.loop-first-preserved
loop-first-preserved c = NoneBefore-next (is_boundary_in c.args.member) c.loop-first.from c.args.tree.now c.requires c.loop-first.invariant c.in-Some.first (sym c.in-Some.ensures) (sym c.keeps_in.ensures ∙ c.if-keeps_in.false)

pub loop-first-smaller : goal.loop-first-smaller
loop-first-smaller c =
    let least : c.loop-first.from ≤ c.in-Some.first.job = next_least (is_boundary_in c.args.member) c.loop-first.from c.args.tree.now c.requires c.loop-first.invariant c.in-Some.first (sym c.in-Some.ensures) in
    omega arith

pub returns : goal.returns
returns c = sym (least_job-none (is_boundary_in c.args.member) c.loop-first.from c.args.tree.now c.requires c.loop-first.invariant (sym c.in_default.ensures))
