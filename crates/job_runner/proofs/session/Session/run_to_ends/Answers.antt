use Rattle.std.proofs.Common.{ℕ, [], length, arith, refl, rules, subst}
use Rattle.job_runner.specs.Turns.{AreByTurns}
use Rattle.job_runner.proofs.RunLemmas.{HasDone, HasBegun-none, HasBegun-done, HasBegun-end, HasBegun-job, HasBegun-scripts}
use Rattle.job_runner.proofs.session.Session.run_to_ends.Goals as goal

pub returns-then-ne-clause-made : goal.returns-then-ne-clause-made
returns-then-ne-clause-made g c =
    let jobs = length c.args.self.now.scripts.scripts in
    let whole = AreByTurns jobs [] c.args.self.now.calls in
    let rest = AreByTurns jobs [] c.loop-job.self.calls in
    let same = HasBegun-scripts g.S.Store.tells g.S.Store.disk g.C.Clock.gives c.args.self.now c.loop-job.self whole rest c.loop-job.invariant.made in
    let ran = subst (λ (n : ℕ). HasDone g.S.Store.tells g.S.Store.disk g.C.Clock.gives c.loop-job.self c.run_job-ran.new.self (AreByTurns n [] c.loop-job.self.calls)) same c.run_job-ran.ensures.made in
    HasBegun-done g.S.Store.tells g.S.Store.disk g.C.Clock.gives c.args.self.now c.loop-job.self c.run_job-ran.new.self whole rest c.loop-job.invariant.made ran

pub loop-job-preserved : goal.loop-job-preserved
loop-job-preserved g c =
    let jobs = length c.args.self.now.scripts.scripts in
    let whole = AreByTurns jobs [] c.args.self.now.calls in
    let rest = AreByTurns jobs [] c.loop-job.self.calls in
    let same = HasBegun-scripts g.S.Store.tells g.S.Store.disk g.C.Clock.gives c.args.self.now c.loop-job.self whole rest c.loop-job.invariant.made in
    let ran = subst (λ (n : ℕ). HasDone g.S.Store.tells g.S.Store.disk g.C.Clock.gives c.loop-job.self c.run_job-ran.new.self (AreByTurns n [] c.loop-job.self.calls)) same c.run_job-ran.ensures.made in
    record {
      ended = search rules;
      made = HasBegun-job g.S.Store.tells g.S.Store.disk g.C.Clock.gives c.args.self.now c.loop-job.self c.run_job-ran.new.self whole jobs c.loop-job.invariant.made ran;
    }

pub returns-clause-made : goal.returns-clause-made
returns-clause-made g c =
    let jobs = length c.args.self.now.scripts.scripts in
    HasBegun-end g.S.Store.tells g.S.Store.disk g.C.Clock.gives c.args.self.now c.loop-job.self c.loop-job.self (AreByTurns jobs [] c.args.self.now.calls) (AreByTurns jobs [] c.loop-job.self.calls) c.loop-job.invariant.made refl tt

pub loop-job-init : goal.loop-job-init
loop-job-init g c = record {
  ended = λ job from until. absurd (omega (arith, from, until));
  made = HasBegun-none g.S.Store.tells g.S.Store.disk g.C.Clock.gives c.args.self.now (AreByTurns (length c.args.self.now.scripts.scripts) [] c.args.self.now.calls);
}
