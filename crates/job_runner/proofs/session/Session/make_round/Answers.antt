use Rattle.std.proofs.Common.{◌≡◌, ◌∙◌, ◌+◌, ◌<◌, List, length, arith, refl, sym, ap, subst, rules}
use Rattle.library_model.specs.declared.calls.Call.{Call}
use Rattle.job_runner.specs.declared.session.Stepped.TheVariants as stepped
use Rattle.job_runner.specs.Ended.{has_ended}
use Rattle.job_runner.specs.Turns.{AreInRound}
use Rattle.job_runner.proofs.RunLemmas.{HasBegun-none, HasBegun-call, HasBegun-same, round-whole, round-cut, all-nearer, ended-more, still-open}
use Rattle.job_runner.proofs.TurnLemmas.{AreInRound-call, AreInRound-past}
use Rattle.job_runner.proofs.session.Session.make_round.Goals.{in-Called, in-Ended}
use Rattle.job_runner.proofs.session.Session.make_round.Goals as goal

pub returns-in-Stopped-clause-made : goal.returns-in-Stopped-clause-made
returns-in-Stopped-clause-made g c =
    let jobs = length c.args.self.now.scripts.scripts in
    let same = c.in-Stopped.ensures.unchanged (λ e. cc) in
    round-cut g.S.Store.tells g.S.Store.disk g.C.Clock.gives c.args.self.now c.loop-job.self c.step_job.new.self jobs c.loop-job.job stepped.Stopped (λ e. cc) same c.loop-job.invariant.made

pub returns-in-NoMemory-clause-made : goal.returns-in-NoMemory-clause-made
returns-in-NoMemory-clause-made g c =
    let jobs = length c.args.self.now.scripts.scripts in
    let same = c.in-NoMemory.ensures.unchanged (λ e. cc) in
    round-cut g.S.Store.tells g.S.Store.disk g.C.Clock.gives c.args.self.now c.loop-job.self c.step_job.new.self jobs c.loop-job.job stepped.NoMemory (λ e. cc) same c.loop-job.invariant.made

pub loop-job-preserved : goal.loop-job-preserved
loop-job-preserved g c =
    let jobs = length c.args.self.now.scripts.scripts in
    let last = c.loop-job.job in
    let calls = c.loop-job.self.calls in
    let whole = AreInRound jobs 0 c.args.self.now.calls in
    let rest = AreInRound jobs last calls in
    let next = AreInRound jobs (last + 1) c.step_job.new.self.calls in
    let within : last < jobs = omega (arith, c.loop-job-test.true, c.jobs-jobs.ensures.jobs) in
    elim c.match-step_job.branch [
      | in-Called w ↦
          let called = w.in-Called.ensures.called refl in
          let goes = still-open stepped.Called (has_ended (last + 1) calls) (λ e. cc) w.in-Called.ensures.ended in
          let nearer = all-nearer jobs (last + 1) calls c.step_job.new.self.calls called.0 (omega arith) (omega (arith, within)) called.1 called.2.calls (w.in-Called.ensures.nearer refl) in
          let flag = w.called-is in
          record {
            ended = λ quiet. absurd (let f = quiet in let t = flag in cc);
            nearer = rw flag (omega (arith, nearer, c.loop-job.invariant.nearer));
            made = HasBegun-call g.S.Store.tells g.S.Store.disk g.C.Clock.gives c.args.self.now c.loop-job.self c.step_job.new.self whole rest next called.0 c.loop-job.invariant.made called.2
                (λ more is. AreInRound-call jobs last calls called.0 more within called.1 goes (subst (λ (cs : List Call). AreInRound jobs (last + 1) cs more) called.2.calls is));
          }
      | in-Ended w ↦
          let same = w.in-Ended.ensures.unchanged (λ e. cc) in
          let ended = w.in-Ended.ensures.ended.0 refl in
          let flag = w.called-is in
          let stays : c.step_job.new.self.calls ≡ calls = ap (λ s. s.calls) same in
          record {
            ended = λ quiet. ended-more calls c.step_job.new.self.calls last stays (c.loop-job.invariant.ended (sym flag ∙ quiet)) ended;
            nearer = rw (flag, stays) c.loop-job.invariant.nearer;
            made = HasBegun-same g.S.Store.tells g.S.Store.disk g.C.Clock.gives c.args.self.now c.loop-job.self c.step_job.new.self whole rest next c.loop-job.invariant.made same
                (λ more is. AreInRound-past jobs last calls more within ended (subst (λ (cs : List Call). AreInRound jobs (last + 1) cs more) stays is));
          }
    ]

pub returns-then-called-clause-made : goal.returns-then-called-clause-made
returns-then-called-clause-made g c =
    let at_end : c.loop-job.job ≡ length c.args.self.now.scripts.scripts = search rules in
    round-whole g.S.Store.tells g.S.Store.disk g.C.Clock.gives c.args.self.now c.loop-job.self (length c.args.self.now.scripts.scripts) c.loop-job.job stepped.Called at_end c.loop-job.invariant.made

pub returns-else-called-clause-made : goal.returns-else-called-clause-made
returns-else-called-clause-made g c =
    let at_end : c.loop-job.job ≡ length c.args.self.now.scripts.scripts = search rules in
    round-whole g.S.Store.tells g.S.Store.disk g.C.Clock.gives c.args.self.now c.loop-job.self (length c.args.self.now.scripts.scripts) c.loop-job.job stepped.Ended at_end c.loop-job.invariant.made

pub loop-job-init : goal.loop-job-init
loop-job-init g c = record {
  ended = λ quiet job from until. absurd (omega (arith, from, until));
  nearer = omega arith;
  made = HasBegun-none g.S.Store.tells g.S.Store.disk g.C.Clock.gives c.args.self.now (AreInRound (length c.args.self.now.scripts.scripts) 0 c.args.self.now.calls);
}
