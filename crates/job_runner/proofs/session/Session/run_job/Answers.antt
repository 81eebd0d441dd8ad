use Rattle.std.proofs.Common.{◌<◌, ◌≤◌, ◌≢◌, ℕ, IsTrue, List, [], ◌∙◌, length, arith, refl, sym, ap, subst}
use Rattle.library_model.specs.declared.calls.Call.{Call}
use Rattle.job_runner.specs.declared.session.Stepped.TheVariants as stepped
use Rattle.job_runner.specs.Ended.{calls_of, ends_once, has_ended}
use Rattle.job_runner.specs.Turns.{AreByTurns}
use Rattle.job_runner.proofs.CallLemmas.{calls_of-append_other}
use Rattle.job_runner.proofs.RunLemmas.{HasBegun-none, HasBegun-call, HasBegun-end, still-open}
use Rattle.job_runner.proofs.TurnLemmas.{AreByTurns-first}
use Rattle.job_runner.proofs.session.Session.run_job.Goals as goal

pub loop-preserved : goal.loop-preserved
loop-preserved g c =
    let called = c.in-Called.ensures.called refl in
    let jobs = length c.args.self.now.scripts.scripts in
    let whole = AreByTurns jobs [] c.args.self.now.calls in
    let rest = AreByTurns jobs [] c.loop.self.calls in
    let next = AreByTurns jobs [] c.step_job.new.self.calls in
    let earlier : (other : ℕ) → 1 ≤ other → other < c.args.job → IsTrue (has_ended other c.loop.self.calls) = λ other from until.
    let far : other ≢ c.args.job = λ e. absurd (omega (arith, e, until)) in
    subst (λ (own : List Call). IsTrue (ends_once own)) (sym (c.loop.invariant.others other far)) (c.requires.earlier other from until) in
    let goes = still-open stepped.Called (has_ended c.args.job c.loop.self.calls) (λ e. cc) c.in-Called.ensures.ended in
    let apart = λ (other : ℕ) (differs : other ≢ c.args.job). calls_of-append_other other c.loop.self.calls called.0 (λ same. differs (sym same ∙ called.1)) in
    let first = λ (more : List Call) (is : next more). subst (λ (calls : List Call). AreByTurns jobs [] calls more) called.2.calls is in
    record {
      others = λ other differs. ap (calls_of other) called.2.calls ∙ apart other differs ∙ c.loop.invariant.others other differs;
      made =
          HasBegun-call g.S.Store.tells g.S.Store.disk g.C.Clock.gives c.args.self.now c.loop.self c.step_job.new.self whole rest next called.0 c.loop.invariant.made called.2
          (λ more is. AreByTurns-first jobs c.args.job c.loop.self.calls called.0 more called.1 c.requires.within earlier goes (first more is));
    }

pub returns-in-Ended-clause-made : goal.returns-in-Ended-clause-made
returns-in-Ended-clause-made g c =
    let jobs = length c.args.self.now.scripts.scripts in
    let whole = AreByTurns jobs [] c.args.self.now.calls in
    let rest = AreByTurns jobs [] c.loop.self.calls in
    HasBegun-end g.S.Store.tells g.S.Store.disk g.C.Clock.gives c.args.self.now c.loop.self c.step_job.new.self whole rest c.loop.invariant.made (c.in-Ended.ensures.unchanged (λ e. cc)) tt

pub returns-in-Stopped-clause-made : goal.returns-in-Stopped-clause-made
returns-in-Stopped-clause-made g c =
    let jobs = length c.args.self.now.scripts.scripts in
    let whole = AreByTurns jobs [] c.args.self.now.calls in
    let rest = AreByTurns jobs [] c.loop.self.calls in
    HasBegun-end g.S.Store.tells g.S.Store.disk g.C.Clock.gives c.args.self.now c.loop.self c.step_job.new.self whole rest c.loop.invariant.made (c.in-Stopped.ensures.unchanged (λ e. cc)) tt

pub returns-in-NoMemory-clause-made : goal.returns-in-NoMemory-clause-made
returns-in-NoMemory-clause-made g c =
    let jobs = length c.args.self.now.scripts.scripts in
    let whole = AreByTurns jobs [] c.args.self.now.calls in
    let rest = AreByTurns jobs [] c.loop.self.calls in
    HasBegun-end g.S.Store.tells g.S.Store.disk g.C.Clock.gives c.args.self.now c.loop.self c.step_job.new.self whole rest c.loop.invariant.made (c.in-NoMemory.ensures.unchanged (λ e. cc)) tt

pub loop-init : goal.loop-init
loop-init g c = record {
  others = λ other differs. refl;
  made = HasBegun-none g.S.Store.tells g.S.Store.disk g.C.Clock.gives c.args.self.now (AreByTurns (length c.args.self.now.scripts.scripts) [] c.args.self.now.calls);
}
