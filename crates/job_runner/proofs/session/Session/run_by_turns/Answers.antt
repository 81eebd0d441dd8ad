use Rattle.std.proofs.Common.{◌≡◌, ℕ, ◌+◌, List, ◌∷◌, [], drop, length, get_or, arith, refl, sym, ap, subst}
use Rattle.std.proofs.lemmas.List.{drop_all, drop_more}
use Rattle.library_model.specs.declared.calls.Call.{Call}
use Rattle.job_runner.specs.declared.session.Stepped.TheVariants as stepped
use Rattle.job_runner.specs.Ended.{has_ended}
use Rattle.job_runner.specs.Turns.{AreByTurns}
use Rattle.job_runner.proofs.RunLemmas.{HasDone, HasBegun-none, HasBegun-call, HasBegun-same, HasBegun-end, HasBegun-done, HasBegun-scripts, still-open}
use Rattle.job_runner.proofs.TurnLemmas.{AreByTurns-call, AreByTurns-past}
use Rattle.job_runner.proofs.session.Session.run_by_turns.Goals.{in-Called, in-Ended}
use Rattle.job_runner.proofs.session.Session.run_by_turns.Goals as goal

pub returns-in-Stopped-clause-made : goal.returns-in-Stopped-clause-made
returns-in-Stopped-clause-made g c =
    let jobs = length c.args.self.now.scripts.scripts in
    let whole = AreByTurns jobs c.args.turns.now c.args.self.now.calls in
    let rest = AreByTurns jobs (drop c.loop-turn.turn-index c.args.turns.now) c.loop-turn.self.calls in
    HasBegun-end g.S.Store.tells g.S.Store.disk g.C.Clock.gives c.args.self.now c.loop-turn.self c.step_job.new.self whole rest c.loop-turn.invariant (c.in-Stopped.ensures.unchanged (λ e. cc)) tt

pub returns-in-NoMemory-clause-made : goal.returns-in-NoMemory-clause-made
returns-in-NoMemory-clause-made g c =
    let jobs = length c.args.self.now.scripts.scripts in
    let whole = AreByTurns jobs c.args.turns.now c.args.self.now.calls in
    let rest = AreByTurns jobs (drop c.loop-turn.turn-index c.args.turns.now) c.loop-turn.self.calls in
    HasBegun-end g.S.Store.tells g.S.Store.disk g.C.Clock.gives c.args.self.now c.loop-turn.self c.step_job.new.self whole rest c.loop-turn.invariant (c.in-NoMemory.ensures.unchanged (λ e. cc)) tt

pub loop-turn-preserved : goal.loop-turn-preserved
loop-turn-preserved g c =
    let jobs = length c.args.self.now.scripts.scripts in
    let turns = c.args.turns.now in
    let turn = get_or turns c.loop-turn.turn-index 0 in
    let left = drop (c.loop-turn.turn-index + 1) turns in
    let split : drop c.loop-turn.turn-index turns ≡ turn ∷ left = drop_more turns c.loop-turn.turn-index 0 c.loop-turn-test.true in
    let calls = c.loop-turn.self.calls in
    let whole = AreByTurns jobs turns c.args.self.now.calls in
    let rest = AreByTurns jobs (drop c.loop-turn.turn-index turns) calls in
    let next = AreByTurns jobs left c.step_job.new.self.calls in
    elim c.match-step_job.branch [
      | in-Called w ↦
          let called = w.in-Called.ensures.called refl in
          let goes = still-open stepped.Called (has_ended turn calls) (λ e. cc) w.in-Called.ensures.ended in
          HasBegun-call g.S.Store.tells g.S.Store.disk g.C.Clock.gives c.args.self.now c.loop-turn.self c.step_job.new.self whole rest next called.0 c.loop-turn.invariant called.2
          (λ more is. subst (λ (ts : List ℕ). AreByTurns jobs ts calls (called.0 ∷ more)) (sym split)
          (AreByTurns-call jobs turn left calls called.0 more called.1 goes (subst (λ (cs : List Call). AreByTurns jobs left cs more) called.2.calls is)))
      | in-Ended w ↦
          let same = w.in-Ended.ensures.unchanged (λ e. cc) in
          let stays : c.step_job.new.self.calls ≡ calls = ap (λ s. s.calls) same in
          HasBegun-same g.S.Store.tells g.S.Store.disk g.C.Clock.gives c.args.self.now c.loop-turn.self c.step_job.new.self whole rest next c.loop-turn.invariant same
          (λ more is. subst (λ (ts : List ℕ). AreByTurns jobs ts calls more) (sym split)
          (AreByTurns-past jobs turn left calls more (w.in-Ended.ensures.ended.0 refl) (subst (λ (cs : List Call). AreByTurns jobs left cs more) stays is)))
    ]

pub returns-clause-made : goal.returns-clause-made
returns-clause-made g c =
    let jobs = length c.args.self.now.scripts.scripts in
    let whole = AreByTurns jobs c.args.turns.now c.args.self.now.calls in
    let rest = AreByTurns jobs (drop c.loop-turn.turn-index c.args.turns.now) c.loop-turn.self.calls in
    let same = HasBegun-scripts g.S.Store.tells g.S.Store.disk g.C.Clock.gives c.args.self.now c.loop-turn.self whole rest c.loop-turn.invariant in
    let none = drop_all c.loop-turn.turn-index c.args.turns.now (omega (arith, c.loop-turn-test.false)) in
    let ran = subst (λ (n : ℕ). HasDone g.S.Store.tells g.S.Store.disk g.C.Clock.gives c.loop-turn.self c.run_to_ends.new.self (AreByTurns n [] c.loop-turn.self.calls)) same c.run_to_ends.ensures.made in
    HasBegun-done g.S.Store.tells g.S.Store.disk g.C.Clock.gives c.args.self.now c.loop-turn.self c.run_to_ends.new.self whole rest c.loop-turn.invariant
    (subst (λ (ts : List ℕ). HasDone g.S.Store.tells g.S.Store.disk g.C.Clock.gives c.loop-turn.self c.run_to_ends.new.self (AreByTurns jobs ts c.loop-turn.self.calls)) (sym none) ran)

pub loop-turn-init : goal.loop-turn-init
loop-turn-init g c = HasBegun-none g.S.Store.tells g.S.Store.disk g.C.Clock.gives c.args.self.now (AreByTurns (length c.args.self.now.scripts.scripts) c.args.turns.now c.args.self.now.calls)
