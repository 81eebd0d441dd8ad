use Rattle.std.proofs.Common.{ℕ, length, refl, subst}
use Rattle.job_runner.specs.declared.session.Stepped.TheVariants as stepped
use Rattle.job_runner.specs.Turns.{AreInRound}
use Rattle.job_runner.proofs.RunLemmas.{HasMadeRound, HasBegun-none, HasBegun-done, HasBegun-more, HasBegun-scripts}
use Rattle.job_runner.proofs.session.Session.run_in_rounds.Goals as goal

pub loop-preserved : goal.loop-preserved
loop-preserved g c =
    let jobs = length c.args.self.now.scripts.scripts in
    let whole = AreInRound jobs 0 c.args.self.now.calls in
    let rest = AreInRound jobs 0 c.loop.self.calls in
    let same = HasBegun-scripts g.S.Store.tells g.S.Store.disk g.C.Clock.gives c.args.self.now c.loop.self whole rest c.loop.invariant in
    let round = subst (λ (n : ℕ). HasMadeRound g.S.Store.tells g.S.Store.disk g.C.Clock.gives c.loop.self c.make_round.new.self n stepped.Called) same c.in-Called.ensures.made in
    HasBegun-more g.S.Store.tells g.S.Store.disk g.C.Clock.gives c.args.self.now c.loop.self c.make_round.new.self whole rest (AreInRound jobs 0 c.make_round.new.self.calls) c.loop.invariant (round.0, round.1, round.3 refl)

pub returns-in-Ended-clause-made : goal.returns-in-Ended-clause-made
returns-in-Ended-clause-made g c =
    let jobs = length c.args.self.now.scripts.scripts in
    let whole = AreInRound jobs 0 c.args.self.now.calls in
    let rest = AreInRound jobs 0 c.loop.self.calls in
    let same = HasBegun-scripts g.S.Store.tells g.S.Store.disk g.C.Clock.gives c.args.self.now c.loop.self whole rest c.loop.invariant in
    let round = subst (λ (n : ℕ). HasMadeRound g.S.Store.tells g.S.Store.disk g.C.Clock.gives c.loop.self c.make_round.new.self n stepped.Ended) same c.in-Ended.ensures.made in
    HasBegun-done g.S.Store.tells g.S.Store.disk g.C.Clock.gives c.args.self.now c.loop.self c.make_round.new.self whole rest c.loop.invariant (round.0, round.1, round.2)

pub returns-in-Stopped-clause-made : goal.returns-in-Stopped-clause-made
returns-in-Stopped-clause-made g c =
    let jobs = length c.args.self.now.scripts.scripts in
    let whole = AreInRound jobs 0 c.args.self.now.calls in
    let rest = AreInRound jobs 0 c.loop.self.calls in
    let same = HasBegun-scripts g.S.Store.tells g.S.Store.disk g.C.Clock.gives c.args.self.now c.loop.self whole rest c.loop.invariant in
    let round = subst (λ (n : ℕ). HasMadeRound g.S.Store.tells g.S.Store.disk g.C.Clock.gives c.loop.self c.make_round.new.self n stepped.Stopped) same c.in-Stopped.ensures.made in
    HasBegun-done g.S.Store.tells g.S.Store.disk g.C.Clock.gives c.args.self.now c.loop.self c.make_round.new.self whole rest c.loop.invariant (round.0, round.1, round.2)

pub returns-in-NoMemory-clause-made : goal.returns-in-NoMemory-clause-made
returns-in-NoMemory-clause-made g c =
    let jobs = length c.args.self.now.scripts.scripts in
    let whole = AreInRound jobs 0 c.args.self.now.calls in
    let rest = AreInRound jobs 0 c.loop.self.calls in
    let same = HasBegun-scripts g.S.Store.tells g.S.Store.disk g.C.Clock.gives c.args.self.now c.loop.self whole rest c.loop.invariant in
    let round = subst (λ (n : ℕ). HasMadeRound g.S.Store.tells g.S.Store.disk g.C.Clock.gives c.loop.self c.make_round.new.self n stepped.NoMemory) same c.in-NoMemory.ensures.made in
    HasBegun-done g.S.Store.tells g.S.Store.disk g.C.Clock.gives c.args.self.now c.loop.self c.make_round.new.self whole rest c.loop.invariant (round.0, round.1, round.2)

pub loop-init : goal.loop-init
loop-init g c = HasBegun-none g.S.Store.tells g.S.Store.disk g.C.Clock.gives c.args.self.now (AreInRound (length c.args.self.now.scripts.scripts) 0 c.args.self.now.calls)
