use Rattle.std.proofs.Common.{◌∙◌, inr, refl, sym, ap, subst, map}
use Rattle.std.specs.String.{string_bytes}
use Rattle.library_steps.specs.State.{State, begun}
use Rattle.front_laws.specs.Replayed.{IsReplayed}
use Rattle.ibmi_batch.proofs.RunLemmas.{runs-over, unopened}
use Rattle.ibmi_batch.proofs.running.run_scripts.Goals as goal

pub returns-in-Err : goal.returns-in-Err
returns-in-Err g c = rw c.status_of.ensures (inr (λ tells. refl, unopened _ g.S.Store.tells (g.S.Store.disk c.args.store) _ c.in-Err.ensures.refused))

-- the library which was opened stands, and no job has begun in it
pub new-requires-clause-alive : goal.new-requires-clause-alive
new-requires-clause-alive g c = c.in-Ok.ensures.opened.stands.alive

pub new-requires-clause-none : goal.new-requires-clause-none
new-requires-clause-none g c = let opened = c.in-Ok.ensures.opened in ap (λ (s : State). s.jobs) opened.stands.remembered.memory ∙ opened.none

pub returns-in-Err-new : goal.returns-in-Err-new
returns-in-Err-new g c =
    rw c.in-Err-new.ensures.back.0
    (inr (λ tells. refl, c.in-Ok.ensures.opened.restart))

pub returns-in-Ok-new : goal.returns-in-Ok-new
returns-in-Ok-new g c =
    let opened = c.in-Ok.ensures.opened in
    let replayed : IsReplayed (begun opened.s c.args.scripts.names) =
    subst (λ (s : State). IsReplayed (begun s c.args.scripts.names)) (sym opened.from.left)
    (c.restarted_libraries_are_replayed.ensures opened.before opened.from.attached 0 c.args.scripts.names opened.from.replays opened.from.deposited) in
    runs-over g.S.Store.tells g.S.Store.disk (g.S.Store.disk c.args.store) c.in-Ok.library opened _ c.args.scripts c.in-Ok-new.ensures.begun _ g.C.Clock.gives c.in-Ok-new.session
    c.args.clock _ _ (map string_bytes c.args.words.now) _ c.requires.runnable.askable c.fronts_can_be_opened.ensures replayed refl c.in-Ok-new.ensures.scripts c.in-Ok-new.ensures.clock
    c.run_session.ensures.ran c.run_session.ensures.cause
