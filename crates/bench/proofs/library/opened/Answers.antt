use Rattle.std.proofs.Common.{sym, ap, ◌∙◌, subst}
use Rattle.library_steps.specs.State.{State}
use Rattle.bench.specs.Ready.{HasBegun}
use Rattle.bench.proofs.ReadyLemmas.{HasBegun-none}
use Rattle.bench.proofs.library.opened.Goals as goal

-- what is in memory of an opened library has the jobs of its state, of which there are none
pub returns-in-Ok : goal.returns-in-Ok
returns-in-Ok c =
    let opened = c.in-Ok.ensures.opened in
    subst (HasBegun 0) (sym c.of.ensures) (HasBegun-none c.in-Ok.library opened.stands.alive (ap (λ (s : State). s.jobs) opened.stands.remembered.memory ∙ opened.none))
