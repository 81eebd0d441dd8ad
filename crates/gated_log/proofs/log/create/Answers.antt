use Rattle.std.proofs.Common.{[], refl, sym, subst}
use Rattle.gated_log.specs.Log.{LogState, Settled}
use Rattle.gated_log.proofs.log.create.Goals as goal

pub returns-clause-created : goal.returns-clause-created
returns-clause-created g c = λ tells.
    subst (λ (l : LogState). Settled l [] (g.S.Store.disk c.format.new.store)) (sym c.empty.ensures)
    (record { spells = c.in_ok-format.ensures.formatted tells; lengths = refl; durable = c.in_ok-format.ensures.durable tells })
