use Rattle.std.proofs.Common.{ℕ, List, sym, ◌∙◌, subst}
use Rattle.gated_log.proofs.Walking.{damaged_is}
use Rattle.checkpoint.specs.declared.layout.TheConstants.{ROOT_AREA}
use Rattle.checkpoint.specs.declared.root.Root.{Root}
use Rattle.checkpoint.specs.Roots.{IsNoRoot}
use Rattle.checkpoint.proofs.opening.read_root.Goals as goal

pub returns-in-Some-clause-root : goal.returns-in-Some-clause-root
returns-in-Some-clause-root g c = λ tells blocks settled. sym (c.in_ok-block.ensures.block tells blocks settled) ∙ sym c.deref.ensures.value ∙ c.in-Some.ensures.1

pub returns-clause-damaged : goal.returns-clause-damaged
returns-clause-damaged g c = λ area at is.
    let parts = damaged_is {T = Root} ROOT_AREA c.place.result area at is in
    (parts.0, parts.1 ∙ c.place.ensures.place, λ tells blocks settled. subst (λ (l : List ℕ). IsNoRoot l) (c.deref.ensures.value ∙ c.in_ok-block.ensures.block tells blocks settled) c.in-None.ensures)
