use Rattle.parts_model.proofs.NoteLemmas.{shown-is, shown-some}
use Rattle.library_parts.proofs.reading.kept_open.Goals as goal

pub unwrap-requires : goal.unwrap-requires
unwrap-requires c = shown-some (λ o. o.state) c.open_named.result _ c.open_named.ensures.state c.requires.there

pub returns-clause-state : goal.returns-clause-state
returns-clause-state c = shown-is (λ o. o.state) c.open_named.result c.unwrap.result _ c.unwrap.ensures c.open_named.ensures.state

pub returns-clause-order : goal.returns-clause-order
returns-clause-order c = shown-is (λ o. o.order) c.open_named.result c.unwrap.result _ c.unwrap.ensures c.open_named.ensures.order
