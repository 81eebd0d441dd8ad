use Rattle.std.proofs.Common.{refl}
use Rattle.library_parts.proofs.contents.Contents.reserve_undo.Goals as goal

pub invariant_of-self : goal.invariant_of-self
invariant_of-self c = rw (c.reserve_undo.ensures.jobs, c.reserve_undo.ensures.orders, c.reserve_undo.ensures.moves) c.self.invariant

pub returns-clause-others : goal.returns-clause-others
returns-clause-others c = rw (← c.self.view_is, c.reserve_undo.ensures.orders, c.reserve_undo.ensures.moves) refl
