use Rattle.std.proofs.Common.{ap, ◌∙◌}
use Rattle.lock_table.specs.Lock.{lock_cmp}
use Rattle.lock_table.specs.Table.{in_order}
use Rattle.lock_table.proofs.shelves.Shelves.spread.Goals as goal

pub invariant_of-self : goal.invariant_of-self
invariant_of-self c = c.spread.ensures.shelved c.self.invariant

pub returns : goal.returns
returns c = ap (in_order lock_cmp) c.spread.ensures.locks ∙ c.self.view_is
