use Rattle.std.proofs.Common.{ap, ◌∙◌}
use Rattle.lock_table.specs.Lock.{is_boundary_in}
use Rattle.lock_table.specs.Shelves.{least_on}
use Rattle.lock_table.proofs.Shelved.{rest-sorted}
use Rattle.lock_table.proofs.row.Row.least_keeper.Goals as goal

pub least_keeper-first-requires : goal.least_keeper-first-requires
least_keeper-first-requires c = let h = rw (← c.self.view_is) at c.requires in h.each.0.ordered

pub least_among-requires : goal.least_among-requires
least_among-requires c = rw c.as_slice.ensures.value (rest-sorted c.self.inside.first c.self.inside.more.items (rw (← c.self.view_is) at c.requires))

pub returns : goal.returns
returns c = rw (c.least_keeper-first.ensures, c.least_among.ensures, c.as_slice.ensures.value) at c.lesser.ensures ∙ ap (least_on (is_boundary_in c.args.member)) c.self.view_is
