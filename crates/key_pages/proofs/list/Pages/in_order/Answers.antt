-- An entry is less than each later one, and so not the same.
use Rattle.key_pages.specs.PageList.{entries_of}
use Rattle.key_pages.proofs.OrderLemmas.{apart}
use Rattle.key_pages.proofs.list.Pages.in_order.Goals as goal

pub returns-clause-once : goal.returns-clause-once
returns-clause-once c = rw (← c.self.view_is) (apart c.self.inside.falling (entries_of c.self.inside.directory.pages) c.self.invariant.ordered)
