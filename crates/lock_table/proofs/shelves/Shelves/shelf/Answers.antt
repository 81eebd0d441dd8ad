use Rattle.lock_table.proofs.Shelved.{place-within, shelf-of}
use Rattle.lock_table.proofs.shelves.Shelves.shelf.Goals as goal

pub shelf-requires : goal.shelf-requires
shelf-requires c = rw c.count.ensures (place-within c.self.inside.row c.self.invariant c.args.job)

pub returns : goal.returns
returns c = rw (c.shelf.ensures, c.count.ensures, ← c.self.view_is) (shelf-of c.self.inside.row c.self.invariant c.args.job)
