use Rattle.std.proofs.Common.{List, ◌==◌, length, filter, arith, sym, ap, ◌∙◌}
use Rattle.lock_table.specs.declared.lock.Lock.{Lock}
use Rattle.lock_table.proofs.Shelved.{shelf-few, shelf-ordered, shelf-part}
use Rattle.lock_table.proofs.shelves.Shelves.count_in.Goals as goal

pub count_in-requires-clause-ordered : goal.count_in-requires-clause-ordered
count_in-requires-clause-ordered c = shelf-ordered c.shelf.ensures

pub count_in-requires-clause-few : goal.count_in-requires-clause-few
count_in-requires-clause-few c = omega (arith, shelf-few c.shelf.ensures, c.requires)

pub returns : goal.returns
returns c = c.count_in.ensures ∙ ap (λ (xs : List Lock). length (filter (λ l. l.opened == c.args.opened) xs)) (shelf-part c.shelf.ensures c.args.part (sym c.job.ensures))
