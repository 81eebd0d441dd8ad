use Rattle.std.proofs.Common.{refl, arith}
use Rattle.lock_table.proofs.Shelved.{shelf-ordered, shelf-with, shelf-without}
use Rattle.lock_table.proofs.shelves.Shelves.is_there.Goals as goal

pub is_there-requires : goal.is_there-requires
is_there-requires c = shelf-ordered c.shelf.ensures

pub returns-clause-with_it : goal.returns-clause-with_it
returns-clause-with_it c = let told = shelf-with c.shelf.ensures c.args.lock.now refl in omega (arith, told, c.is_there.ensures.with_it)

pub returns-clause-without_it : goal.returns-clause-without_it
returns-clause-without_it c = let told = shelf-without c.shelf.ensures c.args.lock.now refl in omega (arith, told, c.is_there.ensures.without_it)
