use Rattle.std.proofs.Common.{List, ap}
use Rattle.lock_table.specs.declared.lock.Lock.{Lock}
use Rattle.lock_table.specs.Lock.{lock_cmp}
use Rattle.lock_table.specs.Table.{in_order}
use Rattle.lock_table.specs.Shelves.{all_on}
use Rattle.lock_table.proofs.Shelved.{new-shelved}
use Rattle.lock_table.proofs.shelves.Shelves.new.Goals as goal

pub invariant_of-result : goal.invariant_of-result
invariant_of-result c = new-shelved _ c.new.ensures

pub returns : goal.returns
returns c = ap (λ (row : List (List Lock)). in_order lock_cmp (all_on row)) c.new.ensures
