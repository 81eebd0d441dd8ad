use Rattle.std.proofs.Common.{◌≡◌, ◌++◌, take}
use Rattle.block_cache.proofs.copies.copy_all.Given as goal

abbrev pub invariant-loop-entry : goal.invariant-loop-entry
invariant-loop-entry l = l.found.items ≡ l.fn.found.items ++ take l.entry-index l.entries
