-- Each entry so far is less than the next one.
use Rattle.std.proofs.Common.{◌≡◌, ℕ, ◌+◌, ◌<◌, get_or}
use Rattle.std.specs.declared.cmp.Ordering.TheVariants.{Less}
use Rattle.key_pages.specs.declared.entries.Entry.{Entry}
use Rattle.key_pages.specs.Order.{entry_cmp}
use Rattle.key_pages.proofs.entries.are_in_order.Given as goal

abbrev pub invariant-loop-later : goal.invariant-loop-later
invariant-loop-later l = (k : ℕ) (d : Entry) → k + 1 < l.later → entry_cmp l.falling (get_or l.entries k d) (get_or l.entries (k + 1) d) ≡ Less
