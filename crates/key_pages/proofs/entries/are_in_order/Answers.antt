-- Each entry is less than the next one in a list in order, and in no other.
use Rattle.std.proofs.Common.{◌≡◌, ◌∙◌, ◌-◌, [], get_or, ap, arith, rules}
use Rattle.std.specs.declared.cmp.Ordering.TheVariants.{Less}
use Rattle.std.specs.Ordering.{is_lt}
use Rattle.std.proofs.lemmas.List.{get_or_read}
use Rattle.std.proofs.lemmas.Map.Keys.{Less-from_sorted, sorted_from_all_adjacent}
use Rattle.key_pages.specs.Order.{entry_cmp}
use Rattle.key_pages.proofs.OrderLemmas.{entry_total}
use Rattle.key_pages.proofs.entries.are_in_order.Goals as goal

pub returns-then-not-is_lt : goal.returns-then-not-is_lt
returns-then-not-is_lt c = (
  λ is. absurd cc,
  λ sorted.
      let entries = c.args.entries.now in
      let later = c.loop-later.later in
      let earlier = c.index-entries-later-in-loop-later in
      let at = c.index-entries-later in
      let read = get_or_read entries (later - 1) earlier.result (omega arith) earlier.is at.result in
      let less = Less-from_sorted (entry_cmp c.args.falling) entries (later - 1) later at.result sorted (omega arith) (omega arith) in
      let same : c.compare.result ≡ Less =
      c.compare.ensures
      ∙ (ap (entry_cmp c.args.falling earlier.result) (c.borrowed-format.ensures ∙ at.is)
      ∙ (ap (λ e. entry_cmp c.args.falling e (get_or entries later at.result)) read ∙ less)) in
      let passes = ap is_lt same in
      absurd (grind (arith, passes, c.is_lt.ensures, c.if-not-is_lt.true)),
)

pub returns : goal.returns
returns c = (
  λ _. sorted_from_all_adjacent (entry_total c.args.falling) c.args.entries.now (record { key = []; format = 0; rrn = 0 }) (λ k within. c.loop-later.invariant k _ (omega arith)),
  λ _. search rules,
)
