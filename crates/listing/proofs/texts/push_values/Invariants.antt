use Rattle.std.proofs.Common.{◌≡◌, ◌++◌, drop, map}
use Rattle.listing.specs.Texts.{value_text, with_blanks_behind, joined_by_blanks}
use Rattle.listing.proofs.texts.push_values.Given as goal

abbrev pub invariant-loop-value : goal.invariant-loop-value
invariant-loop-value l =
    l.out.items ++ with_blanks_behind (map value_text (drop l.value-index l.others)) ≡ l.fn.out.items ++ joined_by_blanks (map value_text l.fn.values)
