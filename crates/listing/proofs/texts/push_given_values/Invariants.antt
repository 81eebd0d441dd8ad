use Rattle.std.proofs.Common.{◌≡◌, ◌++◌, drop, map}
use Rattle.listing.specs.Texts.{given_text, with_blanks_behind, joined_by_blanks}
use Rattle.listing.proofs.texts.push_given_values.Given as goal

abbrev pub invariant-loop-value : goal.invariant-loop-value
invariant-loop-value l =
    l.out.items ++ with_blanks_behind (map given_text (drop l.value-index l.others)) ≡ l.fn.out.items ++ joined_by_blanks (map given_text l.fn.values)
