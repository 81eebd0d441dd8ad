use Rattle.std.proofs.Common.{◌≡◌}
use Rattle.std.proofs.lemmas.List.Elements.{recursion_from_All}
use Rattle.join_rows.proofs.SearchLemmas.{matches-from, no-match}
use Rattle.join_rows.proofs.laws.matches_follow_one_another.Goals as goal

pub returns-clause-some : goal.returns-clause-some
returns-clause-some c falling part key rrn entries match sorted first found =
    matches-from falling part key rrn entries match sorted (recursion_from_All (λ entry. entry.format ≡ 0) entries first) found

pub returns-clause-none : goal.returns-clause-none
returns-clause-none c = no-match
