use Rattle.std.proofs.Common.{length, ◌≡◌}
use Rattle.dds_physical.specs.Faults.{first_after}
use Rattle.dds_logical.specs.KeywordRules.{logical_keyword_faults}
use Rattle.dds_logical.proofs.keyword_rules.note_keywords.Given as goal

abbrev pub invariant-loop-rest : goal.invariant-loop-rest
invariant-loop-rest l = first_after l.first.fault (logical_keyword_faults l.is_join l.place l.rest) ≡ first_after l.fn.first.fault (logical_keyword_faults l.is_join l.place l.keywords)

abbrev pub decreases-loop-rest : goal.decreases-loop-rest
decreases-loop-rest l = length l.rest
