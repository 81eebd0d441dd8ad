use Rattle.std.proofs.Common.{length, ◌≡◌}
use Rattle.dds_source.specs.Faults.{first_after}
use Rattle.dds_physical.specs.KeywordRules.{keyword_faults}
use Rattle.dds_physical.proofs.keyword_rules.note_keywords.Given as goal

abbrev pub invariant-loop-rest : goal.invariant-loop-rest
invariant-loop-rest l = first_after l.first.fault (keyword_faults l.place l.rest) ≡ first_after l.fn.first.fault (keyword_faults l.place l.keywords)

abbrev pub decreases-loop-rest : goal.decreases-loop-rest
decreases-loop-rest l = length l.rest
