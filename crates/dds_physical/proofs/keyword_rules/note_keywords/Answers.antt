use Rattle.std.proofs.Common.{arith}
use Rattle.dds_physical.specs.KeywordRules.{one_keyword_faults, keyword_faults}
use Rattle.dds_physical.proofs.FaultLemmas.{noted-first}
use Rattle.dds_physical.proofs.LineLemmas.{keyword_faults-first}
use Rattle.dds_physical.proofs.keyword_rules.note_keywords.Goals as goal

pub loop-rest-preserved : goal.loop-rest-preserved
loop-rest-preserved c =
    noted-first c.loop-rest.first.fault c.note_keyword.new.first.fault _
    (one_keyword_faults c.args.place c.index-here-0.result c.split_at.result.1.now) (keyword_faults c.args.place c.split_at.result.1.now) (keyword_faults c.args.place c.loop-rest.rest.now)
    c.note_keyword.ensures
    (keyword_faults-first c.args.place c.loop-rest.rest.now c.split_at.result.0.now c.split_at.result.1.now c.index-here-0.result (omega (arith, c.split_at.ensures.back_len)) c.split_at.ensures.front c.split_at.ensures.back c.index-here-0.is)
    c.loop-rest.invariant
