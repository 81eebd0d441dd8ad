use Rattle.std.proofs.Common.{arith}
use Rattle.dds_logical.specs.KeywordRules.{stands_at, logical_keyword_faults}
use Rattle.dds_logical.specs.Judged.{one_keyword_faults}
use Rattle.dds_logical.proofs.LineLemmas.{keywords_more}
use Rattle.dds_logical.proofs.LoopLemmas.{noted-split}
use Rattle.dds_logical.proofs.keyword_rules.note_keywords.Goals as goal

pub loop-rest-preserved : goal.loop-rest-preserved
loop-rest-preserved c =
    noted-split c.loop-rest.first.fault c.note_keyword.new.first.fault _ (λ k ks. one_keyword_faults (stands_at c.args.is_join c.args.place k) k ks) (logical_keyword_faults c.args.is_join c.args.place)
    (keywords_more c.args.is_join c.args.place) c.loop-rest.rest.now c.split_at.result.0.now c.split_at.result.1.now c.index-here-0.result
    (omega (arith, c.split_at.ensures.back_len)) c.split_at.ensures.front c.split_at.ensures.back c.index-here-0.is c.note_keyword.ensures c.loop-rest.invariant
