use Rattle.std.proofs.Common.{◌≡◌, ◌++◌, length, None}
use Rattle.std.specs.List.{flat_map, filter_map}
use Rattle.dds_source.specs.Faults.{first_after}
use Rattle.dds_source.specs.KeywordTexts.{keywords_in}
use Rattle.dds_source.specs.Reading.{keyword_of, keyword_faults, last_begun}
use Rattle.dds_source.proofs.keyword_reading.text_keywords.Given as goal

abbrev pub invariant-loop-rest : goal.invariant-loop-rest
invariant-loop-rest l = record {
  read : l.keywords ++ filter_map keyword_of (keywords_in l.rest) ≡ filter_map keyword_of (keywords_in l.fn.text);
  begun : last_begun l.begun (keywords_in l.rest) ≡ last_begun None (keywords_in l.fn.text);
  noted : first_after l.first.fault (flat_map keyword_faults (keywords_in l.rest)) ≡ first_after l.fn.first.fault (flat_map keyword_faults (keywords_in l.fn.text));
}

abbrev pub decreases-loop-rest : goal.decreases-loop-rest
decreases-loop-rest l = length l.rest
