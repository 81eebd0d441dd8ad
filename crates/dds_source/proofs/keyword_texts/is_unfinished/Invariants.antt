use Rattle.std.proofs.Common.{◌≡◌, ◌≤◌, drop}
use Rattle.dds_source.specs.KeywordTexts.{outside, behind_all}
use Rattle.dds_source.proofs.keyword_texts.is_unfinished.Given as goal

abbrev pub invariant-loop-c : goal.invariant-loop-c
invariant-loop-c l = record {
  depth : l.place.depth ≤ l.c-index;
  place : behind_all l.place (drop l.c-index l.keyword) ≡ behind_all outside l.keyword;
}
