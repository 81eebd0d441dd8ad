use Rattle.std.proofs.Common.{◌≡◌, ◌≤◌, take, drop, []}
use Rattle.dds_source.specs.KeywordTexts.{keyword_texts, outside}
use Rattle.dds_source.proofs.keyword_texts.keyword_len.Given as goal

abbrev pub invariant-loop-i : goal.invariant-loop-i
invariant-loop-i l = record {
  depth : l.place.depth ≤ l.i;
  texts : keyword_texts l.place (take l.i l.text) (drop l.i l.text) ≡ keyword_texts outside [] l.text;
}
