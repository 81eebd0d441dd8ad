use Rattle.std.proofs.Common.{◌≡◌, true, sym, ◌∙◌}
use Rattle.dds_source.specs.KeywordTexts.{is_keyword_name}
use Rattle.dds_source.proofs.ReadingLemmas.{is_name-keyword, some_is}
use Rattle.dds_source.proofs.keyword_reading.keyword_name.Goals as goal

pub returns-then-is_keyword_name : goal.returns-then-is_keyword_name
returns-then-is_keyword_name c =
    let named : is_keyword_name c.args.text.now ≡ true = sym c.is_keyword_name.ensures ∙ c.if-is_keyword_name.true in
    rw named (some_is c.from_bytes.result c.args.text.now (c.from_bytes.ensures.valid.1 (is_name-keyword c.args.text.now named)) c.from_bytes.ensures.value)
