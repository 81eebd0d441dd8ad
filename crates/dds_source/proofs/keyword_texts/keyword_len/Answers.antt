use Rattle.std.proofs.Common.{arith, sym, ◌∙◌}
use Rattle.dds_source.proofs.KeywordLemmas.{keywords_in-blank, keywords_in-at_blank, keywords_in-at_close, keywords_in-at_end}
use Rattle.dds_source.proofs.keyword_texts.keyword_len.Goals as goal

pub returns-then-is_blank-clause-blank : goal.returns-then-is_blank-clause-blank
returns-then-is_blank-clause-blank c = λ h.
    keywords_in-blank c.args.text.now (record { byte = 0; line = 0; column = 0 }) (omega arith)
    (rw h at (sym c.is_blank.ensures ∙ c.if-is_blank.true))

pub returns-then-is_blank-clause-keyword : goal.returns-then-is_blank-clause-keyword
returns-then-is_blank-clause-keyword c =
    keywords_in-at_blank c.args.text.now c.loop-i.i c.loop-i.place (record { byte = 0; line = 0; column = 0 }) (omega arith)
    (sym c.is_outside.ensures ∙ c.if-is_outside.true) (sym c.is_blank.ensures ∙ c.if-is_blank.true) c.loop-i.invariant.texts

pub returns-then-closes-clause-keyword : goal.returns-then-closes-clause-keyword
returns-then-closes-clause-keyword c = λ _.
    keywords_in-at_close c.args.text.now c.loop-i.i c.loop-i.place (record { byte = 0; line = 0; column = 0 }) (omega arith) (sym c.closes.ensures ∙ c.if-closes.true) c.loop-i.invariant.texts

pub returns-clause-keyword : goal.returns-clause-keyword
returns-clause-keyword c = keywords_in-at_end c.args.text.now c.loop-i.i c.loop-i.place (omega arith) c.loop-i.invariant.texts
