use Rattle.std.proofs.Common.{sym, ◌∙◌}
use Rattle.statement_reader.specs.Words.{words}
use Rattle.listing_words.specs.Values.{given_value_of, given_values_of}
use Rattle.listing_words.proofs.ReadLemmas.{stopped, ended}
use Rattle.listing_words.proofs.values.given_values_of.Goals as goal

pub returns-in_default-2 : goal.returns-in_default-2
unfolding given_values_of
returns-in_default-2 c =
    stopped given_value_of c.loop-word.values (words c.loop-word.rest.now) c.in-Some.word.now (words c.in-Some.others.now) (words c.args.text.now)
    c.in-Some.ensures.0 (sym c.in_default-2.is ∙ c.in_ok-value.ensures) c.loop-word.invariant

pub returns : goal.returns
unfolding given_values_of
returns c =
    ended given_value_of c.loop-word.values (words c.loop-word.rest.now) (words c.args.text.now) c.in_default.ensures c.loop-word.invariant
