use Rattle.std.proofs.Common.{sym, ◌∙◌}
use Rattle.std.proofs.lemmas.Bool.{false≢true}
use Rattle.listing_reader.proofs.SpellingLemmas.{spelling-is}
use Rattle.listing_reader.proofs.spelled_entries.has_spelling.Goals as goal

pub returns-then-is_placed-clause-spelled : goal.returns-then-is_placed-clause-spelled
returns-then-is_placed-clause-spelled c = λ tested. spelling-is c.args.entry.now (sym c.is_placed.ensures ∙ c.if-is_placed.true) (sym c.holds_fields.ensures ∙ tested)

pub returns-else-is_placed-clause-spelled : goal.returns-else-is_placed-clause-spelled
returns-else-is_placed-clause-spelled c = λ tested. absurd (false≢true (sym c.if-is_placed.false ∙ tested))
