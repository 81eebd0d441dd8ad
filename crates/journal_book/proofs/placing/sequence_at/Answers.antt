use Rattle.std.proofs.Common.{ℕ, Option, sym, ◌∙◌, ap}
use Rattle.std.specs.Option.{option_map}
use Rattle.entry_codec.specs.declared.entries.Entry.{Entry}
use Rattle.journal_book.proofs.Taking.{none_some}
use Rattle.journal_book.proofs.placing.sequence_at.Goals as goal

pub returns-in_default-clause-only : goal.returns-in_default-clause-only
returns-in_default-clause-only c = λ e rest has is. absurd (none_some _ (sym c.in_default.is ∙ c.in_ok-entry.ensures.only e rest has is))

pub returns-clause-only : goal.returns-clause-only
returns-clause-only c = λ e rest has is. ap (λ (o : Option (Entry × ℕ)). option_map (λ (x : Entry × ℕ). (x.0.sequence, x.1)) o) (sym c.in-Some.is ∙ c.in_ok-entry.ensures.only e rest has is)
