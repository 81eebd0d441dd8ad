use Rattle.std.proofs.Common.{◌-◌, ℕ, refl, ◌∙◌, ap}
use Rattle.gated_log.specs.Log.{LogState}
use Rattle.journal_book.proofs.placing.first_start.Goals as goal

pub returns-clause-from : goal.returns-clause-from
returns-clause-from c = c.receiver_of-receiver.ensures.from

pub returns-clause-upto : goal.returns-clause-upto
returns-clause-upto c = c.receiver_of-receiver.ensures.upto

pub returns-clause-begins : goal.returns-clause-begins
returns-clause-begins c = c.receiver_of-receiver.ensures.begins

pub returns-clause-before : goal.returns-clause-before
returns-clause-before c = c.saturating_sub-before.ensures ∙ ap (λ (n : ℕ). n - 1) (c.first.ensures ∙ ap (λ (l : LogState). l.first) c.log.ensures)

pub returns-clause-front : goal.returns-clause-front
returns-clause-front c = refl
