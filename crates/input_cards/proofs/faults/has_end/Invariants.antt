use Rattle.std.proofs.Common.{◌≡◌, ℕ, List, drop}
use Rattle.std.specs.List.{list_any}
use Rattle.input_cards.specs.SectionTexts.{parts_in}
use Rattle.input_cards.specs.CardFaults.{is_end}
use Rattle.input_cards.proofs.faults.has_end.Given as goal

abbrev pub invariant-loop-section : goal.invariant-loop-section
invariant-loop-section l = (bytes : List ℕ) → list_any (λ p. is_end p.card) (parts_in bytes (drop l.section-index l.sections)) ≡ list_any (λ p. is_end p.card) (parts_in bytes l.sections)
