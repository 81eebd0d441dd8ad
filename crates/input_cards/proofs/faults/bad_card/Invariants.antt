use Rattle.std.proofs.Common.{◌≡◌, ℕ, List, drop}
use Rattle.script_builder.specs.Least.{least, lesser}
use Rattle.input_cards.specs.SectionTexts.{parts_in}
use Rattle.input_cards.specs.CardFaults.{bad_cards}
use Rattle.input_cards.proofs.faults.bad_card.Given as goal

abbrev pub invariant-loop-section : goal.invariant-loop-section
invariant-loop-section l = (bytes : List ℕ) → lesser l.first (least (bad_cards (parts_in bytes (drop l.section-index l.sections)))) ≡ least (bad_cards (parts_in bytes l.sections))
