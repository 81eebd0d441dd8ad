use Rattle.std.proofs.Common.{◌≡◌, ℕ, List, drop}
use Rattle.script_builder.specs.Least.{least, lesser}
use Rattle.input_cards.specs.SectionTexts.{parts_in}
use Rattle.input_cards.specs.CardFaults.{unknown_turns}
use Rattle.input_cards.proofs.faults.unknown_turn.Given as goal

abbrev pub invariant-loop-section : goal.invariant-loop-section
invariant-loop-section l = (bytes : List ℕ)
    → lesser l.first (least (unknown_turns l.jobs (parts_in bytes (drop l.section-index l.sections)))) ≡ least (unknown_turns l.jobs (parts_in bytes l.sections))
