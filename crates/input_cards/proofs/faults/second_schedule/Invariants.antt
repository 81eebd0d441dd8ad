use Rattle.std.proofs.Common.{◌≡◌, ℕ, List, false, drop}
use Rattle.script_builder.specs.Least.{least, lesser}
use Rattle.input_cards.specs.SectionTexts.{parts_in}
use Rattle.input_cards.specs.CardFaults.{second_schedules}
use Rattle.input_cards.proofs.faults.second_schedule.Given as goal

abbrev pub invariant-loop-section : goal.invariant-loop-section
invariant-loop-section l = (bytes : List ℕ)
    → lesser l.first (least (second_schedules (parts_in bytes (drop l.section-index l.sections)) l.earlier)) ≡ least (second_schedules (parts_in bytes l.sections) false)
