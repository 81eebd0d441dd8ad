use Rattle.std.proofs.Common.{◌≡◌, ℕ, List, drop}
use Rattle.input_cards.specs.SectionTexts.{parts_in}
use Rattle.input_reader.specs.Input.{turns_among}
use Rattle.input_reader.proofs.schedules.schedule.Given as goal

abbrev pub invariant-loop-section : goal.invariant-loop-section
invariant-loop-section l = (bytes : List ℕ) → turns_among (parts_in bytes (drop l.section-index l.sections)) ≡ turns_among (parts_in bytes l.sections)
