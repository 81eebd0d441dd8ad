use Rattle.std.proofs.Common.{◌≡◌, drop}
use Rattle.script_builder.specs.Least.{least, lesser}
use Rattle.input_cards.specs.SectionTexts.{parts_in}
use Rattle.input_cards.specs.CardFaults.{after_schedule}
use Rattle.input_cards.proofs.faults.after_schedule.Given as goal

abbrev pub invariant-loop-section : goal.invariant-loop-section
invariant-loop-section l = lesser l.first (least (after_schedule (parts_in l.bytes (drop l.section-index l.sections)))) ≡ least (after_schedule (parts_in l.bytes l.sections))
