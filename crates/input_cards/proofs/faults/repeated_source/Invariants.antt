use Rattle.std.proofs.Common.{◌≡◌, ℕ, List, [], drop}
use Rattle.script_builder.specs.Least.{least, lesser}
use Rattle.input_cards.specs.declared.limits.TheConstants.{MOST_SOURCES}
use Rattle.input_cards.specs.SectionTexts.{parts_in}
use Rattle.input_cards.specs.CardFaults.{source_name, repeated_cards}
use Rattle.input_cards.proofs.faults.repeated_source.Given as goal

abbrev pub invariant-loop-section : goal.invariant-loop-section
invariant-loop-section l = (bytes : List ℕ)
    → lesser l.first (least (repeated_cards source_name MOST_SOURCES (parts_in bytes (drop l.section-index l.sections)) l.earlier))
    ≡ least (repeated_cards source_name MOST_SOURCES (parts_in bytes l.sections) [])
