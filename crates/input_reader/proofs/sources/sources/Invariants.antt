use Rattle.std.proofs.Common.{◌≡◌, ◌++◌, drop, filter_map}
use Rattle.input_cards.specs.SectionTexts.{parts_in}
use Rattle.input_reader.specs.Input.{source_in}
use Rattle.input_reader.proofs.sources.sources.Given as goal

abbrev pub invariant-loop-section : goal.invariant-loop-section
invariant-loop-section l =
    l.sources ++ filter_map source_in (parts_in l.bytes (drop l.section-index l.sections)) ≡ filter_map source_in (parts_in l.bytes l.sections)
