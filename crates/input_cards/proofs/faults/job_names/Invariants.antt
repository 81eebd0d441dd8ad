use Rattle.std.proofs.Common.{◌≡◌, ℕ, List, ◌++◌, drop}
use Rattle.input_cards.specs.SectionTexts.{parts_in}
use Rattle.input_cards.specs.CardFaults.{job_name, names_of}
use Rattle.input_cards.proofs.faults.job_names.Given as goal

abbrev pub invariant-loop-section : goal.invariant-loop-section
invariant-loop-section l = (bytes : List ℕ) → l.names ++ names_of job_name (parts_in bytes (drop l.section-index l.sections)) ≡ names_of job_name (parts_in bytes l.sections)
