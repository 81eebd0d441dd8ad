use Rattle.std.proofs.Common.{◌≡◌, drop}
use Rattle.range_images.specs.Breaks.{first_break_in}
use Rattle.range_images.proofs.breaks.first_break.Given as goal

abbrev pub invariant-loop-entry : goal.invariant-loop-entry
invariant-loop-entry l = first_break_in l.kind l.number (drop l.entry-index l.entries) ≡ first_break_in l.kind l.number l.entries
