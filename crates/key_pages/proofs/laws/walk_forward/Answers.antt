-- All entries are past the start.
use Rattle.std.proofs.Common.{[], refl}
use Rattle.key_pages.specs.declared.positions.Position.TheVariants.{Start}
use Rattle.key_pages.proofs.WalkLemmas.{forward, all_past}
use Rattle.key_pages.proofs.laws.walk_forward.Goals as goal

pub returns : goal.returns
returns c falling entries sorted = forward falling entries [] entries Start sorted refl tt (all_past falling entries)
