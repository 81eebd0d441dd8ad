-- All entries are before the end.
use Rattle.std.proofs.Common.{[], reverse, sym}
use Rattle.std.proofs.lemmas.List.{reverse-reverse, append-nil}
use Rattle.key_pages.specs.declared.positions.Position.TheVariants.{End}
use Rattle.key_pages.proofs.WalkLemmas.{backward, all_short}
use Rattle.key_pages.proofs.laws.walk_backward.Goals as goal

pub returns : goal.returns
returns c falling entries sorted =
    backward falling entries (reverse entries) entries [] End sorted (sym (reverse-reverse entries)) (append-nil entries) (all_short falling entries) tt
