use Rattle.std.proofs.Common.{◌≡◌, ◌++◌, Bor, List, ℕ, length, map}
use Rattle.parts_model.specs.Rows.{images_found, images_matched}
use Rattle.library_parts.proofs.rows.images_of.Given as goal

abbrev pub invariant-loop-files : goal.invariant-loop-files
invariant-loop-files l =
    map (λ (image : Bor (List ℕ)). image.now) l.images.items ++ images_matched l.members.members l.files l.numbers ≡ images_found l.members.members l.primary l.found

abbrev pub decreases-loop-files : goal.decreases-loop-files
decreases-loop-files l = length l.files
