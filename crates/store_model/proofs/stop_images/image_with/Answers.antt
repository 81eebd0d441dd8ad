use Rattle.std.proofs.Common.{◌∙◌, ap}
use Rattle.store_model.specs.Disk.{Areas}
use Rattle.store_model.specs.Past.{held, blank, seen_after}
use Rattle.store_model.specs.Replayed.{put}
use Rattle.store_model.proofs.Pushed.{same_areas}
use Rattle.store_model.proofs.stop_images.image_with.Goals as goal

pub returns-clause-areas : goal.returns-clause-areas
returns-clause-areas c = λ other.
    c.in_ok-replace.ensures other ∙ ap (λ (f : Areas). put c.args.area c.args.bytes.now f other) (same_areas (seen_after blank c.in_ok-image.image.past.changes.items) (held c.args.areas.now) c.in_ok-image.ensures.areas)
