use Rattle.std.proofs.Common.{arith}
use Rattle.store_model.specs.Past.{blank, seen_after}
use Rattle.store_model.proofs.Images.{image_step}
use Rattle.store_model.proofs.stop_images.image.Goals as goal

pub loop-place-preserved : goal.loop-place-preserved
loop-place-preserved c =
    image_step c.args.areas.now c.loop-place.place c.index-areas-place.result (seen_after blank c.loop-place.past.changes.items) (seen_after blank c.replace.new.past.changes.items) c.deref.result.now
    (omega arith) c.index-areas-place.is c.deref.ensures.value c.loop-place.invariant c.in_ok-replace.ensures
