use Rattle.std.proofs.Common.{◌≡◌, length, ap, arith}
use Rattle.std.proofs.lemmas.List.{length_push}
use Rattle.store_model.specs.Replayed.{IsFree}
use Rattle.store_model.specs.Synced.{last_synced}
use Rattle.store_model.proofs.Images.{held_all}
use Rattle.store_model.proofs.stop_images.synced_areas.Goals as goal

pub loop-area-preserved : goal.loop-area-preserved
loop-area-preserved c =
    let areas = c.loop-area.areas.items in
    let pushed = c.push.new.self.items in
    let synced = c.in_ok-replayed.replayed.synced in
    let push = c.in_ok-push.ensures.items in
    let changes = c.args.changes.now in
    let before = c.loop-area.invariant in
    record {
      free = held_all (IsFree changes) areas pushed synced c.loop-area.area before.count push before.free c.in_ok-replayed.ensures.synced_free;
      synced = held_all (λ a bytes. bytes ≡ last_synced changes a) areas pushed synced c.loop-area.area before.count push before.synced c.in_ok-replayed.ensures.synced;
      count = omega (arith, ap length push, length_push areas synced, before.count);
    }
