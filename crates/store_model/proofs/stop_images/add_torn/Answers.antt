use Rattle.std.proofs.Common.{◌≡◌, inl, inr, ℕ, List, Vec, sym, subst, ◌∙◌, ap, arith}
use Rattle.std.proofs.lemmas.List.{take_all}
use Rattle.std.specs.List.{Any}
use Rattle.std.specs.declared.alloc.Global.{Global}
use Rattle.store_model.specs.Past.{held}
use Rattle.store_model.specs.MemoryStore.{disk_of, IsLeft}
use Rattle.store_model.specs.Replayed.{put}
use Rattle.store_model.proofs.Found.{any_still, any_new, any_further}
use Rattle.store_model.proofs.Images.{may_push, torn_image, torn_all}
use Rattle.store_model.proofs.stop_images.add_torn.Goals as goal

pub loop-bytes-preserved : goal.loop-bytes-preserved
loop-bytes-preserved c =
    let changes = c.args.changes.now in
    let area = c.args.area in
    let torn = c.in_ok-replayed.replayed.torn.items in
    let images = c.loop-bytes.images.items in
    let image = c.in_ok-image.image in
    let pushed = c.push.new.self.items in
    let push = c.in_ok-push.ensures.items in
    let item = c.bytes-item.result in
    let items = c.deref-bytes-items.result.now in
    let may = torn_image changes area torn items c.loop-bytes.bytes-index item (held c.args.synced.now) (disk_of image).seen c.deref.result.now
    c.in_ok-replayed.ensures.torn_free c.deref-bytes-items.ensures.value c.bytes-item.is (omega arith) c.requires.may c.deref.ensures.value c.in_ok-image.ensures.areas in
    record {
      left = λ all. may_push (IsLeft changes) images pushed image push (c.loop-bytes.invariant.left all) (may, c.in_ok-image.ensures.untouched);
      kept = λ areas has. any_still _ images pushed image push (c.loop-bytes.invariant.kept areas has);
      torn = λ bytes any. elim (any_further (λ (v : Vec ℕ Global). v.items ≡ bytes) items c.loop-bytes.bytes-index item (omega arith) c.bytes-item.is any) [
        | inl before ↦ any_still _ images pushed image push (c.loop-bytes.invariant.torn bytes before)
        | inr now ↦ any_new _ images pushed image push (λ a. c.in_ok-image.ensures.areas a ∙ ap (λ (l : List ℕ). put area l (held c.args.synced.now) a) (c.deref.ensures.value ∙ now))
      ];
    }

pub returns-clause-torn : goal.returns-clause-torn
returns-clause-torn c =
    let items = c.deref-bytes-items.result.now in
    let all = take_all c.loop-bytes.bytes-index items (omega arith) ∙ c.deref-bytes-items.ensures.value in
    torn_all c.args.changes.now c.args.area (held c.args.synced.now) c.in_ok-replayed.replayed c.loop-bytes.images.items c.in_ok-replayed.ensures c.requires.synced
    (λ bytes any. c.loop-bytes.invariant.torn bytes (subst (λ (l : List (Vec ℕ Global)). Any (λ v. v.items ≡ bytes) l) (sym all) any))
