use Rattle.std.proofs.Common.{◌≡◌, inl, inr, ℕ, sym, subst, arith}
use Rattle.std.proofs.lemmas.Bool.{cases_lt}
use Rattle.store_model.specs.MemoryStore.{HasTorn}
use Rattle.store_model.proofs.Images.{torn_kept}
use Rattle.store_model.proofs.stop_images.add_all_torn.Goals as goal

pub loop-area-preserved : goal.loop-area-preserved
loop-area-preserved c =
    let step = c.in_ok-add_torn.ensures in
    record {
      left = λ all. step.left (c.loop-area.invariant.left all);
      kept = λ areas has. step.kept areas (c.loop-area.invariant.kept areas has);
      torn = λ area below. elim (cases_lt area c.loop-area.area) [
        | inl before ↦ torn_kept c.args.changes.now area c.loop-area.images.items c.add_torn.new.images.items step.kept (c.loop-area.invariant.torn area before)
        | inr above ↦ let same : area ≡ c.loop-area.area = omega arith in subst (λ (n : ℕ). HasTorn c.args.changes.now n c.add_torn.new.images.items) (sym same) step.torn
      ];
    }
