use Rattle.std.proofs.Common.{ℕ, List, ap, ◌∙◌, Vec, length, arith}
use Rattle.std.proofs.lemmas.List.{length_push}
use Rattle.std.specs.declared.alloc.Global.{Global}
use Rattle.store_model.specs.Past.{held}
use Rattle.store_model.proofs.Held.{held-push}
use Rattle.store_model.proofs.past.reach.Goals as goal

pub loop-alloc-preserved : goal.loop-alloc-preserved
loop-alloc-preserved c = record {
  same = λ area.
      ap (λ (l : List (Vec ℕ Global)). held l area) c.in_ok-push.ensures.items
      ∙ held-push c.loop-alloc.areas.items c.new.result area c.new.ensures.items ∙ c.loop-alloc.invariant.same area;
  no_fewer = omega (arith, ap length c.in_ok-push.ensures.items, length_push c.loop-alloc.areas.items c.new.result, c.loop-alloc.invariant.no_fewer);
  few = omega (arith, ap length c.in_ok-push.ensures.items, length_push c.loop-alloc.areas.items c.new.result, c.loop-alloc.areas.ok.0);
}
