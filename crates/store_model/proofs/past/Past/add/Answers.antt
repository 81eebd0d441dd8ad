use Rattle.std.proofs.Common.{◌≡◌, ℕ, ◌∙◌, ap, arith, refl, sym, subst}
use Rattle.store_model.specs.declared.past.Change.{Change}
use Rattle.store_model.specs.Past.{held, changed}
use Rattle.store_model.specs.Synced.{WritesTo}
use Rattle.store_model.proofs.Loose.{push_reached}
use Rattle.store_model.proofs.Pieces.{last_is}
use Rattle.store_model.proofs.Pushed.{push_agrees, push_fits}
use Rattle.store_model.proofs.past.Past.add.Goals as goal

pub invariant_of-self-in-Ok : goal.invariant_of-self-in-Ok
invariant_of-self-in-Ok c =
    let past = c.args.self.now in
    let is : c.index.result.now ≡ c.args.change = last_is past.changes.items c.push.new.self.items c.args.change c.index.result.now c.len-before.result c.in_ok-push.ensures.items (omega (arith, past.changes.ok.0)) c.index.ensures in
    let done : (area : ℕ) → held c.apply.new.areas.items area ≡ changed c.args.change (held past.areas.items) area = λ area. c.in-Ok.ensures.done area ∙ ap (λ (k : Change). changed k (held past.areas.items) area) is in
    record {
      agrees = push_agrees past.changes.items c.push.new.self.items c.args.change (held past.areas.items) (held c.apply.new.areas.items) past.agrees done c.in_ok-push.ensures.items;
      fits = push_fits past.changes.items c.push.new.self.items c.args.change (held past.areas.items) (held c.apply.new.areas.items) past.agrees done (c.if-not-has_room.ensures.0 refl) past.fits;
      few = c.apply.ensures.few past.few;
      reached = push_reached past.changes.items c.push.new.self.items c.args.change _ _ c.in_ok-push.ensures.items c.apply.ensures.no_fewer past.reached
          (λ area writes. c.in-Ok.ensures.reached area (subst (λ (k : Change). WritesTo area k) (sym is) writes));
    }
