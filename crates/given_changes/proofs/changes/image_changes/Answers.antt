use Rattle.std.proofs.Common.{ℕ, ◌+◌, ◌-◌, ◌==◌, ◌++◌, ◌∷◌, [], cond, length, map, take, Option, Some, unwrap_or, refl, sym, ap, ◌∙◌, arith}
use Rattle.std.specs.Option.{option_copied}
use Rattle.member_slots.specs.declared.slot.Slot.TheVariants.{Deleted}
use Rattle.path_set.specs.declared.moves.ImageChange.{ImageChange}
use Rattle.range_images.specs.Given.{given_slots}
use Rattle.path_set.specs.ManyChanges.{change_in}
use Rattle.path_set.specs.RecordChanges.{RecordChange}
use Rattle.given_changes.proofs.StoodLemmas.{IsStanding, changes-end, changes-more, latest-more, map-push, standing-more}
use Rattle.given_changes.proofs.changes.image_changes.Goals as goal

pub loop-index-preserved : goal.loop-index-preserved
loop-index-preserved c =
    let l = c.loop-index in
    let given = c.args.given.now in
    let slots = c.args.member.now.state.slots in
    let g = c.index-given-index.result in
    let below = c.loop-index-test.true in
    let standing : IsStanding given slots l.index (length (given_slots (take l.index given) slots)) = record { held = refl; places = l.invariant.places } in
    let count = length (given_slots (take l.index given) slots) in
    record {
      within = omega (arith, below);
      places = (standing-more given slots l.index count g below c.index-given-index.is standing).places;
      latest = λ place. c.in_ok-_earlier.ensures.updates.0 place ∙ ap (λ (o : Option ℕ). cond (g.rrn - 1 == place) (Some l.index) o) (l.invariant.latest place)
          ∙ sym (latest-more given slots l.index count g below c.index-given-index.is standing place);
      telling = λ number.
          changes-more given slots l.index count g below c.index-given-index.is standing number (unwrap_or (option_copied c.stood-old.result) Deleted) (map (change_in number) l.changes.items)
          (map (change_in number) c.push.new.self.items) _ c.stood-old.ensures
          (ap (map (change_in number)) c.in_ok-push.ensures.items ∙ map-push (change_in number) l.changes.items c.image_change.result
          ∙ ap (λ (r : RecordChange). map (change_in number) l.changes.items ++ r ∷ []) (c.image_change.ensures number))
          (l.invariant.telling number);
    }
