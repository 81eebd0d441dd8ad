use Rattle.std.proofs.Common.{◌≡◌, ◌<◌, ℕ, List, ap, sym, ◌∙◌, arith, length, set}
use Rattle.store_model.specs.Disk.{Areas, written}
use Rattle.store_model.specs.Past.{held, changed}
use Rattle.store_model.specs.declared.past.Change.{Change}
use Rattle.store_model.specs.declared.past.Change.TheVariants.{Wrote}
use Rattle.store_model.proofs.Held.{held_read, held-set_back}
use Rattle.store_model.proofs.Pieces.{on_err}
use Rattle.store_model.proofs.Pushed.{set_wrote, same_areas}
use Rattle.store_model.proofs.past.apply.Goals as goal

pub returns-in_err-overwrite-in-Wrote-clause-unchanged : goal.returns-in_err-overwrite-in-Wrote-clause-unchanged
returns-in_err-overwrite-in-Wrote-clause-unchanged c =
    let areas = c.reach.new.areas.items in
    let within : c.in-Wrote.area < length areas = omega (arith, c.in_ok-reach-in-Wrote.ensures.reached) in
    let here = held_read areas c.in-Wrote.area c.index_mut.result.now within c.index_mut.ensures.value in
    let same : (area : ℕ) → held (set areas c.in-Wrote.area c.overwrite.new.old) area ≡ held c.args.areas.now.items area = λ area. held-set_back areas c.in-Wrote.area area c.overwrite.new.old within (c.in_err-overwrite-in-Wrote.ensures.unchanged ∙ here) ∙ c.reach.ensures.same area in
    on_err _ _ same

pub returns-in_ok-overwrite-in-Wrote-clause-done : goal.returns-in_ok-overwrite-in-Wrote-clause-done
returns-in_ok-overwrite-in-Wrote-clause-done c = λ area.
    let areas = c.reach.new.areas.items in
    let within : c.in-Wrote.area < length areas = omega (arith, c.in_ok-reach-in-Wrote.ensures.reached) in
    let here = held_read areas c.in-Wrote.area c.index_mut.result.now within c.index_mut.ensures.value in
    let change : Change = Wrote c.in-Wrote.area c.in-Wrote.at c.in-Wrote.bytes in
    set_wrote areas c.in-Wrote.area c.in-Wrote.at c.in-Wrote.bytes c.overwrite.new.old within
    (c.in_ok-overwrite-in-Wrote.ensures.written ∙ ap (λ (l : List ℕ). written c.in-Wrote.at l c.index_mut.result.now.items) c.deref.ensures.value ∙ ap (λ (l : List ℕ). written c.in-Wrote.at c.in-Wrote.bytes.items l) here) area
    ∙ ap (λ (f : Areas). changed change f area) (same_areas (held areas) (held c.args.areas.now.items) c.reach.ensures.same)
    ∙ ap (λ (k : Change). changed k (held c.args.areas.now.items) area) (sym c.in-Wrote.is)
