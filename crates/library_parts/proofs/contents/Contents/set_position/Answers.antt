use Rattle.std.proofs.Common.{ℕ, ◌≡◌, ◌∙◌, Ok, refl, sym, subst}
use Rattle.library_steps.specs.Readings.{join_in}
use Rattle.parts_model.specs.OpenPositionReads.{side_of}
use Rattle.parts_model.specs.OpenChanges.{CanStand, IsStood}
use Rattle.parts_model.specs.Opens.{AllOfNumber, OpenOrder}
use Rattle.parts_model.specs.Table.{orders_at}
use Rattle.library_steps.specs.LogicalFiles.{bases_in}
use Rattle.library_steps.specs.Reads.{bound_asked, positioned}
use Rattle.library_steps.specs.Refusals.{OpenedFile}
use Rattle.lawful_states.proofs.BaseLemmas.{OpenHolds-positioned}
use Rattle.parts_model.proofs.DueLemmas.{HasDue-kept}
use Rattle.parts_model.proofs.IndexOpens.{IsIndexed-positioned}
use Rattle.lawful_states.proofs.LawfulLemmas.{AreOne-open_changed}
use Rattle.parts_model.proofs.PlaceLemmas.{found-same, is-place, of-number, placed-there, stand-can, stand-is}
use Rattle.library_parts.proofs.contents.Contents.set_position.Goals as goal

pub found_open-its-requires-clause-named : goal.found_open-its-requires-clause-named
found_open-its-requires-clause-named c = (c.requires.place.its, c.requires.place.opened)

pub set_position-requires-clause-place : goal.set_position-requires-clause-place
set_position-requires-clause-place c =
    let inside = c.self.inside in
    let kept = c.found_open-its.result.opened.now in
    let its : OpenedFile = record { opened = kept.state; file = c.found_open-its.result.file.now } in
    let to = c.args.to.now in
    let reads = rw (← c.self.view_is) at c.found_open-its.ensures.reads in
    let bases = bases_in inside.catalogue.files in
    let formats = rw (← c.self.view_is) at c.reads_keys.ensures.formats in
    let there = placed-there bases _ c.requires.place.its its c.args.side to reads.so c.requires.place.opened c.found_open-its.ensures.found (c.requires.place.place (side_of c.args.side)) in
    let alone = rw (← c.self.view_is) at c.found_open-its.ensures.alone in
    let number = c.number-number.ensures in
    of-number c.number-number.result kept.order (λ (order : OpenOrder). CanStand order.join order.formats c.place_of-at.result) (orders_at c.args.job inside.jobs)
    (subst (λ (n : ℕ). AllOfNumber n (λ order. order ≡ kept.order) (orders_at c.args.job inside.jobs)) (sym number) alone)
    (stand-can bases inside.paths.paths its kept.order c.args.side to c.place_of-at.result there.position formats there.is there.placed c.place_of-at.ensures.can c.place_of-at.ensures.rows
    (c.place_of-at.ensures.stood c.args.side) reads.rows)

pub invariant_of-self : goal.invariant_of-self
invariant_of-self c =
    let inside = c.self.inside in
    let kept = c.found_open-its.result.opened.now in
    let its : OpenedFile = record { opened = kept.state; file = c.found_open-its.result.file.now } in
    let to = c.args.to.now in
    let reads = rw (← c.self.view_is) at c.found_open-its.ensures.reads in
    let bases = bases_in inside.catalogue.files in
    let formats = rw (← c.self.view_is) at c.reads_keys.ensures.formats in
    let there = placed-there bases _ c.requires.place.its its c.args.side to reads.so c.requires.place.opened c.found_open-its.ensures.found (c.requires.place.place (side_of c.args.side)) in
    let alone = rw (← c.self.view_is) at c.found_open-its.ensures.alone in
    let number = c.number-number.ensures in
    let view = join_in its.file.spec in
    let all =
    of-number c.number-number.result kept.order (λ (order : OpenOrder). IsStood view order.join c.args.side c.place_of-at.result order.formats there.position) (orders_at c.args.job inside.jobs)
    (subst (λ (n : ℕ). AllOfNumber n (λ order. order ≡ kept.order) (orders_at c.args.job inside.jobs)) (sym number) alone)
    (stand-is bases inside.paths.paths its kept.order c.args.side to c.place_of-at.result there.position formats there.is there.placed c.place_of-at.ensures.can c.place_of-at.ensures.rows
    (c.place_of-at.ensures.stood c.args.side) reads.rows) in
    rw (c.set_position.ensures view there.position all) (
      AreOne-open_changed _ _ _ c.number-number.result (positioned view there.position) c.self.invariant.0
          (λ opened holds. OpenHolds-positioned _ view there.position opened holds),
      HasDue-kept _ _ _ _ _ (λ job. refl) c.self.invariant.1,
      IsIndexed-positioned _ _ _ _ _ _ _ c.number-number.result view there.position c.self.invariant.2,
    )

pub returns-clause-memory : goal.returns-clause-memory
returns-clause-memory c = λ other position is bound.
    let inside = c.self.inside in
    let kept = c.found_open-its.result.opened.now in
    let its : OpenedFile = record { opened = kept.state; file = c.found_open-its.result.file.now } in
    let to = c.args.to.now in
    let reads = rw (← c.self.view_is) at c.found_open-its.ensures.reads in
    let bases = bases_in inside.catalogue.files in
    let formats = rw (← c.self.view_is) at c.reads_keys.ensures.formats in
    let alone = rw (← c.self.view_is) at c.found_open-its.ensures.alone in
    let number = c.number-number.ensures in
    let same : other ≡ its = found-same _ other its is c.found_open-its.ensures.found in
    let asked = subst (λ (o : OpenedFile). bound_asked o (side_of c.args.side) to ≡ Ok position) same bound in
    let placed = is-place bases its reads.so c.args.side to position asked in
    let view = join_in its.file.spec in
    let all =
    of-number c.number-number.result kept.order (λ (order : OpenOrder). IsStood view order.join c.args.side c.place_of-at.result order.formats position) (orders_at c.args.job inside.jobs)
    (subst (λ (n : ℕ). AllOfNumber n (λ order. order ≡ kept.order) (orders_at c.args.job inside.jobs)) (sym number) alone)
    (stand-is bases inside.paths.paths its kept.order c.args.side to c.place_of-at.result position formats asked placed c.place_of-at.ensures.can c.place_of-at.ensures.rows
    (c.place_of-at.ensures.stood c.args.side) reads.rows) in
    rw (← c.self.view_is, c.set_position.ensures view position all, number, same) refl

pub returns-clause-room : goal.returns-clause-room
returns-clause-room c =
    let inside = c.self.inside in
    let kept = c.found_open-its.result.opened.now in
    let its : OpenedFile = record { opened = kept.state; file = c.found_open-its.result.file.now } in
    let to = c.args.to.now in
    let reads = rw (← c.self.view_is) at c.found_open-its.ensures.reads in
    let bases = bases_in inside.catalogue.files in
    let formats = rw (← c.self.view_is) at c.reads_keys.ensures.formats in
    let there = placed-there bases _ c.requires.place.its its c.args.side to reads.so c.requires.place.opened c.found_open-its.ensures.found (c.requires.place.place (side_of c.args.side)) in
    let alone = rw (← c.self.view_is) at c.found_open-its.ensures.alone in
    let number = c.number-number.ensures in
    let view = join_in its.file.spec in
    let all =
    of-number c.number-number.result kept.order (λ (order : OpenOrder). IsStood view order.join c.args.side c.place_of-at.result order.formats there.position) (orders_at c.args.job inside.jobs)
    (subst (λ (n : ℕ). AllOfNumber n (λ order. order ≡ kept.order) (orders_at c.args.job inside.jobs)) (sym number) alone)
    (stand-is bases inside.paths.paths its kept.order c.args.side to c.place_of-at.result there.position formats there.is there.placed c.place_of-at.ensures.can c.place_of-at.ensures.rows
    (c.place_of-at.ensures.stood c.args.side) reads.rows) in
    rw (← c.self.view_is, c.set_position.ensures view there.position all) refl
