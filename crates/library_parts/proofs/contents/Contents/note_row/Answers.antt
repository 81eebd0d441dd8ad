use Rattle.std.proofs.Common.{ℕ, ◌≡◌, ◌∙◌, is_some, refl, sym, subst, ap}
use Rattle.library_steps.below.dds_logical.specs.declared.views.LogicalSpec.TheVariants.{Join}
use Rattle.parts_model.specs.Opens.{AllOfNumber}
use Rattle.parts_model.specs.Table.{orders_at}
use Rattle.lawful_states.proofs.LawfulLemmas.{AreOne-open_at}
use Rattle.lawful_states.proofs.NameLemmas.{some-equal}
use Rattle.library_steps.specs.Reads.{has_read, row_found}
use Rattle.library_steps.specs.Refusals.{OpenedFile}
use Rattle.library_steps.specs.State.{memory_of}
use Rattle.library_steps.specs.Bases.{LogicalFile}
use Rattle.parts_model.specs.KeptPaths.{pages_at}
use Rattle.parts_model.specs.Parts.{state_of}
use Rattle.parts_model.proofs.DueLemmas.{HasDue-kept}
use Rattle.parts_model.proofs.IndexOpens.{IsIndexed-row_read}
use Rattle.parts_model.proofs.KeepReads.{keeps-read}
use Rattle.parts_model.proofs.NoteRows.{along, row-can, row-low, row-placed}
use Rattle.parts_model.proofs.PlaceLemmas.{found-same}
use Rattle.parts_model.proofs.RowsOver.{path-paged, path-some}
use Rattle.library_parts.proofs.contents.Contents.note_row.Goals as goal

pub found_open-its-requires-clause-named : goal.found_open-its-requires-clause-named
found_open-its-requires-clause-named c = (c.requires.found.its, c.requires.found.opened)

pub unwrap-path-requires : goal.unwrap-path-requires
unwrap-path-requires c =
    let inside = c.self.inside in
    let m = memory_of (state_of inside.catalogue inside.members inside.next_member inside.journal inside.locks inside.jobs) in
    let kept = c.found_open-its.result.opened.now in
    let file = c.found_open-its.result.file.now in
    let its : OpenedFile = record { opened = kept.state; file = file } in
    let can = rw (← c.self.view_is) at c.requires.found in
    let same : can.its ≡ its = found-same _ can.its its can.opened (rw (← c.self.view_is) at c.found_open-its.ensures.found) in
    let reads = rw (← c.self.view_is) at c.found_open-its.ensures.reads in
    let join : file.spec ≡ LogicalFile (Join can.view) = subst (λ (o : OpenedFile). o.file.spec ≡ LogicalFile (Join can.view)) same can.join in
    let by = along m inside.paths.paths kept file can.view join reads.by reads.rows can.place c.args.found can.row in
    ap is_some (c.path.ensures ∙ by.path.1)

pub unwrap-own-requires : goal.unwrap-own-requires
unwrap-own-requires c =
    let inside = c.self.inside in
    let m = memory_of (state_of inside.catalogue inside.members inside.next_member inside.journal inside.locks inside.jobs) in
    let kept = c.found_open-its.result.opened.now in
    let file = c.found_open-its.result.file.now in
    let its : OpenedFile = record { opened = kept.state; file = file } in
    let can = rw (← c.self.view_is) at c.requires.found in
    let same : can.its ≡ its = found-same _ can.its its can.opened (rw (← c.self.view_is) at c.found_open-its.ensures.found) in
    let reads = rw (← c.self.view_is) at c.found_open-its.ensures.reads in
    let join : file.spec ≡ LogicalFile (Join can.view) = subst (λ (o : OpenedFile). o.file.spec ≡ LogicalFile (Join can.view)) same can.join in
    let by = along m inside.paths.paths kept file can.view join reads.by reads.rows can.place c.args.found can.row in
    let number = some-equal (sym c.unwrap-path.ensures ∙ c.path.ensures ∙ by.path.1) in
    let list = path-paged inside.paths c.kept-paths.ensures.shared c.kept-paths.ensures.rooms _ by.path.0 by.path.2 in
    path-some c.path-2.result list.0 (c.path-2.ensures ∙ ap (pages_at inside.paths) number ∙ list.1)

pub note_row-requires-clause-row : goal.note_row-requires-clause-row
note_row-requires-clause-row c =
    let inside = c.self.inside in
    let m = memory_of (state_of inside.catalogue inside.members inside.next_member inside.journal inside.locks inside.jobs) in
    let kept = c.found_open-its.result.opened.now in
    let file = c.found_open-its.result.file.now in
    let its : OpenedFile = record { opened = kept.state; file = file } in
    let can = rw (← c.self.view_is) at c.requires.found in
    let same : can.its ≡ its = found-same _ can.its its can.opened (rw (← c.self.view_is) at c.found_open-its.ensures.found) in
    let reads = rw (← c.self.view_is) at c.found_open-its.ensures.reads in
    let join : file.spec ≡ LogicalFile (Join can.view) = subst (λ (o : OpenedFile). o.file.spec ≡ LogicalFile (Join can.view)) same can.join in
    let alone = rw (← c.self.view_is) at c.found_open-its.ensures.alone in
    let number = c.number-number.ensures in
    let numbered = subst (λ (n : ℕ). AllOfNumber n (λ order. order ≡ kept.order) (orders_at c.args.job inside.jobs)) (sym number) alone in
    row-can m inside.paths.paths kept file can.view join reads.by reads.rows can.place c.args.found can.row _ (record { spec = refl; members = refl; primary = refl; numbers = refl }) c.number-number.result (orders_at c.args.job inside.jobs) numbered

pub invariant_of-self : goal.invariant_of-self
invariant_of-self c =
    let inside = c.self.inside in
    let m = memory_of (state_of inside.catalogue inside.members inside.next_member inside.journal inside.locks inside.jobs) in
    let kept = c.found_open-its.result.opened.now in
    let file = c.found_open-its.result.file.now in
    let its : OpenedFile = record { opened = kept.state; file = file } in
    let can = rw (← c.self.view_is) at c.requires.found in
    let same : can.its ≡ its = found-same _ can.its its can.opened (rw (← c.self.view_is) at c.found_open-its.ensures.found) in
    let reads = rw (← c.self.view_is) at c.found_open-its.ensures.reads in
    let join : file.spec ≡ LogicalFile (Join can.view) = subst (λ (o : OpenedFile). o.file.spec ≡ LogicalFile (Join can.view)) same can.join in
    let alone = rw (← c.self.view_is) at c.found_open-its.ensures.alone in
    let number = c.number-number.ensures in
    let numbered = subst (λ (n : ℕ). AllOfNumber n (λ order. order ≡ kept.order) (orders_at c.args.job inside.jobs)) (sym number) alone in
    let low = row-low m inside.paths.paths kept file can.view join reads.by reads.rows can.place c.args.found can.row in
    rw (c.note_row.ensures can.place
    (row-placed m inside.paths.paths kept file can.view join reads.by reads.rows can.place c.args.found can.row _ (record { spec = refl; members = refl; primary = refl; numbers = refl }) c.number-number.result (orders_at c.args.job inside.jobs) numbered)) (
      AreOne-open_at _ _ _ c.number-number.result (has_read c.args.call (row_found can.place)) c.self.invariant.0
          (keeps-read inside.catalogue.files c.self.invariant.2.views inside.paths.paths c.number-number.result kept.order c.args.call (row_found can.place) low _ inside.jobs.jobs inside.jobs.orders
          c.len-jobs.ensures.ordered c.self.invariant.2.orders numbered),
      HasDue-kept _ _ _ _ _ (λ job. refl) c.self.invariant.1,
      IsIndexed-row_read _ _ _ _ _ _ _ c.number-number.result c.args.call can.place c.self.invariant.2,
    )

pub returns-clause-memory : goal.returns-clause-memory
returns-clause-memory c = λ other view place is join_is row.
    let inside = c.self.inside in
    let m = memory_of (state_of inside.catalogue inside.members inside.next_member inside.journal inside.locks inside.jobs) in
    let kept = c.found_open-its.result.opened.now in
    let file = c.found_open-its.result.file.now in
    let its : OpenedFile = record { opened = kept.state; file = file } in
    let alone = rw (← c.self.view_is) at c.found_open-its.ensures.alone in
    let number = c.number-number.ensures in
    let numbered = subst (λ (n : ℕ). AllOfNumber n (λ order. order ≡ kept.order) (orders_at c.args.job inside.jobs)) (sym number) alone in
    let reads = rw (← c.self.view_is) at c.found_open-its.ensures.reads in
    let also : other ≡ its = found-same _ other its is c.found_open-its.ensures.found in
    let join : file.spec ≡ LogicalFile (Join view) = subst (λ (o : OpenedFile). o.file.spec ≡ LogicalFile (Join view)) also join_is in
    rw (
      ← c.self.view_is,
      c.note_row.ensures place
          (row-placed m inside.paths.paths kept file view join reads.by reads.rows place c.args.found (rw (← c.self.view_is) at row) _ (record { spec = refl; members = refl; primary = refl; numbers = refl }) c.number-number.result (orders_at c.args.job inside.jobs) numbered),
      number,
      also,
    ) refl

pub returns-clause-room : goal.returns-clause-room
returns-clause-room c =
    let inside = c.self.inside in
    let m = memory_of (state_of inside.catalogue inside.members inside.next_member inside.journal inside.locks inside.jobs) in
    let kept = c.found_open-its.result.opened.now in
    let file = c.found_open-its.result.file.now in
    let its : OpenedFile = record { opened = kept.state; file = file } in
    let can = rw (← c.self.view_is) at c.requires.found in
    let same : can.its ≡ its = found-same _ can.its its can.opened (rw (← c.self.view_is) at c.found_open-its.ensures.found) in
    let reads = rw (← c.self.view_is) at c.found_open-its.ensures.reads in
    let join : file.spec ≡ LogicalFile (Join can.view) = subst (λ (o : OpenedFile). o.file.spec ≡ LogicalFile (Join can.view)) same can.join in
    let alone = rw (← c.self.view_is) at c.found_open-its.ensures.alone in
    let number = c.number-number.ensures in
    let numbered = subst (λ (n : ℕ). AllOfNumber n (λ order. order ≡ kept.order) (orders_at c.args.job inside.jobs)) (sym number) alone in
    rw (
      ← c.self.view_is,
      c.note_row.ensures can.place
          (row-placed m inside.paths.paths kept file can.view join reads.by reads.rows can.place c.args.found can.row _ (record { spec = refl; members = refl; primary = refl; numbers = refl }) c.number-number.result (orders_at c.args.job inside.jobs) numbered),
    )
    refl
