use Rattle.std.proofs.Common.{◌≡◌, ◌∙◌, Bor, List, Option, is_some, map, ap, sym, subst}
use Rattle.std.specs.Option.{option_copied, option_map}
use Rattle.key_pages.specs.EntryList.{EntryList}
use Rattle.file_model.specs.declared.joins.JoinSpec.{JoinSpec}
use Rattle.file_model.specs.FilePaths.{key_parts}
use Rattle.parts_model.below.job_table.specs.declared.reads.OpenRows.{OpenRows}
use Rattle.parts_model.specs.Opens.{JoinOrder, rows_in}
use Rattle.parts_model.proofs.JobTableFindLemmas.{Finds}
use Rattle.parts_model.below.join_rows.specs.declared.rows.Row.{Row}
use Rattle.key_spec.specs.declared.KeyPart.{KeyPart}
use Rattle.parts_model.specs.RowReads.{IsAskedOf}
use Rattle.lawful_states.proofs.NameLemmas.{some-equal}
use Rattle.library_steps.specs.LogicalFiles.{bases_in}
use Rattle.library_steps.specs.State.{memory_of}
use Rattle.parts_model.specs.KeptPaths.{pages_at}
use Rattle.parts_model.specs.Parts.{state_of}
use Rattle.library_steps.specs.FilePaths.{join_of}
use Rattle.parts_model.specs.Rows.{FindsRow, row_found_by}
use Rattle.parts_model.proofs.JoinFound.{AreRowsKnown, finds-as, given-out, row_found, rows-found}
use Rattle.parts_model.proofs.RowsOver.{all-given, asked-there, join-same, path-is, path-some, rows-are, rows-over, rows-read, rows-some}
use Rattle.library_parts.proofs.contents.Contents.row_in.Goals as goal

pub unwrap-rows-requires : goal.unwrap-rows-requires
unwrap-rows-requires c =
    let inside = c.self.inside in
    let s = state_of inside.catalogue inside.members inside.next_member inside.journal inside.locks inside.jobs in
    let kept = inside.paths in
    let opened = c.args.opened.now in
    let asks = rw (← c.self.view_is) at c.requires in
    let over = rows-over s inside.jobs.orders inside.jobs.moves kept c.self.invariant.0.lawful c.at-none.ensures.lawful c.kept-paths.ensures.shared c.kept-paths.ensures.rooms c.self.invariant.2
    opened asks.0 c.args.spec asks.1 in
    rows-some c.rows.result over.join (c.rows.ensures.order ∙ over.is)

pub unwrap-number-requires : goal.unwrap-number-requires
unwrap-number-requires c =
    let inside = c.self.inside in
    let s = state_of inside.catalogue inside.members inside.next_member inside.journal inside.locks inside.jobs in
    let kept = inside.paths in
    let opened = c.args.opened.now in
    let asks = rw (← c.self.view_is) at c.requires in
    let over = rows-over s inside.jobs.orders inside.jobs.moves kept c.self.invariant.0.lawful c.at-none.ensures.lawful c.kept-paths.ensures.shared c.kept-paths.ensures.rooms c.self.invariant.2
    opened asks.0 c.args.spec asks.1 in
    ap is_some (c.path.ensures ∙ over.path)

pub unwrap-primary-requires : goal.unwrap-primary-requires
unwrap-primary-requires c =
    let inside = c.self.inside in
    let s = state_of inside.catalogue inside.members inside.next_member inside.journal inside.locks inside.jobs in
    let kept = inside.paths in
    let opened = c.args.opened.now in
    let asks = rw (← c.self.view_is) at c.requires in
    let over = rows-over s inside.jobs.orders inside.jobs.moves kept c.self.invariant.0.lawful c.at-none.ensures.lawful c.kept-paths.ensures.shared c.kept-paths.ensures.rooms c.self.invariant.2
    opened asks.0 c.args.spec asks.1 in
    let number = some-equal (sym c.unwrap-number.ensures ∙ c.path.ensures ∙ over.path) in
    path-some c.path-2.result over.primary.list (c.path-2.ensures ∙ ap (pages_at kept) number ∙ over.primary.pages)

pub paths_of-requires : goal.paths_of-requires
paths_of-requires c =
    let inside = c.self.inside in
    let s = state_of inside.catalogue inside.members inside.next_member inside.journal inside.locks inside.jobs in
    let kept = inside.paths in
    let opened = c.args.opened.now in
    let asks = rw (← c.self.view_is) at c.requires in
    let over = rows-over s inside.jobs.orders inside.jobs.moves kept c.self.invariant.0.lawful c.at-none.ensures.lawful c.kept-paths.ensures.shared c.kept-paths.ensures.rooms c.self.invariant.2
    opened asks.0 c.args.spec asks.1 in
    let rows = rows-are c.rows.result c.unwrap-rows.result over.join c.unwrap-rows.ensures (c.rows.ensures.order ∙ over.is) in
    asked-there kept c.as_slice-2.result.now over.join.paths over.secondaries.lists over.secondaries.pages (c.as_slice-2.ensures ∙ ap (λ (j : JoinOrder). j.paths) rows)

pub find-requires-clause-join : goal.find-requires-clause-join
find-requires-clause-join c =
    let inside = c.self.inside in
    let s = state_of inside.catalogue inside.members inside.next_member inside.journal inside.locks inside.jobs in
    let kept = inside.paths in
    let opened = c.args.opened.now in
    let asks = rw (← c.self.view_is) at c.requires in
    let over = rows-over s inside.jobs.orders inside.jobs.moves kept c.self.invariant.0.lawful c.at-none.ensures.lawful c.kept-paths.ensures.shared c.kept-paths.ensures.rooms c.self.invariant.2
    opened asks.0 c.args.spec asks.1 in
    let rows = rows-are c.rows.result c.unwrap-rows.result over.join c.unwrap-rows.ensures (c.rows.ensures.order ∙ over.is) in
    let number = some-equal (sym c.unwrap-number.ensures ∙ c.path.ensures ∙ over.path) in
    let read = rows-read s kept opened.order asks.0 over c.args.spec asks.1.is asks.1.defaults c.as_slice.result.now c.as_slice.ensures c.are_bytes_each.ensures in
    let its =
    c.joins_can_be_read.ensures (bases_in s.files) asks.0 s.members over.primary.list over.secondaries.lists c.unwrap-rows.result.now.position read
    (over.by.parts ∙ sym (ap (λ (j : JoinOrder). j.parts) rows)) (over.by.sequences ∙ sym (ap (λ (j : JoinOrder). j.sequences) rows)) in
    let path : c.unwrap-primary.result.now ≡ over.primary.list =
    path-is c.path-2.result c.unwrap-primary.result over.primary.list c.unwrap-primary.ensures (c.path-2.ensures ∙ ap (pages_at kept) number ∙ over.primary.pages) in
    let paths : map (λ (p : Bor EntryList). p.now) c.as_slice-3.result.now ≡ over.secondaries.lists =
    ap (map (λ (p : Bor EntryList). p.now)) c.as_slice-3.ensures.value
    ∙ all-given c.in_ok-secondaries.secondaries.items over.secondaries.lists
    (c.in_ok-secondaries.ensures ∙ ap (map (pages_at kept)) (c.as_slice-2.ensures ∙ ap (λ (j : JoinOrder). j.paths) rows) ∙ over.secondaries.pages) in
    join-same c.unwrap-rows.result.now.position _ c.args.spec s.members c.unwrap-primary.result.now over.primary.list _ over.secondaries.lists asks.1.is path paths its

pub find-requires-clause-asked : goal.find-requires-clause-asked
find-requires-clause-asked c =
    let inside = c.self.inside in
    let s = state_of inside.catalogue inside.members inside.next_member inside.journal inside.locks inside.jobs in
    let kept = inside.paths in
    let opened = c.args.opened.now in
    let asks = rw (← c.self.view_is) at c.requires in
    let over = rows-over s inside.jobs.orders inside.jobs.moves kept c.self.invariant.0.lawful c.at-none.ensures.lawful c.kept-paths.ensures.shared c.kept-paths.ensures.rooms c.self.invariant.2
    opened asks.0 c.args.spec asks.1 in
    let rows = rows-are c.rows.result c.unwrap-rows.result over.join c.unwrap-rows.ensures (c.rows.ensures.order ∙ over.is) in
    subst (λ (parts : List KeyPart). IsAskedOf parts c.args.by) (over.by.parts ∙ sym (ap (λ (j : JoinOrder). j.parts) rows)) asks.2

pub returns-in-None : goal.returns-in-None
returns-in-None c = λ view reads.
    let inside = c.self.inside in
    let s = state_of inside.catalogue inside.members inside.next_member inside.journal inside.locks inside.jobs in
    let kept = inside.paths in
    let opened = c.args.opened.now in
    let its = rw (← c.self.view_is) at reads in
    let over = rows-over s inside.jobs.orders inside.jobs.moves kept c.self.invariant.0.lawful c.at-none.ensures.lawful c.kept-paths.ensures.shared c.kept-paths.ensures.rooms c.self.invariant.2
    opened view c.args.spec its in
    let rows = rows-are c.rows.result c.unwrap-rows.result over.join c.unwrap-rows.ensures (c.rows.ensures.order ∙ over.is) in
    let join : JoinSpec = join_of (bases_in s.files) view in
    let read = rows-read s kept opened.order view over c.args.spec its.is its.defaults c.as_slice.result.now c.as_slice.ensures c.are_bytes_each.ensures in
    let known : AreRowsKnown (bases_in s.files) view s.members = record {
      made = λ place row. c.rows_are_made_of_records.ensures (bases_in s.files) view s.members place row over.its.keyed over.records read.defaults;
      at = λ by parts position row. c.found_rows_are_at_their_places.ensures by parts join s.members position row;
    } in
    let stand = c.unwrap-rows.result.now.position in
    let finds : Finds stand.parts c.args.spec s.members c.args.by stand.position c.in_ok-found.found =
    record { place = c.in_ok-found.ensures.place; row = c.in_ok-found.ensures.row; kept = c.in_ok-found.ensures.kept } in
    let found =
    rows-found (memory_of s) view over.primary.list over.secondaries.lists read known c.args.by opened.state c.in_ok-found.found
    (finds-as stand.parts (key_parts 0 view.keys.parts) c.args.spec join s.members c.args.by stand.position opened.state.rows c.in_ok-found.found
    (ap (λ (j : JoinOrder). j.parts) rows ∙ sym over.by.parts) its.is
    (sym (ap (λ (o : Option (Bor OpenRows)). rows_in (option_copied o)) c.unwrap-rows.ensures) ∙ c.rows.ensures.position) finds) in
    rw (← c.self.view_is)
    (subst (λ (o : Option Row). FindsRow view (memory_of s) (option_map (row_found join) o) (row_found_by c.args.by view opened.state (memory_of s))) c.in-None.is found)

pub returns-in_ok-primary-in-Some : goal.returns-in_ok-primary-in-Some
returns-in_ok-primary-in-Some c = λ view reads.
    let inside = c.self.inside in
    let s = state_of inside.catalogue inside.members inside.next_member inside.journal inside.locks inside.jobs in
    let kept = inside.paths in
    let opened = c.args.opened.now in
    let its = rw (← c.self.view_is) at reads in
    let over = rows-over s inside.jobs.orders inside.jobs.moves kept c.self.invariant.0.lawful c.at-none.ensures.lawful c.kept-paths.ensures.shared c.kept-paths.ensures.rooms c.self.invariant.2
    opened view c.args.spec its in
    let rows = rows-are c.rows.result c.unwrap-rows.result over.join c.unwrap-rows.ensures (c.rows.ensures.order ∙ over.is) in
    let join : JoinSpec = join_of (bases_in s.files) view in
    let read = rows-read s kept opened.order view over c.args.spec its.is its.defaults c.as_slice.result.now c.as_slice.ensures c.are_bytes_each.ensures in
    let known : AreRowsKnown (bases_in s.files) view s.members = record {
      made = λ place row. c.rows_are_made_of_records.ensures (bases_in s.files) view s.members place row over.its.keyed over.records read.defaults;
      at = λ by parts position row. c.found_rows_are_at_their_places.ensures by parts join s.members position row;
    } in
    let stand = c.unwrap-rows.result.now.position in
    let finds : Finds stand.parts c.args.spec s.members c.args.by stand.position c.in_ok-found.found =
    record { place = c.in_ok-found.ensures.place; row = c.in_ok-found.ensures.row; kept = c.in_ok-found.ensures.kept } in
    let found =
    rows-found (memory_of s) view over.primary.list over.secondaries.lists read known c.args.by opened.state c.in_ok-found.found
    (finds-as stand.parts (key_parts 0 view.keys.parts) c.args.spec join s.members c.args.by stand.position opened.state.rows c.in_ok-found.found
    (ap (λ (j : JoinOrder). j.parts) rows ∙ sym over.by.parts) its.is
    (sym (ap (λ (o : Option (Bor OpenRows)). rows_in (option_copied o)) c.unwrap-rows.ensures) ∙ c.rows.ensures.position) finds) in
    rw (← c.self.view_is)
    (given-out view (memory_of s) (row_found_by c.args.by view opened.state (memory_of s)) c.args.spec join c.in-Some.row _ its.is c.in_ok-primary-in-Some.ensures
    (subst (λ (o : Option Row). FindsRow view (memory_of s) (option_map (row_found join) o) (row_found_by c.args.by view opened.state (memory_of s))) c.in-Some.is found))
