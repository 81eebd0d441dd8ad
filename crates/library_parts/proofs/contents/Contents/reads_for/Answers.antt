use Rattle.std.specs.Prelude.{IfOk}
use Rattle.std.proofs.Common.{◌≡◌, ◌∙◌, ◌&&◌, Option, Some, None, ap, subst, sym}
use Rattle.std.specs.Borrow.{Bor}
use Rattle.library_steps.specs.Opens.{first_of}
use Rattle.std.specs.Option.{option_copied}
use Rattle.parts_model.specs.Bodies.{spec_in}
use Rattle.parts_model.specs.Opens.{join_by}
use Rattle.parts_model.below.job_table.specs.declared.reads.OpenReads.{OpenReads}
use Rattle.library_model.specs.Named.{named}
use Rattle.library_steps.specs.LogicalFiles.{bases_in}
use Rattle.library_steps.specs.Records.{is_file_path}
use Rattle.library_steps.specs.State.{FileState}
use Rattle.library_steps.specs.Bases.{FileSpec, PhysicalFile, LogicalFile}
use Rattle.library_steps.specs.Formats.{has_key}
use Rattle.parts_model.specs.Steps.{own_path}
use Rattle.parts_model.specs.Indexed.{IsView, ReadsRowsBy, path_by}
use Rattle.parts_model.specs.Parts.{LibraryParts, joined}
use Rattle.parts_model.specs.Reads.{ReadsFor, ReadsNew}
use Rattle.parts_model.proofs.OpenLemmas.{if-ok-both, new-reads, view-there}
use Rattle.library_parts.proofs.contents.Contents.reads_for.Goals as goal

pub reads_logical-requires : goal.reads_logical-requires
reads_logical-requires c =
    let inside = c.self.inside in
    let parts = joined inside.catalogue inside.members inside.next_member inside.journal inside.locks inside.jobs inside.due inside.paths in
    let args = c.args.args.now in
    let file = c.unwrap-file.result.now in
    let there : named args.file inside.catalogue.files ≡ Some file = sym c.named.ensures ∙ ap (λ (o : Option (Bor FileState)). option_copied o) c.unwrap-file.ensures in
    let is : file.spec ≡ LogicalFile c.in-Logical.view.spec = sym c.described.ensures.spec ∙ ap spec_in c.in-Logical.is in
    rw (← c.self.view_is)
    (subst (IsView (bases_in inside.catalogue.files)) (sym c.spec.ensures)
    (view-there parts c.kept-paths.ensures.shared c.self.invariant.2.paths c.self.invariant.2.views args c.args.members.now (rw (← c.self.view_is) at c.requires.members)
    (rw (← c.self.view_is) at c.requires.so) file there c.in-Logical.view.spec is))

pub returns-in-Physical : goal.returns-in-Physical
returns-in-Physical c =
    let inside = c.self.inside in
    let parts = joined inside.catalogue inside.members inside.next_member inside.journal inside.locks inside.jobs inside.due inside.paths in
    let args = c.args.args.now in
    let file = c.unwrap-file.result.now in
    let spec : FileSpec = PhysicalFile c.in-Physical.described.spec in
    let there : named args.file inside.catalogue.files ≡ Some file = sym c.named.ensures ∙ ap (λ (o : Option (Bor FileState)). option_copied o) c.unwrap-file.ensures in
    let is : file.spec ≡ spec = sym c.described.ensures.spec ∙ ap spec_in c.in-Physical.is in
    rw (← c.self.view_is)
    (if-ok-both (λ (reads : OpenReads). ReadsNew args.commit inside.paths.paths (path_by (bases_in inside.catalogue.files) (is_file_path args.access_path && has_key spec) (first_of c.args.members.now) spec) reads)
    (λ (reads : OpenReads). reads.rows ≡ None)
    (λ (reads : OpenReads). ReadsFor parts args c.args.members.now reads) c.reads_physical.result
    (λ reads new rows.
    new-reads parts c.kept-paths.ensures.shared c.self.invariant.2.paths c.self.invariant.2.views args c.args.members.now (rw (← c.self.view_is) at c.requires.members)
    (rw (← c.self.view_is) at c.requires.so) file there spec is reads new (ap join_by rows))
    (rw (← c.self.view_is, c.first_of.ensures) at c.reads_physical.ensures.new) c.reads_physical.ensures.rows)

pub returns-in-Logical : goal.returns-in-Logical
returns-in-Logical c =
    let inside = c.self.inside in
    let parts = joined inside.catalogue inside.members inside.next_member inside.journal inside.locks inside.jobs inside.due inside.paths in
    let args = c.args.args.now in
    let file = c.unwrap-file.result.now in
    let spec : FileSpec = LogicalFile c.spec.result.now in
    let there : named args.file inside.catalogue.files ≡ Some file = sym c.named.ensures ∙ ap (λ (o : Option (Bor FileState)). option_copied o) c.unwrap-file.ensures in
    let is : file.spec ≡ spec = sym c.described.ensures.spec ∙ ap spec_in c.in-Logical.is ∙ ap LogicalFile (sym c.spec.ensures) in
    rw (← c.self.view_is)
    (if-ok-both (λ (reads : OpenReads). ReadsNew args.commit inside.paths.paths (Some (own_path (bases_in inside.catalogue.files) c.spec.result.now)) reads)
    (λ (reads : OpenReads). ReadsRowsBy (bases_in inside.catalogue.files) inside.paths.paths spec (join_by reads.rows))
    (λ (reads : OpenReads). ReadsFor parts args c.args.members.now reads) c.reads_logical.result
    (λ reads new rows.
    new-reads parts c.kept-paths.ensures.shared c.self.invariant.2.paths c.self.invariant.2.views args c.args.members.now (rw (← c.self.view_is) at c.requires.members)
    (rw (← c.self.view_is) at c.requires.so) file there spec is reads new rows)
    (rw (← c.self.view_is) at c.reads_logical.ensures.new) (subst (λ (p : LibraryParts). IfOk c.reads_logical.result (λ (reads : OpenReads). ReadsRowsBy (bases_in p.state.files) p.room.paths.paths spec (join_by reads.rows))) (sym c.self.view_is)
    c.reads_logical.ensures.rows))
