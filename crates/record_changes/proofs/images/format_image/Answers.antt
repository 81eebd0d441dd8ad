use Rattle.std.proofs.Common.{refl, sym, subst, List}
use Rattle.std.specs.Prelude.{IfOk}
use Rattle.std.proofs.lemmas.Option.{slice_get_within}
use Rattle.dds_logical.specs.declared.views.LogicalSpec.TheVariants.{Multi}
use Rattle.dds_logical.specs.declared.views.View.{View}
use Rattle.std.specs.Option.{option_copied}
use Rattle.dds_logical.specs.declared.views.LogicalSpec.{LogicalSpec}
use Rattle.logical_model.specs.Bases.{LogicalFile}
use Rattle.logical_model.specs.Formats.{given_in}
use Rattle.logical_laws.specs.Found.{HoldsRecord}
use Rattle.library_steps.specs.State.{memory_of}
use Rattle.library_steps.specs.LogicalFiles.{bases_of}
use Rattle.library_steps.specs.WriteRecord.{packed}
use Rattle.library_parts.specs.Answers.{Gives}
use Rattle.record_changes.specs.Images.{IsWrittenIn, fields_under}
use Rattle.record_changes.proofs.images.format_image.Goals as goal

pub image_over-requires-clause-written : goal.image_over-requires-clause-written
image_over-requires-clause-written c =
    subst (λ (spec : LogicalSpec). IsWrittenIn c.args.contents.now.state.files (LogicalFile spec) c.args.number) c.in-Simple.is c.requires.written

pub image_over-requires-clause-old : goal.image_over-requires-clause-old
image_over-requires-clause-old c = λ image is.
    let bases = bases_of (memory_of c.args.contents.now.state) in
    subst (λ (spec : LogicalSpec). HoldsRecord (fields_under bases (LogicalFile spec) c.args.number) image.now) c.in-Simple.is (c.requires.old image is)

pub image_among-requires-clause-within : goal.image_among-requires-clause-within
image_among-requires-clause-within c =
    let its = subst (λ (spec : LogicalSpec). IsWrittenIn c.args.contents.now.state.files (LogicalFile spec) c.args.number) c.in-Multi.is c.requires.written in
    rw (c.from.ensures, c.as_slice.ensures) (slice_get_within c.in-Multi.views c.args.number its.0 its.1)

pub image_among-requires-clause-written : goal.image_among-requires-clause-written
image_among-requires-clause-written c =
    rw c.from.ensures
    (subst (λ (views : List View). IsWrittenIn c.args.contents.now.state.files (LogicalFile (Multi views)) c.args.number) (sym c.as_slice.ensures)
    (subst (λ (spec : LogicalSpec). IsWrittenIn c.args.contents.now.state.files (LogicalFile spec) c.args.number) c.in-Multi.is c.requires.written))

pub image_among-requires-clause-old : goal.image_among-requires-clause-old
image_among-requires-clause-old c = λ image is.
    let bases = bases_of (memory_of c.args.contents.now.state) in
    rw c.from.ensures
    (subst (λ (views : List View). HoldsRecord (fields_under bases (LogicalFile (Multi views)) c.args.number) image.now) (sym c.as_slice.ensures)
    (subst (λ (spec : LogicalSpec). HoldsRecord (fields_under bases (LogicalFile spec) c.args.number) image.now) c.in-Multi.is (c.requires.old image is)))

-- nothing is written through a join
pub returns-in-Join-clause-packed : goal.returns-in-Join-clause-packed
returns-in-Join-clause-packed c = rw c.in-Join.is refl

pub returns-in-Simple-clause-packed : goal.returns-in-Simple-clause-packed
returns-in-Simple-clause-packed c =
    let bases = bases_of (memory_of c.args.contents.now.state) in
    subst (λ (spec : LogicalSpec). Gives c.image_over.result (packed (given_in bases (LogicalFile spec) c.args.number c.args.given.now (option_copied c.args.old)))) (sym c.in-Simple.is)
    c.image_over.ensures.packed

pub returns-in-Simple-clause-holds : goal.returns-in-Simple-clause-holds
returns-in-Simple-clause-holds c =
    let bases = bases_of (memory_of c.args.contents.now.state) in
    subst (λ (spec : LogicalSpec). IfOk c.image_over.result (λ image. HoldsRecord (fields_under bases (LogicalFile spec) c.args.number) image)) (sym c.in-Simple.is) c.image_over.ensures.holds

pub returns-in-Multi-clause-packed : goal.returns-in-Multi-clause-packed
returns-in-Multi-clause-packed c =
    let bases = bases_of (memory_of c.args.contents.now.state) in
    subst (λ (spec : LogicalSpec). Gives c.image_among.result (packed (given_in bases (LogicalFile spec) c.args.number c.args.given.now (option_copied c.args.old)))) (sym c.in-Multi.is)
    (subst (λ (views : List View). Gives c.image_among.result (packed (given_in bases (LogicalFile (Multi views)) c.args.number c.args.given.now (option_copied c.args.old)))) c.as_slice.ensures
    (rw c.from.ensures at c.image_among.ensures.packed))

pub returns-in-Multi-clause-holds : goal.returns-in-Multi-clause-holds
returns-in-Multi-clause-holds c =
    let bases = bases_of (memory_of c.args.contents.now.state) in
    subst (λ (spec : LogicalSpec). IfOk c.image_among.result (λ image. HoldsRecord (fields_under bases (LogicalFile spec) c.args.number) image)) (sym c.in-Multi.is)
    (subst (λ (views : List View). IfOk c.image_among.result (λ image. HoldsRecord (fields_under bases (LogicalFile (Multi views)) c.args.number) image)) c.as_slice.ensures
    (rw c.from.ensures at c.image_among.ensures.holds))
