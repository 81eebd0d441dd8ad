use Rattle.std.proofs.Common.{sym, subst}
use Rattle.std.specs.Prelude.{IfOk}
use Rattle.std.specs.Option.{option_copied}
use Rattle.dds_logical.specs.declared.views.LogicalSpec.{LogicalSpec}
use Rattle.logical_model.specs.Bases.{LogicalFile}
use Rattle.logical_model.specs.Formats.{given_in}
use Rattle.logical_laws.specs.Found.{HoldsRecord}
use Rattle.library_steps.specs.State.{memory_of}
use Rattle.library_steps.specs.LogicalFiles.{bases_of}
use Rattle.library_steps.specs.WriteRecord.{packed}
use Rattle.library_parts.specs.Answers.{Gives}
use Rattle.record_changes.specs.Images.{IsWrittenIn, fields_under}
use Rattle.record_changes.proofs.images.view_image.Goals as goal

pub format_image-requires-clause-written : goal.format_image-requires-clause-written
format_image-requires-clause-written c =
    subst (λ (spec : LogicalSpec). IsWrittenIn c.args.contents.now.state.files (LogicalFile spec) c.args.number) (sym c.spec.ensures) c.requires.written

pub format_image-requires-clause-old : goal.format_image-requires-clause-old
format_image-requires-clause-old c = λ image is.
    subst (λ (spec : LogicalSpec). HoldsRecord (fields_under (bases_of (memory_of c.args.contents.now.state)) (LogicalFile spec) c.args.number) image.now) (sym c.spec.ensures) (c.requires.old image is)

pub returns-clause-packed : goal.returns-clause-packed
returns-clause-packed c =
    let bases = bases_of (memory_of c.args.contents.now.state) in
    subst (λ (spec : LogicalSpec). Gives c.format_image.result (packed (given_in bases (LogicalFile spec) c.args.number c.args.given.now (option_copied c.args.old)))) c.spec.ensures
    c.format_image.ensures.packed

pub returns-clause-holds : goal.returns-clause-holds
returns-clause-holds c =
    let bases = bases_of (memory_of c.args.contents.now.state) in
    subst (λ (spec : LogicalSpec). IfOk c.format_image.result (λ image. HoldsRecord (fields_under bases (LogicalFile spec) c.args.number) image)) c.spec.ensures c.format_image.ensures.holds
