use Rattle.std.proofs.Common.{sym, subst}
use Rattle.std.specs.Prelude.{IfOk}
use Rattle.std.specs.Option.{option_copied}
use Rattle.logical_model.specs.Formats.{given_in}
use Rattle.logical_laws.specs.Found.{HoldsRecord}
use Rattle.library_parts.below.file_catalogue.specs.declared.bodies.FileBody.{FileBody}
use Rattle.library_parts.specs.Bodies.{spec_in}
use Rattle.library_steps.specs.State.{memory_of}
use Rattle.library_steps.specs.LogicalFiles.{bases_of}
use Rattle.library_steps.specs.WriteRecord.{packed}
use Rattle.library_parts.specs.Answers.{Gives}
use Rattle.record_changes.specs.Images.{IsWrittenIn, fields_under}
use Rattle.record_changes.proofs.images.image_in.Goals as goal

pub own_image-requires : goal.own_image-requires
own_image-requires c =
    let bases = bases_of (memory_of c.args.contents.now.state) in
    record { old = λ image is. subst (λ (body : FileBody). HoldsRecord (fields_under bases (spec_in body) c.args.number) image.now) c.in-Physical.is (c.requires.old image is) }

pub view_image-requires-clause-written : goal.view_image-requires-clause-written
view_image-requires-clause-written c =
    subst (λ (body : FileBody). IsWrittenIn c.args.contents.now.state.files (spec_in body) c.args.number) c.in-Logical.is c.requires.written

pub view_image-requires-clause-old : goal.view_image-requires-clause-old
view_image-requires-clause-old c = λ image is.
    let bases = bases_of (memory_of c.args.contents.now.state) in
    subst (λ (body : FileBody). HoldsRecord (fields_under bases (spec_in body) c.args.number) image.now) c.in-Logical.is (c.requires.old image is)

pub returns-in-Physical-clause-packed : goal.returns-in-Physical-clause-packed
returns-in-Physical-clause-packed c =
    let bases = bases_of (memory_of c.args.contents.now.state) in
    subst (λ (body : FileBody). Gives c.own_image.result (packed (given_in bases (spec_in body) c.args.number c.args.given.now (option_copied c.args.old)))) (sym c.in-Physical.is) c.own_image.ensures.packed

pub returns-in-Physical-clause-holds : goal.returns-in-Physical-clause-holds
returns-in-Physical-clause-holds c =
    let bases = bases_of (memory_of c.args.contents.now.state) in
    subst (λ (body : FileBody). IfOk c.own_image.result (λ image. HoldsRecord (fields_under bases (spec_in body) c.args.number) image)) (sym c.in-Physical.is) c.own_image.ensures.holds

pub returns-in-Logical-clause-packed : goal.returns-in-Logical-clause-packed
returns-in-Logical-clause-packed c =
    let bases = bases_of (memory_of c.args.contents.now.state) in
    subst (λ (body : FileBody). Gives c.view_image.result (packed (given_in bases (spec_in body) c.args.number c.args.given.now (option_copied c.args.old)))) (sym c.in-Logical.is)
    c.view_image.ensures.packed

pub returns-in-Logical-clause-holds : goal.returns-in-Logical-clause-holds
returns-in-Logical-clause-holds c =
    let bases = bases_of (memory_of c.args.contents.now.state) in
    subst (λ (body : FileBody). IfOk c.view_image.result (λ image. HoldsRecord (fields_under bases (spec_in body) c.args.number) image)) (sym c.in-Logical.is) c.view_image.ensures.holds
