use Rattle.std.proofs.Common.{◌≡◌, None, IfOk, sym, subst}
use Rattle.dds_logical.specs.declared.views.LogicalSpec.{LogicalSpec}
use Rattle.logical_model.specs.Bases.{LogicalFile}
use Rattle.logical_model.specs.Formats.{shown_in}
use Rattle.library_model.specs.declared.replies.RecordRead.{RecordRead}
use Rattle.library_steps.specs.Reads.{read_as}
use Rattle.library_parts.below.file_catalogue.specs.declared.bodies.FileBody.{FileBody}
use Rattle.library_parts.specs.Bodies.{spec_in}
use Rattle.record_reads.specs.Shown.{ShowsImage}
use Rattle.record_reads.proofs.shown.shown_by.Goals as goal

pub shown_physical-requires : goal.shown_physical-requires
shown_physical-requires c = subst (λ (body : FileBody). ShowsImage (spec_in body) c.args.number c.args.image.now) c.in-Physical.is c.requires

pub shown_logical-requires : goal.shown_logical-requires
shown_logical-requires c =
    subst (λ (spec : LogicalSpec). ShowsImage (LogicalFile spec) c.args.number c.args.image.now) (sym c.spec.ensures)
    (subst (λ (body : FileBody). ShowsImage (spec_in body) c.args.number c.args.image.now) c.in-Logical.is c.requires)

pub returns-in-Physical : goal.returns-in-Physical
returns-in-Physical c = λ bases members. rw c.in-Physical.is c.shown_physical.ensures

pub returns-in-Logical : goal.returns-in-Logical
returns-in-Logical c = λ bases members.
    rw c.in-Logical.is
    (subst (λ (spec : LogicalSpec). IfOk c.shown_logical.result (λ (shown : RecordRead). shown ≡ read_as c.args.rrn (shown_in bases members (LogicalFile spec) c.args.number c.args.image.now None)))
    c.spec.ensures (c.shown_logical.ensures bases members))
