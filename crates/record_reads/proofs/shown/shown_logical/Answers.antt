use Rattle.std.proofs.Common.{subst, List, sym}
use Rattle.std.proofs.lemmas.Option.{slice_get_within}
use Rattle.dds_logical.specs.declared.views.LogicalSpec.{LogicalSpec}
use Rattle.dds_logical.specs.declared.views.LogicalSpec.TheVariants.{Multi}
use Rattle.dds_logical.specs.declared.views.View.{View}
use Rattle.logical_model.specs.Bases.{LogicalFile}
use Rattle.record_reads.specs.Shown.{ShowsImage}
use Rattle.record_reads.proofs.shown.shown_logical.Goals as goal

pub shown_view-requires-clause-read : goal.shown_view-requires-clause-read
shown_view-requires-clause-read c = let its = subst (λ (spec : LogicalSpec). ShowsImage (LogicalFile spec) c.args.number c.args.image.now) c.in-Simple.is c.requires in its.0

pub shown_view-requires-clause-format : goal.shown_view-requires-clause-format
shown_view-requires-clause-format c = let its = subst (λ (spec : LogicalSpec). ShowsImage (LogicalFile spec) c.args.number c.args.image.now) c.in-Simple.is c.requires in its.1

pub shown_among-requires-clause-within : goal.shown_among-requires-clause-within
shown_among-requires-clause-within c =
    let its = subst (λ (spec : LogicalSpec). ShowsImage (LogicalFile spec) c.args.number c.args.image.now) c.in-Multi.is c.requires in
    rw (c.from.ensures, c.as_slice.ensures) (slice_get_within c.in-Multi.views c.args.number its.0 its.1)

pub shown_among-requires-clause-shows : goal.shown_among-requires-clause-shows
shown_among-requires-clause-shows c =
    rw c.from.ensures
    (subst (λ (views : List View). ShowsImage (LogicalFile (Multi views)) c.args.number c.args.image.now) (sym c.as_slice.ensures)
    (subst (λ (spec : LogicalSpec). ShowsImage (LogicalFile spec) c.args.number c.args.image.now) c.in-Multi.is c.requires))

-- a join shows no record so
pub unreachable-requires : goal.unreachable-requires
unreachable-requires c = subst (λ (spec : LogicalSpec). ShowsImage (LogicalFile spec) c.args.number c.args.image.now) c.in-Join.is c.requires

pub returns-in-Simple : goal.returns-in-Simple
returns-in-Simple c = λ bases members. rw c.in-Simple.is c.shown_view.ensures

pub returns-in-Multi : goal.returns-in-Multi
returns-in-Multi c = λ bases members. rw (c.in-Multi.is, ← c.as_slice.ensures, ← c.from.ensures) c.shown_among.ensures
