use Rattle.std.proofs.Common.{Some, subst, sym}
use Rattle.library_steps.below.dds_logical.specs.declared.views.LogicalSpec.{LogicalSpec}
use Rattle.parts_model.specs.Opens.{join_by}
use Rattle.library_steps.specs.LogicalFiles.{bases_in}
use Rattle.library_steps.specs.Bases.{LogicalFile}
use Rattle.parts_model.specs.Indexed.{IsView, ReadsRowsBy}
use Rattle.library_parts.proofs.contents.Contents.rows_read.Goals as goal

pub rows_joined-requires-clause-keyed : goal.rows_joined-requires-clause-keyed
rows_joined-requires-clause-keyed c =
    let its = subst (λ (spec : LogicalSpec). IsView (bases_in c.args.self.now.state.files) spec) c.in-Join.is c.requires in its.keyed

pub returns-in_ok-rows_joined-in-Join-clause-rows : goal.returns-in_ok-rows_joined-in-Join-clause-rows
returns-in_ok-rows_joined-in-Join-clause-rows c =
    subst (λ (spec : LogicalSpec). ReadsRowsBy (bases_in c.args.self.now.state.files) c.args.self.now.room.paths.paths (LogicalFile spec) (join_by (Some c.in_ok-rows_joined-in-Join.field-0)))
    (sym c.in-Join.is) c.in_ok-rows_joined-in-Join.ensures.rows
