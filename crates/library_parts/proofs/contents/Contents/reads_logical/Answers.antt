use Rattle.std.proofs.Common.{Some, map, sym, subst}
use Rattle.file_model.specs.declared.paths.PathSpec.{PathSpec}
use Rattle.library_steps.specs.LogicalFiles.{bases_in}
use Rattle.parts_model.specs.OpenStand.{AreFormatKeys}
use Rattle.parts_model.specs.Reads.{ReadsNew}
use Rattle.parts_model.proofs.FormatKeys.{view-keys}
use Rattle.parts_model.proofs.OpenLemmas.{new-with-rows}
use Rattle.library_parts.proofs.contents.Contents.reads_logical.Goals as goal

pub reads_by_path-requires : goal.reads_by_path-requires
reads_by_path-requires c =
    subst (λ (path : PathSpec). AreFormatKeys (map (λ format. format.key) path.formats)) (sym c.in_ok-path.ensures)
    (view-keys (bases_in c.args.self.now.state.files) c.args.spec.now c.requires)

pub returns-clause-new : goal.returns-clause-new
returns-clause-new c =
    subst (λ (path : PathSpec). ReadsNew c.args.commit c.args.self.now.room.paths.paths (Some path) (record { path = c.in_ok-reads.reads.path; position = c.in_ok-reads.reads.position; rows = c.in_ok-rows.rows })) c.in_ok-path.ensures
    (new-with-rows c.args.commit c.args.self.now.room.paths.paths c.in_ok-path.path c.in_ok-reads.reads c.in_ok-rows.rows c.in_ok-rows.ensures.start c.in_ok-reads.ensures.new)
