use Rattle.std.proofs.Common.{◌≡◌, ◌≤◌, ◌∙◌, List, length, map, ap, sym, subst}
use Rattle.library_steps.below.dds_logical.specs.declared.join_views.JoinedFile.{JoinedFile}
use Rattle.library_steps.below.dds_logical.specs.declared.views.LogicalSpec.{LogicalSpec}
use Rattle.library_steps.below.dds_logical.specs.declared.views.LogicalSpec.TheVariants.{Join}
use Rattle.file_model.specs.declared.joins.Secondary.{Secondary}
use Rattle.file_model.specs.declared.paths.PathSpec.{PathSpec}
use Rattle.parts_model.specs.RowStand.{JoinStand}
use Rattle.access_path.below.key_order.specs.declared.widths.TheConstants.{MOST_POSITIONS}
use Rattle.access_path.specs.KeyFields.{ArePositions}
use Rattle.key_spec.specs.declared.KeyPart.{KeyPart}
use Rattle.library_steps.specs.LogicalFiles.{bases_in}
use Rattle.library_steps.specs.Bases.{LogicalFile}
use Rattle.parts_model.specs.Parts.{LibraryParts}
use Rattle.parts_model.specs.Indexed.{AreNumbersOf, rows_paths}
use Rattle.parts_model.proofs.FormatKeys.{join-allowed, join-few}
use Rattle.library_parts.proofs.contents.Contents.rows_joined.Goals as goal

pub new-requires-clause-few : goal.new-requires-clause-few
new-requires-clause-few c =
    subst (λ (parts : List KeyPart). length parts ≤ MOST_POSITIONS) (sym c.in_ok-parts.ensures) (join-few (bases_in c.args.self.now.state.files) c.args.view.now c.requires.keyed)

pub new-requires-clause-allowed : goal.new-requires-clause-allowed
new-requires-clause-allowed c = subst ArePositions (sym c.in_ok-parts.ensures) (join-allowed (bases_in c.args.self.now.state.files) c.args.view.now c.requires.keyed)

pub returns-clause-start : goal.returns-clause-start
returns-clause-start c = ap (λ (stand : JoinStand). stand.position) c.in_ok-position.ensures

pub returns-clause-rows : goal.returns-clause-rows
returns-clause-rows c =
    let inside = c.self.inside in
    let bases = bases_in inside.catalogue.files in
    let specs : c.as_slice.result.now ≡ rows_paths bases (LogicalFile (Join c.args.view.now)) =
    c.as_slice.ensures.value ∙ (subst (λ (p : LibraryParts). c.in_ok-specs.specs.items ≡ rows_paths (bases_in p.state.files) (LogicalFile c.args.spec.now)) (sym c.self.view_is) c.in_ok-specs.ensures) ∙ ap (λ (spec : LogicalSpec). rows_paths bases (LogicalFile spec)) c.requires.join in
    rw (← c.self.view_is) (record {
      paths = subst (λ (some : List PathSpec). AreNumbersOf inside.paths.paths some c.in_ok-paths.paths) specs c.in_ok-paths.ensures;
      parts = sym (ap (λ (stand : JoinStand). stand.parts) c.in_ok-position.ensures ∙ c.in_ok-parts.ensures);
      sequences = sym (ap (λ (stand : JoinStand). stand.sequences) c.in_ok-position.ensures ∙ ap (map (λ (file : Secondary). file.sequence)) c.as_slice-3.ensures.value ∙ c.in_ok-files.ensures
          ∙ ap (map (λ (joined : JoinedFile). joined.sequence)) c.as_slice-2.ensures);
    })
