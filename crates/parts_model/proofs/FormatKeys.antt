-- The keys of a file's formats can be compared with one another and with given values.
use Rattle.std.proofs.Common.{◌≡◌, ℕ, zero, suc, ◌<◌, ◌≤◌, List, [], ◌∷◌, length, map, refl, sym, ap, subst, arith}
use Rattle.std.specs.Prelude.{All}
use Rattle.std.specs.List.{AllByRecursion}
use Rattle.std.proofs.lemmas.List.Elements.{All-from_recursion, recursion_from_All}
use Rattle.key_spec.specs.declared.KeyPart.{KeyPart}
use Rattle.key_spec.specs.declared.KeyPart.TheVariants.{Field, Absent}
use Rattle.access_path.below.key_order.specs.declared.widths.TheConstants.{MOST_POSITIONS}
use Rattle.access_path.specs.KeyFields.{ArePositions, IsPosition}
use Rattle.library_steps.below.dds_physical.specs.declared.physical_files.PhysicalSpec.{PhysicalSpec}
use Rattle.library_steps.below.dds_logical.specs.declared.views.View.{View}
use Rattle.library_steps.below.dds_logical.specs.declared.views.LogicalSpec.{LogicalSpec}
use Rattle.library_steps.below.dds_logical.specs.declared.views.LogicalSpec.TheVariants.{Simple, Multi, Join}
use Rattle.file_model.specs.declared.paths.PathFormat.{PathFormat}
use Rattle.file_model.specs.declared.paths.PathSpec.{PathSpec}
use Rattle.file_model.specs.FilePaths.{key_parts, physical_path}
use Rattle.file_model.specs.KeyOrder.{either_part, either_parts, merged_parts}
use Rattle.access_path.specs.PathBytes.{IsInBytes}
use Rattle.library_steps.specs.Bases.{Bases, LogicalFile, base_names}
use Rattle.view_records.specs.KeyedViews.{HaveRecords, IsKeyedLogical, IsViewOver, IsKeyedJoin}
use Rattle.view_records.specs.Steps.{own_path, shown_in_join}
use Rattle.view_records.proofs.ViewLemmas.{paths-bytes, same-keys, view-allowed, view-few}
use Rattle.file_catalogue.specs.KeyedFiles.{HasRecordsOf, IsKeyed}
use Rattle.file_catalogue.proofs.PositionLemmas.{parts-allowed, parts-few}
use Rattle.open_position.specs.OpenStand.{AreFormatKeys}
use Rattle.parts_model.specs.Indexed.{IsView}
use Rattle.parts_model.proofs.OpenLooks.{merged-one}
use Rattle.library_steps.below.dds_logical.specs.declared.join_views.JoinView.{JoinView}
use Rattle.view_records.proofs.KeyLemmas.{parts-length, parts-allowed as joined-allowed}

either-few : (n : ℕ) (ps qs : List KeyPart) → length ps ≤ n → length qs ≤ n → length (either_parts ps qs) ≤ n
either-few n [] qs few also = also
either-few n (p ∷ ps) [] few also = few
either-few zero (p ∷ ps) (q ∷ qs) few also = absurd (omega (arith, few))
either-few (suc n) (p ∷ ps) (q ∷ qs) few also = let rest = either-few n ps qs (omega (arith, few)) (omega (arith, also)) in omega (arith, rest)

either-position : (p q : KeyPart) → IsPosition p → IsPosition q → IsPosition (either_part p q)
either-position (Field t offset descend absval) q is also = is
either-position Absent q is also = also

either-positions : (ps qs : List KeyPart) → AllByRecursion IsPosition ps → AllByRecursion IsPosition qs → AllByRecursion IsPosition (either_parts ps qs)
either-positions [] qs are also = also
either-positions (p ∷ ps) [] are also = are
either-positions (p ∷ ps) (q ∷ qs) are also = (either-position p q are.0 also.0, either-positions ps qs are.1 also.1)

views-few : (bases : Bases) (views : List View) → AllByRecursion (IsViewOver bases) views → length (merged_parts (map (λ (view : View). key_parts 0 view.keys.parts) views)) ≤ MOST_POSITIONS
views-few bases [] all = omega arith
views-few bases (view ∷ views) all =
    either-few MOST_POSITIONS (key_parts 0 view.keys.parts) (merged_parts (map (λ (v : View). key_parts 0 v.keys.parts) views)) (view-few (bases view.base).fields view all.0) (views-few bases views all.1)

views-allowed : (bases : Bases) (views : List View) → AllByRecursion (IsViewOver bases) views
    → AllByRecursion IsPosition (merged_parts (map (λ (view : View). key_parts 0 view.keys.parts) views))
views-allowed bases [] all = tt
views-allowed bases (view ∷ views) all =
    either-positions (key_parts 0 view.keys.parts) (merged_parts (map (λ (v : View). key_parts 0 v.keys.parts) views))
    (recursion_from_All IsPosition (key_parts 0 view.keys.parts) (view-allowed (bases view.base).fields view all.0)) (views-allowed bases views all.1)

-- members without records have records of any fields
no-records : (bases : Bases) (names : List (List ℕ)) → AllByRecursion (λ name. HasRecordsOf (bases name).fields (bases name).member []) names
no-records bases [] = tt
no-records bases (name ∷ names) = ((λ k d low. absurd (omega (arith, low))), no-records bases names)

-- of a join by the key of its primary file
pub join-allowed : (bases : Bases) (view : JoinView) → IsKeyedJoin bases view → ArePositions (key_parts 0 view.keys.parts)
join-allowed bases view keyed = joined-allowed (bases view.primary).fields (shown_in_join view.fields) view.keys.parts keyed.parts

pub join-few : (bases : Bases) (view : JoinView) → IsKeyedJoin bases view → length (key_parts 0 view.keys.parts) ≤ MOST_POSITIONS
join-few bases view keyed = subst (λ (n : ℕ). n ≤ MOST_POSITIONS) (sym (parts-length view.keys.parts 0)) keyed.few

pub view-keys : (bases : Bases) (spec : LogicalSpec) → IsView bases spec → AreFormatKeys (map (λ (format : PathFormat). format.key) (own_path bases spec).formats)
view-keys bases (Simple view) its = record {
  few = subst (λ (ps : List KeyPart). length ps ≤ MOST_POSITIONS) (sym (merged-one (key_parts 0 view.keys.parts))) (view-few (bases view.base).fields view its.keyed);
  allowed = subst ArePositions (sym (merged-one (key_parts 0 view.keys.parts))) (view-allowed (bases view.base).fields view its.keyed);
  matching = (recursion_from_All (λ (p : PathSpec). IsInBytes p []) (own_path bases (Simple view) ∷ [])
      (paths-bytes bases (Simple view) [] its.keyed (no-records bases (base_names (Simple view))))).0.match;
}
view-keys bases (Multi views) its = record {
  few = subst (λ (fs : List (List KeyPart)). length (merged_parts fs) ≤ MOST_POSITIONS) (sym (same-keys bases views)) (views-few bases views its.keyed.each);
  allowed = subst (λ (fs : List (List KeyPart)). ArePositions (merged_parts fs)) (sym (same-keys bases views))
      (All-from_recursion IsPosition (merged_parts (map (λ (view : View). key_parts 0 view.keys.parts) views)) (views-allowed bases views its.keyed.each));
  matching = (recursion_from_All (λ (p : PathSpec). IsInBytes p []) (own_path bases (Multi views) ∷ [])
      (paths-bytes bases (Multi views) [] its.keyed (no-records bases (base_names (Multi views))))).0.match;
}
view-keys bases (Join view) its = record {
  few = subst (λ (ps : List KeyPart). length ps ≤ MOST_POSITIONS) (sym (merged-one (key_parts 0 view.keys.parts))) (join-few bases view its.keyed);
  allowed = subst ArePositions (sym (merged-one (key_parts 0 view.keys.parts))) (join-allowed bases view its.keyed);
  matching = λ i j d before within. absurd (let first : j < 1 = within in omega (arith, before, first));
}

pub physical-keys : (member : ℕ) (spec : PhysicalSpec) → IsKeyed spec → AreFormatKeys (map (λ (format : PathFormat). format.key) (physical_path member spec.format.fields spec.keys).formats)
physical-keys member spec keyed = record {
  few = subst (λ (ps : List KeyPart). length ps ≤ MOST_POSITIONS) (sym (merged-one (key_parts 0 spec.keys.parts))) (parts-few spec keyed);
  allowed = subst ArePositions (sym (merged-one (key_parts 0 spec.keys.parts))) (parts-allowed spec keyed);
  matching = λ i j d before within. absurd (let first : j < 1 = within in omega (arith, before, first));
}
