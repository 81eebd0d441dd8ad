-- What is built of the paths of a logical file.
use Rattle.std.proofs.Common.{◌≡◌, ℕ, ◌+◌, ◌-◌, ◌<◌, ◌≤◌, ◌==◌, Bool, true, false, cond, List, [], ◌∷◌, ◌++◌, map, Option, Some, None, ap, sym, refl, arith, ◌∙◌}
use Rattle.std.specs.Option.{option_to_list}
use Rattle.std.specs.List.{AllByRecursion, cons_option}
use Rattle.std.proofs.lemmas.Bool.{cond-false, ne_eqb}
use Rattle.std.proofs.lemmas.List.{append_assoc}
use Rattle.field_values.specs.FieldTypes.{width}
use Rattle.file_model.below.record_fmt.specs.declared.formats.Field.{Field}
use Rattle.file_model.specs.Layout.{lies_from, IsLaidOut}
use Rattle.file_model.proofs.LayoutLemmas.{lies-parts}
use Rattle.key_spec.specs.declared.KeyPart.{KeyPart}
use Rattle.key_spec.specs.declared.KeyPart.TheVariants.{Field as KeyField}
use Rattle.file_model.specs.declared.paths.PathSpec.{PathSpec}
use Rattle.file_model.specs.declared.views.ViewField.{ViewField}
use Rattle.file_model.specs.FilePaths.{field_from}
use Rattle.file_model.specs.Joins.{parts_from, total_width, sequence_part, secondary_path}
use Rattle.dds_logical.specs.declared.join_views.JoinedFile.{JoinedFile}
use Rattle.dds_logical.specs.declared.views.LogicalSpec.{LogicalSpec}
use Rattle.dds_logical.specs.declared.views.LogicalSpec.TheVariants.{Simple, Multi, Join}
use Rattle.logical_laws.specs.Bases.{Bases}
use Rattle.logical_laws.specs.FilePaths.{logical_paths, secondary_of}
use Rattle.logical_paths.specs.Steps.{HasType, joined_paths, own_path, parts_behind, secondary_paths}

pub joined : {X : Type 0} (xs ys zs : List X) → xs ++ ys ++ zs ≡ xs ++ (ys ++ zs)
joined xs ys zs = append_assoc xs ys zs

pub cons_option_is : {X : Type 0} (o : Option X) (xs : List X) → option_to_list o ++ xs ≡ cons_option o xs
cons_option_is None xs = refl
cons_option_is (Some x) xs = refl

-- ---- the field that begins at a byte

-- no field begins at a byte before these
pub past-byte : (at start : ℕ) (fs : List ViewField) → at < start → field_from at start fs ≡ None
past-byte at start [] past = refl
past-byte at start (f ∷ fs) past =
    let other : (start == at) ≡ false = ne_eqb start at (λ same. absurd (omega (arith, same, past))) in
    cond-false (start == at) (Some f) (field_from at (start + width f.ty) fs) other ∙ past-byte at (start + width f.ty) fs (omega (arith, past))

-- places are counted from anywhere
same-test : (n at start : ℕ) → (n + start == n + at) ≡ (start == at)
same-test n at start = grind (arith)

moved-byte : (n at start : ℕ) (fs : List ViewField) → field_from (n + at) (n + start) fs ≡ field_from at start fs
moved-byte n at start [] = refl
moved-byte n at start (f ∷ fs) =
    let place : n + start + width f.ty ≡ n + (start + width f.ty) = omega arith in
    let rest : field_from (n + at) (n + start + width f.ty) fs ≡ field_from at (start + width f.ty) fs =
    ap (λ (k : ℕ). field_from (n + at) k fs) place ∙ moved-byte n at (start + width f.ty) fs in
    ap (λ (b : Bool). cond b (Some f) (field_from (n + at) (n + start + width f.ty) fs)) (same-test n at start)
    ∙ ap (λ (o : Option ViewField). cond (start == at) (Some f) o) rest

-- a byte within the first field, and one behind it
pub within-first : (left : ℕ) (f : ViewField) (fs : List ViewField) → (0 == left) ≡ false → left < width f.ty → None ≡ field_from left 0 (f ∷ fs)
within-first left f fs other low = sym (cond-false (0 == left) (Some f) (field_from left (0 + width f.ty) fs) other ∙ past-byte left (0 + width f.ty) fs (omega (arith, low)))

pub behind-first : (left : ℕ) (f : ViewField) (fs : List ViewField) → (0 == left) ≡ false → width f.ty ≤ left → field_from (left - width f.ty) 0 fs ≡ field_from left 0 (f ∷ fs)
behind-first left f fs other room =
    let whole : width f.ty + (left - width f.ty) ≡ left = omega (arith, room) in
    let first : width f.ty + 0 ≡ 0 + width f.ty = omega arith in
    sym (moved-byte (width f.ty) (left - width f.ty) 0 fs) ∙ ap (λ (k : ℕ). field_from (width f.ty + (left - width f.ty)) k fs) first
    ∙ ap (λ (k : ℕ). field_from k (0 + width f.ty) fs) whole ∙ sym (cond-false (0 == left) (Some f) (field_from left (0 + width f.ty) fs) other)

-- ---- the positions of a secondary file's key

pub position-added : (parts : List KeyPart) (at next : ℕ) (f : ViewField) (rest : List ViewField) (sequence : KeyPart) → next ≡ at + width f.ty
    → parts ++ KeyField f.ty at false false ∷ [] ++ parts_behind next rest sequence ≡ parts ++ parts_behind at (f ∷ rest) sequence
position-added parts at next f rest sequence is =
    let end : next + total_width rest ≡ at + (width f.ty + total_width rest) = omega (arith, is) in
    append_assoc parts (KeyField f.ty at false false ∷ []) (parts_behind next rest sequence)
    ∙ ap (λ (more : List KeyPart). parts ++ KeyField f.ty at false false ∷ more)
    (ap (λ (k : ℕ). parts_from next rest ++ sequence_part k sequence) end ∙ ap (λ (k : ℕ). parts_from k rest ++ sequence_part (at + (width f.ty + total_width rest)) sequence) is)

-- ---- the paths of a file

joined-same : (bases : Bases) (secondaries : List JoinedFile) → joined_paths bases secondaries ≡ map secondary_path (map (secondary_of bases) secondaries)
joined-same bases [] = refl
joined-same bases (joined ∷ more) = ap (λ (paths : List PathSpec). secondary_path (secondary_of bases joined) ∷ paths) (joined-same bases more)

pub paths_are : (bases : Bases) (spec : LogicalSpec) → own_path bases spec ∷ secondary_paths bases spec ≡ logical_paths bases spec
paths_are bases (Simple view) = refl
paths_are bases (Multi views) = refl
paths_are bases (Join view) = ap (λ (paths : List PathSpec). own_path bases (Join view) ∷ paths) (joined-same bases view.secondaries)

-- ---- what a join is read by

from-allowed : (start : ℕ) (fs : List Field) → lies_from start fs ≡ true → AllByRecursion HasType fs
from-allowed start [] lies = tt
from-allowed start (f ∷ fs) lies = (let parts = lies-parts start f fs lies in (parts.1, from-allowed (start + width f.ty) fs parts.2))

-- fields that lie one behind another are of types that a data description can give
pub fields-allowed : (fs : List Field) → IsLaidOut fs → AllByRecursion HasType fs
fields-allowed fs laid = from-allowed 0 fs laid.lies
