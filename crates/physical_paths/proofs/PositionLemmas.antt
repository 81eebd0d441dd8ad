-- The positions of a key, where its fields alone stand one behind another.
use Rattle.std.proofs.Common.{◌≡◌, ℕ, suc, ◌+◌, ◌≤◌, true, nat_lt, if◌then◌else◌, Option, Some, List, [], ◌∷◌, length, refl, sym, ◌∙◌, ap, subst}
use Rattle.std.specs.Prelude.{map}
use Rattle.std.specs.List.{AllByRecursion}
use Rattle.std.proofs.lemmas.List.Elements.{All-from_recursion}
use Rattle.field_types.specs.declared.values.Value.{Value}
use Rattle.field_types.specs.declared.faults.RecordFault.{RecordFault}
use Rattle.field_types.specs.declared.faults.RecordFault.TheVariants.{Count}
use Rattle.field_values.specs.FieldTypes.{width}
use Rattle.field_values.specs.FieldBytes.{as_held}
use Rattle.record_fmt.specs.declared.formats.Field.{Field}
use Rattle.record_fmt.specs.Layout.{lies_from}
use Rattle.key_spec.specs.declared.KeyPart.{KeyPart}
use Rattle.key_spec.specs.declared.KeyPart.TheVariants.{Field as KeyField, Absent}
use Rattle.file_model.specs.FilePaths.{physical_path, key_parts}
use Rattle.file_model.specs.KeyOrder.{KeyValue, Missing, ordered, given_key}
use Rattle.access_path.below.key_order.specs.declared.widths.TheConstants.{MOST_POSITIONS}
use Rattle.access_path.specs.KeyFields.{IsPosition, ArePositions}
use Rattle.access_path.specs.GivenValues.{part_fault, fault_before, value_fault, key_fault}
use Rattle.dds_physical.specs.declared.physical_files.PhysicalSpec.{PhysicalSpec}
use Rattle.physical_paths.specs.KeyedFiles.{IsKeyed}
use Rattle.physical_paths.proofs.FieldLemmas.{IsPartOf, parts-of, lies-in}

pub path-keys : (spec : PhysicalSpec) (member : ℕ) → map (λ format. format.key) (physical_path member spec.format.fields spec.keys).formats ≡ key_parts 0 spec.keys.parts ∷ []
path-keys spec member = refl

each-allowed : (fields : List Field) → lies_from 0 fields ≡ true → (parts : List KeyPart) (at : ℕ) → AllByRecursion (IsPartOf fields) parts → AllByRecursion IsPosition (key_parts at parts)
each-allowed fields lies [] at all = tt
each-allowed fields lies (KeyField t offset descend absval ∷ parts) at all = ((lies-in 0 fields t offset lies all.0).allowed, each-allowed fields lies parts (at + width t) all.1)
each-allowed fields lies (Absent ∷ parts) at all = absurd all.0

pub parts-allowed : (spec : PhysicalSpec) → IsKeyed spec → ArePositions (key_parts 0 spec.keys.parts)
parts-allowed spec keyed = All-from_recursion IsPosition (key_parts 0 spec.keys.parts) (each-allowed spec.format.fields keyed.laid.lies spec.keys.parts 0 (parts-of spec keyed))

length-parts : (parts : List KeyPart) (at : ℕ) → length (key_parts at parts) ≡ length parts
length-parts [] at = refl
length-parts (KeyField t offset descend absval ∷ parts) at = ap suc (length-parts parts (at + width t))
length-parts (Absent ∷ parts) at = ap suc (length-parts parts at)

pub parts-few : (spec : PhysicalSpec) → IsKeyed spec → length (key_parts 0 spec.keys.parts) ≤ MOST_POSITIONS
parts-few spec keyed = subst (λ (n : ℕ). n ≤ MOST_POSITIONS) (sym (length-parts spec.keys.parts 0)) keyed.few

-- ---- values that are given for the first positions

same-fault : (parts : List KeyPart) (values : List Value) (number at : ℕ) → value_fault number (key_parts at parts) values ≡ value_fault number parts values
same-fault [] values number at = refl
same-fault (KeyField t offset descend absval ∷ parts) [] number at = refl
same-fault (KeyField t offset descend absval ∷ parts) (v ∷ values) number at =
    ap (fault_before number (part_fault (KeyField t offset descend absval) v)) (same-fault parts values (number + 1) (at + width t))
same-fault (Absent ∷ parts) [] number at = refl
same-fault (Absent ∷ parts) (v ∷ values) number at = refl

pub same-key_fault : (at : ℕ) (parts : List KeyPart) (values : List Value) → key_fault (key_parts at parts) values ≡ key_fault parts values
same-key_fault at parts values =
    let by : ℕ → Option RecordFault → Option RecordFault = λ n fault. if nat_lt n (length values) then Some Count else fault in
    ap (λ (n : ℕ). by n (value_fault 1 (key_parts at parts) values)) (length-parts parts at) ∙ ap (λ (fault : Option RecordFault). by (length parts) fault) (same-fault parts values 1 at)

same-given : (parts : List KeyPart) (values : List Value) (at : ℕ) → given_key (key_parts at parts) values ≡ given_key parts values
same-given [] values at = refl
same-given (KeyField t offset descend absval ∷ parts) [] at = refl
same-given (KeyField t offset descend absval ∷ parts) (v ∷ values) at = ap (λ (more : List KeyValue). ordered descend absval (as_held t v) ∷ more) (same-given parts values (at + width t))
same-given (Absent ∷ parts) [] at = refl
same-given (Absent ∷ parts) (v ∷ values) at = ap (λ (more : List KeyValue). Missing ∷ more) (same-given parts values at)

pub same-given_key : (at : ℕ) (parts : List KeyPart) (values : List Value) → given_key (key_parts at parts) values ≡ given_key parts values
same-given_key at parts values = same-given parts values at
