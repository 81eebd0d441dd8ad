-- The positions of a file's key take the same values wherever their fields begin: also those of all its formats together.
use Rattle.std.proofs.Common.{◌≡◌, ℕ, ◌+◌, nat_lt, if◌then◌else◌, Option, Some, List, [], ◌∷◌, length, map, refl, sym, ◌∙◌, ap}
use Rattle.std.proofs.lemmas.List.{length-map}
use Rattle.field_types.specs.declared.values.Value.{Value}
use Rattle.field_types.specs.declared.faults.RecordFault.{RecordFault}
use Rattle.field_types.specs.declared.faults.RecordFault.TheVariants.{Count}
use Rattle.field_values.specs.FieldTypes.{width}
use Rattle.key_spec.specs.declared.KeyPart.{KeyPart}
use Rattle.key_spec.specs.declared.KeyPart.TheVariants.{Field, Absent}
use Rattle.library_steps.below.dds_logical.specs.declared.views.View.{View}
use Rattle.file_model.specs.FilePaths.{key_parts}
use Rattle.file_model.specs.KeyOrder.{KeyValue, either_part, either_parts, given_key, given_value, merged_parts}
use Rattle.access_path.specs.GivenValues.{fault_before, key_fault, part_fault, value_fault}

-- the field begins at the first byte
forget : KeyPart → KeyPart
forget (Field t offset descend absval) = Field t 0 descend absval
forget Absent = Absent

forget-parts : (at : ℕ) (ps : List KeyPart) → map forget (key_parts at ps) ≡ map forget ps
unfolding forget
forget-parts at [] = refl
forget-parts at (Field t offset descend absval ∷ ps) = ap (λ (rest : List KeyPart). Field t 0 descend absval ∷ rest) (forget-parts (at + width t) ps)
forget-parts at (Absent ∷ ps) = ap (λ (rest : List KeyPart). Absent ∷ rest) (forget-parts at ps)

forget-part : (p q : KeyPart) → forget (either_part p q) ≡ either_part (forget p) (forget q)
unfolding forget
forget-part (Field t offset descend absval) q = refl
forget-part Absent q = refl

forget-either : (ps qs : List KeyPart) → map forget (either_parts ps qs) ≡ either_parts (map forget ps) (map forget qs)
forget-either [] qs = refl
forget-either (p ∷ ps) [] = refl
forget-either (p ∷ ps) (q ∷ qs) = λ i. forget-part p q i ∷ forget-either ps qs i

-- of the formats of a file in its path, and as they are
forget-views : (views : List View) → map forget (merged_parts (map (λ (view : View). key_parts 0 view.keys.parts) views)) ≡ map forget (merged_parts (map (λ (view : View). view.keys.parts) views))
forget-views [] = refl
forget-views (view ∷ views) =
    let own : List KeyPart = key_parts 0 view.keys.parts in
    let rest : List KeyPart = merged_parts (map (λ (v : View). key_parts 0 v.keys.parts) views) in
    let more : List KeyPart = merged_parts (map (λ (v : View). v.keys.parts) views) in
    forget-either own rest
    ∙ (λ i. either_parts (forget-parts 0 view.keys.parts i) (forget-views views i))
    ∙ sym (forget-either view.keys.parts more)

-- ---- what is told of values

fault-part : (p : KeyPart) (v : Value) → part_fault (forget p) v ≡ part_fault p v
unfolding forget
fault-part (Field t offset descend absval) v = refl
fault-part Absent v = refl

fault-values : (number : ℕ) (ps : List KeyPart) (values : List Value) → value_fault number (map forget ps) values ≡ value_fault number ps values
fault-values number [] [] = refl
fault-values number [] (v ∷ values) = refl
fault-values number (p ∷ ps) [] = refl
fault-values number (p ∷ ps) (v ∷ values) = λ i. fault_before number (fault-part p v i) (fault-values (number + 1) ps values i)

fault-forgotten : (ps : List KeyPart) (values : List Value) → key_fault (map forget ps) values ≡ key_fault ps values
fault-forgotten ps values =
    let by : ℕ → Option RecordFault → Option RecordFault = λ n fault. if nat_lt n (length values) then Some Count else fault in
    λ i. by (length-map ps forget i) (fault-values 1 ps values i)

given-part : (p : KeyPart) (v : Value) → given_value (forget p) v ≡ given_value p v
unfolding forget
given-part (Field t offset descend absval) v = refl
given-part Absent v = refl

given-forgotten : (ps : List KeyPart) (values : List Value) → given_key (map forget ps) values ≡ given_key ps values
given-forgotten [] values = refl
given-forgotten (p ∷ ps) [] = refl
given-forgotten (p ∷ ps) (v ∷ values) = λ i. given-part p v i ∷ given-forgotten ps values i

module _ (views : List View) where
  abbrev own : List KeyPart
  own = merged_parts (map (λ (view : View). view.keys.parts) views)

  abbrev in_path : List KeyPart
  in_path = merged_parts (map (λ (view : View). key_parts 0 view.keys.parts) views)

  pub views-fault : (values : List Value) → key_fault (merged_parts (map (λ (view : View). view.keys.parts) views)) values ≡ key_fault (merged_parts (map (λ (view : View). key_parts 0 view.keys.parts) views)) values
  views-fault values = sym (fault-forgotten own values) ∙ ap (λ (ps : List KeyPart). key_fault ps values) (sym (forget-views views)) ∙ fault-forgotten in_path values

  pub views-given : (values : List Value) → given_key (merged_parts (map (λ (view : View). view.keys.parts) views)) values ≡ given_key (merged_parts (map (λ (view : View). key_parts 0 view.keys.parts) views)) values
  views-given values = sym (given-forgotten own values) ∙ ap (λ (ps : List KeyPart). given_key ps values) (sym (forget-views views)) ∙ given-forgotten in_path values

  pub views-length : length (merged_parts (map (λ (view : View). key_parts 0 view.keys.parts) views)) ≡ length (merged_parts (map (λ (view : View). view.keys.parts) views))
  views-length = sym (length-map in_path forget) ∙ ap (λ (ps : List KeyPart). length ps) (forget-views views) ∙ length-map own forget
