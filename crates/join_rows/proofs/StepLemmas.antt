-- The bytes that are looked for, gathered field by field.
use Rattle.std.proofs.Common.{◌≡◌, ℕ, Option, Some, None, List, [], ◌∷◌, ◌++◌, length, take, drop, true, refl, sym, ◌∙◌, ap, append_assoc, append-nil}
use Rattle.std.specs.Option.{option_map}
use Rattle.field_types.specs.declared.values.Value.{Value}
use Rattle.field_types.specs.declared.faults.ValueFault.{ValueFault}
use Rattle.field_types.specs.declared.faults.RecordFault.{RecordFault}
use Rattle.field_types.specs.declared.faults.RecordFault.TheVariants.{BadField}
use Rattle.field_values.specs.FieldBytes.{fault_of, as_held}
use Rattle.file_model.specs.declared.joins.JoinPair.{JoinPair}
use Rattle.file_model.specs.KeyOrder.{Ascending}
use Rattle.file_model.specs.declared.views.ViewField.{ViewField}
use Rattle.file_model.specs.Views.{field_value, field_image, view_of}
use Rattle.view_rules.specs.Shown.{HasValue}
use Rattle.field_values.specs.FieldTypes.{width}
use Rattle.std.specs.List.{list_all}
use Rattle.std.proofs.lemmas.Bool.{cond-true}
use Rattle.join_rows.proofs.MatchLemmas.{some-width}
use Rattle.access_path.specs.KeyBytes.{position_bytes, encoded_values}
use Rattle.access_path.specs.GivenValues.{fault_before, key_fault}
use Rattle.join_rows.proofs.OptionLemmas.{none-some, some-none, some-same}
use Rattle.join_rows.specs.Wanted.{is_blank, cut_to, as_sought, unless_fault, held_in, sought_in}
use Rattle.join_rows.specs.WantedBytes.{joined_part, sought_bytes, with_bytes, both_bytes}

-- a field's bytes are put behind
pub bytes-added : (old new : List ℕ) (bytes rest whole : Option (List ℕ)) → with_bytes old bytes ≡ Some new → with_bytes old (both_bytes bytes rest) ≡ whole → with_bytes new rest ≡ whole
bytes-added old new None rest whole added all = none-some new added
bytes-added old new (Some bytes) None whole added all = all
bytes-added old new (Some bytes) (Some rest) whole added all =
    let same : old ++ bytes ≡ new = some-same (old ++ bytes) new added in
    ap (λ w. Some (w ++ rest)) (sym same) ∙ ap Some (append_assoc old bytes rest) ∙ all

-- a field can't hold the value
pub bytes-none : (old : List ℕ) (bytes rest whole : Option (List ℕ)) → with_bytes old bytes ≡ None → with_bytes old (both_bytes bytes rest) ≡ whole → None ≡ whole
bytes-none old None rest whole none all = all
bytes-none old (Some bytes) rest whole none all = some-none (old ++ bytes) none

-- all are there
pub bytes-whole : (key : List ℕ) (whole : Option (List ℕ)) → with_bytes key (Some []) ≡ whole → Some key ≡ whole
bytes-whole key whole all = ap Some (sym (append-nil key)) ∙ all

-- ---- one field

one-fault : (pair : JoinPair) (sought : Value) (fault : Option ValueFault) → fault_of pair.to.ty sought ≡ fault
    → key_fault (joined_part pair ∷ []) (sought ∷ []) ≡ fault_before 1 fault None
one-fault pair sought fault is = ap (λ (f : Option ValueFault). fault_before 1 f None) is

one-sought : (pair : JoinPair) (image : List ℕ) (value sought : Value) → field_value image pair.from ≡ Some value → sought ≡ as_sought pair.to.ty value
    → sought_bytes pair image ≡ option_map (λ v. position_bytes pair.to.ty.length (Ascending v)) (unless_fault (fault_of pair.to.ty sought) (as_held pair.to.ty sought))
one-sought pair image value sought there is =
    ap (λ (o : Option Value). option_map (λ v. position_bytes pair.to.ty.length (Ascending v)) (sought_in pair.to.ty o)) there
    ∙ ap (λ (v : Value). option_map (λ w. position_bytes pair.to.ty.length (Ascending w)) (held_in pair.to.ty v)) (sym is)

-- the field can hold the value
pub sought-added : (pair : JoinPair) (image : List ℕ) (value sought : Value) (key bytes new : List ℕ) → field_value image pair.from ≡ Some value → sought ≡ as_sought pair.to.ty value
    → bytes ≡ encoded_values (joined_part pair ∷ []) (sought ∷ []) → ((fault : RecordFault) → key_fault (joined_part pair ∷ []) (sought ∷ []) ≡ Some fault → ⊥)
    → new ≡ key ++ bytes → with_bytes key (sought_bytes pair image) ≡ Some new
sought-added pair image value sought key bytes new there is written fits added =
    ap (with_bytes key) (one-sought pair image value sought there is) ∙ by (fault_of pair.to.ty sought) refl
  where
    by : (fault : Option ValueFault) → fault_of pair.to.ty sought ≡ fault
        → with_bytes key (option_map (λ v. position_bytes pair.to.ty.length (Ascending v)) (unless_fault fault (as_held pair.to.ty sought))) ≡ Some new
    by None none =
        ap (λ w. Some (key ++ w)) (sym (append-nil (position_bytes pair.to.ty.length (Ascending (as_held pair.to.ty sought)))) ∙ sym written) ∙ ap Some (sym added)
    by (Some cause) some = absurd (fits (BadField 1 cause) (one-fault pair sought (Some cause) some))

-- the field can't
pub sought-refused : (pair : JoinPair) (image : List ℕ) (value sought : Value) (key : List ℕ) (fault : RecordFault) → field_value image pair.from ≡ Some value → sought ≡ as_sought pair.to.ty value
    → key_fault (joined_part pair ∷ []) (sought ∷ []) ≡ Some fault → with_bytes key (sought_bytes pair image) ≡ None
sought-refused pair image value sought key fault there is refused =
    ap (with_bytes key) (one-sought pair image value sought there is) ∙ by (fault_of pair.to.ty sought) refl
  where
    by : (f : Option ValueFault) → fault_of pair.to.ty sought ≡ f
        → with_bytes key (option_map (λ v. position_bytes pair.to.ty.length (Ascending v)) (unless_fault f (as_held pair.to.ty sought))) ≡ None
    by None none = none-some fault (sym (one-fault pair sought None none) ∙ refused)
    by (Some cause) some = refl

-- ---- pieces of a text and of a record

pub cut-front : (w : ℕ) (text front : List ℕ) → front ≡ take w text → list_all is_blank (drop w text) ≡ true → front ≡ cut_to w text
cut-front w text front is blank = is ∙ sym (cond-true (list_all is_blank (drop w text)) (take w text) text blank)

pub shown-room : (image : List ℕ) (field : ViewField) (bytes : List ℕ) → HasValue image field → bytes ≡ view_of (field ∷ []) image → length bytes ≡ width field.ty
shown-room image field bytes has is =
    ap length (is ∙ append-nil (field_image image field)) ∙ some-width field.ty (field_image image field) has.there
