-- What a join shows of a row is the value that its record has in each field that is shown.
use Rattle.std.proofs.Common.{◌≡◌, ℕ, ◌+◌, true, false, Option, Some, None, is_some, List, [], ◌∷◌, ◌++◌, length, take, drop, map, unwrap_or, refl, sym, ◌∙◌, ap, subst, cond}
use Rattle.std.specs.List.{AllByRecursion, flat_map}
use Rattle.std.proofs.Math.Seq.{take-append_seam, drop-append_seam}
use Rattle.field_types.specs.declared.kinds.FieldType.{FieldType}
use Rattle.field_types.specs.declared.values.Value.{Value}
use Rattle.field_values.specs.FieldTypes.{width}
use Rattle.field_values.specs.FieldBytes.{held}
use Rattle.record_fmt.specs.declared.formats.Field.{Field}
use Rattle.record_fmt.specs.Records.{both, fields_held, record_held}
use Rattle.file_model.specs.declared.joins.JoinField.{JoinField}
use Rattle.file_model.specs.Joins.{JoinRow, image_in, row_image}
use Rattle.file_model.specs.Views.{field_image}
use Rattle.dds_logical.specs.declared.join_views.JoinedField.{JoinedField}
use Rattle.dds_logical.specs.declared.join_views.JoinView.{JoinView}
use Rattle.dds_logical.specs.JoinLines.{fields_at}
use Rattle.logical_model.specs.Bases.{Bases}
use Rattle.logical_model.specs.FilePaths.{join_of}
use Rattle.logical_model.specs.Formats.{values_shown, visible}
use Rattle.logical_paths.proofs.ShownLemmas.{ShowsValue, shown-value}
use Rattle.join_records.specs.Linked.{AreFieldsOf, IsShownFrom}
use Rattle.join_records.specs.Shown.{HasValueIn, IsShownBy, value_in, visible_in}

-- ---- what each field shows

ShowsIn : List (List ℕ) → JoinedField → Type 0
ShowsIn images f = ShowsValue (image_in f.field.file images) f.field.field

each-shows : (view : JoinView) (images : List (List ℕ)) → IsShownBy view images → AllByRecursion (ShowsIn images) view.fields
unfolding ShowsIn
each-shows view images by = go view.fields by.fields
  where
    go : (fields : List JoinedField) → AllByRecursion (IsShownFrom by.all) fields → AllByRecursion (ShowsIn images) fields
    go [] all = tt
    go (f ∷ fields) all =
        (shown-value (fields_at by.all f.field.file) (by.records.lies f.field.file) (image_in f.field.file images) (by.records.each f.field.file) f.field.field all.0, go fields all.1)

pub has-values : (view : JoinView) (images : List (List ℕ)) → IsShownBy view images → AllByRecursion (HasValueIn images) view.fields
unfolding ShowsIn
has-values view images by = go view.fields (each-shows view images by)
  where
    go : (fields : List JoinedField) → AllByRecursion (ShowsIn images) fields → AllByRecursion (HasValueIn images) fields
    go [] all = tt
    go (f ∷ fields) all = (record { shown = all.0.shown; there = all.0.value }, go fields all.1)

-- ---- one after another

what-is : {A : Type 0} (o : Option A) → is_some o ≡ true → (x : A) × (o ≡ Some x)
what-is None h = absurd cc
what-is (Some x) h = (x, refl)

-- they are all there
some-values : (images : List (List ℕ)) (fields : List JoinedField) → AllByRecursion (HasValueIn images) fields → (vs : List Value) × (map Some vs ≡ map (value_in images) fields)
some-values images [] all = ([], refl)
some-values images (f ∷ fields) all =
    let first = what-is (value_in images f) all.0.there in
    let rest = some-values images fields all.1 in
    (first.0 ∷ rest.0, λ i. sym first.1 i ∷ rest.1 i)

first-held : (f : Field) (fields : List Field) (bytes more : List ℕ) → length bytes ≡ width f.ty → fields_held (f ∷ fields) (bytes ++ more) ≡ both (held f.ty bytes) (fields_held fields more)
first-held f fields bytes more long =
    let front : take (width f.ty) (bytes ++ more) ≡ bytes = subst (λ (n : ℕ). take n (bytes ++ more) ≡ bytes) long (take-append_seam bytes more) in
    let back : drop (width f.ty) (bytes ++ more) ≡ more = subst (λ (n : ℕ). drop n (bytes ++ more) ≡ more) long (drop-append_seam bytes more) in
    rw (front, back) refl

-- the bytes of the row
abbrev bytes_of : List (List ℕ) → List JoinedField → List ℕ
bytes_of images fields = flat_map (λ (f : JoinField). field_image (image_in f.file images) f.field) (map (λ (f : JoinedField). f.field) fields)

shown-held : (images : List (List ℕ)) (fields : List Field) (shown : List JoinedField) (vs : List Value) → AreFieldsOf fields shown → AllByRecursion (ShowsIn images) shown
    → map Some vs ≡ map (value_in images) shown → fields_held fields (bytes_of images shown) ≡ Some vs
unfolding ShowsIn
shown-held images [] [] [] same all are = refl
shown-held images [] [] (v ∷ vs) same all are = absurd cc
shown-held images [] (f ∷ shown) vs same all are = absurd same
shown-held images (g ∷ fields) [] vs same all are = absurd same
shown-held images (g ∷ fields) (f ∷ shown) [] same all are = absurd cc
shown-held images (g ∷ fields) (f ∷ shown) (v ∷ vs) same all are =
    let bytes : List ℕ = field_image (image_in f.field.file images) f.field.field in
    let more : List ℕ = bytes_of images shown in
    let long : length bytes ≡ width g.ty = subst (λ (t : FieldType). length bytes ≡ width t) (sym same.0) all.0.long in
    let first : Some v ≡ value_in images f = cc in
    let others : map Some vs ≡ map (value_in images) shown = cc in
    let here : held g.ty bytes ≡ Some v = ap (λ (t : FieldType). held t bytes) same.0 ∙ sym first in
    let behind : fields_held fields more ≡ Some vs = shown-held images fields shown vs same.1 all.1 others in
    first-held g fields bytes more long ∙ rw (here, behind) refl

-- ---- those that are shown

visible-are : (images : List (List ℕ)) (fields : List JoinedField) (vs : List Value) → map Some vs ≡ map (value_in images) fields → map Some (visible fields vs) ≡ visible_in images fields
visible-are images [] [] are = refl
visible-are images [] (v ∷ vs) are = absurd cc
visible-are images (f ∷ fields) [] are = absurd cc
visible-are images (f ∷ fields) (v ∷ vs) are =
    let first : Some v ≡ value_in images f = cc in
    let others : map Some vs ≡ map (value_in images) fields = cc in
    let rest : map Some (visible fields vs) ≡ visible_in images fields = visible-are images fields vs others in
    elim f.shown as (λ b. map Some (cond b (v ∷ visible fields vs) (visible fields vs)) ≡ cond b (value_in images f ∷ visible_in images fields) (visible_in images fields)) [
      | true ↦ λ i. first i ∷ rest i
      | false ↦ rest
    ]

some-back : (vs ws : List Value) → map {B = Option Value} Some vs ≡ map Some ws → vs ≡ ws
some-back [] [] same = refl
some-back [] (w ∷ ws) same = absurd cc
some-back (v ∷ vs) [] same = absurd cc
some-back (v ∷ vs) (w ∷ ws) same =
    let first : v ≡ w = cc in
    let others : map {B = Option Value} Some vs ≡ map Some ws = cc in
    let rest = some-back vs ws others in
    λ i. first i ∷ rest i

pub row-values : (bases : Bases) (view : JoinView) (row : JoinRow) (images : List (List ℕ)) (values : List Value) → row.images ≡ images → IsShownBy view images → map Some values ≡ visible_in images view.fields
    → values ≡ visible view.fields (values_shown view.format.fields (row_image (join_of bases view) row))
unfolding record_held
row-values bases view row images values own by are =
    let all = some-values images view.fields (has-values view images by) in
    let held_are : fields_held view.format.fields (bytes_of images view.fields) ≡ Some all.0 = shown-held images view.format.fields view.fields all.0 by.format (each-shows view images by) all.1 in
    let shown : values_shown view.format.fields (bytes_of images view.fields) ≡ all.0 = ap (λ (o : Option (List Value)). unwrap_or o []) held_are in
    some-back values (visible view.fields all.0) (are ∙ sym (visible-are images view.fields all.0 all.1))
    ∙ ap (visible view.fields) (sym shown)
    ∙ ap (λ (is : List (List ℕ)). visible view.fields (values_shown view.format.fields (bytes_of is view.fields))) (sym own)
