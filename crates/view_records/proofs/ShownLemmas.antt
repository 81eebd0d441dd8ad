-- What a format shows of a record is the value that the record shows in each of its fields.
use Rattle.std.proofs.Common.{◌≡◌, ℕ, ◌+◌, Option, Some, List, [], ◌∷◌, ◌++◌, length, take, drop, map, unwrap_or, refl, sym, ◌∙◌, ap, subst}
use Rattle.std.specs.List.{AllByRecursion}
use Rattle.std.proofs.Math.Seq.{take-append_seam, drop-append_seam}
use Rattle.field_types.specs.declared.kinds.FieldType.{FieldType}
use Rattle.field_types.specs.declared.values.Value.{Value}
use Rattle.field_values.specs.FieldTypes.{width}
use Rattle.field_values.specs.FieldBytes.{held}
use Rattle.record_fmt.specs.declared.formats.Field.{Field}
use Rattle.record_fmt.specs.Records.{both, fields_held, record_held}
use Rattle.file_model.specs.declared.views.LogicalField.{LogicalField}
use Rattle.file_model.specs.Views.{field_image, logical_image}
use Rattle.file_model.proofs.PathLemmas.{weaker}
use Rattle.logical_paths.specs.Shown.{HasValue}
use Rattle.logical_model.below.dds_logical.specs.declared.views.View.{View}
use Rattle.logical_model.specs.Formats.{values_shown}
use Rattle.logical_paths.specs.Steps.{shown_of}
use Rattle.logical_paths.specs.KeyedViews.{IsShownOf}
use Rattle.logical_paths.proofs.ShownLemmas.{ShowsValue, shown-value}
use Rattle.view_records.specs.Through.{AreFieldsOf, HasValueIn, IsFormatOf, IsReadThrough, value_in}

-- ---- what each field shows

each-back : {A B : Type 0} (P : B → Type 0) (f : A → B) (xs : List A) → AllByRecursion P (map f xs) → AllByRecursion (λ x. P (f x)) xs
each-back P f [] all = tt
each-back P f (x ∷ xs) all = (all.0, each-back P f xs all.1)

each-shows : (view : View) (image : List ℕ) → IsReadThrough view image → AllByRecursion (ShowsValue image) (shown_of view.mapping)
each-shows view image read = weaker (IsShownOf read.base) (ShowsValue image) (shown-value read.base read.lies image read.is) (shown_of view.mapping) read.fields

pub has-values : (view : View) (image : List ℕ) → IsReadThrough view image → AllByRecursion (HasValueIn image) view.mapping
has-values view image read =
    each-back (HasValue image) (λ (f : LogicalField). f.field) view.mapping
    (weaker (ShowsValue image) (HasValue image) (λ f shows. record { shown = shows.shown; there = shows.value }) (shown_of view.mapping) (each-shows view image read))

-- ---- one after another

-- what stands in a field stands before what stands in the fields behind it
first-held : (f : Field) (fields : List Field) (bytes more : List ℕ) → length bytes ≡ width f.ty → fields_held (f ∷ fields) (bytes ++ more) ≡ both (held f.ty bytes) (fields_held fields more)
first-held f fields bytes more long =
    let front : take (width f.ty) (bytes ++ more) ≡ bytes = subst (λ (n : ℕ). take n (bytes ++ more) ≡ bytes) long (take-append_seam bytes more) in
    let back : drop (width f.ty) (bytes ++ more) ≡ more = subst (λ (n : ℕ). drop n (bytes ++ more) ≡ more) long (drop-append_seam bytes more) in
    rw (front, back) refl

shown-held : (image : List ℕ) (at : ℕ) (fields : List Field) (mapping : List LogicalField) (vs : List Value) → AreFieldsOf at fields mapping →
    AllByRecursion (ShowsValue image) (shown_of mapping) → map Some vs ≡ map (value_in image) mapping → fields_held fields (logical_image mapping image) ≡ Some vs
shown-held image at [] [] [] same all are = refl
shown-held image at [] [] (v ∷ vs) same all are = absurd cc
shown-held image at [] (shown ∷ mapping) vs same all are = absurd same
shown-held image at (f ∷ fields) [] vs same all are = absurd same
shown-held image at (f ∷ fields) (shown ∷ mapping) [] same all are = absurd cc
shown-held image at (f ∷ fields) (shown ∷ mapping) (v ∷ vs) same all are =
    let bytes : List ℕ = field_image image shown.field in
    let more : List ℕ = logical_image mapping image in
    let long : length bytes ≡ width f.ty = subst (λ (t : FieldType). length bytes ≡ width t) (sym same.0.ty) all.0.long in
    let first : Some v ≡ value_in image shown = cc in
    let others : map Some vs ≡ map (value_in image) mapping = cc in
    let here : held f.ty bytes ≡ Some v = ap (λ (t : FieldType). held t bytes) same.0.ty ∙ sym first in
    let behind : fields_held fields more ≡ Some vs = shown-held image (at + width f.ty) fields mapping vs same.1 all.1 others in
    first-held f fields bytes more long ∙ rw (here, behind) refl

-- ---- the values of the format

pub format-values : (view : View) (image : List ℕ) (vs : List Value) → IsReadThrough view image → IsFormatOf view → map Some vs ≡ map (value_in image) view.mapping →
    vs ≡ values_shown view.format.fields (logical_image view.mapping image)
unfolding record_held
format-values view image vs read format are =
    sym (ap (λ (o : Option (List Value)). unwrap_or o []) (shown-held image 0 view.format.fields view.mapping vs format.fields (each-shows view image read) are))
