-- What values make that are given through a format is a record of its base file.
use Rattle.std.proofs.Common.{◌≡◌, ℕ, zero, suc, ◌+◌, ◌-◌, ◌<◌, ◌≤◌, ◌==◌, cond, min, ◌∙◌, refl, sym, ap, subst, arith, Bool, true, false, Option, Some, None, IfSome, is_some, Result, Ok, Err, List, [], ◌∷◌, ◌++◌, length, take, drop, map, replicate, get_or, slice_get, Contains, length-append}
use Rattle.std.specs.List.{AllByRecursion}
use Rattle.std.proofs.lemmas.List.{take-append-drop, length-take, length-take-le, length-drop, length-replicate}
use Rattle.std.proofs.Math.Seq.{take-append_seam, drop-append_seam}
use Rattle.field_types.specs.declared.kinds.Kind.{Kind}
use Rattle.field_types.specs.declared.kinds.Kind.TheVariants.{Char}
use Rattle.field_types.specs.declared.kinds.FieldType.{FieldType}
use Rattle.field_types.specs.declared.values.Value.{Value}
use Rattle.field_types.specs.declared.values.Value.TheVariants.{Chars, Number}
use Rattle.field_types.specs.declared.faults.ValueFault.{ValueFault}
use Rattle.field_types.specs.declared.faults.ValueFault.TheVariants.{ReadOnlyField}
use Rattle.field_types.specs.declared.faults.RecordFault.{RecordFault}
use Rattle.field_types.specs.declared.faults.RecordFault.TheVariants.{Count}
use Rattle.field_laws.specs.FieldTypes.{IsFieldType, width}
use Rattle.field_laws.specs.FieldBytes.{held, written, fault_of}
use Rattle.field_laws.proofs.FieldLemmas.{field, held-char}
use Rattle.field_laws.proofs.WrittenLemmas.{stands-written}
use Rattle.file_model.below.record_fmt.specs.declared.formats.Field.{Field}
use Rattle.file_model.specs.Layout.{record_length, lies_from, IsLaidOut}
use Rattle.file_model.specs.Records.{both, fields_held, record_held}
use Rattle.file_model.proofs.LayoutLemmas.{lies-parts, allowed-at}
use Rattle.file_model.proofs.HeldLemmas.{held-length}
use Rattle.file_model.specs.declared.views.Piece.{Piece}
use Rattle.file_model.specs.declared.views.FieldSource.{FieldSource}
use Rattle.file_model.specs.declared.views.FieldSource.TheVariants.{Copied, Converted, Concatenated, Substring}
use Rattle.file_model.specs.declared.views.LogicalField.{LogicalField}
use Rattle.file_model.specs.Views.{put_at, put_pieces, pieces_length, character, stored_type, put_value, first_fault, refusal, put_or_refused, put_given, default_image, old_or_default, base_image}
use Rattle.logical_model.below.dds_logical.specs.declared.views.View.{View}
use Rattle.logical_model.below.dds_logical.specs.declared.views.LogicalSpec.{LogicalSpec}
use Rattle.logical_model.below.dds_logical.specs.declared.views.LogicalSpec.TheVariants.{Simple, Multi, Join}
use Rattle.logical_model.specs.Bases.{Bases, LogicalFile, base_names}
use Rattle.logical_model.specs.Formats.{given_through, given_by, given_in}
use Rattle.logical_laws.specs.Mapped.{IsFieldAt, IsTextAt, IsSourceMapped, IsFieldMapped, IsViewMapped, IsSpecMapped, HoldDefaults}
use Rattle.logical_laws.specs.Found.{HoldsRecord}

-- a value stands in each of these fields
abbrev HasValues : List Field → List ℕ → Type 0
HasValues fields image = is_some (fields_held fields image) ≡ true

-- ---- values in fields

both-some : (v : Option Value) (o : Option (List Value)) → is_some (both v o) ≡ true → is_some v ≡ true
both-some None o h = h
both-some (Some v) o h = refl

both-rest : (v : Option Value) (o : Option (List Value)) → is_some (both v o) ≡ true → is_some o ≡ true
both-rest None o h = cc
both-rest (Some v) None h = h
both-rest (Some v) (Some vs) h = refl

some-both : (v : Option Value) (o : Option (List Value)) → is_some v ≡ true → is_some o ≡ true → is_some (both v o) ≡ true
some-both None o h g = h
some-both (Some v) None h g = g
some-both (Some v) (Some vs) h g = refl

-- what stands in a field stands before what stands in the fields behind it
both-fields : (f : Field) (fs : List Field) (p rest : List ℕ) → is_some (held f.ty p) ≡ true → HasValues fs rest → HasValues (f ∷ fs) (p ++ rest)
both-fields f fs p rest h g =
    let long : length p ≡ width f.ty = held-length f.ty p h in
    let front : take (width f.ty) (p ++ rest) ≡ p = subst (λ (n : ℕ). take n (p ++ rest) ≡ p) long (take-append_seam p rest) in
    let back : drop (width f.ty) (p ++ rest) ≡ rest = subst (λ (n : ℕ). drop n (p ++ rest) ≡ rest) long (drop-append_seam p rest) in
    rw (front, back) (some-both (held f.ty p) (fields_held fs rest) h g)

-- an image with a value in each field is as long as they are together
held-long : (fields : List Field) (image : List ℕ) → HasValues fields image → length image ≡ record_length fields
held-long [] [] h = refl
held-long [] (b ∷ image) h = absurd cc
held-long (f ∷ fields) image h =
    let front : List ℕ = take (width f.ty) image in
    let back : List ℕ = drop (width f.ty) image in
    let first : length front ≡ width f.ty = held-length f.ty front (both-some (held f.ty front) (fields_held fields back) h) in
    let cut : length front ≡ min (width f.ty) (length image) = length-take (width f.ty) image in
    let rest : length back ≡ record_length fields = held-long fields back (both-rest (held f.ty front) (fields_held fields back) h) in
    let left : length back ≡ length image - width f.ty = length-drop (width f.ty) image in
    omega (arith, first, cut, rest, left)

-- ---- bytes that are put

take-none : (xs : List ℕ) → take 0 xs ≡ []
take-none [] = refl
take-none (x ∷ xs) = refl

put-first : (bytes image : List ℕ) → put_at 0 bytes image ≡ bytes ++ drop (length bytes) image
put-first bytes image =
    let same : 0 + length bytes ≡ length bytes = omega arith in
    ap (λ (n : ℕ). take 0 image ++ bytes ++ drop n image) same ∙ ap (λ (front : List ℕ). front ++ bytes ++ drop (length bytes) image) (take-none image)

put-next : (x k : ℕ) (bytes image : List ℕ) → put_at (suc k) bytes (x ∷ image) ≡ x ∷ put_at k bytes image
put-next x k bytes image =
    let same : suc k + length bytes ≡ suc (k + length bytes) = omega arith in
    ap (λ (n : ℕ). take (suc k) (x ∷ image) ++ bytes ++ drop n (x ∷ image)) same

put-behind : (front back bytes : List ℕ) (k : ℕ) → put_at (length front + k) bytes (front ++ back) ≡ front ++ put_at k bytes back
put-behind [] back bytes k = let same : 0 + k ≡ k = omega arith in ap (λ (n : ℕ). put_at n bytes back) same
put-behind (x ∷ front) back bytes k =
    let same : suc (length front) + k ≡ suc (length front + k) = omega arith in
    ap (λ (n : ℕ). put_at n bytes (x ∷ (front ++ back))) same ∙ put-next x (length front + k) bytes (front ++ back)
    ∙ ap (λ (rest : List ℕ). x ∷ rest) (put-behind front back bytes k)

-- a field begins no earlier than the first does
offset-low : (start : ℕ) (fields : List Field) (i : ℕ) (f : Field) → lies_from start fields ≡ true → i < length fields → get_or fields i f ≡ f → start ≤ f.offset
offset-low start [] i f lies lt is = absurd (omega (arith, lt))
offset-low start (g ∷ gs) zero f lies lt is =
    let place : g.offset ≡ start = (lies-parts start g gs lies).0 in
    let same : g.offset ≡ f.offset = ap (λ (h : Field). h.offset) is in
    omega (arith, place, same)
offset-low start (g ∷ gs) (suc i) f lies lt is =
    let low : start + width g.ty ≤ f.offset = offset-low (start + width g.ty) gs i f (lies-parts start g gs lies).2 (omega (arith, lt)) is in
    omega (arith, low)

-- bytes that stand in a field, put in its place, leave a value in each
put-held : (start : ℕ) (fields : List Field) (i : ℕ) (f : Field) (k : ℕ) (bytes image : List ℕ) → lies_from start fields ≡ true → i < length fields → get_or fields i f ≡ f
    → f.offset ≡ start + k → is_some (held f.ty bytes) ≡ true → HasValues fields image → HasValues fields (put_at k bytes image)
put-held start [] i f k bytes image lies lt is at good h = absurd (omega (arith, lt))
put-held start (g ∷ gs) zero f k bytes image lies lt is at good h =
    let w : ℕ = width g.ty in
    let place : g.offset ≡ start = (lies-parts start g gs lies).0 in
    let same : g.offset ≡ f.offset = ap (λ (other : Field). other.offset) is in
    let none : k ≡ 0 = omega (arith, at, place, same) in
    let here : is_some (held g.ty bytes) ≡ true = subst (λ (other : Field). is_some (held other.ty bytes) ≡ true) (sym is) good in
    let long : length bytes ≡ w = held-length g.ty bytes here in
    let whole : put_at k bytes image ≡ bytes ++ drop w image =
    ap (λ (n : ℕ). put_at n bytes image) none ∙ put-first bytes image ∙ ap (λ (n : ℕ). bytes ++ drop n image) long in
    subst (HasValues (g ∷ gs)) (sym whole) (both-fields g gs bytes (drop w image) here (both-rest (held g.ty (take w image)) (fields_held gs (drop w image)) h))
put-held start (g ∷ gs) (suc i) f k bytes image lies lt is at good h =
    let w : ℕ = width g.ty in
    let front : List ℕ = take w image in
    let back : List ℕ = drop w image in
    let behind : lies_from (start + w) gs ≡ true = (lies-parts start g gs lies).2 in
    let low : start + w ≤ f.offset = offset-low (start + w) gs i f behind (omega (arith, lt)) is in
    let j : ℕ = k - w in
    let first : is_some (held g.ty front) ≡ true = both-some (held g.ty front) (fields_held gs back) h in
    let long : length front ≡ w = held-length g.ty front first in
    let rest : HasValues gs (put_at j bytes back) =
    put-held (start + w) gs i f j bytes back behind (omega (arith, lt)) is (omega (arith, at, low)) good (both-rest (held g.ty front) (fields_held gs back) h) in
    let same : k ≡ length front + j = omega (arith, long, at, low) in
    let whole : put_at k bytes image ≡ front ++ put_at j bytes back =
    ap (λ (n : ℕ). put_at n bytes image) same ∙ ap (λ (all : List ℕ). put_at (length front + j) bytes all) (sym (take-append-drop w image)) ∙ put-behind front back bytes j in
    subst (HasValues (g ∷ gs)) (sym whole) (both-fields g gs front (put_at j bytes back) first rest)

put-whole : (fields : List Field) (f : Field) (bytes image : List ℕ) → IsLaidOut fields → Contains fields f → is_some (held f.ty bytes) ≡ true → HasValues fields image
    → HasValues fields (put_at f.offset bytes image)
put-whole fields f bytes image laid there good h = put-held 0 fields there.0 f f.offset bytes image laid.lies there.1 there.2 (omega arith) good h

-- ---- values that are put

written-stands : (t : FieldType) (v : Value) → IsFieldType t → fault_of t v ≡ None → is_some (held t (written t v)) ≡ true
written-stands t v allowed none = ap is_some (stands-written t v allowed none)

field-put : (fields : List Field) (t : FieldType) (offset : ℕ) (v : Value) (image : List ℕ) → IsLaidOut fields → IsFieldAt fields t offset → fault_of t v ≡ None
    → HasValues fields image → HasValues fields (put_at offset (written t v) image)
field-put fields t offset v image laid here none h =
    let allowed : IsFieldType t = subst IsFieldType here.ty (allowed-at 0 fields here.among.0 here.field laid.lies here.among.1 (sym here.among.2)) in
    let good : is_some (held here.field.ty (written t v)) ≡ true = subst (λ (u : FieldType). is_some (held u (written t v)) ≡ true) (sym here.ty) (written-stands t v allowed none) in
    subst (λ (at : ℕ). HasValues fields (put_at at (written t v) image)) here.at (put-whole fields here.field (written t v) image laid here.among good h)

text-held : (t : FieldType) (bytes : List ℕ) → t.kind ≡ Char → length bytes ≡ t.length → is_some (held t bytes) ≡ true
text-held t bytes kind long = subst (λ (k : Kind). is_some (held (field k t.length t.decimals) bytes) ≡ true) (sym kind) (held-char t.length t.decimals bytes long)

-- a text that is long enough leaves characters in each piece
pieces-put : (fields : List Field) (pieces : List Piece) (text image : List ℕ) → IsLaidOut fields → AllByRecursion (IsTextAt fields) pieces → pieces_length pieces ≤ length text
    → HasValues fields image → HasValues fields (put_pieces pieces text image)
pieces-put fields [] text image laid all room h = h
pieces-put fields (p ∷ pieces) text image laid all room h =
    let cut : List ℕ = take p.length text in
    let first : length cut ≡ p.length = length-take-le p.length text (omega (arith, room)) in
    let left : length (drop p.length text) ≡ length text - p.length = length-drop p.length text in
    let good : is_some (held all.0.field.ty cut) ≡ true = text-held all.0.field.ty cut all.0.kind (first ∙ sym all.0.long) in
    pieces-put fields pieces (drop p.length text) (put_at p.offset cut image) laid all.1 (omega (arith, room, left))
    (subst (λ (at : ℕ). HasValues fields (put_at at cut image)) all.0.at (put-whole fields all.0.field cut image laid all.0.among good h))

-- a character field's bytes fill it
filled-long : (n : ℕ) (v : Value) → n ≤ length (written (character n) v)
unfolding written
filled-long n (Chars text) =
    let whole : length (text ++ replicate (n - length text) 0x40) ≡ length text + length {A = ℕ} (replicate (n - length text) 0x40) = length-append text (replicate (n - length text) 0x40) in
    let blanks : length {A = ℕ} (replicate (n - length text) 0x40) ≡ n - length text = length-replicate (n - length text) 0x40 in
    omega (arith, whole, blanks)
filled-long n (Number d) = let blanks : length {A = ℕ} (replicate n 0x40) ≡ n = length-replicate n 0x40 in omega (arith, blanks)

value-put : (fields : List Field) (t : FieldType) (source : FieldSource) (v : Value) (image : List ℕ) → IsLaidOut fields → IsSourceMapped fields t source → fault_of t v ≡ None
    → fault_of (stored_type t source) v ≡ None → HasValues fields image → HasValues fields (put_value t source v image)
value-put fields t (Copied offset) v image laid here none under h = field-put fields t offset v image laid here none h
value-put fields t (Converted from offset) v image laid here none under h = field-put fields from offset v image laid here under h
value-put fields t (Concatenated pieces) v image laid here none under h =
    pieces-put fields pieces (written (character (pieces_length pieces)) v) image laid here (filled-long (pieces_length pieces) v) h
value-put fields t (Substring piece) v image laid here none under h = h

not-refused : (b : Bool) (o p : Option ValueFault) → cond b (Some ReadOnlyField) (first_fault o p) ≡ None → (o ≡ None) × (p ≡ None)
not-refused true o p h = absurd cc
not-refused false (Some fault) p h = absurd cc
not-refused false None p h = (refl, h)

one-put : (fields : List Field) (number : ℕ) (f : LogicalField) (v : Value) (image : List ℕ) → IsLaidOut fields → IsFieldMapped fields f → HasValues fields image
    → (o : Option ValueFault) → refusal f v ≡ o → (made : List ℕ) → put_or_refused number f v image o ≡ Ok made → HasValues fields made
one-put fields number f v image laid here h (Some cause) why made e = absurd cc
one-put fields number f v image laid here h None why made e =
    let none = not-refused f.read_only (fault_of f.field.ty v) (fault_of (stored_type f.field.ty f.field.source) v) why in
    let same : put_value f.field.ty f.field.source v image ≡ made = cc in
    subst (HasValues fields) same (value-put fields f.field.ty f.field.source v image laid here none.0 none.1 h)

-- ---- all that are given

given-put : (base : List Field) (number : ℕ) (fields : List LogicalField) (given : List (Option Value)) (r : Result (List ℕ) RecordFault) (image : List ℕ) → IsLaidOut base
    → AllByRecursion (IsFieldMapped base) fields → ((old : List ℕ) → r ≡ Ok old → HasValues base old) → put_given number fields given r ≡ Ok image → HasValues base image
given-put base number [] given r image laid all before h = before image h
given-put base number (f ∷ fields) [] r image laid all before h = before image h
given-put base number (f ∷ fields) (v ∷ given) (Err fault) image laid all before h = absurd cc
given-put base number (f ∷ fields) (None ∷ given) (Ok old) image laid all before h = given-put base (number + 1) fields given (Ok old) image laid all.1 before h
given-put base number (f ∷ fields) (Some v ∷ given) (Ok old) image laid all before h =
    given-put base (number + 1) fields given (put_or_refused number f v old (refusal f v)) image laid all.1 (one-put base number f v old laid all.0 (before old refl) (refusal f v) refl) h

defaults-held : (start : ℕ) (fields : List Field) → lies_from start fields ≡ true → HoldDefaults fields → HasValues fields (default_image fields)
defaults-held start [] lies good = refl
defaults-held start (f ∷ fields) lies good =
    let parts = lies-parts start f fields lies in
    both-fields f fields (written f.ty f.default) (default_image fields) (written-stands f.ty f.default parts.1 good.0) (defaults-held (start + width f.ty) fields parts.2 good.1)

old-held : (fields : List Field) (old : Option (List ℕ)) → IsLaidOut fields → HoldDefaults fields → IfSome old (HoldsRecord fields) → HasValues fields (old_or_default fields old)
unfolding record_held
old-held fields None laid good is = defaults-held 0 fields laid.lies good
old-held fields (Some old) laid good is = is.values

holds-record : (fields : List Field) (image : List ℕ) → HasValues fields image → HoldsRecord fields image
unfolding record_held
holds-record fields image h = record { long = held-long fields image h; values = h }

counted : (b : Bool) (r : Result (List ℕ) RecordFault) (image : List ℕ) → cond b r (Err Count) ≡ Ok image → r ≡ Ok image
counted true r image h = h
counted false r image h = absurd cc

base-made : (base : List Field) (fields : List LogicalField) (given : List (Option Value)) (old : Option (List ℕ)) (image : List ℕ) → AllByRecursion (IsFieldMapped base) fields → IsLaidOut base
    → HoldDefaults base → IfSome old (HoldsRecord base) → base_image base fields given old ≡ Ok image → HoldsRecord base image
base-made base fields given old image all laid good is h =
    let first : HasValues base (old_or_default base old) = old-held base old laid good is in
    let put : put_given 1 fields given (Ok (old_or_default base old)) ≡ Ok image = counted (length given == length fields) (put_given 1 fields given (Ok (old_or_default base old))) image h in
    holds-record base image (given-put base 1 fields given (Ok (old_or_default base old)) image laid all
    (λ start e. (let same : old_or_default base old ≡ start = cc in subst (HasValues base) same first)) put)

-- ---- a logical file

-- what is known of the base file of this name, and of the old record
record IsGiven (bases : Bases) (name : List ℕ) (old : Option (List ℕ)) : Type 0 where
  laid : IsLaidOut (bases name).fields
  defaults : HoldDefaults (bases name).fields
  before : IfSome old (HoldsRecord (bases name).fields)

view-makes : (bases : Bases) (view : View) (name : List ℕ) (given : List (Option Value)) (old : Option (List ℕ)) (image : List ℕ) → IsViewMapped bases view → view.base ≡ name
    → IsGiven bases name old → given_through bases view given old ≡ Ok image → HoldsRecord (bases name).fields image
view-makes bases view name given old image mapped same is h =
    base-made (bases name).fields view.mapping given old image (subst (λ (n : List ℕ). AllByRecursion (IsFieldMapped (bases n).fields) view.mapping) same mapped) is.laid is.defaults is.before
    (subst (λ (n : List ℕ). base_image (bases n).fields view.mapping given old ≡ Ok image) same h)

some-same : {A : Type 0} (x y : A) → Some x ≡ Some y → x ≡ y
some-same x y h = cc

views-make : (bases : Bases) (views : List View) (number : ℕ) (name : List ℕ) (given : List (Option Value)) (old : Option (List ℕ)) (image : List ℕ) → AllByRecursion (IsViewMapped bases) views
    → slice_get (map (λ view. view.base) views) number ≡ Some name → IsGiven bases name old → given_by bases (slice_get views number) given old ≡ Ok image → HoldsRecord (bases name).fields image
views-make bases [] number name given old image mapped at is h = absurd cc
views-make bases (view ∷ views) zero name given old image mapped at is h = view-makes bases view name given old image mapped.0 (some-same view.base name at) is h
views-make bases (view ∷ views) (suc number) name given old image mapped at is h = views-make bases views number name given old image mapped.1 at is h

only-name : (base : List ℕ) (number : ℕ) (name : List ℕ) → slice_get (base ∷ []) number ≡ Some name → base ≡ name
only-name base zero name at = some-same base name at
only-name base (suc number) name at = absurd cc

spec-makes : (bases : Bases) (spec : LogicalSpec) (number : ℕ) (name : List ℕ) (given : List (Option Value)) (old : Option (List ℕ)) (image : List ℕ) → IsSpecMapped bases spec
    → slice_get (base_names spec) number ≡ Some name → IsGiven bases name old → given_in bases (LogicalFile spec) number given old ≡ Ok image → HoldsRecord (bases name).fields image
spec-makes bases (Simple view) number name given old image mapped at is h = view-makes bases view name given old image mapped (only-name view.base number name at) is h
spec-makes bases (Multi views) number name given old image mapped at is h = views-make bases views number name given old image mapped at is h
spec-makes bases (Join view) number name given old image mapped at is h = absurd cc

pub given-makes : (bases : Bases) (spec : LogicalSpec) (number : ℕ) (name : List ℕ) (given : List (Option Value)) (old : Option (List ℕ)) (image : List ℕ) → IsSpecMapped bases spec
    → slice_get (base_names spec) number ≡ Some name → IsLaidOut (bases name).fields → HoldDefaults (bases name).fields → IfSome old (HoldsRecord (bases name).fields)
    → given_in bases (LogicalFile spec) number given old ≡ Ok image → HoldsRecord (bases name).fields image
given-makes bases spec number name given old image mapped at laid defaults before h =
    spec-makes bases spec number name given old image mapped at (record { laid = laid; defaults = defaults; before = before }) h
