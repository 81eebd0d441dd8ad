-- What a record shows of the values that were given for it.
use Rattle.std.proofs.Common.{◌≡◌, ℕ, ◌+◌, Bool, true, false, cond, ◌==◌, Option, Some, None, Result, Ok, Err, List, [], ◌∷◌, ◌++◌, length, refl, sym, ◌∙◌, ap, subst, append-nil, arith}
use Rattle.std.specs.List.{flat_map, AllByRecursion}
use Rattle.std.proofs.lemmas.List.{take_all}
use Rattle.std.proofs.lemmas.Bool.{eqb-true}
use Rattle.field_types.specs.declared.kinds.FieldType.{FieldType}
use Rattle.field_types.specs.declared.values.Value.{Value}
use Rattle.field_types.specs.declared.values.Value.TheVariants.{Chars, Number}
use Rattle.field_types.specs.declared.faults.ValueFault.{ValueFault}
use Rattle.field_types.specs.declared.faults.ValueFault.TheVariants.{ReadOnlyField}
use Rattle.field_types.specs.declared.faults.RecordFault.{RecordFault}
use Rattle.field_types.specs.declared.faults.RecordFault.TheVariants.{BadField, Count}
use Rattle.field_values.specs.FieldTypes.{IsFieldType, width}
use Rattle.field_values.specs.FieldBytes.{held, held_as, written, as_held, fault_of, filled}
use Rattle.field_values.specs.FirstBad.{part}
use Rattle.field_laws.proofs.WrittenLemmas.{stands-written}
use Rattle.field_laws.proofs.AcceptedLemmas.{held-kept}
use Rattle.file_model.below.record_fmt.specs.declared.formats.Field.{Field}
use Rattle.file_model.specs.declared.views.Piece.{Piece}
use Rattle.file_model.specs.declared.views.FieldSource.{FieldSource}
use Rattle.file_model.specs.declared.views.FieldSource.TheVariants.{Copied, Converted, Concatenated, Substring}
use Rattle.file_model.specs.declared.views.LogicalField.{LogicalField}
use Rattle.file_model.specs.Views.{written_as, piece_of, shown, field_value, put_at, put_pieces, pieces_length, character, stored_type, put_value}
use Rattle.file_model.specs.Views.{first_fault, refusal, put_or_refused, put_given, old_or_default}
use Rattle.view_rules.specs.Shown.{IsTaken, HasSource, ArePieces}
use Rattle.view_rules.specs.Stored.{EndsWithin, HasPlace, IsStored}
use Rattle.view_rules.specs.Apart.{places_of, places, StoresValue, EachApart, AreKept, IsGiven}
use Rattle.view_rules.proofs.EqualLemmas.{NumberFits, number-fits, text-passes, held-equal}
use Rattle.file_model.specs.declared.rules.Relation.TheVariants.{Equals}
use Rattle.file_model.specs.Selection.{is_related}
use Rattle.std.specs.Ordering.{is_eq}
use Rattle.view_rules.proofs.OperandLemmas.{characters-held, number-numeric}
use Rattle.view_rules.proofs.StoreLemmas.{fault-stays}
use Rattle.view_rules.proofs.TextLemmas.{pieces-length}
use Rattle.view_rules.proofs.ApartLemmas.{put_pieces-length, pieces-own, pieces-kept}

-- ---- one value

wide : (b : Bool) (o : Option Value) (v : Value) → cond b o None ≡ Some v → b ≡ true
wide true o v e = refl
wide false o v e = cc

held-length : (t : FieldType) (image : List ℕ) (v : Value) → held t image ≡ Some v → length image ≡ width t
unfolding held
held-length t image v is = eqb-true (length image) (width t) (wide (length image == width t) (held_as t.kind t.length t.decimals image) v is)

written-length : (t : FieldType) (v : Value) → IsFieldType t → fault_of t v ≡ None → length (written t v) ≡ width t
written-length t v allowed fits = held-length t (written t v) (as_held t v) (stands-written t v allowed fits)

-- what is stored is the written value, over the places of the field
stored-over : (t : FieldType) (s : FieldSource) (v : Value) (image : List ℕ) → IsFieldType (stored_type t s) → fault_of (stored_type t s) v ≡ None →
    put_value t s v image ≡ put_pieces (places_of t s) (written (stored_type t s) v) image
stored-over t (Copied offset) v image allowed fits =
    let long : length (written t v) ≡ width t = written-length t v allowed fits in
    ap (λ (w : List ℕ). put_at offset w image) (sym (take_all (width t) (written t v) (omega (arith, long))))
stored-over t (Converted from offset) v image allowed fits =
    let long : length (written from v) ≡ width from = written-length from v allowed fits in
    ap (λ (w : List ℕ). put_at offset w image) (sym (take_all (width from) (written from v) (omega (arith, long))))
stored-over t (Concatenated pieces) v image allowed fits = refl
stored-over t (Substring piece) v image allowed fits = refl

stored-length : (t : FieldType) (s : FieldSource) → StoresValue s → width (stored_type t s) ≡ pieces_length (places_of t s)
stored-length t (Copied offset) stores = omega arith
stored-length t (Converted from offset) stores = omega arith
stored-length t (Concatenated pieces) stores = refl
stored-length t (Substring piece) stores = absurd stores

within : (n : ℕ) (t : FieldType) (s : FieldSource) → HasPlace n t s → AllByRecursion (EndsWithin n) (places_of t s)
within n t (Copied offset) has = (has, tt)
within n t (Converted from offset) has = (has, tt)
within n t (Concatenated pieces) has = has
within n t (Substring piece) has = tt

-- ---- what is shown

concatenated-shown : (t : FieldType) (pieces : List Piece) (v : Value) (image : List ℕ) → ArePieces t pieces image → fault_of (character (pieces_length pieces)) v ≡ None →
    flat_map (piece_of image) pieces ≡ written (character (pieces_length pieces)) v →
    held t (filled (width t) (flat_map (piece_of image) pieces)) ≡ Some (as_held t (as_held (character (pieces_length pieces)) v))
unfolding as_held written
concatenated-shown t pieces (Chars text) image has fits is =
    let long : length (flat_map (piece_of image) pieces) ≡ pieces_length pieces = pieces-length image pieces has.within in
    characters-held t (flat_map (piece_of image) pieces) has.characters (omega (arith, long, has.room))
    ∙ ap (λ (w : List ℕ). Some (Chars (filled (width t) w))) is
concatenated-shown t pieces (Number n) image has fits is =
    let numeric : false ≡ true = number-numeric (character (pieces_length pieces)) n fits in cc

value-shown : (t : FieldType) (s : FieldSource) (v : Value) (image : List ℕ) → StoresValue s → IsFieldType t → IsFieldType (stored_type t s) → HasSource t s image →
    fault_of (stored_type t s) v ≡ None → flat_map (piece_of image) (places_of t s) ≡ written (stored_type t s) v →
    held t (shown t s image) ≡ Some (as_held t (as_held (stored_type t s) v))
value-shown t (Copied offset) v image stores allowed stored has fits is =
    let bytes : part offset (width t) image ≡ written t v = sym (append-nil (part offset (width t) image)) ∙ is in
    let stands : held t (written t v) ≡ Some (as_held t v) = stands-written t v allowed fits in
    ap (held t) bytes ∙ stands ∙ ap Some (sym (held-kept t (as_held t v) (written t v) stands).same)
value-shown t (Converted from offset) v image stores allowed stored has fits is =
    let bytes : part offset (width from) image ≡ written from v = sym (append-nil (part offset (width from) image)) ∙ is in
    let stands : held from (part offset (width from) image) ≡ Some (as_held from v) = ap (held from) bytes ∙ stands-written from v stored fits in
    let taken : fault_of t (as_held from v) ≡ None = subst (λ (o : Option Value). IsTaken t o) stands has.taken in
    ap (λ (o : Option Value). held t (written_as t o)) stands ∙ stands-written t (as_held from v) allowed taken
value-shown t (Concatenated pieces) v image stores allowed stored has fits is = concatenated-shown t pieces v image has fits is
value-shown t (Substring piece) v image stores allowed stored has fits is = absurd stores

number-kept : (t : FieldType) (s : FieldSource) (v : Value) (image : List ℕ) → StoresValue s → IsFieldType t → IsFieldType (stored_type t s) → HasSource t s image →
    fault_of (stored_type t s) v ≡ None → flat_map (piece_of image) (places_of t s) ≡ written (stored_type t s) v → NumberFits t (as_held (stored_type t s) v)
number-kept t (Copied offset) v image stores allowed stored has fits is =
    number-fits t (as_held t v) (held-kept t (as_held t v) (written t v) (stands-written t v allowed fits)).accepted
number-kept t (Converted from offset) v image stores allowed stored has fits is =
    let bytes : part offset (width from) image ≡ written from v = sym (append-nil (part offset (width from) image)) ∙ is in
    let stands : held from (part offset (width from) image) ≡ Some (as_held from v) = ap (held from) bytes ∙ stands-written from v stored fits in
    number-fits t (as_held from v) (subst (λ (o : Option Value). IsTaken t o) stands has.taken)
number-kept t (Concatenated pieces) (Chars text) image stores allowed stored has fits is = text-passes t (character (pieces_length pieces)) text
number-kept t (Concatenated pieces) (Number n) image stores allowed stored has fits is =
    let numeric : false ≡ true = number-numeric (character (pieces_length pieces)) n fits in cc
number-kept t (Substring piece) v image stores allowed stored has fits is = absurd stores

-- ---- one value after another

both-none : (a b : Option ValueFault) → first_fault a b ≡ None → b ≡ None
both-none (Some cause) b e = cc
both-none None b e = e

not-refused : (read_only : Bool) (a b : Option ValueFault) → cond read_only (Some ReadOnlyField) (first_fault a b) ≡ None → b ≡ None
not-refused true a b e = cc
not-refused false a b e = both-none a b e

accepted : (f : LogicalField) (v : Value) → refusal f v ≡ None → fault_of (stored_type f.field.ty f.field.source) v ≡ None
accepted f v e = not-refused f.read_only (fault_of f.field.ty v) (fault_of (stored_type f.field.ty f.field.source) v) e

-- a value that is put where none is refused
pub record IsPut (number : ℕ) (f : LogicalField) (v : Value) (fields : List LogicalField) (given : List (Option Value)) (image new : List ℕ) : Type 0 where
  pub fits : fault_of (stored_type f.field.ty f.field.source) v ≡ None
  pub rest : put_given (number + 1) fields given (Ok (put_value f.field.ty f.field.source v image)) ≡ Ok new

is-put : (number : ℕ) (f : LogicalField) (v : Value) (fields : List LogicalField) (given : List (Option Value)) (image new : List ℕ) →
    put_given number (f ∷ fields) (Some v ∷ given) (Ok image) ≡ Ok new → IsPut number f v fields given image new
is-put number f v fields given image new e = by (refusal f v) refl e
  where
    by : (o : Option ValueFault) → refusal f v ≡ o → put_given (number + 1) fields given (put_or_refused number f v image o) ≡ Ok new → IsPut number f v fields given image new
    by (Some cause) none e = (let clash : Err (BadField number cause) ≡ Ok new = sym (fault-stays (number + 1) fields given (BadField number cause)) ∙ e in cc)
    by None none e = record { fits = accepted f v none; rest = e }

put-length : (n : ℕ) (f : LogicalField) (v : Value) (image : List ℕ) → length image ≡ n → IsStored n f → fault_of (stored_type f.field.ty f.field.source) v ≡ None →
    length (put_value f.field.ty f.field.source v image) ≡ n
put-length n f v image long is fits =
    let t = f.field.ty in
    let s = f.field.source in
    ap length (stored-over t s v image is.allowed.stored fits)
    ∙ put_pieces-length (places f) (written (stored_type t s) v) image (within (length image) t s (subst (λ (m : ℕ). HasPlace m t s) (sym long) is.place)) ∙ long

-- later values leave these places
later-kept : (n number : ℕ) (ps : List Piece) (fields : List LogicalField) (given : List (Option Value)) (image new : List ℕ) → length image ≡ n → AllByRecursion (IsStored n) fields →
    AreKept ps fields given → put_given number fields given (Ok image) ≡ Ok new → flat_map (piece_of new) ps ≡ flat_map (piece_of image) ps
later-kept n number ps [] given image new long all kept e = ap (λ (w : List ℕ). flat_map (piece_of w) ps) (let same : new ≡ image = cc in same)
later-kept n number ps (g ∷ fields) [] image new long all kept e = ap (λ (w : List ℕ). flat_map (piece_of w) ps) (let same : new ≡ image = cc in same)
later-kept n number ps (g ∷ fields) (None ∷ given) image new long all kept e = later-kept n (number + 1) ps fields given image new long all.1 kept e
later-kept n number ps (g ∷ fields) (Some v ∷ given) image new long all kept e =
    let put : IsPut number g v fields given image new = is-put number g v fields given image new e in
    let t = g.field.ty in
    let s = g.field.source in
    later-kept n (number + 1) ps fields given (put_value t s v image) new (put-length n g v image long all.0 put.fits) all.1 kept.1 put.rest
    ∙ ap (λ (w : List ℕ). flat_map (piece_of w) ps) (stored-over t s v image all.0.allowed.stored put.fits)
    ∙ pieces-kept ps (places g) (written (stored_type t s) v) image kept.0 (within (length image) t s (subst (λ (m : ℕ). HasPlace m t s) (sym long) all.0.place))

-- the value fits, and stands in the places of its field
pub record IsThere (f : LogicalField) (v : Value) (new : List ℕ) : Type 0 where
  pub fits : fault_of (stored_type f.field.ty f.field.source) v ≡ None
  pub bytes : flat_map (piece_of new) (places f) ≡ written (stored_type f.field.ty f.field.source) v
  pub stored : IsFieldType (stored_type f.field.ty f.field.source)

there-after : (n number : ℕ) (before after : List LogicalField) (f : LogicalField) (first rest : List (Option Value)) (v : Value) (image new : List ℕ) → length image ≡ n →
    length first ≡ length before → AllByRecursion (IsStored n) (before ++ f ∷ after) → StoresValue f.field.source → EachApart (places f) → AreKept (places f) after rest →
    put_given number (before ++ f ∷ after) (first ++ Some v ∷ rest) (Ok image) ≡ Ok new → IsThere f v new
there-after n number [] after f [] rest v image new long same all stores apart kept e =
    let put : IsPut number f v after rest image new = is-put number f v after rest image new e in
    let t = f.field.ty in
    let s = f.field.source in
    let text = written (stored_type t s) v in
    let inside : AllByRecursion (EndsWithin (length image)) (places f) = within (length image) t s (subst (λ (m : ℕ). HasPlace m t s) (sym long) all.0.place) in
    record {
      fits = put.fits;
      bytes = later-kept n (number + 1) (places f) after rest (put_value t s v image) new (put-length n f v image long all.0 put.fits) all.1 kept put.rest
          ∙ ap (λ (w : List ℕ). flat_map (piece_of w) (places f)) (stored-over t s v image all.0.allowed.stored put.fits)
          ∙ pieces-own (places f) text image apart inside (written-length (stored_type t s) v all.0.allowed.stored put.fits ∙ stored-length t s stores);
      stored = all.0.allowed.stored;
    }
there-after n number [] after f (w ∷ first) rest v image new long same all stores apart kept e = absurd (omega (arith, same))
there-after n number (g ∷ before) after f [] rest v image new long same all stores apart kept e = absurd (omega (arith, same))
there-after n number (g ∷ before) after f (None ∷ first) rest v image new long same all stores apart kept e =
    there-after n (number + 1) before after f first rest v image new long (let less : length first ≡ length before = omega (arith, same) in less) all.1 stores apart kept e
there-after n number (g ∷ before) after f (Some w ∷ first) rest v image new long same all stores apart kept e =
    let put : IsPut number g w (before ++ f ∷ after) (first ++ Some v ∷ rest) image new = is-put number g w (before ++ f ∷ after) (first ++ Some v ∷ rest) image new e in
    there-after n (number + 1) before after f first rest v (put_value g.field.ty g.field.source w image) new (put-length n g w image long all.0 put.fits)
    (let less : length first ≡ length before = omega (arith, same) in less) all.1 stores apart kept put.rest

counted-given : (b : Bool) (r : Result (List ℕ) RecordFault) (image : List ℕ) → cond b r (Err Count) ≡ Ok image → r ≡ Ok image
counted-given true r image e = e
counted-given false r image e = cc

given-there : (base : List Field) (before after : List LogicalField) (f : LogicalField) (first rest : List (Option Value)) (v : Value) (old : Option (List ℕ)) (image : List ℕ) →
    IsGiven base before after f first rest v old image → IsThere f v image
given-there base before after f first rest v old image is =
    let fields : List LogicalField = before ++ f ∷ after in
    let given : List (Option Value) = first ++ Some v ∷ rest in
    let put : put_given 1 fields given (Ok (old_or_default base old)) ≡ Ok image =
    counted-given (length given == length fields) (put_given 1 fields given (Ok (old_or_default base old))) image is.made in
    there-after (length (old_or_default base old)) 1 before after f first rest v (old_or_default base old) image refl is.number is.fields is.stores is.once is.last put

pub given-shown : (base : List Field) (before after : List LogicalField) (f : LogicalField) (first rest : List (Option Value)) (v : Value) (old : Option (List ℕ)) (image : List ℕ) →
    IsGiven base before after f first rest v old image → field_value image f.field ≡ Some (as_held f.field.ty (as_held (stored_type f.field.ty f.field.source) v))
given-shown base before after f first rest v old image is =
    let there : IsThere f v image = given-there base before after f first rest v old image is in
    value-shown f.field.ty f.field.source v image is.stores is.shown.allowed there.stored is.shown.source there.fits there.bytes

pub given-equal : (base : List Field) (before after : List LogicalField) (f : LogicalField) (first rest : List (Option Value)) (v : Value) (old : Option (List ℕ)) (image : List ℕ) →
    IsGiven base before after f first rest v old image → is_related Equals (field_value image f.field) (Some v) ≡ true
given-equal base before after f first rest v old image is =
    let there : IsThere f v image = given-there base before after f first rest v old image is in
    let t = f.field.ty in
    let s = f.field.source in
    ap (λ (o : Option Value). is_related Equals o (Some v)) (given-shown base before after f first rest v old image is)
    ∙ ap is_eq (held-equal t (stored_type t s) v there.fits (number-kept t s v image is.stores is.shown.allowed there.stored is.shown.source there.fits there.bytes))
