-- What lines of fields describe shows a value of each record of the base file.
use Rattle.std.proofs.Common.{◌≡◌, ℕ, suc, ◌+◌, ◌-◌, ◌≤◌, ◌==◌, nat_eq, nat_lt, nat_le, Bool, true, false, not, cond, ◌&&◌, ◌||◌, codes, Option, Some, None, is_some, IfSome, Result, Ok, Err}
use Rattle.std.proofs.Common.{List, [], ◌∷◌, ◌++◌, map, Contains, refl, sym, ◌∙◌, ap, subst, arith}
use Rattle.std.specs.List.{AllByRecursion, filter_map, flat_map, cons_option}
use Rattle.std.proofs.lemmas.Bool.{and_parts, cond_both, eqb-true, leb-true, ltb-false, not-false, or_parts}
use Rattle.std.proofs.lemmas.List.Elements.{recursion_from_All, All-contains_itself}
use lib.Pointwise.{pointwise}
use Rattle.field_types.specs.declared.kinds.Kind.{Kind}
use Rattle.field_types.specs.declared.kinds.Kind.TheVariants.{Char, Zoned, Packed, Binary, Date, Time, Stamp}
use Rattle.field_types.specs.declared.kinds.FieldType.{FieldType}
use Rattle.field_values.specs.FieldTypes.{IsFieldType, is_allowed, is_numeric}
use Rattle.file_model.below.record_fmt.specs.declared.formats.Field.{Field}
use Rattle.file_model.specs.Layout.{lies_from}
use Rattle.dds_source.specs.declared.arguments.Argument.{Argument}
use Rattle.dds_source.specs.declared.faults.DdsFault.{DdsFault}
use Rattle.dds_source.specs.declared.specifications.Specification.{Specification}
use Rattle.dds_source.specs.Entries.{when}
use Rattle.dds_physical.specs.Attributes.{kind_of, are_decimals_wrong, sized, attributes_of_kind, attributes, length_of, decimals_of}
use Rattle.dds_physical.specs.Keywords.{first_named, is_there}
use Rattle.dds_physical.specs.Names.{name_of, field_named}
use Rattle.file_model.specs.declared.views.FieldSource.{FieldSource}
use Rattle.file_model.specs.declared.views.FieldSource.TheVariants.{Copied, Converted, Concatenated, Substring}
use Rattle.file_model.specs.declared.views.LogicalField.{LogicalField}
use Rattle.file_model.specs.declared.views.Piece.{Piece}
use Rattle.file_model.specs.Views.{character, pieces_length}
use Rattle.dds_logical.specs.Fields.{kind_letter, is_same_type, are_alike, source_at, narrows_kind, narrows_decimals, narrows_length, narrowing_faults, typed_faults, type_faults_over, made_faults}
use Rattle.dds_logical.specs.Fields.{typed_field, field_over, field_of_line, field_as_it_is, named_fields, mapping_of, is_read_only_mapping, says_read_only}
use Rattle.dds_logical.specs.Origins.{Origin, origin_names, fields_of_names, lacks_one, is_character, are_characters, lies_within, if_within, part_said, whole_field, first_copied, concatenated}
use Rattle.dds_logical.specs.Origins.{part_origin, substring_of, arguments_said, made_of, origin}
use Rattle.dds_logical.proofs.CompleteLemmas.{nothing_in, not_wrong}
use Rattle.logical_laws.specs.Mapped.{IsFieldAt, IsTextAt}
use Rattle.logical_laws.proofs.ListLemmas.{each-map, each-weaker}
use Rattle.logical_paths.specs.Steps.{shown_of}
use Rattle.logical_paths.specs.KeyedViews.{ShowsSource, IsShownOf}
use Rattle.logical_paths.proofs.ShownLemmas.{among-lies, at-lies}
use Rattle.logical_paths.proofs.WideningLemmas.{same-kind, alike-text, widened}

-- ---- options and lists

pub if-some : {A : Type 0} (P Q : A → Type 0) (o : Option A) → ((x : A) → P x → Q x) → IfSome o P → IfSome o Q
if-some P Q None so here = tt
if-some P Q (Some x) so here = so x here

pub each-cons : {A : Type 0} (P : A → Type 0) (o : Option A) (xs : List A) → IfSome o P → AllByRecursion P xs → AllByRecursion P (cons_option o xs)
each-cons P None xs here all = all
each-cons P (Some x) xs here all = (here, all)

pub each-filter_map : {A B : Type 0} (H : A → Type 0) (P : B → Type 0) (f : A → Option B) → ((x : A) → H x → IfSome (f x) P) → (xs : List A) → AllByRecursion H xs → AllByRecursion P (filter_map f xs)
each-filter_map H P f so [] all = tt
each-filter_map H P f so (x ∷ xs) all = each-cons P (f x) (filter_map f xs) (so x all.0) (each-filter_map H P f so xs all.1)

pub each-itself : {A : Type 0} (xs : List A) → AllByRecursion (Contains xs) xs
each-itself xs = recursion_from_All (Contains xs) xs (All-contains_itself xs)

pub flat-nothing : {X : Type 0} (f : X → List DdsFault) (xs : List X) → flat_map f xs ≡ [] → AllByRecursion (λ x. f x ≡ []) xs
flat-nothing f [] h = tt
flat-nothing f (x ∷ xs) h = (let parts = nothing_in (f x) (flat_map f xs) h in (parts.0, flat-nothing f xs parts.1))

-- ---- types

type-of : (a b : FieldType) → a.kind ≡ b.kind → a.length ≡ b.length → a.decimals ≡ b.decimals → a ≡ b
type-of a b kind long decimals =
    let first : FieldType = record { kind = b.kind; length = a.length; decimals = a.decimals } in
    let second : FieldType = record { kind = b.kind; length = b.length; decimals = a.decimals } in
    let changed : a ≡ first = ap (with-kind a) kind in
    let lengthened : first ≡ second = ap (with-length first) long in
    let scaled : second ≡ b = ap (with-decimals second) decimals in
    changed ∙ lengthened ∙ scaled
  where
    with-kind : FieldType → Kind → FieldType
    with-kind t k = record { kind = k; length = t.length; decimals = t.decimals }

    with-length : FieldType → ℕ → FieldType
    with-length t n = record { kind = t.kind; length = n; decimals = t.decimals }

    with-decimals : FieldType → ℕ → FieldType
    with-decimals t n = record { kind = t.kind; length = t.length; decimals = n }

all-three : (a b c : Bool) → (a && b && c) ≡ true → (a ≡ true) × (b ≡ true) × (c ≡ true)
all-three true true true h = (refl, refl, refl)
all-three false b c h = absurd cc
all-three true false c h = absurd cc
all-three true true false h = absurd cc

pub same-type : (t u : FieldType) → is_same_type t u ≡ true → t ≡ u
same-type t u h =
    let parts = all-three (kind_letter t.kind == kind_letter u.kind) (t.length == u.length) (t.decimals == u.decimals) h in
    type-of t u (same-kind t.kind u.kind parts.0) (eqb-true t.length u.length parts.1) (eqb-true t.decimals u.decimals parts.2)

cond-ok : {A E : Type 0} (b : Bool) (e : E) (r : Result A E) (x : A) → cond b (Err e) r ≡ Ok x → (b ≡ false) × (r ≡ Ok x)
cond-ok true e r x h = absurd cc
cond-ok false e r x h = (refl, h)

typed-equal : (t u : FieldType) → ◌≡◌ {A = Result FieldType DdsFault} (Ok t) (Ok u) → t ≡ u
typed-equal t u e = cc

sized-allowed : (s : Specification) (kind : Kind) (long decimals : ℕ) (t : FieldType) → sized s kind long decimals ≡ Ok t → IsFieldType t
sized-allowed s kind long decimals t h =
    let first = cond-ok (not (is_allowed kind long 0)) _ _ t h in
    let second = cond-ok (are_decimals_wrong (is_some s.columns.decimals) kind long decimals) _ _ t first.1 in
    let right = or_parts (is_some s.columns.decimals && not (is_numeric kind)) (not (is_allowed kind long decimals)) second.0 in
    subst IsFieldType (typed-equal _ t second.1) (not-false (is_allowed kind long decimals) right.1)

attributes-allowed : (s : Specification) (copied : Option FieldType) (t : FieldType) → attributes s copied ≡ Ok t → IsFieldType t
attributes-allowed s copied t h = by (kind_of s.columns.data_type s.columns.decimals copied) h
  where
    by : (kind : Option Kind) → attributes_of_kind s copied kind ≡ Ok t → IsFieldType t
    by None e = absurd cc
    by (Some kind) e = sized-allowed s kind (length_of s.columns.length s.columns.data_type kind copied) (decimals_of s.columns.decimals kind copied) t e

-- ---- no narrowing

record IsWide (t own : FieldType) : Type 0 where
  alike : are_alike t own ≡ true
  scale : own.decimals ≤ t.decimals
  room : own.length - own.decimals ≤ t.length - t.decimals

less-not : (alike : Bool) (a b : ℕ) → alike ≡ true → (alike && nat_lt a b) ≡ false → b ≤ a
less-not true a b is h = (let low : nat_lt a b ≡ false = h in ltb-false a b low)
less-not false a b is h = absurd cc

not-narrowed : (s : Specification) (t own : FieldType) → narrowing_faults s t own ≡ [] → IsWide t own
not-narrowed s t own none =
    let both = nothing_in (when (narrows_kind t own) _ ++ when (narrows_decimals t own) _) (when (narrows_length t own) _) none in
    let first = nothing_in (when (narrows_kind t own) _) (when (narrows_decimals t own) _) both.0 in
    let alike : are_alike t own ≡ true = not-false (are_alike t own) (not_wrong (narrows_kind t own) _ first.0) in
    record {
      alike = alike;
      scale = less-not (are_alike t own) t.decimals own.decimals alike (not_wrong (narrows_decimals t own) _ first.1);
      room = less-not (are_alike t own) (t.length - t.decimals) (own.length - own.decimals) alike (not_wrong (narrows_length t own) _ both.1);
    }

-- ---- what a field is made of

is-char : (k : Kind) → is_character k ≡ true → k ≡ Char
is-char Char h = refl
is-char Zoned h = absurd cc
is-char Packed h = absurd cc
is-char Binary h = absurd cc
is-char Date h = absurd cc
is-char Time h = absurd cc
is-char Stamp h = absurd cc

one-more : (f : Field) (fs : List Field) (o : Option Field) → IfSome o (Contains fs) → IfSome o (Contains (f ∷ fs))
one-more f fs None here = tt
one-more f fs (Some g) here = (suc here.0, omega (arith, here.1), here.2)

pub field-there : (name : List ℕ) (base : List Field) → IfSome (field_named name base) (Contains base)
field-there name [] = tt
field-there name (f ∷ fs) =
    cond_both (pointwise nat_eq f.name name) (Some f) (field_named name fs) (λ o. IfSome o (Contains (f ∷ fs)))
    (λ _. (0, omega arith, refl)) (λ _. one-more f fs (field_named name fs) (field-there name fs))

always : {A : Type 0} (xs : List A) → AllByRecursion (λ x. Unit {0}) xs
always [] = tt
always (x ∷ xs) = (tt, always xs)

names-there : (base : List Field) (names : List (List ℕ)) → AllByRecursion (Contains base) (fields_of_names base names)
names-there base names = each-filter_map (λ name. Unit {0}) (Contains base) (λ name. field_named name base) (λ name _. field-there name base) names (always names)

-- part of a character field
record IsSpan (base : List Field) (piece : Piece) : Type 0 where
  field : Field
  among : Contains base field
  text : field.ty.kind ≡ Char
  behind : field.offset ≤ piece.offset
  within : piece.offset + piece.length ≤ field.offset + field.ty.length

abbrev IsOriginOf : List Field → FieldType → FieldSource → Type 0
IsOriginOf base own (Copied offset) = IsFieldAt base own offset
IsOriginOf base own (Converted from offset) = ⊥
IsOriginOf base own (Concatenated pieces) = AllByRecursion (IsTextAt base) pieces × (own ≡ character (pieces_length pieces))
IsOriginOf base own (Substring piece) = IsSpan base piece × (own ≡ character piece.length)

abbrev IsMade : List Field → Origin → Type 0
IsMade base o = IsOriginOf base o.own_type o.source

texts-there : (base fields : List Field) → AllByRecursion (Contains base) fields → are_characters fields ≡ true → AllByRecursion (IsTextAt base) (map whole_field fields)
texts-there base [] all texts = tt
texts-there base (f ∷ fields) all texts =
    let parts = and_parts (is_character f.ty.kind) (are_characters fields) texts in
    (record { field = f; among = all.0; kind = is-char f.ty.kind parts.0; long = refl; at = refl }, texts-there base fields all.1 parts.1)

concat-made : (base fields : List Field) → AllByRecursion (Contains base) fields → IfSome (concatenated fields) (IsMade base)
concat-made base fields all =
    cond_both (are_characters fields) _ None (λ (o : Option Origin). IfSome o (IsMade base)) (λ texts. (texts-there base fields all texts, refl)) (λ _. tt)

-- a part that lies within the field
within-said : (n : ℕ) (o : Option _) → IfSome (if_within n o) (λ p. (1 ≤ p.start) × (p.start + p.size ≤ n + 1))
within-said n None = tt
within-said n (Some p) =
    cond_both (lies_within n p) (Some p) None (λ o. IfSome o (λ q. (1 ≤ q.start) × (q.start + q.size ≤ n + 1)))
    (λ lies. (
    let parts = all-three (nat_le 1 p.start) (nat_le 1 p.size) (nat_le (p.start + p.size) (n + 1)) lies in
    (leb-true 1 p.start parts.0, leb-true (p.start + p.size) (n + 1) parts.2)
    )) (λ _. tt)

part-made : (base : List Field) (f : Field) (o : Option _) (made : Option Origin) → part_origin f o ≡ made → Contains base f → f.ty.kind ≡ Char
    → IfSome o (λ p. (1 ≤ p.start) × (p.start + p.size ≤ f.ty.length + 1)) → IfSome made (IsMade base)
part-made base f None made is among kind within = subst (λ (m : Option Origin). IfSome m (IsMade base)) is tt
part-made base f (Some p) made is among kind within =
    let start : 1 ≤ p.start = within.0 in
    let end : p.start + p.size ≤ f.ty.length + 1 = within.1 in
    subst (λ (m : Option Origin). IfSome m (IsMade base)) is
    (record { field = f; among = among; text = kind; behind = omega (arith, start); within = omega (arith, start, end) }, refl)

substring-made : (base : List Field) (args : List Argument) (fields : List Field) → AllByRecursion (Contains base) fields → IfSome (substring_of args fields) (IsMade base)
substring-made base args [] all = tt
substring-made base args (f ∷ fields) all =
    cond_both (is_character f.ty.kind) (part_origin f (if_within f.ty.length (part_said f.ty.length args))) None (λ (o : Option Origin). IfSome o (IsMade base))
    (λ text. part-made base f (if_within f.ty.length (part_said f.ty.length args)) _ refl all.0 (is-char f.ty.kind text) (within-said f.ty.length (part_said f.ty.length args))) (λ _. tt)

copied-made : (base fields : List Field) → AllByRecursion (Contains base) fields → IfSome (first_copied fields) (IsMade base)
copied-made base [] all = tt
copied-made base (f ∷ fields) all = record { field = f; among = all.0; ty = refl; at = refl }

made-of : (base : List Field) (s : Specification) (fields : List Field) → AllByRecursion (Contains base) fields → IfSome (made_of s fields) (IsMade base)
made-of base s fields all =
    let args : List Argument = arguments_said (first_named (codes "SST") s.keywords) in
    cond_both (is_there (codes "CONCAT") s.keywords) (concatenated fields) (cond (is_there (codes "SST") s.keywords) (substring_of args fields) (first_copied fields))
    (λ (o : Option Origin). IfSome o (IsMade base)) (λ _. concat-made base fields all)
    (λ _. cond_both (is_there (codes "SST") s.keywords) (substring_of args fields) (first_copied fields) (λ (o : Option Origin). IfSome o (IsMade base))
    (λ _. substring-made base args fields all) (λ _. copied-made base fields all))

origin-made : (base : List Field) (s : Specification) → IfSome (origin base s) (IsMade base)
origin-made base s =
    let fields : List Field = fields_of_names base (origin_names s) in
    cond_both (lacks_one base (origin_names s)) None (made_of s fields) (λ (o : Option Origin). IfSome o (IsMade base))
    (λ _. tt) (λ _. made-of base s fields (names-there base (origin_names s)))

-- ---- what it shows

-- a text in a field that doesn't narrow it
text-room : (t own : FieldType) (n : ℕ) → IsWide t own → own ≡ character n → (t.kind ≡ Char) × (n ≤ t.length)
text-room t own n wide is =
    let alike : are_alike t (character n) ≡ true = subst (λ (u : FieldType). are_alike t u ≡ true) is wide.alike in
    let room : n - 0 ≤ t.length - t.decimals = subst (λ (u : FieldType). u.length - u.decimals ≤ t.length - t.decimals) is wide.room in
    (alike-text t (character n) alike refl, omega (arith, room))

-- its type is one that a data description can give, over any fields
typed-allowed : (s : Specification) (o : Origin) (name : Option (List ℕ)) (typed : Result FieldType DdsFault) (read_only : Bool) → ((t : FieldType) → typed ≡ Ok t → IsFieldType t)
    → IfSome (typed_field s o name typed read_only) (λ f. IsFieldType f.shown.field.ty)
typed-allowed s o None typed read_only allowed = tt
typed-allowed s o (Some name) (Err fault) read_only allowed = tt
typed-allowed s o (Some name) (Ok t) read_only allowed = allowed t refl

pub line-allowed : (is_join : Bool) (base : List Field) (s : Specification) → IfSome (field_of_line is_join base s) (λ f. IsFieldType f.shown.field.ty)
line-allowed is_join base s = over (origin base s)
  where
    over : (o : Option Origin) → IfSome (field_over is_join s o) (λ f. IsFieldType f.shown.field.ty)
    over None = tt
    over (Some o) =
        typed-allowed s o (name_of s.name) (attributes s (Some o.own_type)) (is_read_only_mapping is_join s || says_read_only s.columns.usage) (λ t e. attributes-allowed s (Some o.own_type) t e)

module _ (base : List Field) (lies : lies_from 0 base ≡ true) where
  source-shown : (t : FieldType) (o : Origin) (source : FieldSource) → IsFieldType t → IsWide t o.own_type → IsOriginOf base o.own_type source → ShowsSource base t (source_at t o source)
  source-shown t o (Copied offset) allowed wide here =
      cond_both (is_same_type t o.own_type) (Copied offset) (Converted o.own_type offset) (ShowsSource base t)
      (λ same. subst (λ (u : FieldType). IsFieldAt base u offset) (sym (same-type t o.own_type same)) here)
      (λ _. record { field = here; widens = widened t o.own_type allowed (at-lies base o.own_type offset lies here).allowed wide.alike wide.scale wide.room })
  source-shown t o (Converted from offset) allowed wide here = absurd here
  source-shown t o (Concatenated pieces) allowed wide here =
      let text = text-room t o.own_type (pieces_length pieces) wide here.1 in
      record { kind = text.0; texts = here.0; room = text.1 }
  source-shown t o (Substring piece) allowed wide here =
      let text = text-room t o.own_type piece.length wide here.1 in
      let span : IsSpan base piece = here.0 in
      record { kind = text.0; field = span.field; among = span.among; text = span.text; behind = span.behind; within = span.within; room = text.1 }

  typed-shown : (s : Specification) (o : Origin) (name : Option (List ℕ)) (typed : Result FieldType DdsFault) (read_only : Bool) → ((t : FieldType) → typed ≡ Ok t → IsFieldType t)
      → typed_faults s o typed ≡ [] → IsMade base o → IfSome (typed_field s o name typed read_only) (λ f. IsShownOf base f.shown.field)
  typed-shown s o None typed read_only allowed none here = tt
  typed-shown s o (Some name) (Err fault) read_only allowed none here = tt
  typed-shown s o (Some name) (Ok t) read_only allowed none here =
      record { allowed = allowed t refl; source = source-shown t o o.source (allowed t refl) (not-narrowed s t o.own_type none) here }

  over-shown : (is_join : Bool) (s : Specification) (o : Option Origin) → type_faults_over s o ≡ [] → IfSome o (IsMade base) → IfSome (field_over is_join s o) (λ f. IsShownOf base f.shown.field)
  over-shown is_join s None none here = tt
  over-shown is_join s (Some o) none here =
      typed-shown s o (name_of s.name) (attributes s (Some o.own_type)) (is_read_only_mapping is_join s || says_read_only s.columns.usage)
      (λ t e. attributes-allowed s (Some o.own_type) t e) none here

  -- the field of a line that isn't at fault
  pub line-shown : (is_join : Bool) (s : Specification) → made_faults base s ≡ [] → IfSome (field_of_line is_join base s) (λ f. IsShownOf base f.shown.field)
  line-shown is_join s none = over-shown is_join s (origin base s) (nothing_in _ (type_faults_over s (origin base s)) none).1 (origin-made base s)

  -- a field of the base file as it is
  pub own-shown : (f : Field) → Contains base f → IsShownOf base (field_as_it_is f).shown.field
  own-shown f among = record { allowed = (among-lies base f lies among).allowed; source = record { field = f; among = among; ty = refl; at = refl } }

  named-shown : (ss : List Specification) → AllByRecursion (λ s. made_faults base s ≡ []) ss → AllByRecursion (λ f. IsShownOf base f.shown.field) (named_fields base ss)
  named-shown [] none =
      each-map (λ f. IsShownOf base f.shown.field) field_as_it_is base
      (each-weaker (Contains base) (λ f. IsShownOf base (field_as_it_is f).shown.field) own-shown base (each-itself base))
  named-shown (s ∷ ss) none =
      each-filter_map (λ line. made_faults base line ≡ []) (λ f. IsShownOf base f.shown.field) (field_of_line false base) (line-shown false) (s ∷ ss) none

  pub lines-shown : (ss : List Specification) → AllByRecursion (λ s. made_faults base s ≡ []) ss → AllByRecursion (IsShownOf base) (shown_of (mapping_of (named_fields base ss)))
  lines-shown ss none =
      each-map (IsShownOf base) (λ (g : LogicalField). g.field) (mapping_of (named_fields base ss))
      (each-map (λ (g : LogicalField). IsShownOf base g.field) (λ n. n.shown) (named_fields base ss) (named-shown ss none))
