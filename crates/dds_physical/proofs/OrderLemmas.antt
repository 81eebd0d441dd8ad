-- In a source in the order of a text no fault of a later line comes before the first that was found.
use Rattle.std.proofs.Common.{◌≡◌, ◌<◌, ◌≤◌, ◌+◌, ℕ, Bool, true, false, not, ◌&&◌, ◌||◌, ◌==◌, nat_lt, ◌⊎◌, inl, inr, List, [], ◌∷◌, ◌++◌, length, Option, Some, None, is_some, is_none, Result, Ok, Err, refl, sym, ◌∙◌, ap, arith}
use Rattle.std.specs.Prelude.{codes}
use Rattle.std.specs.Bool.{if◌then◌else◌}
use Rattle.std.proofs.lemmas.Bool.{cases_Bool}
use Rattle.field_types.specs.declared.kinds.Kind.{Kind}
use Rattle.field_types.specs.declared.kinds.FieldType.{FieldType}
use Rattle.record_fmt.specs.FieldTypes.{is_allowed}
use Rattle.record_fmt.specs.declared.formats.Format.{Format}
use Rattle.record_fmt.specs.declared.formats.Field.{Field}
use Rattle.record_fmt.specs.Layout.{record_length}
use Rattle.dds_source.specs.declared.faults.DdsFault.{DdsFault}
use Rattle.dds_source.specs.declared.faults.DdsCause.{DdsCause}
use Rattle.dds_source.specs.declared.faults.DdsCause.TheVariants as causes
use Rattle.dds_source.specs.declared.keywords.Keyword.{Keyword}
use Rattle.dds_source.specs.declared.specifications.Source.{Source}
use Rattle.dds_source.specs.declared.specifications.Specification.{Specification}
use Rattle.dds_source.specs.declared.specifications.SpecificationKind.{SpecificationKind}
use Rattle.dds_source.specs.declared.specifications.SpecificationKind.TheVariants as kinds
use Rattle.dds_source.specs.Entries.{when}
use Rattle.dds_source.specs.Faults.{is_before, first_after}
use Rattle.dds_physical.specs.declared.draft.Draft.{Draft}
use Rattle.dds_physical.specs.declared.keyword_names.Place.{Place}
use Rattle.dds_physical.specs.declared.keyword_names.Place.TheVariants as places
use Rattle.dds_physical.specs.Places.{fault_at, fault_of_keyword, at_keyword, error_list}
use Rattle.dds_physical.specs.Names.{name_of, is_field, is_listed}
use Rattle.dds_physical.specs.Keywords.{has_name, first_named, is_known}
use Rattle.dds_physical.specs.KeywordRules.{takes_arguments, repeated, one_keyword_faults, keyword_faults}
use Rattle.dds_physical.specs.Attributes.{kind_of, are_decimals_wrong, sized, attributes_of_kind, attributes}
use Rattle.dds_physical.specs.References.{found_or, referenced_by, referenced, typed_by, typed, names_more, reference_faults, reference_file}
use Rattle.dds_physical.specs.Defaults.{default_keyword_faults}
use Rattle.dds_physical.specs.Draft.{nothing, key_length}
use Rattle.dds_physical.specs.Lines.{is_letter_wrong, is_usage_wrong, entry_faults, place_faults, type_faults, is_blank, key_place_faults, line_faults_of, line_faults, described, or_those, unless_faulty, lines_faults, lines_described}
use Rattle.dds_physical.specs.WholeFile.{has_field, fault_of_file, file_faults, whole_faults}
use Rattle.dds_physical.specs.Physical.{faults_of, draft_of}
use Rattle.dds_physical.specs.Order.{all_line_faults, all_described, all_faults, KeywordsWithin, IsWithin, AreInOrder}
use Rattle.dds_physical.proofs.FaultLemmas.{first_after_append}

-- Faults on lines from one number on and before another.

abbrev Within : ℕ → ℕ → List DdsFault → Type 0
Within from to [] = Unit {0}
Within from to (f ∷ fs) = (from ≤ f.line) × (f.line < to) × Within from to fs

within-append : (from to : ℕ) (fs gs : List DdsFault) → Within from to fs → Within from to gs → Within from to (fs ++ gs)
within-append from to [] gs h i = i
within-append from to (f ∷ fs) gs h i = (h.0, h.1, within-append from to fs gs h.2 i)

within-wider : (from to first last : ℕ) (fs : List DdsFault) → first ≤ from → to ≤ last → Within from to fs → Within first last fs
within-wider from to first last [] low high h = tt
within-wider from to first last (f ∷ fs) low high h = (omega (arith, h.0, low), omega (arith, h.1, high), within-wider from to first last fs low high h.2)

within-when : (from to : ℕ) (wrong : Bool) (f : DdsFault) → from ≤ f.line → f.line < to → Within from to (when wrong f)
within-when from to true f low high = (low, high, tt)
within-when from to false f low high = tt

-- Keywords.

abbrev KeywordIn : ℕ → ℕ → Option Keyword → Type 0
KeywordIn from to None = Unit {0}
KeywordIn from to (Some k) = (from ≤ k.line) × (k.line < to)

first_named-in : (from to : ℕ) (name : List ℕ) (ks : List Keyword) → KeywordsWithin from to ks → KeywordIn from to (first_named name ks)
first_named-in from to name [] h = tt
first_named-in from to name (k ∷ ks) h = elim (cases_Bool (has_name name k)) [
  | inl b ↦ rw b (h.0, h.1)
  | inr b ↦ rw b (first_named-in from to name ks h.2)
]

within-keyword : (from to : ℕ) (cause : DdsCause) (k : Option Keyword) → KeywordIn from to k → Within from to (at_keyword cause k)
within-keyword from to cause None h = tt
within-keyword from to cause (Some k) h = (h.0, h.1, tt)

repeated-in : (from to : ℕ) (known : Bool) (k : Keyword) (ks : List Keyword) → KeywordsWithin from to ks → KeywordIn from to (repeated known k ks)
repeated-in from to true k ks h = first_named-in from to k.name ks h
repeated-in from to false k ks h = tt

keywords-within : (from to : ℕ) (place : Place) (ks : List Keyword) → KeywordsWithin from to ks → Within from to (keyword_faults place ks)
keywords-within from to place [] h = tt
keywords-within from to place (k ∷ ks) h =
    within-append from to (one_keyword_faults place k ks) (keyword_faults place ks)
    (within-append from to
    (when (not (is_known place k)) (fault_of_keyword causes.UnknownKeyword k) ++ when (is_known place k && not (takes_arguments k)) (fault_of_keyword causes.BadArguments k))
    (at_keyword causes.Conflict (repeated (is_known place k) k ks))
    (within-append from to (when (not (is_known place k)) (fault_of_keyword causes.UnknownKeyword k)) (when (is_known place k && not (takes_arguments k)) (fault_of_keyword causes.BadArguments k))
    (within-when from to _ _ h.0 h.1) (within-when from to _ _ h.0 h.1))
    (within-keyword from to causes.Conflict (repeated (is_known place k) k ks) (repeated-in from to (is_known place k) k ks h.2)))
    (keywords-within from to place ks h.2)

-- Types.

abbrev ErrIn : ℕ → ℕ → Result FieldType DdsFault → Type 0
ErrIn from to (Ok t) = Unit {0}
ErrIn from to (Err f) = (from ≤ f.line) × (f.line < to)

within-error : (from to : ℕ) (r : Result FieldType DdsFault) → ErrIn from to r → Within from to (error_list r)
within-error from to (Ok t) h = tt
within-error from to (Err f) h = (h.0, h.1, tt)

choice-in : (from to : ℕ) (c : Bool) (r q : Result FieldType DdsFault) → ErrIn from to r → ErrIn from to q → ErrIn from to (if c then r else q)
choice-in from to true r q h i = h
choice-in from to false r q h i = i

sized-in : (from to : ℕ) (s : Specification) (kind : Kind) (n d : ℕ) → from ≤ s.line → s.line < to → ErrIn from to (sized s kind n d)
sized-in from to s kind n d low high =
    choice-in from to (not (is_allowed kind n 0)) (Err (fault_at s 30 causes.BadLength)) (if are_decimals_wrong (is_some s.columns.decimals) kind n d then Err (fault_at s 36 causes.BadDecimals) else Ok (record { kind = kind; length = n; decimals = d }))
    (low, high)
    (choice-in from to (are_decimals_wrong (is_some s.columns.decimals) kind n d) (Err (fault_at s 36 causes.BadDecimals)) (Ok (record { kind = kind; length = n; decimals = d })) (low, high) tt)

kind-in : (from to : ℕ) (s : Specification) (copied : Option FieldType) (kind : Option Kind) → from ≤ s.line → s.line < to → ErrIn from to (attributes_of_kind s copied kind)
kind-in from to s copied None low high = (low, high)
kind-in from to s copied (Some kind) low high = sized-in from to s kind _ _ low high

attributes-in : (from to : ℕ) (s : Specification) (copied : Option FieldType) → from ≤ s.line → s.line < to → ErrIn from to (attributes s copied)
attributes-in from to s copied low high = kind-in from to s copied (kind_of s.columns.data_type s.columns.decimals copied) low high

found-in : (from to : ℕ) (found : Option FieldType) (f : DdsFault) → from ≤ f.line → f.line < to → ErrIn from to (found_or found f)
found-in from to None f low high = (low, high)
found-in from to (Some t) f low high = tt

referenced_by-in : (from to : ℕ) (formats : List ℕ → Option Format) (file : Option (List ℕ)) (own : List Field) (s : Specification) (k : Option Keyword) → from ≤ s.line → s.line < to → KeywordIn from to k
    → ErrIn from to (referenced_by formats file own s k)
referenced_by-in from to formats file own s None low high h = found-in from to _ _ low high
referenced_by-in from to formats file own s (Some k) low high h = found-in from to _ _ h.0 h.1

typed_by-in : (from to : ℕ) (s : Specification) (r : Result FieldType DdsFault) → from ≤ s.line → s.line < to → ErrIn from to r → ErrIn from to (typed_by s r)
typed_by-in from to s (Ok t) low high h = attributes-in from to s (Some t) low high
typed_by-in from to s (Err f) low high h = h

default-within : (from to : ℕ) (t : FieldType) (k : Option Keyword) → KeywordIn from to k → Within from to (default_keyword_faults t k)
default-within from to t None h = tt
default-within from to t (Some k) h = within-when from to _ _ h.0 h.1

type-within : (from to : ℕ) (r : Result FieldType DdsFault) (ks : List Keyword) → ErrIn from to r → KeywordsWithin from to ks → Within from to (type_faults r ks)
type-within from to (Ok t) ks h i = default-within from to t (first_named (codes "DFT") ks) (first_named-in from to (codes "DFT") ks i)
type-within from to (Err f) ks h i = (h.0, h.1, tt)

some-within : (from to : ℕ) (b : Bool) (fs : List DdsFault) → Within from to fs → Within from to (if b then fs else [])
some-within from to true fs h = h
some-within from to false fs h = tt

-- Lines.

entry-within : (from to : ℕ) (s : Specification) → IsWithin from to s → Within from to (entry_faults s)
entry-within from to s here = within-append from to (when (is_letter_wrong s.columns.data_type) (fault_at s 35 causes.BadType)) (when (is_usage_wrong s.columns.usage) (fault_at s 38 causes.BadType))
    (within-when from to _ _ here.at_least here.before) (within-when from to _ _ here.at_least here.before)

line-within-of : (from to : ℕ) (formats : List ℕ → Option Format) (file : Option (List ℕ)) (d : Draft) (s : Specification) (kind : SpecificationKind) → IsWithin from to s → Within from to (line_faults_of formats file d s kind)
line-within-of from to formats file d s kinds.Record here =
    within-append from to _ (keyword_faults places.Record s.keywords)
    (within-append from to _ (entry_faults s)
    (within-append from to (when (is_some d.name) (fault_at s 17 causes.OutOfOrder)) (when (is_none (name_of s.name)) (fault_at s 19 causes.BadName)) (within-when from to _ _ here.at_least here.before) (within-when from to _ _ here.at_least here.before))
    (entry-within from to s here))
    (keywords-within from to places.Record s.keywords here.keywords)
line-within-of from to formats file d s kinds.Field here =
    let referred : ErrIn from to (referenced formats file d.fields s) = referenced_by-in from to formats file d.fields s (first_named (codes "REFFLD") s.keywords) here.at_least here.before (first_named-in from to (codes "REFFLD") s.keywords here.keywords) in
    let is : ErrIn from to (typed formats file d.fields s) =
    choice-in from to s.columns.reference (typed_by s (referenced formats file d.fields s)) (attributes s None) (typed_by-in from to s (referenced formats file d.fields s) here.at_least here.before referred) (attributes-in from to s None here.at_least here.before) in
    let place : Within from to (place_faults d s) =
    within-append from to (when (is_none d.name || not (length d.key_names == 0)) (fault_at s 19 causes.OutOfOrder) ++ when (is_none (name_of s.name)) (fault_at s 19 causes.BadName)) (when (is_field (name_of s.name) d.fields) (fault_at s 19 causes.DuplicateName))
    (within-append from to (when (is_none d.name || not (length d.key_names == 0)) (fault_at s 19 causes.OutOfOrder)) (when (is_none (name_of s.name)) (fault_at s 19 causes.BadName)) (within-when from to _ _ here.at_least here.before) (within-when from to _ _ here.at_least here.before))
    (within-when from to _ _ here.at_least here.before) in
    within-append from to (place_faults d s ++ entry_faults s ++ keyword_faults places.Field s.keywords ++ reference_faults formats file d.fields s ++ type_faults (typed formats file d.fields s) s.keywords) (when (not (nat_lt (length d.fields) 1000)) (fault_at s 19 causes.TooLarge))
    (within-append from to (place_faults d s ++ entry_faults s ++ keyword_faults places.Field s.keywords ++ reference_faults formats file d.fields s) (type_faults (typed formats file d.fields s) s.keywords)
    (within-append from to (place_faults d s ++ entry_faults s ++ keyword_faults places.Field s.keywords) (reference_faults formats file d.fields s)
    (within-append from to (place_faults d s ++ entry_faults s) (keyword_faults places.Field s.keywords)
    (within-append from to (place_faults d s) (entry_faults s) place (entry-within from to s here))
    (keywords-within from to places.Field s.keywords here.keywords))
    (some-within from to (names_more s) (error_list (referenced formats file d.fields s)) (within-error from to (referenced formats file d.fields s) referred)))
    (type-within from to (typed formats file d.fields s) s.keywords is here.keywords))
    (within-when from to _ _ here.at_least here.before)
line-within-of from to formats file d s kinds.Key here =
    let out = when (is_none d.name) (fault_at s 17 causes.OutOfOrder) in
    let blank = when (is_blank s.name) (fault_at s 19 causes.BadName) in
    let twice = when (is_listed (name_of s.name) d.key_names) (fault_at s 19 causes.DuplicateName) in
    let none = when (not (is_field (name_of s.name) d.fields)) (fault_at s 19 causes.NoSuchField) in
    let place : Within from to (key_place_faults d s) =
    within-append from to (out ++ blank ++ twice) none
    (within-append from to (out ++ blank) twice (within-append from to out blank (within-when from to _ _ here.at_least here.before) (within-when from to _ _ here.at_least here.before)) (within-when from to _ _ here.at_least here.before))
    (within-when from to _ _ here.at_least here.before) in
    within-append from to (key_place_faults d s ++ entry_faults s ++ keyword_faults places.Key s.keywords) (when (not (nat_lt (length d.key_names) 32)) (fault_at s 19 causes.TooLarge))
    (within-append from to (key_place_faults d s ++ entry_faults s) (keyword_faults places.Key s.keywords)
    (within-append from to (key_place_faults d s) (entry_faults s) place (entry-within from to s here))
    (keywords-within from to places.Key s.keywords here.keywords))
    (within-when from to _ _ here.at_least here.before)
line-within-of from to formats file d s kinds.Select here = (here.at_least, here.before, tt)
line-within-of from to formats file d s kinds.Omit here = (here.at_least, here.before, tt)
line-within-of from to formats file d s kinds.And here = (here.at_least, here.before, tt)
line-within-of from to formats file d s kinds.Join here = (here.at_least, here.before, tt)

line-within : (from to : ℕ) (formats : List ℕ → Option Format) (file : Option (List ℕ)) (d : Draft) (s : Specification) → IsWithin from to s → Within from to (line_faults formats file d s)
unfolding line_faults
line-within from to formats file d s here = line-within-of from to formats file d s s.kind here

-- a source in order reaches to its last line
last-reached : (from last : ℕ) (s : Specification) (ss : List Specification) → AreInOrder from last (s ∷ ss) → s.line ≤ last
last-reached from last s [] order = (let before : s.line < last + 1 = order.before in omega arith)
last-reached from last s (t ∷ ss) order = (let before : s.line < t.line = order.0.before in let rest = last-reached t.line last t ss order.1 in omega (arith, before, rest))

lines-within : (from last : ℕ) (formats : List ℕ → Option Format) (file : Option (List ℕ)) (d : Draft) (ss : List Specification) → AreInOrder from last ss → Within from (last + 1) (all_line_faults formats file d ss)
lines-within from last formats file d [] order = tt
lines-within from last formats file d (s ∷ []) order = within-append from (last + 1) (line_faults formats file d s) [] (line-within from (last + 1) formats file d s order) tt
lines-within from last formats file d (s ∷ t ∷ ss) order =
    let reached = last-reached t.line last t ss order.1 in
    let low : from ≤ t.line = (let at : from ≤ s.line = order.0.at_least in let before : s.line < t.line = order.0.before in omega arith) in
    within-append from (last + 1) (line_faults formats file d s) (all_line_faults formats file (described formats file d s) (t ∷ ss))
    (within-wider from t.line from (last + 1) (line_faults formats file d s) (omega arith) (omega (arith, reached)) (line-within from t.line formats file d s order.0))
    (within-wider t.line (last + 1) from (last + 1) (all_line_faults formats file (described formats file d s) (t ∷ ss)) low (omega arith) (lines-within t.line last formats file (described formats file d s) (t ∷ ss) order.1))

-- The first.

not-before : (f g : DdsFault) → f.line < g.line → is_before g f ≡ false
not-before f g h = grind arith

before-line : (g f : DdsFault) → is_before g f ≡ true → g.line ≤ f.line
before-line g f h = grind arith

-- a fault on an earlier line stays the first
stays-first : (f : DdsFault) (from to : ℕ) (gs : List DdsFault) → f.line < from → Within from to gs → first_after (Some f) gs ≡ Some f
stays-first f from to [] h w = refl
stays-first f from to (g ∷ gs) h w =
    let later : is_before g f ≡ false = not-before f g (omega (arith, h, w.0)) in
    ap (λ (b : Bool). first_after (Some (if b then g else f)) gs) later ∙ stays-first f from to gs h w.2

-- the first of a fault and more stands no later than it
no-later : (f : DdsFault) (gs : List DdsFault) → (g : DdsFault) × (first_after (Some f) gs ≡ Some g) × (g.line ≤ f.line)
no-later f [] = (f, refl, omega arith)
no-later f (h ∷ hs) = elim (cases_Bool (is_before h f)) [
  | inl b ↦
      let rest = no-later h hs in
      let lower : h.line ≤ f.line = before-line h f b in
      (rest.0, ap (λ (c : Bool). first_after (Some (if c then h else f)) hs) b ∙ rest.1, omega (arith, rest.2, lower))
  | inr b ↦
      let rest = no-later f hs in
      (rest.0, ap (λ (c : Bool). first_after (Some (if c then h else f)) hs) b ∙ rest.1, rest.2)
]

-- a line at fault, and those behind it
judged-alike : (from to last : ℕ) (fs cut all : List DdsFault) → Within from to fs → Within to last all → first_after None cut ≡ first_after None all → first_after None (or_those fs cut) ≡ first_after None (fs ++ all)
judged-alike from to last [] cut all w v same = same
judged-alike from to last (f ∷ fs) cut all w v same =
    let first = no-later f fs in
    let low : first.0.line < to = omega (arith, first.2, w.1) in
    first.1 ∙ sym (stays-first first.0 to last all low v) ∙ ap (λ (b : Option DdsFault). first_after b all) (sym first.1) ∙ sym (first_after_append (Some f) fs all)

lines-alike : (from last : ℕ) (formats : List ℕ → Option Format) (file : Option (List ℕ)) (d : Draft) (ss : List Specification) → AreInOrder from last ss
    → first_after None (lines_faults formats file d ss) ≡ first_after None (all_line_faults formats file d ss)
lines-alike from last formats file d [] order = refl
lines-alike from last formats file d (s ∷ []) order = judged-alike from (last + 1) (last + 1) (line_faults formats file d s) [] [] (line-within from (last + 1) formats file d s order) tt refl
lines-alike from last formats file d (s ∷ t ∷ ss) order =
    judged-alike from t.line (last + 1) (line_faults formats file d s) (lines_faults formats file (described formats file d s) (t ∷ ss)) (all_line_faults formats file (described formats file d s) (t ∷ ss))
    (line-within from t.line formats file d s order.0) (lines-within t.line last formats file (described formats file d s) (t ∷ ss) order.1) (lines-alike t.line last formats file (described formats file d s) (t ∷ ss) order.1)

-- all lines were described, or a fault stands before the last line
abbrev IsWhole : ℕ → List DdsFault → Draft → Draft → Type 0
IsWhole last faults d e = (d ≡ e) ⊎ ((f : DdsFault) × (first_after None faults ≡ Some f) × (f.line < last))

whole-of : (from to last : ℕ) (fs cut : List DdsFault) (here d e : Draft) → Within from to fs → to ≤ last → IsWhole last cut d e → IsWhole last (or_those fs cut) (unless_faulty fs here d) e
whole-of from to last [] cut here d e w high rest = rest
whole-of from to last (f ∷ fs) cut here d e w high rest = let first = no-later f fs in inr (first.0, first.1, omega (arith, first.2, w.1, high))

one-whole : (fs : List DdsFault) (d : Draft) → unless_faulty fs d d ≡ d
one-whole [] d = refl
one-whole (f ∷ fs) d = refl

lines-whole : (from last : ℕ) (formats : List ℕ → Option Format) (file : Option (List ℕ)) (d : Draft) (ss : List Specification) → AreInOrder from last ss
    → IsWhole last (lines_faults formats file d ss) (lines_described formats file d ss) (all_described formats file d ss)
lines-whole from last formats file d [] order = inl refl
lines-whole from last formats file d (s ∷ []) order = inl (one-whole (line_faults formats file d s) (described formats file d s))
lines-whole from last formats file d (s ∷ t ∷ ss) order =
    whole-of from t.line last (line_faults formats file d s) (lines_faults formats file (described formats file d s) (t ∷ ss)) (described formats file d s) (lines_described formats file (described formats file d s) (t ∷ ss)) (all_described formats file (described formats file d s) (t ∷ ss))
    (line-within from t.line formats file d s order.0) (last-reached t.line last t ss order.1) (lines-whole t.line last formats file (described formats file d s) (t ∷ ss) order.1)

-- The whole file.

whole-within : (last : ℕ) (ss : List Specification) (d : Draft) → Within last (last + 1) (whole_faults last ss d)
whole-within last ss d =
    let here : last ≤ last = omega arith in
    let before : last < last + 1 = omega arith in
    let wide = when (nat_lt 32766 (record_length d.fields)) (fault_of_file last causes.TooLarge) in
    let long = when (nat_lt 120 (key_length d.key_parts)) (fault_of_file last causes.TooLarge) in
    let none = when (is_none d.name || not (has_field ss)) (fault_of_file last causes.NoFormat) in
    within-append last (last + 1) (wide ++ long) none (within-append last (last + 1) wide long (within-when last (last + 1) _ _ here before) (within-when last (last + 1) _ _ here before)) (within-when last (last + 1) _ _ here before)

-- the file's faults and those of the whole, behind a fault before the last line
ends-alike : (best : Option DdsFault) (last : ℕ) (file whole other : List DdsFault) → Within last (last + 1) whole → Within last (last + 1) other → (f : DdsFault) × (best ≡ Some f) × (f.line < last)
    → first_after (first_after best file) whole ≡ first_after (first_after best file) other
ends-alike best last file whole other w v is =
    let first = no-later is.0 file in
    let noted : first_after best file ≡ Some first.0 = ap (λ (b : Option DdsFault). first_after b file) is.1 ∙ first.1 in
    let low : first.0.line < last = omega (arith, first.2, is.2) in
    ap (λ (b : Option DdsFault). first_after b whole) noted ∙ stays-first first.0 last (last + 1) whole low w
    ∙ sym (ap (λ (b : Option DdsFault). first_after b other) noted ∙ stays-first first.0 last (last + 1) other low v)

parts : (ls fs ws : List DdsFault) → first_after None (ls ++ fs ++ ws) ≡ first_after (first_after (first_after None ls) fs) ws
parts ls fs ws = first_after_append None (ls ++ fs) ws ∙ ap (λ (b : Option DdsFault). first_after b ws) (first_after_append None ls fs)

pub no_fault_is_missed : (formats : List ℕ → Option Format) (source : Source) → AreInOrder 0 source.last_line source.specifications → first_after None (faults_of formats source) ≡ first_after None (all_faults formats source)
unfolding faults_of all_faults draft_of
no_fault_is_missed formats source order =
    let file = reference_file source.file in
    let ls = lines_faults formats file nothing source.specifications in
    let gs = all_line_faults formats file nothing source.specifications in
    let fs = file_faults formats source.file source.specifications in
    let d = lines_described formats file nothing source.specifications in
    let e = all_described formats file nothing source.specifications in
    let same : first_after None ls ≡ first_after None gs = lines-alike 0 source.last_line formats file nothing source.specifications order in
    let ends : first_after (first_after (first_after None ls) fs) (whole_faults source.last_line source.specifications d) ≡ first_after (first_after (first_after None ls) fs) (whole_faults source.last_line source.specifications e) =
    elim (lines-whole 0 source.last_line formats file nothing source.specifications order) [
      | inl is ↦ ap (λ (x : Draft). first_after (first_after (first_after None ls) fs) (whole_faults source.last_line source.specifications x)) is
      | inr is ↦ ends-alike (first_after None ls) source.last_line fs (whole_faults source.last_line source.specifications d) (whole_faults source.last_line source.specifications e) (whole-within source.last_line source.specifications d) (whole-within source.last_line source.specifications e) is
    ] in
    parts ls fs (whole_faults source.last_line source.specifications d) ∙ ends
    ∙ ap (λ (b : Option DdsFault). first_after (first_after b fs) (whole_faults source.last_line source.specifications e)) same
    ∙ sym (parts gs fs (whole_faults source.last_line source.specifications e))
