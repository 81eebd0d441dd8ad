-- The positions that key lines describe are fields of their format, as many as the file has, and match those of its other formats.
use Rattle.std.proofs.Common.{◌≡◌, ℕ, zero, suc, ◌+◌, ◌-◌, ◌<◌, ◌≤◌, ◌==◌, nat_eq, Bool, true, false, not, ◌&&◌, ◌||◌, Option, Some, None, IfSome}
use Rattle.std.proofs.Common.{List, [], ◌∷◌, ◌++◌, length, map, drop, replicate, refl, ◌∙◌, ap}
use Rattle.std.proofs.Common.{arith, length-append}
use Rattle.std.specs.Prelude.{AllPairs}
use Rattle.std.specs.List.{AllByRecursion, list_any}
use Rattle.std.proofs.lemmas.Bool.{cond_both, cond-true, cond-false, eq-eqb, ne_eqb}
use Rattle.std.proofs.lemmas.List.{length-replicate}
use Rattle.std.proofs.lemmas.List.Elements.{All-from_recursion}
use Rattle.std.proofs.lemmas.List.Kept.{AllPairs-cons}
use lib.Pointwise.{pointwise}
use Rattle.field_types.specs.declared.kinds.FieldType.{FieldType}
use Rattle.field_values.specs.FieldTypes.{IsFieldType, width}
use Rattle.file_model.below.record_fmt.specs.declared.formats.Field.{Field}
use Rattle.key_spec.specs.declared.KeyPart.{KeyPart}
use Rattle.key_spec.specs.declared.KeyPart.TheVariants.{Field as KeyField, Absent}
use Rattle.access_path.below.key_order.specs.declared.widths.TheConstants.{MOST_POSITIONS}
use Rattle.access_path.specs.KeyFields.{MatchesAt, Matches}
use Rattle.file_model.specs.declared.views.ViewField.{ViewField}
use Rattle.file_model.specs.FilePaths.{field_from}
use Rattle.file_model.proofs.PathLemmas.{all-append}
use Rattle.dds_source.specs.declared.keywords.Keyword.{Keyword}
use Rattle.dds_source.specs.declared.specifications.Specification.{Specification}
use Rattle.dds_source.specs.Entries.{when}
use Rattle.dds_physical.specs.Draft.{key_part}
use Rattle.dds_physical.specs.Names.{name_of, field_named}
use Rattle.dds_logical.specs.declared.limits.TheConstants.{MOST_KEY_FIELDS}
use Rattle.dds_logical.specs.FormatLines.{FormatLines, key_lines}
use Rattle.dds_logical.specs.Fields.{laid_out, mapping_of, is_same_type, too_many_faults}
use Rattle.dds_logical.specs.Keys.{field_of_name, parts_of_lines, padded, is_same_flag, parts_differ, first_part, position_faults, mismatch_faults, key_lines_faults}
use Rattle.dds_logical.proofs.CompleteLemmas.{few_left, nothing_in, not_wrong}
use Rattle.physical_paths.proofs.FieldLemmas.{width-some}
use Rattle.logical_paths.specs.Steps.{shown_of}
use Rattle.logical_paths.specs.KeyedViews.{IsShownOf, IsPartOver}
use Rattle.logical_paths.proofs.OriginLemmas.{if-some, same-type}

-- ---- a field of a name, where the fields lie one behind another

-- the field of this type that begins there, in a record of fields from this byte on
pub record IsPartFrom (start : ℕ) (base : List Field) (fields : List ViewField) (t : FieldType) (offset : ℕ) : Type 0 where
  pub field : ViewField
  pub behind : start ≤ offset
  pub found : field_from offset start fields ≡ Some field
  pub ty : field.ty ≡ t
  pub shown : IsShownOf base field

pub first-part : (start : ℕ) (base : List Field) (f : ViewField) (fields : List ViewField) → IsShownOf base f → IsPartFrom start base (f ∷ fields) f.ty start
first-part start base f fields shown = record {
  field = f;
  behind = omega arith;
  found = cond-true (start == start) (Some f) (field_from start (start + width f.ty) fields) (eq-eqb start start refl);
  ty = refl;
  shown = shown;
}

pub later-part : (start : ℕ) (base : List Field) (f : ViewField) (fields : List ViewField) (t : FieldType) (offset : ℕ) → IsFieldType f.ty
    → IsPartFrom (start + width f.ty) base fields t offset → IsPartFrom start base (f ∷ fields) t offset
later-part start base f fields t offset allowed rest =
    let some : 1 ≤ width f.ty = width-some f.ty allowed in
    let low : start + width f.ty ≤ offset = rest.behind in
    let other : (start == offset) ≡ false = ne_eqb start offset (λ same. absurd (omega (arith, same, some, low))) in
    record {
      field = rest.field;
      behind = omega (arith, low);
      found = cond-false (start == offset) (Some f) (field_from offset (start + width f.ty) fields) other ∙ rest.found;
      ty = rest.ty;
      shown = rest.shown;
    }

module _ (base : List Field) where
  named-part : (named : List _) (start : ℕ) (name : List ℕ) → AllByRecursion (IsShownOf base) (shown_of (mapping_of named))
      → IfSome (field_named name (laid_out start named)) (λ g. IsPartFrom start base (shown_of (mapping_of named)) g.ty g.offset)
  named-part [] start name all = tt
  named-part (n ∷ named) start name all =
      let fields : List ViewField = shown_of (mapping_of named) in
      let rest = named-part named (start + width n.shown.field.ty) name all.1 in
      cond_both (pointwise nat_eq n.name name) (Some _) (field_named name (laid_out (start + width n.shown.field.ty) named))
      (λ (o : Option Field). IfSome o (λ g. IsPartFrom start base (n.shown.field ∷ fields) g.ty g.offset))
      (λ _. first-part start base n.shown.field fields all.0)
      (λ _. if-some (λ (g : Field). IsPartFrom (start + width n.shown.field.ty) base fields g.ty g.offset) (λ (g : Field). IsPartFrom start base (n.shown.field ∷ fields) g.ty g.offset)
      (field_named name (laid_out (start + width n.shown.field.ty) named)) (λ g here. later-part start base n.shown.field fields g.ty g.offset all.0.allowed here) rest)

  name-part : (named : List _) (name : Option (List ℕ)) → AllByRecursion (IsShownOf base) (shown_of (mapping_of named))
      → IfSome (field_of_name (laid_out 0 named) name) (λ g. IsPartFrom 0 base (shown_of (mapping_of named)) g.ty g.offset)
  name-part named None all = tt
  name-part named (Some name) all = named-part named 0 name all

  pub line-part : (fields : List ViewField) (o : Option Field) (ks : List Keyword) → IfSome o (λ g. IsPartFrom 0 base fields g.ty g.offset) → IsPartOver base fields (key_part o ks)
  line-part fields None ks here = tt
  line-part fields (Some g) ks here = record { field = here.field; found = here.found; ty = here.ty; shown = here.shown }

  pub lines-parts : (named : List _) (ss : List Specification) → AllByRecursion (IsShownOf base) (shown_of (mapping_of named))
      → AllByRecursion (IsPartOver base (shown_of (mapping_of named))) (parts_of_lines (laid_out 0 named) ss)
  lines-parts named [] all = tt
  lines-parts named (s ∷ ss) all =
      (line-part (shown_of (mapping_of named)) (field_of_name (laid_out 0 named) (name_of s.name)) s.keywords (name-part named (name_of s.name) all), lines-parts named ss all)

  absent-parts : (fields : List ViewField) (n : ℕ) → AllByRecursion (IsPartOver base fields) (replicate n Absent)
  absent-parts fields zero = tt
  absent-parts fields (suc n) = (tt, absent-parts fields n)

  pub padded-parts : (fields : List ViewField) (count : ℕ) (ps : List KeyPart) → AllByRecursion (IsPartOver base fields) ps → AllByRecursion (IsPartOver base fields) (padded count ps)
  padded-parts fields count ps all = all-append (IsPartOver base fields) ps (replicate (count - length ps) Absent) all (absent-parts fields (count - length ps))

-- ---- how many there are

pub lines-long : (fields : List Field) (ss : List Specification) → length (parts_of_lines fields ss) ≡ length ss
lines-long fields [] = refl
lines-long fields (s ∷ ss) = ap suc (lines-long fields ss)

pub padded-few : (count most : ℕ) (ps : List KeyPart) → count ≤ most → length ps ≤ most → length (padded count ps) ≤ most
padded-few count most ps low few =
    let whole : length (padded count ps) ≡ length ps + length {A = KeyPart} (replicate (count - length ps) Absent) = length-append ps (replicate (count - length ps) Absent) in
    let rest : length {A = KeyPart} (replicate (count - length ps) Absent) ≡ count - length ps = length-replicate (count - length ps) Absent in
    omega (arith, whole, rest, low, few)

-- the key lines of a format without faults
pub keys-few : (is_join is_multi : Bool) (fields : List Field) (ss : List Specification) → key_lines_faults is_join is_multi fields ss ≡ [] → length ss ≤ MOST_KEY_FIELDS
keys-few is_join is_multi fields ss none = few_left MOST_KEY_FIELDS ss (nothing_in _ (too_many_faults MOST_KEY_FIELDS ss) (nothing_in _ _ none).0).1

pub few-positions : (n : ℕ) → n ≤ MOST_KEY_FIELDS → n ≤ MOST_POSITIONS
few-positions n low = (let less : n ≤ 32 = low in let few : n ≤ 65535 = omega (arith, less) in few)

-- ---- they match

same-flag : (a b : Bool) → is_same_flag a b ≡ true → a ≡ b
same-flag true true h = refl
same-flag true false h = absurd cc
same-flag false true h = absurd cc
same-flag false false h = refl

both-flags : (a b c : Bool) → not (a && b && c) ≡ false → (a ≡ true) × (b ≡ true)
both-flags true true true h = (refl, refl)
both-flags true true false h = absurd cc
both-flags true false c h = absurd cc
both-flags false b c h = absurd cc

part-matches : (p q : KeyPart) → parts_differ p q ≡ false → MatchesAt p q
part-matches Absent q h = tt
part-matches (KeyField t at descend absval) Absent h = tt
part-matches (KeyField t at descend absval) (KeyField u from falling unsigned) h =
    let both = both-flags (is_same_type t u) (is_same_flag descend falling) (is_same_flag absval unsigned) h in
    (same-type t u both.0, same-flag descend falling both.1)

nothing-matches : (others : List KeyPart) → Matches others []
nothing-matches [] = tt
nothing-matches (o ∷ others) = tt

first-matches : (others : List KeyPart) (p : KeyPart) (ps : List KeyPart) → parts_differ (first_part others) p ≡ false → Matches (drop 1 others) ps → Matches others (p ∷ ps)
first-matches [] p ps h rest = tt
first-matches (o ∷ others) p ps h rest = (part-matches o p h, rest)

neither : (a b : Bool) → (a || b) ≡ false → (a ≡ false) × (b ≡ false)
neither true b h = absurd cc
neither false b h = (refl, h)

none-match : {A : Type 0} (test : A → Bool) (xs : List A) → list_any test xs ≡ false → AllByRecursion (λ x. test x ≡ false) xs
none-match test [] h = tt
none-match test (x ∷ xs) h = (let parts = neither (test x) (list_any test xs) h in (parts.0, none-match test xs parts.1))

unmap : {A B : Type 0} (P : B → Type 0) (f : A → B) (xs : List A) → AllByRecursion P (map f xs) → AllByRecursion (λ x. P (f x)) xs
unmap P f [] all = tt
unmap P f (x ∷ xs) all = (all.0, unmap P f xs all.1)

pub each-both : {A : Type 0} (P Q S : A → Type 0) → ((x : A) → P x → Q x → S x) → (xs : List A) → AllByRecursion P xs → AllByRecursion Q xs → AllByRecursion S xs
each-both P Q S so [] all more = tt
each-both P Q S so (x ∷ xs) all more = (so x all.0 more.0, each-both P Q S so xs all.1 more.1)

each-always : {A : Type 0} (P : A → Type 0) → ((x : A) → P x) → (xs : List A) → AllByRecursion P xs
each-always P so [] = tt
each-always P so (x ∷ xs) = (so x, each-always P so xs)

-- the positions of a format match those of each earlier one
positions-match : (earlier : List (List KeyPart)) (ps : List KeyPart) (ss : List Specification) → length ps ≡ length ss → position_faults earlier ps ss ≡ []
    → AllByRecursion (λ others. Matches others ps) earlier
positions-match earlier [] ss long none = each-always (λ others. Matches others []) nothing-matches earlier
positions-match earlier (p ∷ ps) [] long none = absurd (omega (arith, long))
positions-match earlier (p ∷ ps) (s ∷ ss) long none =
    let parts = nothing_in (when (list_any (λ others. parts_differ (first_part others) p) earlier) _) (position_faults (map (λ others. drop 1 others) earlier) ps ss) none in
    let here = none-match (λ others. parts_differ (first_part others) p) earlier (not_wrong (list_any (λ others. parts_differ (first_part others) p) earlier) _ parts.0) in
    let less : length ps ≡ length ss = omega (arith, long) in
    let rest = unmap (λ (others : List KeyPart). Matches others ps) (λ (others : List KeyPart). drop 1 others) earlier (positions-match (map (λ others. drop 1 others) earlier) ps ss less parts.1) in
    each-both (λ (others : List KeyPart). parts_differ (first_part others) p ≡ false) (λ (others : List KeyPart). Matches (drop 1 others) ps) (λ (others : List KeyPart). Matches others (p ∷ ps))
    (λ others h more. first-matches others p ps h more) earlier here rest

module _ (positions : FormatLines → List KeyPart) (long : (f : FormatLines) → length (positions f) ≡ length (key_lines f)) where
  -- those of all later formats match these
  later-match : (earlier : List (List KeyPart)) (fs : List FormatLines) → mismatch_faults positions earlier fs ≡ []
      → AllByRecursion (λ others. AllByRecursion (λ f. Matches others (positions f)) fs) earlier
  later-match earlier [] none = each-always (λ (others : List KeyPart). AllByRecursion (λ f. Matches others (positions f)) []) (λ others. tt) earlier
  later-match earlier (f ∷ fs) none =
      let parts = nothing_in (position_faults earlier (positions f) (key_lines f)) (mismatch_faults positions (positions f ∷ earlier) fs) none in
      each-both (λ (others : List KeyPart). Matches others (positions f)) (λ (others : List KeyPart). AllByRecursion (λ g. Matches others (positions g)) fs)
      (λ (others : List KeyPart). AllByRecursion (λ g. Matches others (positions g)) (f ∷ fs)) (λ others first more. (first, more)) earlier
      (positions-match earlier (positions f) (key_lines f) (long f) parts.0) (later-match (positions f ∷ earlier) fs parts.1).1

absent-match : (n : ℕ) (others : List KeyPart) → Matches (replicate n Absent) others
absent-match zero others = tt
absent-match (suc n) [] = tt
absent-match (suc n) (o ∷ others) = (tt, absent-match n others)

at-absent : (p : KeyPart) → MatchesAt p Absent
at-absent Absent = tt
at-absent (KeyField t offset descend absval) = tt

match-absent : (others : List KeyPart) (n : ℕ) → Matches others (replicate n Absent)
match-absent [] n = tt
match-absent (o ∷ others) zero = tt
match-absent (o ∷ others) (suc n) = (at-absent o, match-absent others n)

-- positions that are lacking match any
longer-match : (ps qs : List KeyPart) (m n : ℕ) → Matches ps qs → Matches (ps ++ replicate m Absent) (qs ++ replicate n Absent)
longer-match [] qs m n match = absent-match m (qs ++ replicate n Absent)
longer-match (p ∷ ps) [] m n match = match-absent (p ∷ ps ++ replicate m Absent) n
longer-match (p ∷ ps) (q ∷ qs) m n match = (match.0, longer-match ps qs m n match.1)

padded-match : (count : ℕ) (ps qs : List KeyPart) → Matches ps qs → Matches (padded count ps) (padded count qs)
padded-match count ps qs match = longer-match ps qs (count - length ps) (count - length qs) match

-- so all formats of a file match
module _ (positions : FormatLines → List KeyPart) (long : (f : FormatLines) → length (positions f) ≡ length (key_lines f)) (count : ℕ) where
  each-padded : (ps : List KeyPart) (fs : List FormatLines) → AllByRecursion (λ f. Matches ps (positions f)) fs
      → AllByRecursion (Matches (padded count ps)) (map (λ f. padded count (positions f)) fs)
  each-padded ps [] all = tt
  each-padded ps (f ∷ fs) all = (padded-match count ps (positions f) all.0, each-padded ps fs all.1)

  pub formats-match : (earlier : List (List KeyPart)) (fs : List FormatLines) → mismatch_faults positions earlier fs ≡ [] → AllPairs Matches (map (λ f. padded count (positions f)) fs)
  formats-match earlier [] none = λ i j d before within. absurd (let low : j < 0 = within in omega (arith, low))
  formats-match earlier (f ∷ fs) none =
      let parts = nothing_in (position_faults earlier (positions f) (key_lines f)) (mismatch_faults positions (positions f ∷ earlier) fs) none in
      let own : AllByRecursion (λ g. Matches (positions f) (positions g)) fs = (later-match positions long (positions f ∷ earlier) fs parts.1).0 in
      let rest : List (List KeyPart) = map (λ g. padded count (positions g)) fs in
      AllPairs-cons Matches (padded count (positions f)) rest (All-from_recursion (Matches (padded count (positions f))) rest (each-padded (positions f) fs own))
      (formats-match (positions f ∷ earlier) fs parts.1)
