-- Keys of formats before and after their fields have places in a record.
use Rattle.std.proofs.Common.{add-one, ◌≡◌, ◌∙◌, ◌+◌, ap, sym, refl, ℕ, zero, suc, Bool, true, false, not, ◌||◌, List, [], ◌∷◌, ◌++◌, map, reverse, drop, Option, Some, None, is_some, is_none, nat_eq, if◌then◌else◌, inl, inr}
use Rattle.std.specs.List.{list_any, filter_map, cons_option}
use Rattle.std.proofs.lemmas.Grind.{reverse_onto}
use lib.Pointwise.{pointwise}
use Rattle.std.proofs.lemmas.Bool.{cases_Bool}
use Rattle.record_fmt.specs.FieldTypes.{width}
use Rattle.key_spec.specs.declared.KeyPart.{KeyPart}
use Rattle.key_spec.specs.declared.KeyPart.TheVariants as parts
use Rattle.record_fmt.specs.declared.formats.Field.{Field}
use Rattle.record_fmt.specs.Layout.{record_length}
use Rattle.dds_physical.below.dds_source.specs.declared.faults.DdsFault.{DdsFault}
use Rattle.dds_physical.below.dds_source.specs.declared.keywords.Keyword.{Keyword}
use Rattle.dds_physical.below.dds_source.specs.declared.specifications.Specification.{Specification}
use Rattle.dds_physical.specs.Names.{field_named, is_field, name_of}
use Rattle.dds_physical.specs.Draft.{part_length, key_length, key_part}
use Rattle.dds_logical.specs.declared.named_fields.NamedField.{NamedField}
use Rattle.dds_logical.specs.declared.format_lines.LineKind.TheVariants as line_kinds
use Rattle.dds_logical.specs.Fields.{laid_out}
use Rattle.dds_physical.below.dds_source.specs.declared.faults.DdsCause.TheVariants.{KeyMismatch}
use Rattle.dds_physical.specs.Entries.{when}
use Rattle.dds_physical.specs.declared.physical_files.PhysicalSpec.{PhysicalSpec}
use Rattle.dds_physical.specs.Places.{fault_at}
use Rattle.dds_logical.specs.FormatLines.{FormatLines, key_lines}
use Rattle.dds_logical.specs.Logical.{fields_named, format_parts}
use Rattle.dds_logical.specs.Keys.{field_of_name, parts_of_lines, parts_differ, first_part, position_faults, mismatch_faults}
use Rattle.dds_logical.specs.Mismatches.{judged_of, mismatches_of}
use Rattle.dds_logical.specs.Judged.{is_of, lines_of}
use Rattle.dds_logical.specs.JudgedKeys.{named_of, named_or_none, bytes_of, judged_part, judged_if, forget_place, positions_from, part_if}

-- a name is that of a field, wherever the fields lie
pub is_field_by_name : (at : ℕ) (fs : List NamedField) (name : List ℕ) → is_field (Some name) (laid_out at fs) ≡ is_some (named_of name fs)
is_field_by_name at [] name = refl
is_field_by_name at (f ∷ fs) name = elim (cases_Bool (pointwise nat_eq f.name name))
    [ inl h ↦ rw h refl | inr h ↦ rw h (is_field_by_name (at + width f.shown.field.ty) fs name) ]

pub record_length_by_name : (at : ℕ) (fs : List NamedField) → record_length (laid_out at fs) ≡ bytes_of fs
record_length_by_name at [] = refl
record_length_by_name at (f ∷ fs) = ap (λ n. width f.shown.field.ty + n) (record_length_by_name (at + width f.shown.field.ty) fs)

-- ---- positions without their places

part_by_name : (at : ℕ) (fs : List NamedField) (name : List ℕ) (ks : List Keyword) → judged_part (named_of name fs) ks ≡ forget_place (key_part (field_named name (laid_out at fs)) ks)
part_by_name at [] name ks = refl
part_by_name at (f ∷ fs) name ks = elim (cases_Bool (pointwise nat_eq f.name name))
    [ inl h ↦ rw h refl | inr h ↦ rw h (part_by_name (at + width f.shown.field.ty) fs name ks) ]

part_of_line : (fs : List NamedField) (name : Option (List ℕ)) (ks : List Keyword) → judged_part (named_or_none fs name) ks ≡ forget_place (key_part (field_of_name (laid_out 0 fs) name) ks)
part_of_line fs None ks = refl
part_of_line fs (Some name) ks = part_by_name 0 fs name ks

pub judged_is : (fs : List NamedField) (ss : List Specification) → filter_map (judged_if fs) ss ≡ map forget_place (parts_of_lines (laid_out 0 fs) (lines_of line_kinds.Key ss))
judged_is fs [] = refl
judged_is fs (s ∷ ss) = elim (cases_Bool (is_of line_kinds.Key s.kind)) [
  | inl h ↦ rw h (ap (λ (p : KeyPart). p ∷ filter_map (judged_if fs) ss) (part_of_line fs (name_of s.name) s.keywords)
      ∙ ap (λ (ps : List KeyPart). forget_place (key_part (field_of_name (laid_out 0 fs) (name_of s.name)) s.keywords) ∷ ps) (judged_is fs ss))
  | inr h ↦ rw h (judged_is fs ss)
]

part_length_forget : (p : KeyPart) → part_length (forget_place p) ≡ part_length p
part_length_forget parts.Absent = refl
part_length_forget (parts.Field t at descend absval) = refl

key_length_forget : (ps : List KeyPart) → key_length (map forget_place ps) ≡ key_length ps
key_length_forget [] = refl
key_length_forget (p ∷ ps) = ap (λ n. n + key_length (map forget_place ps)) (part_length_forget p) ∙ ap (λ n. part_length p + n) (key_length_forget ps)

pub key_length_by_name : (fs : List NamedField) (ss : List Specification) → key_length (filter_map (judged_if fs) ss) ≡ key_length (parts_of_lines (laid_out 0 fs) (lines_of line_kinds.Key ss))
key_length_by_name fs ss = ap key_length (judged_is fs ss) ∙ key_length_forget (parts_of_lines (laid_out 0 fs) (lines_of line_kinds.Key ss))

-- ---- earlier formats

any_end : {X : Type 0} (p : X → Bool) (xs : List X) (y : X) → list_any p (xs ++ y ∷ []) ≡ (p y || list_any p xs)
any_end p [] y = refl
any_end p (x ∷ xs) y = ap (λ (b : Bool). p x || b) (any_end p xs y) ∙ swapped (p x) (p y) (list_any p xs)
  where
    swapped : (a b c : Bool) → (a || (b || c)) ≡ (b || (a || c))
    swapped true true c = refl
    swapped true false c = refl
    swapped false b c = refl

pub any_reverse : {X : Type 0} (p : X → Bool) (xs : List X) → list_any p (reverse xs) ≡ list_any p xs
any_reverse p [] = refl
any_reverse p (x ∷ xs) = ap (list_any p) (reverse_onto xs x []) ∙ any_end p (reverse xs) x ∙ ap (λ (b : Bool). p x || b) (any_reverse p xs)

-- ---- positions with their places

pub parts_are : (fields : List Field) (ss : List Specification) → filter_map (part_if fields) ss ≡ parts_of_lines fields (lines_of line_kinds.Key ss)
parts_are fields [] = refl
parts_are fields (s ∷ ss) = elim (cases_Bool (is_of line_kinds.Key s.kind))
    [ inl h ↦ rw h (ap (λ (ps : List KeyPart). key_part (field_of_name fields (name_of s.name)) s.keywords ∷ ps) (parts_are fields ss)) | inr h ↦ rw h (parts_are fields ss) ]

-- ---- differences between positions without their places

differ_forget : (p q : KeyPart) → parts_differ (forget_place p) (forget_place q) ≡ parts_differ p q
differ_forget parts.Absent q = refl
differ_forget (parts.Field t at descend absval) parts.Absent = refl
differ_forget (parts.Field t at descend absval) (parts.Field u from falling unsigned) = refl

first_forget : (ps : List KeyPart) (n : ℕ) → first_part (drop n (map forget_place ps)) ≡ forget_place (first_part (drop n ps))
first_forget [] zero = refl
first_forget [] (suc n) = refl
first_forget (p ∷ ps) zero = refl
first_forget (p ∷ ps) (suc n) = first_forget ps n

any_forget : (n : ℕ) (earlier : List (List KeyPart)) (p : KeyPart)
    → list_any (λ others. parts_differ (first_part (drop n others)) (forget_place p)) (map (map forget_place) earlier) ≡ list_any (λ others. parts_differ (first_part (drop n others)) p) earlier
any_forget n [] p = refl
any_forget n (ps ∷ earlier) p =
    ap (λ (q : KeyPart). parts_differ q (forget_place p) || list_any (λ others. parts_differ (first_part (drop n others)) (forget_place p)) (map (map forget_place) earlier)) (first_forget ps n)
    ∙ ap (λ (b : Bool). b || list_any (λ others. parts_differ (first_part (drop n others)) (forget_place p)) (map (map forget_place) earlier)) (differ_forget (first_part (drop n ps)) p)
    ∙ ap (λ (b : Bool). parts_differ (first_part (drop n ps)) p || b) (any_forget n earlier p)

positions_forget : (n : ℕ) (earlier : List (List KeyPart)) (ps : List KeyPart) (ss : List Specification)
    → positions_from n (map (map forget_place) earlier) (map forget_place ps) ss ≡ positions_from n earlier ps ss
positions_forget n earlier [] ss = refl
positions_forget n earlier (p ∷ ps) [] = refl
positions_forget n earlier (p ∷ ps) (s ∷ ss) =
    ap (λ (b : Bool). when b (fault_at s 19 KeyMismatch) ++ positions_from (n + 1) (map (map forget_place) earlier) (map forget_place ps) ss) (any_forget n earlier p)
    ∙ ap (λ (fs : List DdsFault). when (list_any (λ others. parts_differ (first_part (drop n others)) p) earlier) (fault_at s 19 KeyMismatch) ++ fs) (positions_forget (n + 1) earlier ps ss)

-- the definition cuts the first position off, where this counts
drop_next : {X : Type 0} (n : ℕ) (xs : List X) → drop 1 (drop n xs) ≡ drop (suc n) xs
drop_next zero xs = refl
drop_next (suc n) [] = refl
drop_next (suc n) (x ∷ xs) = drop_next n xs

drop_one : {X : Type 0} (n : ℕ) (xs : List X) → drop 1 (drop n xs) ≡ drop (n + 1) xs
drop_one n xs = drop_next n xs ∙ ap (λ (m : ℕ). drop m xs) (sym (add-one n))

drops_one : (n : ℕ) (earlier : List (List KeyPart)) → map (λ others. drop 1 others) (map (λ others. drop n others) earlier) ≡ map (λ others. drop (n + 1) others) earlier
drops_one n [] = refl
drops_one n (ps ∷ earlier) =
    ap (λ (qs : List KeyPart). qs ∷ map (λ others. drop 1 others) (map (λ others. drop n others) earlier)) (drop_one n ps)
    ∙ ap (λ (rest : List (List KeyPart)). drop (n + 1) ps ∷ rest) (drops_one n earlier)

any_drops : (n : ℕ) (earlier : List (List KeyPart)) (p : KeyPart)
    → list_any (λ others. parts_differ (first_part (drop n others)) p) earlier ≡ list_any (λ others. parts_differ (first_part others) p) (map (λ others. drop n others) earlier)
any_drops n [] p = refl
any_drops n (ps ∷ earlier) p = ap (λ (b : Bool). parts_differ (first_part (drop n ps)) p || b) (any_drops n earlier p)

counted_from : (n : ℕ) (earlier : List (List KeyPart)) (ps : List KeyPart) (ss : List Specification)
    → positions_from n earlier ps ss ≡ position_faults (map (λ others. drop n others) earlier) ps ss
counted_from n earlier [] ss = refl
counted_from n earlier (p ∷ ps) [] = refl
counted_from n earlier (p ∷ ps) (s ∷ ss) =
    ap (λ (b : Bool). when b (fault_at s 19 KeyMismatch) ++ positions_from (n + 1) earlier ps ss) (any_drops n earlier p)
    ∙ ap (λ (fs : List DdsFault). when (list_any (λ others. parts_differ (first_part others) p) (map (λ others. drop n others) earlier)) (fault_at s 19 KeyMismatch) ++ fs)
    (counted_from (n + 1) earlier ps ss ∙ ap (λ (rest : List (List KeyPart)). position_faults rest ps ss) (sym (drops_one n earlier)))

none_dropped : (earlier : List (List KeyPart)) → map (λ others. drop 0 others) earlier ≡ earlier
none_dropped [] = refl
none_dropped (ps ∷ earlier) = ap (λ (rest : List (List KeyPart)). ps ∷ rest) (none_dropped earlier)

pub positions_are : (earlier : List (List KeyPart)) (ps : List KeyPart) (ss : List Specification)
    → positions_from 0 (map (map forget_place) earlier) (map forget_place ps) ss ≡ position_faults earlier ps ss
positions_are earlier ps ss =
    positions_forget 0 earlier ps ss ∙ counted_from 0 earlier ps ss ∙ ap (λ (rest : List (List KeyPart)). position_faults rest ps ss) (none_dropped earlier)

judged_format : (bases : List ℕ → Option PhysicalSpec) (f : FormatLines) → judged_of bases f ≡ map forget_place (format_parts bases f)
judged_format bases f = judged_is (fields_named bases f) f.body

mismatches_forget : (bases : List ℕ → Option PhysicalSpec) (earlier : List (List KeyPart)) (fs : List FormatLines)
    → mismatches_of bases (map (map forget_place) earlier) fs ≡ mismatch_faults (format_parts bases) earlier fs
mismatches_forget bases earlier [] = refl
mismatches_forget bases earlier (f ∷ fs) =
    ap (λ (ps : List KeyPart). positions_from 0 (map (map forget_place) earlier) ps (key_lines f) ++ mismatches_of bases (ps ∷ map (map forget_place) earlier) fs) (judged_format bases f)
    ∙ ap (λ (gs : List DdsFault). gs ++ mismatches_of bases (map (map forget_place) (format_parts bases f ∷ earlier)) fs) (positions_are earlier (format_parts bases f) (key_lines f))
    ∙ ap (λ (gs : List DdsFault). position_faults earlier (format_parts bases f) (key_lines f) ++ gs) (mismatches_forget bases (format_parts bases f ∷ earlier) fs)

-- the definition's mismatches are found without places
pub mismatches_are : (bases : List ℕ → Option PhysicalSpec) (fs : List FormatLines) → mismatches_of bases [] fs ≡ mismatch_faults (format_parts bases) [] fs
mismatches_are bases fs = mismatches_forget bases [] fs
