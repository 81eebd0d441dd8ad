-- A join that a data description describes has a key of its primary file, and reaches its secondary files by fields of theirs.
use Rattle.std.proofs.Common.{◌≡◌, ℕ, suc, ◌+◌, ◌≤◌, ◌<◌, ◌==◌, nat_eq, Bool, true, false, not, cond, codes, Option, Some, None, IfSome, IsSome, List, [], ◌∷◌}
use Rattle.std.proofs.Common.{length, map, drop, slice_get, Contains, refl, sym, ◌∙◌, ap, subst, arith}
use Rattle.std.specs.Prelude.{unwrap_or}
use Rattle.std.specs.Option.{option_map}
use Rattle.std.specs.List.{AllByRecursion, filter_map, flat_map}
use Rattle.std.proofs.lemmas.Bool.{cond_both, eqb-true, not-false}
use Rattle.std.proofs.lemmas.Option.{slice_get-map}
use lib.Pointwise.{pointwise}
use Rattle.field_values.specs.FieldTypes.{IsFieldType, width}
use Rattle.file_model.below.record_fmt.specs.declared.formats.Field.{Field}
use Rattle.file_model.specs.Layout.{IsLaidOut, lies_from}
use Rattle.access_path.below.key_order.specs.declared.widths.TheConstants.{MOST_POSITIONS}
use Rattle.file_model.specs.declared.joins.JoinPair.{JoinPair}
use Rattle.file_model.specs.declared.views.ViewField.{ViewField}
use Rattle.file_model.proofs.PathLemmas.{all-append}
use Rattle.dds_source.specs.declared.keywords.Keyword.{Keyword}
use Rattle.dds_source.specs.declared.specifications.Specification.{Specification}
use Rattle.dds_physical.specs.declared.physical_files.PhysicalSpec.{PhysicalSpec}
use Rattle.dds_physical.specs.Keywords.{has_name, first_named, arguments_of}
use Rattle.dds_physical.specs.Names.{name_of, field_named}
use Rattle.dds_physical.specs.References.{file_of_keyword}
use Rattle.dds_logical.specs.declared.join_views.JoinedFile.{JoinedFile}
use Rattle.dds_logical.specs.Bases.{fields_of_file}
use Rattle.dds_logical.specs.Fields.{field_entry_faults, field_of_line, laid_out, made_faults}
use Rattle.dds_logical.specs.FormatLines.{FormatLines, field_lines, join_lines, key_lines}
use Rattle.dds_logical.specs.JoinFields.{PlacedField, place_of_line, placed, placed_at, placed_fields, placed_faults, several_faults, join_field_faults, join_fields_faults}
use Rattle.dds_logical.specs.JoinFields.{place_of_field, is_secondary, is_of_secondary, primary_key_faults}
use Rattle.dds_logical.specs.JoinLines.{pair_of_fields, pair_of_names, pair_said, is_descending, sequence_by, sequence_of_name, sequence_said, fields_at, place_or_first}
use Rattle.dds_logical.specs.JoinLines.{joined_by, joined_by_first, joined_from, lines_to, link_of}
use Rattle.dds_logical.specs.JoinViews.{fields_joined, fields_placed, files_joined, first_file, join_described, join_faults, join_format_fields, join_parts, joined_field}
use Rattle.dds_logical.specs.JoinWhole.{IsJoinComplete}
use Rattle.dds_logical.specs.KeywordArguments.{names_among}
use Rattle.dds_logical.specs.Keys.{field_of_name, parts_of_lines, key_lines_faults}
use Rattle.dds_logical.specs.WholeFile.{size_faults}
use Rattle.dds_logical.proofs.CompleteLemmas.{nothing_in, not_wrong}
use Rattle.logical_laws.specs.Bases.{Bases}
use Rattle.logical_paths.specs.Steps.{shown_in_join}
use Rattle.logical_paths.specs.KeyedViews.{IsShownOf, IsPartOver, IsSequenceOf, IsFileOver, IsKeyedJoin}
use Rattle.logical_paths.proofs.OriginLemmas.{each-filter_map, field-there, flat-nothing, if-some, line-allowed, line-shown, own-shown}
use Rattle.logical_paths.proofs.PartLemmas.{IsPartFrom, first-part, later-part, line-part, lines-long, keys-few, few-positions}

-- ---- fields

-- the field is one of this base file, where its place is the primary's; its type is allowed in any case
record IsPlaced (base : List Field) (f : PlacedField) : Type 0 where
  allowed : IsFieldType f.named.shown.field.ty
  primary : f.place ≡ 0 → IsShownOf base f.named.shown.field

named-placed : (base : List Field) (usage : Option ℕ) (place : ℕ) (o : Option _) (made : Option PlacedField) → placed usage place o ≡ made → IfSome o (λ f. IsFieldType f.shown.field.ty)
    → (place ≡ 0 → IfSome o (λ f. IsShownOf base f.shown.field)) → IfSome made (IsPlaced base)
named-placed base usage place None made is allowed primary = subst (λ (m : Option PlacedField). IfSome m (IsPlaced base)) is tt
named-placed base usage place (Some f) made is allowed primary = subst (λ (m : Option PlacedField). IfSome m (IsPlaced base)) is (record { allowed = allowed; primary = primary })

line-placed : (base : List Field) (lies : lies_from 0 base ≡ true) (fields : List (List Field)) → fields_at fields 0 ≡ base → (s : Specification) (o : Option ℕ) (reference : Option Keyword)
    → placed_faults fields s o reference ≡ [] → IfSome (placed_at fields s o) (IsPlaced base)
line-placed base lies fields first s None reference none = tt
line-placed base lies fields first s (Some place) reference none =
    named-placed base s.columns.usage place (field_of_line true (fields_at fields place) s) _ refl (line-allowed true (fields_at fields place) s)
    (λ is.
    let same : fields_at fields place ≡ base = ap (fields_at fields) is ∙ first in
    subst (λ (under : List Field). IfSome (field_of_line true under s) (λ f. IsShownOf base f.shown.field)) (sym same)
    (line-shown base lies true s (subst (λ (under : List Field). made_faults under s ≡ []) same none)))

lines-placed : (base : List Field) (lies : lies_from 0 base ≡ true) (files : List (List ℕ)) (fields : List (List Field)) → fields_at fields 0 ≡ base → (ss : List Specification)
    → join_fields_faults files fields ss ≡ [] → AllByRecursion (IsPlaced base) (placed_fields files fields ss)
lines-placed base lies files fields first ss none =
    let each = flat-nothing (join_field_faults files fields) ss (nothing_in _ (flat_map (join_field_faults files fields) ss) none).1 in
    each-filter_map (λ s. join_field_faults files fields s ≡ []) (IsPlaced base) (λ s. placed_at fields s (place_of_line files fields s))
    (λ s faults. line-placed base lies fields first s (place_of_line files fields s) (first_named (codes "JREF") s.keywords)
    (nothing_in (field_entry_faults true s) (placed_faults fields s (place_of_line files fields s) (first_named (codes "JREF") s.keywords))
    (nothing_in _ (several_faults fields s (first_named (codes "JREF") s.keywords)) faults).0).1) ss each

-- ---- the key

-- the field of a name is the primary's, where no later one of the name counts
module _ (base : List Field) where
  placed-part : (fs : List PlacedField) (start : ℕ) (name : List ℕ) → AllByRecursion (IsPlaced base) fs → is_secondary (place_of_field fs name) ≡ false
      → IfSome (field_named name (laid_out start (map (λ (f : PlacedField). f.named) fs))) (λ g. IsPartFrom start base (shown_in_join (map joined_field fs)) g.ty g.offset)
  placed-part [] start name all primary = tt
  placed-part (p ∷ fs) start name all primary =
      let f : ViewField = p.named.shown.field in
      let fields : List ViewField = shown_in_join (map joined_field fs) in
      let more : List Field = laid_out (start + width f.ty) (map (λ (f : PlacedField). f.named) fs) in
      cond_both (pointwise nat_eq p.named.name name) (Some _) (field_named name more) (λ (o : Option Field). IfSome o (λ g. IsPartFrom start base (f ∷ fields) g.ty g.offset))
      (λ same. first-part start base f fields (all.0.primary (at-first p.place (subst (λ (b : Bool). is_secondary (cond b (Some p.place) (place_of_field fs name)) ≡ false) same primary))))
      (λ other. if-some (λ (g : Field). IsPartFrom (start + width f.ty) base fields g.ty g.offset) (λ (g : Field). IsPartFrom start base (f ∷ fields) g.ty g.offset) (field_named name more)
      (λ g here. later-part start base f fields g.ty g.offset all.0.allowed here)
      (placed-part fs (start + width f.ty) name all.1 (subst (λ (b : Bool). is_secondary (cond b (Some p.place) (place_of_field fs name)) ≡ false) other primary)))
    where
      at-first : (place : ℕ) → not (place == 0) ≡ false → place ≡ 0
      at-first place none = eqb-true place 0 (not-false (place == 0) none)

  name-part : (fs : List PlacedField) (name : Option (List ℕ)) → AllByRecursion (IsPlaced base) fs → is_of_secondary fs name ≡ false
      → IfSome (field_of_name (laid_out 0 (map (λ (f : PlacedField). f.named) fs)) name) (λ g. IsPartFrom 0 base (shown_in_join (map joined_field fs)) g.ty g.offset)
  name-part fs None all primary = tt
  name-part fs (Some name) all primary = placed-part fs 0 name all primary

  keys-primary : (fs : List PlacedField) (ss : List Specification) → AllByRecursion (IsPlaced base) fs → AllByRecursion (λ s. primary_key_faults fs s ≡ []) ss
      → AllByRecursion (IsPartOver base (shown_in_join (map joined_field fs))) (parts_of_lines (laid_out 0 (map (λ (f : PlacedField). f.named) fs)) ss)
  keys-primary fs [] all none = tt
  keys-primary fs (s ∷ ss) all none = (
    line-part base (shown_in_join (map joined_field fs)) (field_of_name (laid_out 0 (map (λ (f : PlacedField). f.named) fs)) (name_of s.name)) s.keywords
        (name-part fs (name_of s.name) all (not_wrong (is_of_secondary fs (name_of s.name)) _ none.0)),
    keys-primary fs ss all none.1,
  )

-- ---- secondary files

fields-paired : (from to : List Field) (lies : lies_from 0 to ≡ true) (a b : Option Field) → IfSome b (Contains to) → IfSome (pair_of_fields a b) (λ pair. IsShownOf to pair.to)
fields-paired from to lies None b there = tt
fields-paired from to lies (Some f) None there = tt
fields-paired from to lies (Some f) (Some g) there = own-shown to lies g there

names-paired : (from to : List Field) (lies : lies_from 0 to ≡ true) (names : List (List ℕ)) → IfSome (pair_of_names from to names) (λ pair. IsShownOf to pair.to)
names-paired from to lies [] = tt
names-paired from to lies (a ∷ []) = tt
names-paired from to lies (a ∷ b ∷ more) = fields-paired from to lies (field_named a from) (field_named b to) (field-there b to)

keyword-paired : (from to : List Field) (lies : lies_from 0 to ≡ true) (k : Keyword) → IfSome (pair_said from to k) (λ pair. IsShownOf to pair.to)
keyword-paired from to lies k =
    cond_both (has_name (codes "JFLD") k) (pair_of_names from to (names_among (arguments_of k))) None (λ (o : Option JoinPair). IfSome o (λ pair. IsShownOf to pair.to))
    (λ _. names-paired from to lies (names_among (arguments_of k))) (λ _. tt)

always : {A : Type 0} (xs : List A) → AllByRecursion (λ x. Unit {0}) xs
always [] = tt
always (x ∷ xs) = (tt, always xs)

keywords-paired : (from to : List Field) (lies : lies_from 0 to ≡ true) (ks : List Keyword) → AllByRecursion (λ pair. IsShownOf to pair.to) (filter_map (pair_said from to) ks)
keywords-paired from to lies ks =
    each-filter_map (λ k. Unit {0}) (λ (pair : JoinPair). IsShownOf to pair.to) (pair_said from to) (λ k _. keyword-paired from to lies k) ks (always ks)

by-sequence : (to : List Field) (o : Option Field) (descend : Bool) → IfSome o (Contains to) → IsSequenceOf to (sequence_by o descend)
by-sequence to None descend there = tt
by-sequence to (Some f) descend there = record { field = f; among = there; ty = refl; at = refl }

name-sequence : (to : List Field) (name : Option (List ℕ)) (descend : Bool) → IsSequenceOf to (sequence_of_name to name descend)
name-sequence to None descend = tt
name-sequence to (Some name) descend = by-sequence to (field_named name to) descend (field-there name to)

said-sequence : (to : List Field) (o : Option Keyword) → IsSequenceOf to (sequence_said to o)
said-sequence to None = tt
said-sequence to (Some k) = name-sequence to (file_of_keyword (Some k)) (is_descending (arguments_of k))

-- what is still to be known of a secondary file
record IsJoinedWell (described : List ℕ → Option PhysicalSpec) (joined : JoinedFile) : Type 0 where
  pairs : lies_from 0 (fields_of_file described joined.file) ≡ true → AllByRecursion (λ pair. IsShownOf (fields_of_file described joined.file) pair.to) joined.pairs
  sequence : IsSequenceOf (fields_of_file described joined.file) joined.sequence

joined-well : (described : List ℕ → Option PhysicalSpec) (fields : List (List Field)) (file : List ℕ) (place : ℕ) (link : Option _) (s : Specification)
    → fields_at fields place ≡ fields_of_file described file → IsJoinedWell described (joined_by fields file place link s)
joined-well described fields file place link s is =
    let from : List Field = fields_at fields (place_or_first link) in
    let own : List Field = fields_of_file described file in
    record {
      pairs = λ lies. subst (λ (to : List Field). AllByRecursion (λ pair. IsShownOf own pair.to) (filter_map (pair_said from to) s.keywords)) (sym is)
          (keywords-paired from own lies s.keywords);
      sequence = subst (λ (to : List Field). IsSequenceOf own (sequence_said to (first_named (codes "JDUPSEQ") s.keywords))) (sym is)
          (said-sequence own (first_named (codes "JDUPSEQ") s.keywords));
    }

pub place-fields : (described : List ℕ → Option PhysicalSpec) (files : List (List ℕ)) (place : ℕ) (file : List ℕ) → slice_get files place ≡ Some file
    → fields_at (map (fields_of_file described) files) place ≡ fields_of_file described file
place-fields described files place file is =
    ap (λ (o : Option (List Field)). unwrap_or o []) (slice_get-map (fields_of_file described) files place ∙ ap (option_map (fields_of_file described)) is)

module _ (described : List ℕ → Option PhysicalSpec) (files : List (List ℕ)) (ss : List Specification) where
  first-well : (file : List ℕ) (place : ℕ) (lines : List Specification) → slice_get files place ≡ Some file
      → AllByRecursion (IsJoinedWell described) (joined_by_first files (map (fields_of_file described) files) file place lines)
  first-well file place [] is = tt
  first-well file place (s ∷ lines) is =
      (joined-well described (map (fields_of_file described) files) file place (link_of files s) s (place-fields described files place file is), tt)

  all-well : (place : ℕ) (more : List (List ℕ)) → ((i : ℕ) → slice_get files (place + i) ≡ slice_get more i)
      → AllByRecursion (IsJoinedWell described) (joined_from files (map (fields_of_file described) files) ss place more)
  all-well place [] at = tt
  all-well place (file ∷ more) at =
      let start : place + 0 ≡ place = omega arith in
      let here : slice_get files place ≡ Some file = ap (slice_get files) (sym start) ∙ at 0 in
      all-append (IsJoinedWell described) (joined_by_first files (map (fields_of_file described) files) file place (lines_to files ss place))
      (joined_from files (map (fields_of_file described) files) ss (place + 1) more) (first-well file place (lines_to files ss place) here)
      (all-well (place + 1) more (λ i. (let next : place + 1 + i ≡ place + suc i = omega arith in ap (slice_get files) next ∙ at (suc i))))

behind-first : (files : List (List ℕ)) (i : ℕ) → slice_get files (1 + i) ≡ slice_get (drop 1 files) i
behind-first [] i = refl
behind-first (file ∷ files) i = (let next : 1 + i ≡ suc i = omega arith in ap (slice_get (file ∷ files)) next)

-- ---- the whole

module _ (described : List ℕ → Option PhysicalSpec) (bases : Bases) (same : (name : List ℕ) → IsSome (described name) → fields_of_file described name ≡ (bases name).fields) where
  files-over : (secondaries : List JoinedFile) → AllByRecursion (IsJoinedWell described) secondaries → AllByRecursion (λ name. IsSome (described name)) (map (λ joined. joined.file) secondaries)
      → AllByRecursion (λ name. IsLaidOut (bases name).fields) (map (λ joined. joined.file) secondaries) → AllByRecursion (λ joined. length joined.pairs < MOST_POSITIONS) secondaries
      → AllByRecursion (IsFileOver bases) secondaries
  files-over [] well there laid few = tt
  files-over (joined ∷ more) well there laid few =
      let own : fields_of_file described joined.file ≡ (bases joined.file).fields = same joined.file there.0 in
      let lies : lies_from 0 (fields_of_file described joined.file) ≡ true = subst (λ (fs : List Field). lies_from 0 fs ≡ true) (sym own) laid.0.lies in (
        record {
          laid = laid.0;
          pairs = subst (λ (fs : List Field). AllByRecursion (λ pair. IsShownOf fs pair.to) joined.pairs) own (well.0.pairs lies);
          sequence = subst (λ (fs : List Field). IsSequenceOf fs joined.sequence) own well.0.sequence;
          few = few.0;
        },
        files-over more well.1 there.1 laid.1 few.1,
      )

  first-fields : (files : List (List ℕ)) → 0 < length files → IsSome (described (first_file files)) → fields_at (map (fields_of_file described) files) 0 ≡ (bases (first_file files)).fields
  first-fields [] some there = absurd (omega (arith, some))
  first-fields (file ∷ files) some there = same file there

  pub join-keyed : (last_line : ℕ) (ks : List Keyword) (f : FormatLines) → join_faults described last_line f ≡ [] → IsJoinComplete described f
      → IsSome (described (first_file (files_joined f))) → AllByRecursion (λ name. IsSome (described name)) (map (λ joined. joined.file) (join_described described ks f).secondaries)
      → IsLaidOut (bases (first_file (files_joined f))).fields
      → AllByRecursion (λ name. IsLaidOut (bases name).fields) (map (λ joined. joined.file) (join_described described ks f).secondaries)
      → AllByRecursion (λ joined. length joined.pairs < MOST_POSITIONS) (join_described described ks f).secondaries → IsKeyedJoin bases (join_described described ks f)
  join-keyed last_line ks f none complete there others laid lies few =
      let files : List (List ℕ) = files_joined f in
      let base : List Field = (bases (first_file files)).fields in
      let first = nothing_in _ (size_faults last_line (join_format_fields described f) (join_parts described f)) none in
      let primary = nothing_in _ (flat_map (primary_key_faults (fields_placed described f)) (key_lines f)) first.0 in
      let keys = nothing_in _ (key_lines_faults true false (join_format_fields described f) (key_lines f)) primary.0 in
      let fields = nothing_in _ (join_fields_faults files (fields_joined described f) (field_lines f)) keys.0 in
      let placed_well : AllByRecursion (IsPlaced base) (fields_placed described f) =
      lines-placed base laid.lies files (fields_joined described f) (first-fields files complete.some there) (field_lines f) fields.1 in
      record {
        laid = laid;
        parts = keys-primary base (fields_placed described f) (key_lines f) placed_well (flat-nothing (primary_key_faults (fields_placed described f)) (key_lines f) primary.1);
        few = subst (λ (n : ℕ). n ≤ MOST_POSITIONS) (sym (lines-long (join_format_fields described f) (key_lines f)))
            (few-positions (length (key_lines f)) (keys-few true false (join_format_fields described f) (key_lines f) keys.1));
        secondaries = files-over (join_described described ks f).secondaries (all-well described files (join_lines f) 1 (drop 1 files) (behind-first files)) others lies few;
      }
