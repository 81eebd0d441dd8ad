-- One line in its columns.
use Rattle.std.proofs.Common.{◌≡◌, ℕ, Bool, true, false, not, ◌&&◌, ◌||◌, ◌==◌, List, [], ◌∷◌, ◌++◌, length, map, replicate, get_or, Option, Some, refl, arith}
use Rattle.std.specs.Option.{is_none}
use Rattle.std.specs.Bool.{if◌then◌else◌}
use Rattle.dds_source.specs.declared.lines.Line.{Line}
use Rattle.dds_source.specs.declared.faults.DdsFault.{DdsFault}
use Rattle.dds_source.specs.declared.specifications.Specification.{Specification}
use Rattle.dds_source.specs.declared.specifications.SpecificationKind.{SpecificationKind}
use Rattle.dds_source.specs.declared.specifications.SpecificationKind.TheVariants as kinds
use Rattle.dds_source.specs.declared.specifications.NameEntry.{NameEntry}
use Rattle.dds_source.specs.declared.specifications.LengthEntry.{LengthEntry}
use Rattle.text_lines.specs.Lines.{is_blank, are_blanks}
use Rattle.text_lines.specs.Characters.{folded}
use Rattle.dds_source.specs.Lines.{positions, line_of, counts, has_entries}
use Rattle.dds_source.specs.Numbers.{unsigned_entry, signed_entry}
use Rattle.dds_source.specs.Entries.{when, name_entry, letter, name_or_blank, column_faults, columns_of, line_faults}
use Rattle.dds_source.specs.Continuation.{goes_on, joined_text, line_text}
use Rattle.dds_source.specs.Reading.{specification_of}
use Rattle.dds_source.specs.Written.{WrittenKind, a_record, a_field, a_key, kind_letter, kind_said, columns_text}

with_ten : (P : List ℕ → Type 0) → ((x0 x1 x2 x3 x4 x5 x6 x7 x8 x9 : ℕ) → P (x0 ∷ x1 ∷ x2 ∷ x3 ∷ x4 ∷ x5 ∷ x6 ∷ x7 ∷ x8 ∷ x9 ∷ [])) → (xs : List ℕ) → length xs ≡ 10 → P xs
with_ten P f (x0 ∷ x1 ∷ x2 ∷ x3 ∷ x4 ∷ x5 ∷ x6 ∷ x7 ∷ x8 ∷ x9 ∷ []) h = f x0 x1 x2 x3 x4 x5 x6 x7 x8 x9
with_ten P f _ h = absurd (omega arith)

with_five : (P : List ℕ → Type 0) → ((x0 x1 x2 x3 x4 : ℕ) → P (x0 ∷ x1 ∷ x2 ∷ x3 ∷ x4 ∷ [])) → (xs : List ℕ) → length xs ≡ 5 → P xs
with_five P f (x0 ∷ x1 ∷ x2 ∷ x3 ∷ x4 ∷ []) h = f x0 x1 x2 x3 x4
with_five P f _ h = absurd (omega arith)

with_two : (P : List ℕ → Type 0) → ((x0 x1 : ℕ) → P (x0 ∷ x1 ∷ [])) → (xs : List ℕ) → length xs ≡ 2 → P xs
with_two P f (x0 ∷ x1 ∷ []) h = f x0 x1
with_two P f _ h = absurd (omega arith)

-- the line of a text in columns
abbrev pub line_in_columns : ℕ → List ℕ → Line
line_in_columns number columns = record { number = number; entries = columns; keywords = replicate 36 32 }

no_faults : (cs : List DdsFault) (a b c : Bool) (f g h : DdsFault) → cs ≡ [] → a ≡ false → b ≡ false → c ≡ false → cs ++ when a f ++ when b g ++ when c h ≡ []
no_faults cs a b c f g h e i j k = rw (e, i, j, k) refl

name_is_right : (o : Option NameEntry) (n : NameEntry) (blank wants join : Bool) → o ≡ Some n → blank ≡ false → join ≡ false → (is_none o || (blank && wants) || (not blank && join)) ≡ false
name_is_right o n blank wants join e i j = rw (e, i, j) refl

-- what is asked of the entries
pub record Entries (is_reference : Bool) (cs digits decimals : List ℕ) (named : NameEntry) (size : Option LengthEntry) (scale : Option ℕ) : Type 0 where
  pub first : is_blank (get_or cs 0 32) ≡ false
  pub name : (is_key : Bool) → name_entry is_key cs ≡ Some named
  pub length_right : (not (are_blanks digits) && is_none (signed_entry is_reference digits)) ≡ false
  pub length_said : signed_entry is_reference digits ≡ size
  pub decimals_right : (not (are_blanks decimals) && is_none (unsigned_entry decimals)) ≡ false
  pub decimals_said : unsigned_entry decimals ≡ scale

-- what then holds of the line
pub record Reads (number : ℕ) (kind : WrittenKind) (is_reference : Bool) (t u : ℕ) (columns : List ℕ) (named : NameEntry) (size : Option LengthEntry) (scale : Option ℕ) : Type 0 where
  pub line : line_of number columns ≡ line_in_columns number (map folded columns)
  pub counted : counts (line_in_columns number columns) ≡ true
  pub right : line_faults (line_in_columns number columns) ≡ []
  pub stands : goes_on (line_in_columns number columns) ≡ false
  pub entries : has_entries (line_in_columns number columns) ≡ true
  pub text : joined_text (line_in_columns number columns ∷ []) ≡ []
  pub says : specification_of false (line_in_columns number columns) [] ≡ (let s : Specification = record {
    line = number;
    kind = kind_said kind;
    name = named;
    columns = record { reference = is_reference; length = size; data_type = letter t; decimals = scale; usage = letter u };
    keywords = [];
  } in s)

reads_line : (number k a0 a1 a2 a3 a4 a5 a6 a7 a8 a9 r b0 b1 b2 b3 b4 t c0 c1 u : ℕ) → line_of number (columns_text k (a0 ∷ a1 ∷ a2 ∷ a3 ∷ a4 ∷ a5 ∷ a6 ∷ a7 ∷ a8 ∷ a9 ∷ []) r (b0 ∷ b1 ∷ b2 ∷ b3 ∷ b4 ∷ []) t (c0 ∷ c1 ∷ []) u) ≡ line_in_columns number (map folded (columns_text k (a0 ∷ a1 ∷ a2 ∷ a3 ∷ a4 ∷ a5 ∷ a6 ∷ a7 ∷ a8 ∷ a9 ∷ []) r (b0 ∷ b1 ∷ b2 ∷ b3 ∷ b4 ∷ []) t (c0 ∷ c1 ∷ []) u))
unfolding line_of positions
reads_line number k a0 a1 a2 a3 a4 a5 a6 a7 a8 a9 r b0 b1 b2 b3 b4 t c0 c1 u = refl

reads_counted : (number : ℕ) (kind : WrittenKind) (a0 a1 a2 a3 a4 a5 a6 a7 a8 a9 r b0 b1 b2 b3 b4 t c0 c1 u : ℕ) → is_blank a0 ≡ false → counts (line_in_columns number (columns_text (kind_letter kind) (a0 ∷ a1 ∷ a2 ∷ a3 ∷ a4 ∷ a5 ∷ a6 ∷ a7 ∷ a8 ∷ a9 ∷ []) r (b0 ∷ b1 ∷ b2 ∷ b3 ∷ b4 ∷ []) t (c0 ∷ c1 ∷ []) u)) ≡ true
reads_counted number a_record a0 a1 a2 a3 a4 a5 a6 a7 a8 a9 r b0 b1 b2 b3 b4 t c0 c1 u h = refl
reads_counted number a_field a0 a1 a2 a3 a4 a5 a6 a7 a8 a9 r b0 b1 b2 b3 b4 t c0 c1 u h = rw h refl
reads_counted number a_key a0 a1 a2 a3 a4 a5 a6 a7 a8 a9 r b0 b1 b2 b3 b4 t c0 c1 u h = refl

reads_entries : (number : ℕ) (kind : WrittenKind) (a0 a1 a2 a3 a4 a5 a6 a7 a8 a9 r b0 b1 b2 b3 b4 t c0 c1 u : ℕ) → is_blank a0 ≡ false → has_entries (line_in_columns number (columns_text (kind_letter kind) (a0 ∷ a1 ∷ a2 ∷ a3 ∷ a4 ∷ a5 ∷ a6 ∷ a7 ∷ a8 ∷ a9 ∷ []) r (b0 ∷ b1 ∷ b2 ∷ b3 ∷ b4 ∷ []) t (c0 ∷ c1 ∷ []) u)) ≡ true
reads_entries number a_record a0 a1 a2 a3 a4 a5 a6 a7 a8 a9 r b0 b1 b2 b3 b4 t c0 c1 u h = refl
reads_entries number a_field a0 a1 a2 a3 a4 a5 a6 a7 a8 a9 r b0 b1 b2 b3 b4 t c0 c1 u h = rw h refl
reads_entries number a_key a0 a1 a2 a3 a4 a5 a6 a7 a8 a9 r b0 b1 b2 b3 b4 t c0 c1 u h = refl

reads_columns : (number : ℕ) (kind : WrittenKind) (is_reference : Bool) (a0 a1 a2 a3 a4 a5 a6 a7 a8 a9 b0 b1 b2 b3 b4 t c0 c1 u : ℕ) → column_faults number 1 (columns_text (kind_letter kind) (a0 ∷ a1 ∷ a2 ∷ a3 ∷ a4 ∷ a5 ∷ a6 ∷ a7 ∷ a8 ∷ a9 ∷ []) (if is_reference then 82 else 32) (b0 ∷ b1 ∷ b2 ∷ b3 ∷ b4 ∷ []) t (c0 ∷ c1 ∷ []) u) ≡ []
reads_columns number a_record true a0 a1 a2 a3 a4 a5 a6 a7 a8 a9 b0 b1 b2 b3 b4 t c0 c1 u = refl
reads_columns number a_record false a0 a1 a2 a3 a4 a5 a6 a7 a8 a9 b0 b1 b2 b3 b4 t c0 c1 u = refl
reads_columns number a_field true a0 a1 a2 a3 a4 a5 a6 a7 a8 a9 b0 b1 b2 b3 b4 t c0 c1 u = refl
reads_columns number a_field false a0 a1 a2 a3 a4 a5 a6 a7 a8 a9 b0 b1 b2 b3 b4 t c0 c1 u = refl
reads_columns number a_key true a0 a1 a2 a3 a4 a5 a6 a7 a8 a9 b0 b1 b2 b3 b4 t c0 c1 u = refl
reads_columns number a_key false a0 a1 a2 a3 a4 a5 a6 a7 a8 a9 b0 b1 b2 b3 b4 t c0 c1 u = refl

kind_not_join : (kind : WrittenKind) → (kind_letter kind == 74) ≡ false
kind_not_join a_record = refl
kind_not_join a_field = refl
kind_not_join a_key = refl

first_not_blank : (a0 a1 a2 a3 a4 a5 a6 a7 a8 a9 : ℕ) → is_blank a0 ≡ false → are_blanks (a0 ∷ a1 ∷ a2 ∷ a3 ∷ a4 ∷ a5 ∷ a6 ∷ a7 ∷ a8 ∷ a9 ∷ []) ≡ false
first_not_blank a0 a1 a2 a3 a4 a5 a6 a7 a8 a9 h = rw h refl

reads_right : (number : ℕ) (kind : WrittenKind) (is_reference : Bool) (a0 a1 a2 a3 a4 a5 a6 a7 a8 a9 b0 b1 b2 b3 b4 t c0 c1 u : ℕ) (named : NameEntry) (size : Option LengthEntry) (scale : Option ℕ) → Entries is_reference (a0 ∷ a1 ∷ a2 ∷ a3 ∷ a4 ∷ a5 ∷ a6 ∷ a7 ∷ a8 ∷ a9 ∷ []) (b0 ∷ b1 ∷ b2 ∷ b3 ∷ b4 ∷ []) (c0 ∷ c1 ∷ []) named size scale → line_faults (line_in_columns number (columns_text (kind_letter kind) (a0 ∷ a1 ∷ a2 ∷ a3 ∷ a4 ∷ a5 ∷ a6 ∷ a7 ∷ a8 ∷ a9 ∷ []) (if is_reference then 82 else 32) (b0 ∷ b1 ∷ b2 ∷ b3 ∷ b4 ∷ []) t (c0 ∷ c1 ∷ []) u)) ≡ []
unfolding line_faults
reads_right number kind true a0 a1 a2 a3 a4 a5 a6 a7 a8 a9 b0 b1 b2 b3 b4 t c0 c1 u named size scale e =
    no_faults _ _ _ _ _ _ _ (reads_columns number kind true a0 a1 a2 a3 a4 a5 a6 a7 a8 a9 b0 b1 b2 b3 b4 t c0 c1 u)
    (name_is_right _ named (are_blanks (a0 ∷ a1 ∷ a2 ∷ a3 ∷ a4 ∷ a5 ∷ a6 ∷ a7 ∷ a8 ∷ a9 ∷ [])) _ (kind_letter kind == 74) (e.name (kind_letter kind == 75)) (first_not_blank a0 a1 a2 a3 a4 a5 a6 a7 a8 a9 e.first) (kind_not_join kind))
    e.length_right e.decimals_right
reads_right number kind false a0 a1 a2 a3 a4 a5 a6 a7 a8 a9 b0 b1 b2 b3 b4 t c0 c1 u named size scale e =
    no_faults _ _ _ _ _ _ _ (reads_columns number kind false a0 a1 a2 a3 a4 a5 a6 a7 a8 a9 b0 b1 b2 b3 b4 t c0 c1 u)
    (name_is_right _ named (are_blanks (a0 ∷ a1 ∷ a2 ∷ a3 ∷ a4 ∷ a5 ∷ a6 ∷ a7 ∷ a8 ∷ a9 ∷ [])) _ (kind_letter kind == 74) (e.name (kind_letter kind == 75)) (first_not_blank a0 a1 a2 a3 a4 a5 a6 a7 a8 a9 e.first) (kind_not_join kind))
    e.length_right e.decimals_right

made : (number : ℕ) (kind : SpecificationKind) (is_reference : Bool) (t u : ℕ) (name : Option NameEntry) (named : NameEntry) (size size' : Option LengthEntry) (scale scale' : Option ℕ) → name ≡ Some named → size ≡ size' → scale ≡ scale'
    → (let s : Specification = record { line = number; kind = kind; name = name_or_blank name; columns = record { reference = is_reference; length = size; data_type = letter t; decimals = scale; usage = letter u }; keywords = [] } in s)
    ≡ (let s : Specification = record { line = number; kind = kind; name = named; columns = record { reference = is_reference; length = size'; data_type = letter t; decimals = scale'; usage = letter u }; keywords = [] } in s)
made number kind is_reference t u name named size size' scale scale' e i j = rw (e, i, j) refl

reads_says : (number : ℕ) (kind : WrittenKind) (is_reference : Bool) (a0 a1 a2 a3 a4 a5 a6 a7 a8 a9 b0 b1 b2 b3 b4 t c0 c1 u : ℕ) (named : NameEntry) (size : Option LengthEntry) (scale : Option ℕ) → Entries is_reference (a0 ∷ a1 ∷ a2 ∷ a3 ∷ a4 ∷ a5 ∷ a6 ∷ a7 ∷ a8 ∷ a9 ∷ []) (b0 ∷ b1 ∷ b2 ∷ b3 ∷ b4 ∷ []) (c0 ∷ c1 ∷ []) named size scale
    → specification_of false (line_in_columns number (columns_text (kind_letter kind) (a0 ∷ a1 ∷ a2 ∷ a3 ∷ a4 ∷ a5 ∷ a6 ∷ a7 ∷ a8 ∷ a9 ∷ []) (if is_reference then 82 else 32) (b0 ∷ b1 ∷ b2 ∷ b3 ∷ b4 ∷ []) t (c0 ∷ c1 ∷ []) u)) [] ≡ (let s : Specification = record {
      line = number;
      kind = kind_said kind;
      name = named;
      columns = record { reference = is_reference; length = size; data_type = letter t; decimals = scale; usage = letter u };
      keywords = [];
    } in s)
unfolding specification_of columns_of
reads_says number a_record true a0 a1 a2 a3 a4 a5 a6 a7 a8 a9 b0 b1 b2 b3 b4 t c0 c1 u named size scale e = made number kinds.Record true t u _ named _ size _ scale (e.name false) e.length_said e.decimals_said
reads_says number a_record false a0 a1 a2 a3 a4 a5 a6 a7 a8 a9 b0 b1 b2 b3 b4 t c0 c1 u named size scale e = made number kinds.Record false t u _ named _ size _ scale (e.name false) e.length_said e.decimals_said
reads_says number a_field true a0 a1 a2 a3 a4 a5 a6 a7 a8 a9 b0 b1 b2 b3 b4 t c0 c1 u named size scale e = made number kinds.Field true t u _ named _ size _ scale (e.name false) e.length_said e.decimals_said
reads_says number a_field false a0 a1 a2 a3 a4 a5 a6 a7 a8 a9 b0 b1 b2 b3 b4 t c0 c1 u named size scale e = made number kinds.Field false t u _ named _ size _ scale (e.name false) e.length_said e.decimals_said
reads_says number a_key true a0 a1 a2 a3 a4 a5 a6 a7 a8 a9 b0 b1 b2 b3 b4 t c0 c1 u named size scale e = made number kinds.Key true t u _ named _ size _ scale (e.name true) e.length_said e.decimals_said
reads_says number a_key false a0 a1 a2 a3 a4 a5 a6 a7 a8 a9 b0 b1 b2 b3 b4 t c0 c1 u named size scale e = made number kinds.Key false t u _ named _ size _ scale (e.name true) e.length_said e.decimals_said

reads : (number : ℕ) (kind : WrittenKind) (is_reference : Bool) (a0 a1 a2 a3 a4 a5 a6 a7 a8 a9 b0 b1 b2 b3 b4 t c0 c1 u : ℕ) (named : NameEntry) (size : Option LengthEntry) (scale : Option ℕ) → Entries is_reference (a0 ∷ a1 ∷ a2 ∷ a3 ∷ a4 ∷ a5 ∷ a6 ∷ a7 ∷ a8 ∷ a9 ∷ []) (b0 ∷ b1 ∷ b2 ∷ b3 ∷ b4 ∷ []) (c0 ∷ c1 ∷ []) named size scale
    → Reads number kind is_reference t u (columns_text (kind_letter kind) (a0 ∷ a1 ∷ a2 ∷ a3 ∷ a4 ∷ a5 ∷ a6 ∷ a7 ∷ a8 ∷ a9 ∷ []) (if is_reference then 82 else 32) (b0 ∷ b1 ∷ b2 ∷ b3 ∷ b4 ∷ []) t (c0 ∷ c1 ∷ []) u) named size scale
unfolding joined_text line_text
reads number kind is_reference a0 a1 a2 a3 a4 a5 a6 a7 a8 a9 b0 b1 b2 b3 b4 t c0 c1 u named size scale e = record {
  line = reads_line number (kind_letter kind) a0 a1 a2 a3 a4 a5 a6 a7 a8 a9 (if is_reference then 82 else 32) b0 b1 b2 b3 b4 t c0 c1 u;
  counted = reads_counted number kind a0 a1 a2 a3 a4 a5 a6 a7 a8 a9 (if is_reference then 82 else 32) b0 b1 b2 b3 b4 t c0 c1 u e.first;
  right = reads_right number kind is_reference a0 a1 a2 a3 a4 a5 a6 a7 a8 a9 b0 b1 b2 b3 b4 t c0 c1 u named size scale e;
  stands = refl;
  entries = reads_entries number kind a0 a1 a2 a3 a4 a5 a6 a7 a8 a9 (if is_reference then 82 else 32) b0 b1 b2 b3 b4 t c0 c1 u e.first;
  text = refl;
  says = reads_says number kind is_reference a0 a1 a2 a3 a4 a5 a6 a7 a8 a9 b0 b1 b2 b3 b4 t c0 c1 u named size scale e;
}

-- a line whose entries have their widths
pub line_reads : (number : ℕ) (kind : WrittenKind) (is_reference : Bool) (name digits decimals : List ℕ) (t u : ℕ) (named : NameEntry) (size : Option LengthEntry) (scale : Option ℕ)
    → length name ≡ 10 → length digits ≡ 5 → length decimals ≡ 2 → Entries is_reference name digits decimals named size scale
    → Reads number kind is_reference t u (columns_text (kind_letter kind) name (if is_reference then 82 else 32) digits t decimals u) named size scale
line_reads number kind is_reference name digits decimals t u named size scale i j k =
    with_ten (λ n. Entries is_reference n digits decimals named size scale → Reads number kind is_reference t u (columns_text (kind_letter kind) n (if is_reference then 82 else 32) digits t decimals u) named size scale)
    (λ a0 a1 a2 a3 a4 a5 a6 a7 a8 a9. with_five (λ l. Entries is_reference (a0 ∷ a1 ∷ a2 ∷ a3 ∷ a4 ∷ a5 ∷ a6 ∷ a7 ∷ a8 ∷ a9 ∷ []) l decimals named size scale → Reads number kind is_reference t u (columns_text (kind_letter kind) (a0 ∷ a1 ∷ a2 ∷ a3 ∷ a4 ∷ a5 ∷ a6 ∷ a7 ∷ a8 ∷ a9 ∷ []) (if is_reference then 82 else 32) l t decimals u) named size scale)
    (λ b0 b1 b2 b3 b4. with_two (λ d. Entries is_reference (a0 ∷ a1 ∷ a2 ∷ a3 ∷ a4 ∷ a5 ∷ a6 ∷ a7 ∷ a8 ∷ a9 ∷ []) (b0 ∷ b1 ∷ b2 ∷ b3 ∷ b4 ∷ []) d named size scale → Reads number kind is_reference t u (columns_text (kind_letter kind) (a0 ∷ a1 ∷ a2 ∷ a3 ∷ a4 ∷ a5 ∷ a6 ∷ a7 ∷ a8 ∷ a9 ∷ []) (if is_reference then 82 else 32) (b0 ∷ b1 ∷ b2 ∷ b3 ∷ b4 ∷ []) t d u) named size scale)
    (λ c0 c1. reads number kind is_reference a0 a1 a2 a3 a4 a5 a6 a7 a8 a9 b0 b1 b2 b3 b4 t c0 c1 u named size scale) decimals k) digits j) name i
