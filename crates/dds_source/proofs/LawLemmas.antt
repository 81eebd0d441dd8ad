-- A source in columns, line after line.
use Rattle.std.proofs.Common.{◌≡◌, ℕ, zero, suc, ◌-◌, ◌<◌, ◌≤◌, Bool, true, false, not, ◌&&◌, ◌==◌, List, [], ◌∷◌, ◌++◌, length, map, filter, replicate, get_or, Option, Ok, refl, sym, ap, ◌∙◌, arith, length-append}
use Rattle.std.specs.List.{list_all, flat_map}
use Rattle.std.specs.Bool.{if◌then◌else◌}
use Rattle.std.proofs.lemmas.List.{append_assoc, append-nil, length-replicate}
use Rattle.text_lines.specs.SystemName.{is_name, begins_name, continues_name}
use Rattle.dds_source.specs.declared.lines.Line.{Line}
use Rattle.dds_source.specs.declared.specifications.Specification.{Specification}
use Rattle.dds_source.specs.declared.specifications.Source.{Source}
use Rattle.dds_source.specs.declared.specifications.NameEntry.TheVariants as names
use Rattle.text_lines.specs.Lines.{is_blank, lines_of, onto_first}
use Rattle.text_lines.specs.Decimal.{is_digit}
use Rattle.text_lines.specs.Characters.{is_small_letter, folded}
use Rattle.dds_source.specs.Lines.{line_of, next_number, numbered, counts, counted_lines, last_number, last_line, has_entries}
use Rattle.dds_source.specs.Entries.{letter, line_faults}
use Rattle.dds_source.specs.Continuation.{goes_on, joined, joined_text}
use Rattle.dds_source.specs.KeywordTexts.{keywords_in}
use Rattle.dds_source.specs.Reading.{keywords_of, joined_faults, is_condition, is_selection, ends_in_condition, specification_of, extended, added, all_added, selection_faults, source_in, faults_in, source_of}
use Rattle.dds_source.specs.Written.{WrittenKind, a_record, a_field, a_key, Written, Fits, AllFit, is_letter_or_blank, kind_letter, kind_said, left, right, line_written, text_written, length_said, number_said, columns_said, letter_said, said, last_said}
use Rattle.dds_source.proofs.WrittenLemmas.{name_entry-left, unsigned_entry-right, signed_entry-right, length_is_right, decimals_are_right, letter_is}
use Rattle.dds_source.proofs.ColumnLemmas.{line_in_columns, Reads, line_reads}

-- Which characters are in columns: no line feed, and no small letter.

abbrev is_plain : ℕ → Bool
is_plain c = not (is_small_letter c) && not (c == 10)

abbrev are_plain : List ℕ → Bool
are_plain cs = list_all is_plain cs

plain_parts : (c : ℕ) (cs : List ℕ) → are_plain (c ∷ cs) ≡ true → (is_plain c ≡ true) × (are_plain cs ≡ true)
plain_parts c cs h = grind arith

plain_append : (xs ys : List ℕ) → are_plain xs ≡ true → are_plain ys ≡ true → are_plain (xs ++ ys) ≡ true
plain_append [] ys h g = g
plain_append (x ∷ xs) ys h g =
    let parts = plain_parts x xs h in
    rw parts.0 (plain_append xs ys parts.1 g)

plain_more : (c : ℕ) (cs : List ℕ) → is_plain c ≡ true → are_plain cs ≡ true → are_plain (c ∷ cs) ≡ true
plain_more c cs h g = rw h g

weaker : (p : ℕ → Bool) (cs : List ℕ) → ((c : ℕ) → p c ≡ true → is_plain c ≡ true) → list_all p cs ≡ true → are_plain cs ≡ true
weaker p [] f h = refl
weaker p (c ∷ cs) f h =
    let first : p c ≡ true = grind arith in
    let rest : list_all p cs ≡ true = grind arith in
    plain_more c cs (f c first) (weaker p cs f rest)

name_is_plain : (c : ℕ) → continues_name c ≡ true → is_plain c ≡ true
name_is_plain c h = grind arith

begins_continues : (c : ℕ) → begins_name c ≡ true → continues_name c ≡ true
begins_continues c h = grind arith

digit_is_plain : (c : ℕ) → is_digit c ≡ true → is_plain c ≡ true
digit_is_plain c h = grind arith

letter_is_plain : (c : ℕ) → is_letter_or_blank c ≡ true → is_plain c ≡ true
letter_is_plain c h = grind arith

kind_is_plain : (kind : WrittenKind) → is_plain (kind_letter kind) ≡ true
kind_is_plain a_record = refl
kind_is_plain a_field = refl
kind_is_plain a_key = refl

reference_is_plain : (b : Bool) → is_plain (if b then 82 else 32) ≡ true
reference_is_plain true = refl
reference_is_plain false = refl

blanks_are_plain : (n : ℕ) → are_plain (replicate n 32) ≡ true
blanks_are_plain zero = refl
blanks_are_plain (suc n) = blanks_are_plain n

name_plain : (name : List ℕ) → is_name name ≡ true → are_plain name ≡ true
name_plain [] h = absurd (cc)
name_plain (c ∷ cs) h =
    let first : begins_name c ≡ true = grind arith in
    let rest : list_all continues_name cs ≡ true = grind arith in
    plain_more c cs (name_is_plain c (begins_continues c first)) (weaker continues_name cs name_is_plain rest)

line_plain : (w : Written) → Fits w → are_plain (line_written w) ≡ true
line_plain w f =
    let kind : List ℕ = kind_letter w.kind ∷ 32 ∷ left 10 w.name in
    let size : List ℕ = (if w.is_reference then 82 else 32) ∷ right 5 w.digits in
    let scale : List ℕ = w.data_type ∷ right 2 w.decimals in
    let usage : List ℕ = w.usage ∷ replicate 6 32 in
    let start : List ℕ = replicate 5 32 ++ 65 ∷ replicate 10 32 in
    plain_append (start ++ kind ++ size ++ scale) usage
    (plain_append (start ++ kind ++ size) scale
    (plain_append (start ++ kind) size
    (plain_append start kind refl
    (plain_more (kind_letter w.kind) (32 ∷ left 10 w.name) (kind_is_plain w.kind)
    (plain_append w.name (replicate (10 - length w.name) 32) (name_plain w.name f.named) (blanks_are_plain (10 - length w.name)))))
    (plain_more (if w.is_reference then 82 else 32) (right 5 w.digits) (reference_is_plain w.is_reference)
    (plain_append (replicate (5 - length w.digits) 32) w.digits (blanks_are_plain (5 - length w.digits)) (weaker is_digit w.digits digit_is_plain f.are_digits))))
    (plain_more w.data_type (right 2 w.decimals) (letter_is_plain w.data_type f.data_type)
    (plain_append (replicate (2 - length w.decimals) 32) w.decimals (blanks_are_plain (2 - length w.decimals)) (weaker is_digit w.decimals digit_is_plain f.are_decimals))))
    (plain_more w.usage (replicate 6 32) (letter_is_plain w.usage f.usage) refl)

folded_plain : (cs : List ℕ) → are_plain cs ≡ true → map folded cs ≡ cs
folded_plain [] h = refl
folded_plain (c ∷ cs) h =
    let parts = plain_parts c cs h in
    let large : is_small_letter c ≡ false = grind arith in
    rw large (ap (λ (xs : List ℕ). c ∷ xs) (folded_plain cs parts.1))

cut_plain : (cs rest : List ℕ) → are_plain cs ≡ true → lines_of (cs ++ 10 ∷ rest) ≡ cs ∷ lines_of rest
cut_plain [] rest h = refl
cut_plain (c ∷ cs) rest h =
    let parts = plain_parts c cs h in
    let no_feed : (c == 10) ≡ false = grind arith in
    rw no_feed (ap (onto_first c) (cut_plain cs rest parts.1))

-- One line.

name_fits : (name : List ℕ) → is_name name ≡ true → length name ≤ 10
name_fits [] h = omega arith
name_fits (c ∷ cs) h = grind arith

first_of_name : (name : List ℕ) (n : ℕ) → is_name name ≡ true → is_blank (get_or (name ++ replicate n 32) 0 32) ≡ false
first_of_name [] n h = absurd (cc)
first_of_name (c ∷ cs) n h = grind arith

length_left : (width : ℕ) (cs : List ℕ) → length cs ≤ width → length (left width cs) ≡ width
length_left width cs h = simp (length-append, length-replicate) (omega arith)

length_right : (width : ℕ) (cs : List ℕ) → length cs ≤ width → length (right width cs) ≡ width
length_right width cs h = simp (length-append, length-replicate) (omega arith)

written_reads : (number : ℕ) (w : Written) → Fits w → Reads number w.kind w.is_reference w.data_type w.usage (line_written w) (names.Named w.name) (length_said w.digits) (number_said w.decimals)
written_reads number w f =
    line_reads number w.kind w.is_reference (left 10 w.name) (right 5 w.digits) (right 2 w.decimals) w.data_type w.usage (names.Named w.name) (length_said w.digits) (number_said w.decimals)
    (length_left 10 w.name (name_fits w.name f.named)) (length_right 5 w.digits f.five) (length_right 2 w.decimals f.two)
    (record {
      first = first_of_name w.name (10 - length w.name) f.named;
      name = λ is_key. name_entry-left is_key w.name f.named;
      length_right = length_is_right w.is_reference w.digits f.are_digits;
      length_said = signed_entry-right w.is_reference w.digits f.are_digits;
      decimals_right = decimals_are_right w.decimals f.are_decimals;
      decimals_said = unsigned_entry-right w.decimals f.are_decimals;
    })

-- All lines.

abbrev rows : ℕ → List Written → List Line
rows number [] = []
rows number (w ∷ ws) = line_in_columns number (line_written w) ∷ rows (next_number number) ws

abbrev single : Line → List Line
single line = line ∷ []

line_counted : (line : Line) (lines : List Line) → counts line ≡ true → filter counts (line ∷ lines) ≡ line ∷ filter counts lines
line_counted line lines h = rw h refl

counted_rows : (ws : List Written) (number : ℕ) → AllFit ws → filter counts (numbered number (lines_of (text_written ws))) ≡ rows number ws
counted_rows [] number h = refl
counted_rows (w ∷ ws) number h =
    let r = written_reads number w h.0 in
    let line : line_of number (line_written w) ≡ line_in_columns number (line_written w) = r.line ∙ ap (line_in_columns number) (folded_plain (line_written w) (line_plain w h.0)) in
    ap (λ (t : List ℕ). filter counts (numbered number (lines_of t))) (append_assoc (line_written w) (10 ∷ []) (text_written ws))
    ∙ ap (λ (ts : List (List ℕ)). filter counts (numbered number ts)) (cut_plain (line_written w) (text_written ws) (line_plain w h.0))
    ∙ ap (λ (l : Line). filter counts (l ∷ numbered (next_number number) (lines_of (text_written ws)))) line
    ∙ line_counted (line_in_columns number (line_written w)) (numbered (next_number number) (lines_of (text_written ws))) r.counted
    ∙ ap (λ (ls : List Line). line_in_columns number (line_written w) ∷ ls) (counted_rows ws (next_number number) h.1)

not_joined : (l m : Line) (ls : List Line) → goes_on l ≡ false → joined (l ∷ m ∷ ls) ≡ (l ∷ []) ∷ joined (m ∷ ls)
not_joined l m ls h = rw h refl

joined_rows : (ws : List Written) (number : ℕ) → AllFit ws → joined (rows number ws) ≡ map single (rows number ws)
joined_rows [] number h = refl
joined_rows (w ∷ []) number h = refl
joined_rows (w ∷ v ∷ ws) number h =
    not_joined (line_in_columns number (line_written w)) (line_in_columns (next_number number) (line_written v)) (rows (next_number (next_number number)) ws) (written_reads number w h.0).stands ∙ ap (λ (ls : List (List Line)). (line_in_columns number (line_written w) ∷ []) ∷ ls) (joined_rows (v ∷ ws) (next_number number) h.1)

faultless_rows : (ws : List Written) (number : ℕ) → AllFit ws → flat_map line_faults (rows number ws) ≡ []
faultless_rows [] number h = refl
faultless_rows (w ∷ ws) number h = rw ((written_reads number w h.0).right) (faultless_rows ws (next_number number) h.1)

faultless_single : (l : Line) → goes_on l ≡ false → joined_text (l ∷ []) ≡ [] → joined_faults (l ∷ []) ≡ []
unfolding joined_faults keywords_in
faultless_single l h t = rw (t, h) refl

no_keywords : (l : Line) → joined_text (l ∷ []) ≡ [] → keywords_of (l ∷ []) ≡ []
unfolding keywords_of keywords_in
no_keywords l t = rw t refl

faultless_joined : (ws : List Written) (number : ℕ) → AllFit ws → flat_map joined_faults (map single (rows number ws)) ≡ []
faultless_joined [] number h = refl
faultless_joined (w ∷ ws) number h =
    let r = written_reads number w h.0 in
    rw (faultless_single (line_in_columns number (line_written w)) r.stands r.text) (faultless_joined ws (next_number number) h.1)

ends-push : (ss : List Specification) (s : Specification) → ends_in_condition (ss ++ s ∷ []) ≡ is_condition s.kind
ends-push [] s = refl
ends-push (t ∷ []) s = refl
ends-push (t ∷ u ∷ ss) s = ends-push (u ∷ ss) s

no_condition : (kind : WrittenKind) → is_condition (kind_said kind) ≡ false
no_condition a_record = refl
no_condition a_field = refl
no_condition a_key = refl

no_selection : (kind : WrittenKind) → is_selection (kind_said kind) ≡ false
no_selection a_record = refl
no_selection a_field = refl
no_selection a_key = refl

abbrev said_one : ℕ → Written → Specification
said_one number w = record { line = number; kind = kind_said w.kind; name = names.Named w.name; columns = columns_said w; keywords = [] }

line_says : (number : ℕ) (w : Written) → Fits w → specification_of false (line_in_columns number (line_written w)) [] ≡ said_one number w
line_says number w f =
    (written_reads number w f).says
    ∙ ap (λ (o : Option ℕ). let s : Specification = record { line = number; kind = kind_said w.kind; name = names.Named w.name; columns = record { reference = w.is_reference; length = length_said w.digits; data_type = o; decimals = number_said w.decimals; usage = letter w.usage }; keywords = [] } in s) (letter_is w.data_type f.data_type)
    ∙ ap (λ (o : Option ℕ). let s : Specification = record { line = number; kind = kind_said w.kind; name = names.Named w.name; columns = record { reference = w.is_reference; length = length_said w.digits; data_type = letter_said w.data_type; decimals = number_said w.decimals; usage = o }; keywords = [] } in s) (letter_is w.usage f.usage)

added_line : (source : Source) (l : Line) (s : Specification) → keywords_of (l ∷ []) ≡ [] → has_entries l ≡ true → ends_in_condition source.specifications ≡ false → specification_of false l [] ≡ s
    → added source (l ∷ []) ≡ record source { specifications = source.specifications ++ s ∷ [] }
unfolding extended
added_line source l s k e c h = rw (k, e, c, h) refl

added_rows : (ws : List Written) (number : ℕ) (source : Source) → AllFit ws → ends_in_condition source.specifications ≡ false
    → all_added source (map single (rows number ws)) ≡ record source { specifications = source.specifications ++ said number ws }
added_rows [] number source h c = ap (λ (ss : List Specification). let s : Source = record source { specifications = ss } in s) (sym (append-nil source.specifications))
added_rows (w ∷ ws) number source h c =
    let r = written_reads number w h.0 in
    let l : Line = line_in_columns number (line_written w) in
    let more : Source = record source { specifications = source.specifications ++ said_one number w ∷ [] } in
    ap (λ (s : Source). all_added s (map single (rows (next_number number) ws))) (added_line source l (said_one number w) (no_keywords l r.text) r.entries c (line_says number w h.0))
    ∙ added_rows ws (next_number number) more h.1 (ends-push source.specifications (said_one number w) ∙ no_condition w.kind)
    ∙ ap (λ (ss : List Specification). let s : Source = record source { specifications = ss } in s) (append_assoc source.specifications (said_one number w ∷ []) (said (next_number number) ws))

no_selections : (ws : List Written) (number : ℕ) → flat_map selection_faults (said number ws) ≡ []
no_selections [] number = refl
no_selections (w ∷ ws) number = rw (no_selection w.kind) (no_selections ws (next_number number))

-- The last line.

last_in_line : (cs : List ℕ) (number : ℕ) → are_plain cs ≡ true → last_number number (cs ++ 10 ∷ []) ≡ number
last_in_line [] number h = refl
last_in_line (c ∷ []) number h =
    let no_feed : (c == 10) ≡ false = grind arith in
    rw no_feed refl
last_in_line (c ∷ d ∷ cs) number h =
    let parts = plain_parts c (d ∷ cs) h in
    let no_feed : (c == 10) ≡ false = grind arith in
    rw no_feed (last_in_line (d ∷ cs) number parts.1)

last_behind_line : (cs rest : List ℕ) (number : ℕ) → are_plain cs ≡ true → 0 < length rest → last_number number (cs ++ 10 ∷ rest) ≡ last_number (next_number number) rest
last_behind_line cs [] number h lt = absurd (omega arith)
last_behind_line [] (e ∷ rest) number h lt = refl
last_behind_line (c ∷ []) (e ∷ rest) number h lt =
    let no_feed : (c == 10) ≡ false = grind arith in
    rw no_feed refl
last_behind_line (c ∷ d ∷ cs) (e ∷ rest) number h lt =
    let parts = plain_parts c (d ∷ cs) h in
    let no_feed : (c == 10) ≡ false = grind arith in
    rw no_feed (last_behind_line (d ∷ cs) (e ∷ rest) number parts.1 lt)

last_written : (ws : List Written) (number : ℕ) → AllFit ws → last_number number (text_written ws) ≡ last_said number ws
last_written [] number h = refl
last_written (w ∷ []) number h = ap (last_number number) (append-nil (line_written w ++ 10 ∷ [])) ∙ last_in_line (line_written w) number (line_plain w h.0)
last_written (w ∷ v ∷ ws) number h =
    let some : 0 < length (text_written (v ∷ ws)) = simp length-append (omega arith) in
    ap (last_number number) (append_assoc (line_written w) (10 ∷ []) (text_written (v ∷ ws)))
    ∙ last_behind_line (line_written w) (text_written (v ∷ ws)) number (line_plain w h.0) some
    ∙ last_written (v ∷ ws) (next_number number) h.1

source_written : (ws : List Written) → AllFit ws → source_in (text_written ws) ≡ (let s : Source = record { file = []; specifications = said 1 ws; last_line = last_said 1 ws } in s)
unfolding source_in counted_lines last_line
source_written ws h =
    let empty : Source = record { file = []; specifications = []; last_line = last_said 1 ws } in
    ap (λ (n : ℕ). all_added (let s : Source = record { file = []; specifications = []; last_line = n } in s) (joined (counted_lines (text_written ws)))) (last_written ws 1 h)
    ∙ ap (λ (ls : List Line). all_added empty (joined ls)) (counted_rows ws 1 h)
    ∙ ap (λ (gs : List (List Line)). all_added empty gs) (joined_rows ws 1 h)
    ∙ added_rows ws 1 empty h refl

faults_written : (ws : List Written) → AllFit ws → faults_in (text_written ws) ≡ []
unfolding faults_in counted_lines
faults_written ws h =
    rw (source_written ws h, counted_rows ws 1 h, joined_rows ws 1 h, faultless_rows ws 1 h, faultless_joined ws 1 h) (no_selections ws 1)

-- a source in columns is read as it was written
pub source_of-written : (ws : List Written) → AllFit ws → source_of (text_written ws) ≡ Ok (record { file = []; specifications = said 1 ws; last_line = last_said 1 ws })
unfolding source_of
source_of-written ws h = rw (source_written ws h, faults_written ws h) refl
