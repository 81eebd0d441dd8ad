-- What a text of lines means: its specifications, and all that is wrong with it.
-- (DDS for Physical and Logical Files, "DDS for physical and logical files: Positional entries" and "Keyword entries".)
use Rattle.std.specs.Prelude.{◌≡◌, ℕ, ◌+◌, Bool, true, false, not, ◌&&◌, nat_eq, List, [], ◌∷◌, ◌++◌, map, flat_map, Option, Some, None, Result, Ok, Err, if◌then◌else◌, codes}
use Rattle.std.specs.List.{list_any, filter_map}
use lib.Pointwise.{pointwise}
use Rattle.dds_source.specs.declared.lines.Line.{Line}
use Rattle.dds_source.specs.declared.characters.SourceCharacter.{SourceCharacter}
use Rattle.dds_source.specs.declared.faults.DdsFault.{DdsFault}
use Rattle.dds_source.specs.declared.faults.DdsCause.TheVariants.{BadName, BadNumber, UnfinishedText}
use Rattle.dds_source.specs.declared.faults.SourceError.{SourceError}
use Rattle.dds_source.specs.declared.faults.SourceError.TheVariants as errors
use Rattle.dds_source.specs.declared.keywords.Keyword.{Keyword}
use Rattle.dds_source.specs.declared.arguments.Argument.{Argument}
use Rattle.dds_source.specs.declared.specifications.Specification.{Specification}
use Rattle.dds_source.specs.declared.specifications.Source.{Source}
use Rattle.dds_source.specs.declared.specifications.SpecificationKind.{SpecificationKind}
use Rattle.dds_source.specs.declared.specifications.SpecificationKind.TheVariants as kinds
use Rattle.dds_source.specs.declared.specifications.NameEntry.{NameEntry}
use Rattle.dds_source.specs.declared.specifications.NameEntry.TheVariants as names
use Rattle.dds_source.specs.Lines.{at, has_entries, counted_lines, last_line}
use Rattle.dds_source.specs.Entries.{when, kind_of, name_of_line, name_or_blank, columns_of, line_faults}
use Rattle.dds_source.specs.Faults.{first_after, IsFirst}
use Rattle.dds_source.specs.Continuation.{used, goes_on, joined, joined_text}
use Rattle.dds_source.specs.KeywordTexts.{keywords_in, bytes, is_keyword_name, name_part, has_parentheses, is_unfinished}
use Rattle.dds_source.specs.ArgumentTexts.{arguments_in, argument_of, is_bad_hexadecimal}

-- Keywords.

-- what is wrong with a keyword, at its first character: its name, a literal X'..' in its arguments, or that it isn't finished
abbrev pub text_faults : SourceCharacter → List ℕ → Bool → List DdsFault
text_faults c text has_bad_literal =
    when (not (is_keyword_name (name_part text))) (record { line = c.line; column = c.column; cause = BadName })
    ++ when has_bad_literal (record { line = c.line; column = c.column; cause = BadNumber })
    ++ when (is_unfinished text) (record { line = c.line; column = c.column; cause = UnfinishedText })

unfoldable pub keyword_faults : List SourceCharacter → List DdsFault
keyword_faults [] = []
keyword_faults (c ∷ cs) = text_faults c (bytes (c ∷ cs)) (list_any is_bad_hexadecimal (arguments_in (bytes (c ∷ cs))))

-- the keyword that stands there, if its name is one, with its arguments where there are parentheses
abbrev pub text_keyword : SourceCharacter → List ℕ → List Argument → Option Keyword
text_keyword c text arguments =
    if is_keyword_name (name_part text)
    then Some (record { name = name_part text; line = c.line; column = c.column; arguments = if has_parentheses text then Some arguments else None })
    else None

unfoldable pub keyword_of : List SourceCharacter → Option Keyword
keyword_of [] = None
keyword_of (c ∷ cs) = text_keyword c (bytes (c ∷ cs)) (map argument_of (arguments_in (bytes (c ∷ cs))))

-- the keywords of joined lines
unfoldable pub keywords_of : List Line → List Keyword
keywords_of lines = filter_map keyword_of (keywords_in (joined_text lines))

-- the first character of the last keyword that has begun
abbrev pub last_begun : Option SourceCharacter → List (List SourceCharacter) → Option SourceCharacter
last_begun before [] = before
last_begun before ([] ∷ keywords) = last_begun before keywords
last_begun before ((c ∷ cs) ∷ keywords) = last_begun (Some c) keywords

-- where a text that should go on isn't finished: at the last keyword that has begun, or else at the sign
abbrev pub unfinished_at : Option SourceCharacter → Line → DdsFault
unfinished_at None line = record { line = line.number; column = 44 + used line; cause = UnfinishedText }
unfinished_at (Some c) line = record { line = c.line; column = c.column; cause = UnfinishedText }

-- the last of joined lines should go on, and doesn't
abbrev pub sign_faults : Option SourceCharacter → List Line → List DdsFault
sign_faults begun [] = []
sign_faults begun (line ∷ []) = when (goes_on line) (unfinished_at begun line)
sign_faults begun (l ∷ m ∷ ls) = sign_faults begun (m ∷ ls)

-- what is wrong with the keywords of joined lines
unfoldable pub joined_faults : List Line → List DdsFault
joined_faults lines = flat_map keyword_faults (keywords_in (joined_text lines)) ++ sign_faults (last_begun None (keywords_in (joined_text lines))) lines

-- Specifications.

abbrev pub is_record : SpecificationKind → Bool
is_record kinds.Record = true
is_record kinds.Field = false
is_record kinds.Key = false
is_record kinds.Select = false
is_record kinds.Omit = false
is_record kinds.And = false
is_record kinds.Join = false

-- a select or an omit
abbrev pub is_selection : SpecificationKind → Bool
is_selection kinds.Record = false
is_selection kinds.Field = false
is_selection kinds.Key = false
is_selection kinds.Select = true
is_selection kinds.Omit = true
is_selection kinds.And = false
is_selection kinds.Join = false

-- one of them, or a further condition
abbrev pub is_condition : SpecificationKind → Bool
is_condition kinds.Record = false
is_condition kinds.Field = false
is_condition kinds.Key = false
is_condition kinds.Select = true
is_condition kinds.Omit = true
is_condition kinds.And = true
is_condition kinds.Join = false

-- the last specification is a condition
abbrev pub ends_in_condition : List Specification → Bool
ends_in_condition [] = false
ends_in_condition (s ∷ []) = is_condition s.kind
ends_in_condition (s ∷ t ∷ ss) = ends_in_condition (t ∷ ss)

-- a record format has come
abbrev pub has_record : List Specification → Bool
has_record specifications = list_any (λ s. is_record s.kind) specifications

-- more keywords for the last specification
abbrev pub with_keywords : List Keyword → List Specification → List Specification
with_keywords keywords [] = []
with_keywords keywords (s ∷ []) = record s { keywords = s.keywords ++ keywords } ∷ []
with_keywords keywords (s ∷ t ∷ ss) = s ∷ with_keywords keywords (t ∷ ss)

-- the specification of a line
unfoldable pub specification_of : Bool → Line → List Keyword → Specification
specification_of is_behind_condition line keywords = record {
  line = line.number;
  kind = kind_of is_behind_condition (at line 17);
  name = name_or_blank (name_of_line line);
  columns = columns_of line;
  keywords = keywords;
}

-- What a line and its keywords add: a specification where the line has entries, else keywords, to the specification before them or, where no record format has come, to the file.
unfoldable pub extended : Source → Line → List Keyword → Source
extended source line keywords =
    if has_entries line then record source { specifications = source.specifications ++ specification_of (ends_in_condition source.specifications) line keywords ∷ [] }
    else (if has_record source.specifications then record source { specifications = with_keywords keywords source.specifications }
    else record source { file = source.file ++ keywords })

-- what joined lines add
abbrev pub added : Source → List Line → Source
added source [] = source
added source (line ∷ lines) = extended source line (keywords_of (line ∷ lines))

-- what joined lines after joined lines add
abbrev pub all_added : Source → List (List Line) → Source
all_added source [] = source
all_added source (lines ∷ more) = all_added (added source lines) more

-- a select or omit without a name that hasn't the keyword ALL
abbrev pub is_blank_name : NameEntry → Bool
is_blank_name names.Blank = true
is_blank_name (names.Named name) = false
is_blank_name names.StarNone = false

abbrev pub lacks_all : Specification → Bool
lacks_all s = is_selection s.kind && is_blank_name s.name && not (list_any (λ k. pointwise nat_eq k.name (codes "ALL")) s.keywords)

abbrev pub selection_faults : Specification → List DdsFault
selection_faults s = when (lacks_all s) (record { line = s.line; column = 19; cause = BadName })

-- The whole.

-- the source that a text is
unfoldable pub source_in : List ℕ → Source
source_in text = all_added (record { file = []; specifications = []; last_line = last_line text }) (joined (counted_lines text))

-- all that is wrong with it
unfoldable pub faults_in : List ℕ → List DdsFault
faults_in text =
    flat_map line_faults (counted_lines text)
    ++ flat_map joined_faults (joined (counted_lines text))
    ++ flat_map selection_faults (source_in text).specifications

-- the source, or the first of its faults
abbrev pub source_unless : Source → Option DdsFault → Result Source DdsFault
source_unless source None = Ok source
source_unless source (Some fault) = Err fault

unfoldable pub source_of : List ℕ → Result Source DdsFault
source_of text = source_unless (source_in text) (first_after None (faults_in text))

-- what reading returned is what it should be, unless memory ran out
abbrev pub Fails : SourceError → Result Source DdsFault → Type 0
Fails errors.NoMemory wanted = Unit {0}
Fails (errors.Fault fault) wanted = wanted ≡ Err fault

abbrev pub Gives : Result Source SourceError → Result Source DdsFault → Type 0
Gives (Ok source) wanted = wanted ≡ Ok source
Gives (Err error) wanted = Fails error wanted

-- a fault that was reported is the first
abbrev pub ReportsFirst : List DdsFault → SourceError → Type 0
ReportsFirst faults errors.NoMemory = Unit {0}
ReportsFirst faults (errors.Fault fault) = IsFirst faults fault
