-- Where the keywords of a text begin and end.
-- (DDS for Physical and Logical Files, "Syntax rules for DDS keywords and parameter values".)
use Rattle.std.specs.Prelude.{ℕ, ◌+◌, ◌-◌, Bool, false, not, ◌&&◌, ◌||◌, ◌==◌, nat_le, List, [], ◌∷◌, ◌++◌, length, map, if◌then◌else◌}
use Rattle.std.specs.List.{list_all, before_first, list_any}
use Rattle.dds_source.specs.declared.characters.SourceCharacter.{SourceCharacter}
use Rattle.dds_source.specs.declared.characters.Place.{Place}
use Rattle.text_lines.specs.Lines.{is_blank}
use Rattle.text_lines.specs.Decimal.{is_digit}
use Rattle.dds_source.specs.Characters.{is_letter}
use Rattle.dds_source.specs.Continuation.{toggled}

-- inside apostrophes or not, and inside how many parentheses: outside all of them
abbrev pub outside : Place
outside = record { quoted = false; depth = 0 }

abbrev pub is_outside : Place → Bool
is_outside place = not place.quoted && (place.depth == 0)

-- behind one more character
abbrev pub behind : Place → ℕ → Place
behind place c =
    if place.quoted then record place { quoted = toggled place.quoted c }
    else (if c == 40 then record place { depth = place.depth + 1 }
    else (if c == 41 then record place { depth = place.depth - 1 }
    else record place { quoted = toggled place.quoted c }))

-- behind more characters
abbrev pub behind_all : Place → List ℕ → Place
behind_all place [] = place
behind_all place (c ∷ cs) = behind_all (behind place c) cs

-- a parenthesis that closes the outermost one
abbrev pub closes : Place → ℕ → Bool
closes place c = (c == 41) && is_outside (behind place c)

abbrev pub unless_empty : {A : Type 0} → List A → List (List A)
unless_empty [] = []
unless_empty (x ∷ xs) = (x ∷ xs) ∷ []

-- Keywords end before a blank, or with the parenthesis that closes their arguments.
-- What has come of a keyword, the place behind it, and what follows give the keywords from there on.
abbrev pub keyword_texts : Place → List SourceCharacter → List SourceCharacter → List (List SourceCharacter)
keyword_texts place begun [] = unless_empty begun
keyword_texts place begun (c ∷ cs) =
    if is_outside place && is_blank c.byte then unless_empty begun ++ keyword_texts place [] cs
    else (if closes place c.byte then (begun ++ c ∷ []) ∷ keyword_texts (behind place c.byte) [] cs
    else keyword_texts (behind place c.byte) (begun ++ c ∷ []) cs)

-- the keywords of a text
unfoldable pub keywords_in : List SourceCharacter → List (List SourceCharacter)
keywords_in text = keyword_texts outside [] text

-- without their places
abbrev pub bytes : List SourceCharacter → List ℕ
bytes text = map (λ c. c.byte) text

-- a letter, and up to nine letters or digits
abbrev pub is_keyword_name : List ℕ → Bool
is_keyword_name [] = false
is_keyword_name (c ∷ cs) = is_letter c && list_all (λ d. is_letter d || is_digit d) cs && nat_le (length cs) 9

-- what stands before the first parenthesis
abbrev pub name_part : List ℕ → List ℕ
name_part keyword = before_first (λ c. c == 40) keyword

abbrev pub has_parentheses : List ℕ → Bool
has_parentheses keyword = list_any (λ c. c == 40) keyword

-- an apostrophe or a parenthesis isn't closed
abbrev pub is_unfinished : List ℕ → Bool
is_unfinished keyword = not (is_outside (behind_all outside keyword))
