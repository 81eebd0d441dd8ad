-- Code page 037: which EBCDIC byte stands for which ASCII character.
-- (IBM i National Language Support, "Code pages", CCSID 37; the codes of ^ [ and ] are this project's choice.)
use Rattle.std.specs.Prelude.{◌≡◌, ℕ, ◌+◌, ◌-◌, Option, Some, None, is_none, ◌==◌, ◌&&◌, nat_le, List, [], ◌∷◌, map, position, if◌then◌else◌}

-- characters that follow one another in ASCII and whose codes follow one another too
pub record Run : Type 0 where
  pub first : ℕ
  pub last : ℕ
  pub code : ℕ

abbrev pub run : ℕ → ℕ → ℕ → Run
run first last code = record { first = first; last = last; code = code }

-- the table, by the codes of letters, digits, the blank and the special characters
abbrev pub code_page : List Run
code_page =
    run 65 73 0xC1 ∷  -- A to I
    run 74 82 0xD1 ∷  -- J to R
    run 83 90 0xE2 ∷  -- S to Z
    run 97 105 0x81 ∷  -- a to i
    run 106 114 0x91 ∷  -- j to r
    run 115 122 0xA2 ∷  -- s to z
    run 48 57 0xF0 ∷  -- 0 to 9
    run 32 32 0x40 ∷  -- blank
    run 46 46 0x4B ∷  -- .
    run 60 60 0x4C ∷  -- <
    run 40 40 0x4D ∷  -- (
    run 43 43 0x4E ∷  -- +
    run 38 38 0x50 ∷  -- &
    run 42 42 0x5C ∷  -- *
    run 41 41 0x5D ∷  -- )
    run 59 59 0x5E ∷  -- ;
    run 45 45 0x60 ∷  -- -
    run 47 47 0x61 ∷  -- /
    run 44 44 0x6B ∷  -- ,
    run 37 37 0x6C ∷  -- %
    run 95 95 0x6D ∷  -- _
    run 62 62 0x6E ∷  -- >
    run 63 63 0x6F ∷  -- ?
    run 58 58 0x7A ∷  -- :
    run 39 39 0x7D ∷  -- '
    run 61 61 0x7E ∷  -- =
    run 34 34 0x7F ∷  -- "
    run 36 36 0x5B ∷  -- $
    run 35 35 0x7B ∷  -- #
    run 64 64 0x7C ∷  -- @
    run 33 33 0x5A ∷  -- !
    run 124 124 0x4F ∷  -- |
    run 123 123 0xC0 ∷  -- {
    run 125 125 0xD0 ∷  -- }
    run 92 92 0xE0 ∷  -- \
    run 126 126 0xA1 ∷  -- ~
    run 94 94 0xB0 ∷  -- ^
    run 91 91 0xBA ∷  -- [
    run 93 93 0xBB ∷  -- ]
    run 96 96 0x79 ∷  -- `
    []

-- the code of a character, by the run that has it
abbrev pub code_in : List Run → ℕ → Option ℕ
code_in [] character = None
code_in (r ∷ rs) character =
    if nat_le r.first character && nat_le character r.last then Some (r.code + (character - r.first)) else code_in rs character

-- the character of a code, by the run that has it
abbrev pub character_in : List Run → ℕ → Option ℕ
character_in [] code = None
character_in (r ∷ rs) code =
    if nat_le r.code code && nat_le code (r.code + (r.last - r.first)) then Some (r.first + (code - r.code)) else character_in rs code

-- the EBCDIC byte of an ASCII character, where the table has it
unfoldable pub ebcdic_of : ℕ → Option ℕ
ebcdic_of character = code_in code_page character

-- the ASCII character of an EBCDIC byte, where the table has it
unfoldable pub ascii_of : ℕ → Option ℕ
ascii_of code = character_in code_page code

-- the bytes are the codes of the text's characters, one for one
abbrev pub IsEncoded : List ℕ → List ℕ → Type 0
IsEncoded text bytes = map ebcdic_of text ≡ map Some bytes

-- where the first character stands that the table doesn't have
abbrev pub first_outside : List ℕ → Option ℕ
first_outside text = position (λ character. is_none (ebcdic_of character)) text

-- what a place of a table holds, where 0 is nothing
abbrev pub entry : ℕ → Option ℕ
entry place = if place == 0 then None else Some place
