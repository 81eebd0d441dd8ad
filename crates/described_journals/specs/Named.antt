-- Which files does a logical file's source name, and is this one among them? (DDS for Physical and Logical Files, PFILE and JFILE.)
use Rattle.std.specs.Prelude.{ℕ, Bool, false, Option, Some, None, List, [], ◌∷◌, codes}
use Rattle.std.specs.Str.{bytes_eq}
use Rattle.dds_source.specs.declared.keywords.Keyword.{Keyword}
use Rattle.dds_physical.specs.Keywords.{first_named}
use Rattle.dds_physical.specs.References.{file_of_keyword}
use Rattle.dds_logical.specs.FormatLines.{FormatLines}
use Rattle.dds_logical.specs.JoinViews.{files_joined}

-- the files of the first format's JFILE
abbrev pub first_joined : List FormatLines → List (List ℕ)
first_joined [] = []
first_joined (f ∷ fs) = files_joined f

-- the argument is this name
abbrev pub named_argument : (name : List ℕ) → Option (List ℕ) → Bool
named_argument name None = false
named_argument name (Some other) = bytes_eq name other

-- PFILE names this file
abbrev pub named_base : (name : List ℕ) → List Keyword → Bool
named_base name keywords = named_argument name (file_of_keyword (first_named (codes "PFILE") keywords))
