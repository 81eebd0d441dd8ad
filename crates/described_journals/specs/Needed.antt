-- Which files have to be described so that a physical file's source can be? (DDS for Physical and Logical Files, REF and REFFLD. That no others are
-- described is our own.)
use Rattle.std.specs.Prelude.{ℕ, Bool, Option, Some, None, Result, Ok, Err, List, [], ◌∷◌, ◌++◌, if◌then◌else◌, slice_get}
use Rattle.std.specs.List.{filter_map, list_any}
use Rattle.std.specs.Option.{option_map}
use Rattle.entry_codec.specs.declared.kinds.FileKind.{FileKind}
use Rattle.entry_codec.specs.declared.kinds.FileKind.TheVariants.{Physical, Logical}
use Rattle.dds_source.specs.declared.faults.DdsFault.{DdsFault}
use Rattle.dds_source.specs.declared.specifications.Source.{Source}
use Rattle.dds_source.specs.Reading.{source_of}
use Rattle.dds_physical.specs.References.{refers_to}
use Rattle.journal_model.specs.Catalogue.{CatalogFile}

-- one of the sources names the file in REF or REFFLD
abbrev pub is_wanted : List ℕ → List Source → Bool
is_wanted name wanted = list_any (refers_to name) wanted

abbrev pub source_if : Result Source DdsFault → List Source
source_if (Ok source) = source ∷ []
source_if (Err fault) = []

-- with the source of this text, where nothing is wrong with it
abbrev pub with_source : (text : List ℕ) → List Source → List Source
with_source text wanted = wanted ++ source_if (source_of text)

-- a physical file before those; a logical file is none that a source may name
abbrev pub if_records : FileKind → CatalogFile → Option (List CatalogFile) → Option (List CatalogFile)
if_records Physical file earlier = option_map (λ files. file ∷ files) earlier
if_records Logical file earlier = None

-- of these files, the last one first, those that the sources name, and those that these name; nothing where one of them isn't physical
abbrev pub needed : List CatalogFile → (wanted : List Source) → Option (List CatalogFile)
needed [] wanted = Some []
needed (file ∷ earlier) wanted =
    if is_wanted file.name wanted then if_records file.kind file (needed earlier (with_source file.source wanted)) else needed earlier wanted

-- the files at these places, counted from 0
abbrev pub found : List CatalogFile → (places : List ℕ) → List CatalogFile
found files places = filter_map (slice_get files) places

-- behind those at these places
abbrev pub found_before : List CatalogFile → (places : List ℕ) → Option (List CatalogFile) → Option (List CatalogFile)
found_before files places earlier = option_map (λ more. found files places ++ more) earlier
