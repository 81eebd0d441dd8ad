-- What is held of a file that was described? (Our own.)
use Rattle.std.specs.Prelude.{ℕ, Option, Some, None, List, [], ◌∷◌}
use Rattle.logical_model.specs.Bases.{FileSpec}
use Rattle.journal_model.specs.Catalogue.{CatalogFile}
use Rattle.library_model.specs.Named.{Named}
use Rattle.library_steps.specs.State.{FileState}
use Rattle.file_catalogue.specs.declared.bodies.FileBody.{FileBody}
use Rattle.file_catalogue.specs.Bodies.{made_of}
use Rattle.named_bases.specs.Sources.{spec_beside, with_described}

-- what a source describes, as a file without members
abbrev pub described_as : (source : List ℕ) → Option FileSpec → Option FileState
described_as source None = None
described_as source (Some spec) = Some (record { source = source; spec = spec; members = [] })

-- a file without members
abbrev pub state_of : FileBody → FileState
state_of body = made_of body []

-- ---- one file more

abbrev pub with_file : CatalogFile → Named FileState → Named FileState
with_file file before = with_described file (spec_beside before file.kind file.source) before

-- these files behind others, the last one first
abbrev pub described_upon : Named FileState → List CatalogFile → Named FileState
described_upon before [] = before
described_upon before (file ∷ earlier) = with_file file (described_upon before earlier)
