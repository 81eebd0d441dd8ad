-- What comes of reading a source for CRTPF: the file that it describes, its first fault, or want of memory. (CL reference, CRTPF.)
use Rattle.std.specs.Prelude.{◌≡◌, ℕ, Option, Result, Ok, Err, List}
use Rattle.record_fmt.specs.declared.formats.Format.{Format}
use Rattle.dds_source.specs.declared.faults.SourceError.{SourceError}
use Rattle.dds_source.specs.declared.faults.SourceError.TheVariants as source_error
use Rattle.dds_physical.specs.declared.physical_files.PhysicalError.{PhysicalError}
use Rattle.dds_physical.specs.declared.physical_files.PhysicalError.TheVariants.{NoMemory, Fault}
use Rattle.lawful_states.specs.CreatePhysicalFile.{NewFile, described}

-- why a source that can't be read describes no file
abbrev pub unread : SourceError → PhysicalError
unread source_error.NoMemory = NoMemory
unread (source_error.Fault fault) = Fault fault

-- the text with what it describes, or its first fault; want of memory hides no other
abbrev pub Describes : (List ℕ → Option Format) → List ℕ → Result NewFile PhysicalError → Type 0
Describes formats text (Ok new) = (new.source ≡ text) × (described formats text ≡ Ok new.spec)
Describes formats text (Err NoMemory) = Unit {0}
Describes formats text (Err (Fault fault)) = described formats text ≡ Err fault
