-- What comes of reading a source for CRTLF: the logical file that it describes, its first fault, or want of memory. (CL reference, CRTLF.)
use Rattle.std.specs.Prelude.{◌≡◌, ℕ, Option, Result, Ok, Err, List}
use Rattle.dds_source.specs.Reading.{source_of}
use Rattle.dds_source.specs.declared.faults.SourceError.{SourceError}
use Rattle.dds_source.specs.declared.faults.SourceError.TheVariants as source_error
use Rattle.dds_physical.specs.declared.physical_files.PhysicalSpec.{PhysicalSpec}
use Rattle.logical_model.specs.Complete.{Fails}
use Rattle.logical_model.below.dds_logical.specs.declared.logical_files.LogicalFault.{LogicalFault}
use Rattle.logical_model.below.dds_logical.specs.declared.logical_files.LogicalFault.TheVariants.{NoMemory, Fault}
use Rattle.lawful_states.specs.CreateLogicalFile.{NewLogical, logical_by}

-- why a source that can't be read describes no file
abbrev pub unread : SourceError → LogicalFault
unread source_error.NoMemory = NoMemory
unread (source_error.Fault fault) = Fault fault

-- the text with what it describes over these files, or its first fault; want of memory hides no other
abbrev pub DescribesView : (List ℕ → Option PhysicalSpec) → List ℕ → Result NewLogical LogicalFault → Type 0
DescribesView bases text (Ok new) = (new.source ≡ text) × (logical_by bases (source_of text) ≡ Ok new.spec)
DescribesView bases text (Err error) = Fails error (logical_by bases (source_of text))
