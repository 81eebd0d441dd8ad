-- The physical file that a source describes, and all that is wrong with the source.
-- (DDS for Physical and Logical Files, physical files; Database Programming, "Describing a physical file".)
use Rattle.std.specs.Prelude.{◌≡◌, ℕ, ◌≤◌, true, List, [], ◌++◌, Option, Some, None, is_some, Result, Ok, Err, if◌then◌else◌, codes}
use Rattle.std.specs.declared.alloc.AllocError.{AllocError}
use Rattle.key_spec.specs.declared.Ties.{Ties}
use Rattle.key_spec.specs.declared.Ties.TheVariants.{Rising, Falling}
use Rattle.record_fmt.specs.declared.formats.Format.{Format}
use Rattle.record_fmt.specs.declared.formats.TheConstants.{MOST_BYTES}
use Rattle.record_fmt.specs.Layout.{record_length}
use Rattle.dds_source.specs.declared.faults.DdsFault.{DdsFault}
use Rattle.dds_source.specs.declared.keywords.Keyword.{Keyword}
use Rattle.dds_source.specs.declared.specifications.Source.{Source}
use Rattle.dds_source.specs.Faults.{first_after, IsFirst}
use Rattle.dds_physical.specs.declared.draft.Draft.{Draft}
use Rattle.dds_physical.specs.declared.physical_files.PhysicalSpec.{PhysicalSpec}
use Rattle.dds_physical.specs.declared.physical_files.PhysicalError.{PhysicalError}
use Rattle.dds_physical.specs.declared.physical_files.PhysicalError.TheVariants as errors
use Rattle.dds_physical.specs.Keywords.{is_there}
use Rattle.dds_physical.specs.References.{reference_file}
use Rattle.dds_physical.specs.Draft.{nothing}
use Rattle.dds_physical.specs.Lines.{lines_faults, lines_described}
use Rattle.dds_physical.specs.WholeFile.{file_faults, whole_faults}

-- what the lines of a source describe
unfoldable pub draft_of : (List ℕ → Option Format) → Source → Draft
draft_of formats source = lines_described formats (reference_file source.file) nothing source.specifications

-- all that is wrong with a source, of whose lines only the first at fault is judged
unfoldable pub faults_of : (List ℕ → Option Format) → Source → List DdsFault
faults_of formats source =
    lines_faults formats (reference_file source.file) nothing source.specifications
    ++ file_faults formats source.file source.specifications
    ++ whole_faults source.last_line source.specifications (draft_of formats source)

-- LIFO: the last record first
abbrev pub ties_of : List Keyword → Ties
ties_of ks = if is_there (codes "LIFO") ks then Falling else Rising

abbrev pub name_or_none : Option (List ℕ) → List ℕ
name_or_none None = []
name_or_none (Some name) = name

-- the file of a draft, with the file's keywords
abbrev pub finished : Draft → List Keyword → PhysicalSpec
finished d ks = record {
  format = record { name = name_or_none d.name; fields = d.fields };
  keys = record { parts = d.key_parts; unique = is_there (codes "UNIQUE") ks; ties = ties_of ks };
}

-- the physical file that a source describes
unfoldable pub specification : (List ℕ → Option Format) → Source → PhysicalSpec
specification formats source = finished (draft_of formats source) source.file

-- the physical file, or the first fault
abbrev pub specification_unless : PhysicalSpec → Option DdsFault → Result PhysicalSpec DdsFault
specification_unless spec None = Ok spec
specification_unless spec (Some fault) = Err fault

unfoldable pub physical_of : (List ℕ → Option Format) → Source → Result PhysicalSpec DdsFault
physical_of formats source = specification_unless (specification formats source) (first_after None (faults_of formats source))

-- what was answered is what it should be, unless memory ran out
abbrev pub Fails : PhysicalError → Result PhysicalSpec DdsFault → Type 0
Fails errors.NoMemory wanted = Unit {0}
Fails (errors.Fault fault) wanted = wanted ≡ Err fault

abbrev pub Gives : Result PhysicalSpec PhysicalError → Result PhysicalSpec DdsFault → Type 0
Gives (Ok spec) wanted = wanted ≡ Ok spec
Gives (Err error) wanted = Fails error wanted

-- a fault that was reported is the first
abbrev pub ReportsFirst : List DdsFault → PhysicalError → Type 0
ReportsFirst faults errors.NoMemory = Unit {0}
ReportsFirst faults (errors.Fault fault) = IsFirst faults fault

-- a draft of which a file can be made: the format has a name, and the record isn't too long
pub record IsComplete (d : Draft) : Type 0 where
  pub named : is_some d.name ≡ true
  pub narrow : record_length d.fields ≤ MOST_BYTES

-- where there is no fault, the draft is complete
abbrev pub CompleteUnless : Option DdsFault → Draft → Type 0
CompleteUnless None d = IsComplete d
CompleteUnless (Some fault) d = Unit {0}

abbrev pub IfNothing : Result (Option DdsFault) AllocError → Draft → Type 0
IfNothing (Ok fault) d = CompleteUnless fault d
IfNothing (Err e) d = Unit {0}
