-- Which fields does a physical file have that a logical file is over? (DDS for Physical and Logical Files, PFILE and JFILE.)
use Rattle.std.specs.Prelude.{ℕ, List, [], Option, Some, None}
use Rattle.record_fmt.specs.declared.formats.Field.{Field}
use Rattle.dds_physical.specs.declared.physical_files.PhysicalSpec.{PhysicalSpec}

abbrev pub fields_of_base : Option PhysicalSpec → List Field
fields_of_base None = []
fields_of_base (Some base) = base.format.fields

-- none where the file isn't there
abbrev pub fields_of_file : (List ℕ → Option PhysicalSpec) → List ℕ → List Field
fields_of_file bases file = fields_of_base (bases file)

-- or no file is named
abbrev pub fields_of_name : (List ℕ → Option PhysicalSpec) → Option (List ℕ) → List Field
fields_of_name bases None = []
fields_of_name bases (Some file) = fields_of_file bases file
