-- What a file is as the base of a logical file.
use Rattle.std.proofs.Common.{◌≡◌, Some, None, refl, ap}
use Rattle.dds_physical.specs.declared.physical_files.PhysicalSpec.{PhysicalSpec}
use Rattle.logical_model.specs.Bases.{FileSpec, PhysicalFile, LogicalFile}
use Rattle.lawful_states.specs.State.{FileState, physical_in, if_physical, format_in}
use Rattle.lawful_states.proofs.NameLemmas.{some-equal}

-- a physical file is its own base, with the fields of what it is
pub physical-base : (file : FileSpec) (its : FileState) (spec : PhysicalSpec) → Some spec ≡ physical_in file
    → (if_physical file its ≡ Some its) × (spec.format ≡ format_in file)
physical-base (PhysicalFile other) its spec is = (refl, ap (λ (s : PhysicalSpec). s.format) (some-equal is))
physical-base (LogicalFile other) its spec is = absurd cc

-- what isn't physical is none
pub logical-base : (file : FileSpec) (its : FileState) → None ≡ physical_in file → if_physical file its ≡ None
logical-base (PhysicalFile other) its is = absurd cc
logical-base (LogicalFile other) its is = refl
