-- What a file is by its data description. (DDS for Physical and Logical Files.)
use Rattle.std.specs.Prelude.{ℕ, Option, Some, None, List}
use Rattle.entry_codec.specs.declared.kinds.FileKind.{FileKind}
use Rattle.entry_codec.specs.declared.kinds.FileKind.TheVariants as kinds
use Rattle.logical_model.below.dds_logical.specs.declared.views.LogicalSpec.{LogicalSpec}
use Rattle.logical_model.specs.Bases.{FileSpec, PhysicalFile, LogicalFile}
use Rattle.library_model.specs.Named.{Named}
use Rattle.lawful_states.specs.State.{FileState, MemberStatus}
use Rattle.file_catalogue.specs.declared.bodies.FileBody.{FileBody}
use Rattle.file_catalogue.specs.declared.bodies.FileBody.TheVariants.{Physical, Logical}

abbrev pub source_in : FileBody → List ℕ
source_in (Physical described) = described.source
source_in (Logical view) = view.source

abbrev pub spec_in : FileBody → FileSpec
spec_in (Physical described) = PhysicalFile described.spec
spec_in (Logical view) = LogicalFile view.spec

-- the file with these members
abbrev pub made_of : FileBody → Named MemberStatus → FileState
made_of body members = record { source = source_in body; spec = spec_in body; members = members }

abbrev pub logical_in : FileSpec → Option LogicalSpec
logical_in (PhysicalFile spec) = None
logical_in (LogicalFile spec) = Some spec

abbrev pub kind_in : FileSpec → FileKind
kind_in (PhysicalFile spec) = kinds.Physical
kind_in (LogicalFile spec) = kinds.Logical
