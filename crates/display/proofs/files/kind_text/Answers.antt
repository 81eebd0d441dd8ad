use Rattle.std.proofs.Common.{◌≡◌, ◌∙◌, refl, sym}
use Rattle.std.specs.Prelude.{codes}
use Rattle.entry_codec.specs.declared.kinds.FileKind.TheVariants.{Physical, Logical}
use Rattle.logical_model.specs.Bases.{FileSpec, PhysicalFile, LogicalFile}
use Rattle.file_catalogue.specs.Bodies.{kind_in}
use Rattle.display.specs.Display.{kind_text}
use Rattle.display.proofs.files.kind_text.Goals as goal

physical-kind : (spec : FileSpec) → kind_in spec ≡ Physical → codes "*PHY" ≡ kind_text spec
physical-kind (PhysicalFile spec) is = refl
physical-kind (LogicalFile view) is = absurd cc

logical-kind : (spec : FileSpec) → kind_in spec ≡ Logical → codes "*LGL" ≡ kind_text spec
logical-kind (PhysicalFile spec) is = absurd cc
logical-kind (LogicalFile view) is = refl

pub returns-in-Physical : goal.returns-in-Physical
returns-in-Physical c = physical-kind c.args.file.now.spec (sym c.kind.ensures ∙ c.in-Physical.is)

pub returns-in-Logical : goal.returns-in-Logical
returns-in-Logical c = logical-kind c.args.file.now.spec (sym c.kind.ensures ∙ c.in-Logical.is)
