use Rattle.std.proofs.Common.{sym, subst, Option, IfSome}
use Rattle.field_types.specs.declared.kinds.FieldType.{FieldType}
use Rattle.record_fmt.specs.FieldTypes.{IsFieldType}
use Rattle.dds_logical.proofs.TestedLemmas.{type_allowed}
use Rattle.dds_logical.proofs.selections.allowed_type.Goals as goal

pub returns-clause-allowed : goal.returns-clause-allowed
returns-clause-allowed c =
    subst (λ (o : Option FieldType). IfSome o IsFieldType) (sym c.type_to_test.ensures) (type_allowed c.args.named.now c.args.base.now c.args.name c.requires.named c.requires.base)
