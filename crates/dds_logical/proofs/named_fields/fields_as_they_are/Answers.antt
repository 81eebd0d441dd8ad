use Rattle.std.proofs.Common.{sym, subst}
use Rattle.record_fmt.proofs.LayoutLemmas.{allowed-at}
use Rattle.dds_logical.specs.declared.named_fields.NamedField.{NamedField}
use Rattle.dds_logical.specs.Named.{IsShown}
use Rattle.dds_logical.proofs.named_fields.fields_as_they_are.Goals as goal

pub push-requires : goal.push-requires
push-requires c =
    subst (λ (f : NamedField). IsShown f) (sym c.in_ok-named.ensures)
    (allowed-at 0 c.args.base.now c.loop-field.field-index c.field-item.result c.requires.lies c.loop-field-test.true c.field-item.is)
