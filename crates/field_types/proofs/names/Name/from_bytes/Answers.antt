use Rattle.std.proofs.Common.{IsTrue, rules}
use Rattle.field_types.specs.SystemName.{is_name}
use Rattle.field_types.proofs.NameLemmas.{IsPadded-over_zeros}
use Rattle.field_types.proofs.names.Name.from_bytes.Goals as goal

pub invariant_of-result : goal.invariant_of-result
invariant_of-result c =
    let named : IsTrue (is_name c.args.text.now) = search rules in
    rw c.copy_from_slice.ensures.after (IsPadded-over_zeros c.args.text.now named)
