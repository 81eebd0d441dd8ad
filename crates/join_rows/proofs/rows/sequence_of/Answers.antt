use Rattle.std.proofs.Common.{◌≡◌, IfOk, subst}
use Rattle.join_rows.proofs.SequenceLemmas.{one-has, field-encoded}
use Rattle.join_rows.proofs.rows.sequence_of.Goals as goal

pub encode-requires-clause-there : goal.encode-requires-clause-there
encode-requires-clause-there c = one-has c.args.file.now.sequence c.args.image.now c.requires _ c.from_ref.ensures.value

pub returns-in-Field : goal.returns-in-Field
returns-in-Field c =
    subst (λ w. IfOk c.encode.result (λ key. key ≡ w)) (field-encoded c.args.file.now.sequence _ _ _ _ c.in-Field.is c.args.image.now _ c.from_ref.ensures.value) c.encode.ensures
