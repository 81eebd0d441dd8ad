use Rattle.std.proofs.Common.{◌++◌, ◌∙◌, Err, ap}
use Rattle.join_rows.proofs.StepLemmas.{sought-added, sought-refused}
use Rattle.join_rows.proofs.wanted.add_wanted.Goals as goal

pub returns-in-Ok : goal.returns-in-Ok
returns-in-Ok c =
    sought-added c.args.pair.now c.args.image.now c.in_ok-value.value c.in_ok-sought.sought c.args.key.now.items c.in-Ok.bytes c.extend_from_slice.new.self.items
    c.in_ok-value.ensures c.in_ok-sought.ensures c.in-Ok.ensures.key
    (λ fault h. absurd (let e = (c.in-Ok.ensures.refused fault).1 h in cc))
    (c.in_ok-extend_from_slice-in-Ok.ensures.items ∙ ap (λ w. c.args.key.now.items ++ w) c.as_bytes.ensures)

pub returns-in-Err-Refused : goal.returns-in-Err-Refused
returns-in-Err-Refused c =
    sought-refused c.args.pair.now c.args.image.now c.in_ok-value.value c.in_ok-sought.sought c.args.key.now.items c.in-Err-Refused.field-0-0
    c.in_ok-value.ensures c.in_ok-sought.ensures ((c.encode_values.ensures.refused c.in-Err-Refused.field-0-0).0 (c.in-Err-Refused.is ∙ ap Err c.in-Err-Refused.field-0-is))
