use Rattle.std.proofs.Common.{◌∙◌, Err, true, ap, refl}
use Rattle.access_path.specs.GivenValues.{key_fault}
use Rattle.access_path.below.key_order.specs.declared.given.KeyFault.TheVariants.{Refused}
use Rattle.parts_model.specs.Reads.{refusal}
use Rattle.parts_model.proofs.HitLemmas.{key-stands, no-fault}
use Rattle.library_parts.proofs.reading.bytes_of_values.Goals as goal

pub returns-in-Ok : goal.returns-in-Ok
returns-in-Ok c =
    let parts = c.args.parts.now in
    let values = c.args.values.now in
    let fits = no-fault Refused (key_fault parts values) c.encode_values.result c.in-Ok.key c.in-Ok.is c.encode_values.ensures.refused in (
      refl,
      key-stands parts values c.in-Ok.key fits c.are_of_bytes.ensures (rw c.in-Ok.is at c.encode_values.ensures.key)
          (c.given_keys_are_read_back.ensures.values parts values c.requires.allowed fits c.are_of_bytes.ensures),
    )

pub returns-in-Err-Refused : goal.returns-in-Err-Refused
returns-in-Err-Refused c =
    ap (refusal true) ((c.encode_values.ensures.refused c.in-Err-Refused.fault).0 (c.in-Err-Refused.is ∙ ap Err c.in-Err-Refused.field-0-is))
