use Rattle.std.proofs.Common.{◌∙◌, ℕ, Result, List, Err, ap}
use Rattle.field_types.specs.declared.faults.RecordFault.{RecordFault}
use Rattle.library_steps.specs.WriteRecord.{packed}
use Rattle.record_changes.proofs.images.stored_image.Goals as goal

pub returns-in-Ok-clause-packed : goal.returns-in-Ok-clause-packed
returns-in-Ok-clause-packed c = rw c.from_vec.ensures (ap (λ (r : Result (List ℕ) RecordFault). packed r) c.in-Ok.ensures.packed)

pub returns-in-Ok-clause-holds : goal.returns-in-Ok-clause-holds
returns-in-Ok-clause-holds c = rw c.from_vec.ensures c.in-Ok.ensures.holds

pub returns-in-Err-Refused-clause-packed : goal.returns-in-Err-Refused-clause-packed
returns-in-Err-Refused-clause-packed c =
    ap (λ (r : Result (List ℕ) RecordFault). packed r) (rw (c.in-Err-Refused.is ∙ ap Err c.in-Err-Refused.field-0-is) at c.image_given.ensures.packed)
