use Rattle.std.proofs.Common.{ℕ, List, not, ◌∙◌, ap}
use Rattle.std.specs.Option.{is_some}
use Rattle.record_fmt.specs.Records.{record_held}
use Rattle.library_core.proofs.OwnedLemmas.{bad-record}
use Rattle.library_core.proofs.told.is_record.Goals as goal

pub returns-then-image-length-clause-other : goal.returns-then-image-length-clause-other
returns-then-image-length-clause-other c = λ bad is.
    bad-record (λ (bytes : List ℕ). is_some (record_held c.args.format.now.fields bytes)) c.args.image.now c.first_bad.result c.first_bad.ensures (c.is_none.ensures ∙ ap not bad) is.values
