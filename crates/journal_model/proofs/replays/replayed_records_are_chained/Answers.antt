use Rattle.std.proofs.Common.{Some, None, refl}
use Rattle.journal_model.specs.Places.{slot_of}
use Rattle.journal_model.proofs.ReplayLemmas.{IsChained-replayed}
use Rattle.journal_model.proofs.replays.replayed_records_are_chained.Goals as goal

pub returns : goal.returns
returns c = record {
  kept = λ place s journal r. IsChained-replayed place journal s None tt r;
  from_checkpoint = λ place s journal r. IsChained-replayed place journal s (Some (slot_of s.slots place)) refl r;
}
