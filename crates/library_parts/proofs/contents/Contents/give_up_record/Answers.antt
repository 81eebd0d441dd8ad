use Rattle.std.proofs.Common.{refl}
use Rattle.parts_model.proofs.IndexOpens.{IsIndexed-without_record}
use Rattle.lawful_states.proofs.LawfulLemmas.{AreOne-without_record}
use Rattle.parts_model.proofs.DueLemmas.{HasDue-kept}
use Rattle.library_parts.proofs.contents.Contents.give_up_record.Goals as goal

pub invariant_of-self : goal.invariant_of-self
invariant_of-self c = rw c.give_up_record.ensures (
  AreOne-without_record _ _ _ c.args.member c.args.rrn c.self.invariant.0,
  HasDue-kept _ _ _ _ _ (λ job. refl) c.self.invariant.1,
  IsIndexed-without_record _ _ _ _ _ _ _ c.args.member c.args.rrn c.self.invariant.2,
)
