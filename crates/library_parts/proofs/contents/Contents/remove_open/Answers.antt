use Rattle.std.proofs.Common.{refl}
use Rattle.parts_model.proofs.IndexOpens.{IsIndexed-without_open}
use Rattle.lawful_states.proofs.LawfulLemmas.{AreOne-without_open}
use Rattle.parts_model.proofs.DueLemmas.{HasDue-kept}
use Rattle.library_parts.proofs.contents.Contents.remove_open.Goals as goal

pub invariant_of-self : goal.invariant_of-self
invariant_of-self c = rw c.remove_open.ensures (
  AreOne-without_open _ _ _ c.args.name.now c.self.invariant.0,
  HasDue-kept _ _ _ _ _ (λ job. refl) c.self.invariant.1,
  IsIndexed-without_open _ _ _ _ _ _ _ c.args.name.now c.len-len.ensures.ordered c.self.invariant.2,
)
