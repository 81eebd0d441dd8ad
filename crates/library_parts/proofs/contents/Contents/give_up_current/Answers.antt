use Rattle.std.proofs.Common.{refl}
use Rattle.library_steps.specs.ChangeRecord.{without_current}
use Rattle.lawful_states.proofs.BaseLemmas.{OpenHolds-alike}
use Rattle.parts_model.proofs.IndexOpens.{IsIndexed-without_current}
use Rattle.lawful_states.proofs.LawfulLemmas.{AreOne-open_changed}
use Rattle.parts_model.proofs.DueLemmas.{HasDue-kept}
use Rattle.library_parts.proofs.contents.Contents.give_up_current.Goals as goal

pub invariant_of-self : goal.invariant_of-self
invariant_of-self c = rw c.give_up_current.ensures (
  AreOne-open_changed _ _ _ c.args.opened without_current c.self.invariant.0
      (λ opened holds. OpenHolds-alike _ opened (without_current opened) refl refl refl refl holds),
  HasDue-kept _ _ _ _ _ (λ job. refl) c.self.invariant.1,
  IsIndexed-without_current _ _ _ _ _ _ _ c.args.opened c.self.invariant.2,
)
