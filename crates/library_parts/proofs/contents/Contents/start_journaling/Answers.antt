use Rattle.lawful_states.specs.declared.changes.StatusChange.TheVariants.{Journaled}
use Rattle.parts_model.proofs.IndexStatus.{IsIndexed-status}
use Rattle.lawful_states.proofs.LawfulLemmas.{AreOne-status}
use Rattle.library_parts.proofs.contents.Contents.start_journaling.Goals as goal

pub invariant_of-self : goal.invariant_of-self
invariant_of-self c =
    rw c.journaled.ensures.files (
      AreOne-status _ _ c.args.member (Journaled c.args.sequence c.args.images) c.self.invariant.0,
      c.self.invariant.1,
      IsIndexed-status _ _ _ _ _ _ c.args.member (Journaled c.args.sequence c.args.images) c.self.invariant.2,
    )
