use Rattle.lawful_states.specs.declared.changes.StatusChange.TheVariants.{Unjournaled}
use Rattle.parts_model.proofs.IndexStatus.{IsIndexed-status}
use Rattle.lawful_states.proofs.LawfulLemmas.{AreOne-status}
use Rattle.library_parts.proofs.contents.Contents.end_journaling.Goals as goal

pub invariant_of-self : goal.invariant_of-self
invariant_of-self c =
    rw c.unjournaled.ensures.files (
      AreOne-status _ _ c.args.member (Unjournaled c.args.sequence c.args.records) c.self.invariant.0,
      c.self.invariant.1,
      IsIndexed-status _ _ _ _ _ _ c.args.member (Unjournaled c.args.sequence c.args.records) c.self.invariant.2,
    )
