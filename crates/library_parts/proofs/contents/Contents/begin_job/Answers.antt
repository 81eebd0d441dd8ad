use Rattle.parts_model.proofs.DueLemmas.{HasDue-begun}
use Rattle.parts_model.proofs.IndexOpens.{IsIndexed-begun}
use Rattle.lawful_states.proofs.LawfulLemmas.{AreOne-begun}
use Rattle.parts_model.proofs.LawfulLemmas.{OnErr-jobs}
use Rattle.library_parts.proofs.contents.Contents.begin_job.Goals as goal

pub invariant_of-self : goal.invariant_of-self
invariant_of-self c =
    let kept = OnErr-jobs c.begin.result c.begin.new.self c.self.inside.jobs c.begin.ensures.unchanged in (
      AreOne-begun _ _ c.args.name c.begin.result c.begin.new.self.jobs c.self.invariant.0 c.begin.ensures.begun kept,
      HasDue-begun _ _ _ _ c.args.name c.begin.result c.self.invariant.1 c.begin.ensures.begun kept,
      IsIndexed-begun _ _ c.self.inside.jobs c.begin.new.self _ c.args.name c.begin.result c.self.invariant.2 c.begin.ensures.begun c.begin.ensures.kept c.begin.ensures.unchanged,
    )
