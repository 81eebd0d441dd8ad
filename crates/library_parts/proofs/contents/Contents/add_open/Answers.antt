use Rattle.std.proofs.Common.{◌+◌, [], ◌∷◌, refl}
use Rattle.parts_model.specs.Opens.{order_by}
use Rattle.parts_model.specs.Table.{job_of_number}
use Rattle.library_model.specs.Named.{named}
use Rattle.library_steps.specs.LogicalFiles.{bases_in}
use Rattle.library_steps.specs.Opens.{new_open}
use Rattle.parts_model.proofs.FindLemmas.{opens-members}
use Rattle.parts_model.proofs.OpenLooks.{reads-renumbered}
use Rattle.parts_model.proofs.IndexOpens.{IsIndexed-with_open}
use Rattle.lawful_states.proofs.LawfulLemmas.{AreOne-with_open}
use Rattle.parts_model.proofs.DueLemmas.{HasDue-kept}
use Rattle.library_parts.proofs.contents.Contents.add_open.Goals as goal

pub add_open-requires-clause-start : goal.add_open-requires-clause-start
add_open-requires-clause-start c = c.requires.reads.start

pub invariant_of-self : goal.invariant_of-self
invariant_of-self c =
    let inside = c.self.inside in
    let args = c.args.args.now in
    let holds = opens-members inside.catalogue.files args c.args.members c.self.invariant.2.views (rw (← c.self.view_is) at c.requires.there) in
    let reads = rw (← c.self.view_is) at c.requires.reads in
    let order = order_by ((job_of_number c.args.job inside.jobs.jobs).opened + 1) c.args.reads in
    rw c.add_open.ensures (
      AreOne-with_open _ _ _ args c.args.members c.self.invariant.0 holds,
      HasDue-kept _ _ _ _ _ (λ job. refl) c.self.invariant.1,
      IsIndexed-with_open _ _ _ _ _ _ _ args c.args.members order
          (reads-renumbered (bases_in inside.catalogue.files) inside.paths.paths (new_open args 0 c.args.members) (order_by 0 c.args.reads) order (named args.file inside.catalogue.files) refl refl refl reads.order)
          c.self.invariant.2,
    )
