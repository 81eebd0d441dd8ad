use Rattle.library_steps.specs.State.{memory_of}
use Rattle.parts_model.specs.Parts.{joined}
use Rattle.parts_model.proofs.FreePaths.{all-free}
use Rattle.parts_model.proofs.NewRecords.{is-new}
use Rattle.library_parts.proofs.contents.Contents.keys_free.Goals as goal

pub has_free_keys-requires-clause-asked : goal.has_free_keys-requires-clause-asked
has_free_keys-requires-clause-asked c =
    let parts = c.self.inside in
    let all = joined parts.catalogue parts.members parts.next_member parts.journal parts.locks parts.jobs parts.due parts.paths in
    rw (← c.self.view_is)
    (is-new all c.args.member c.args.rrn c.args.image.now parts.jobs.orders parts.jobs.moves c.self.invariant.0.lawful c.at-none.ensures.lawful c.self.invariant.2 c.kept-kept.ensures.shared
    c.len-files.ensures.unique c.len-files.ensures.keyed (rw (← c.self.view_is) at c.requires.values) (rw (← c.self.view_is) at c.requires.fits) c.are_bytes.ensures)

pub returns-then-free : goal.returns-then-free
returns-then-free c =
    let parts = c.self.inside in
    let all = joined parts.catalogue parts.members parts.next_member parts.journal parts.locks parts.jobs parts.due parts.paths in
    let asked = (is-new all c.args.member c.args.rrn c.args.image.now parts.jobs.orders parts.jobs.moves c.self.invariant.0.lawful c.at-none.ensures.lawful c.self.invariant.2
    c.kept-kept.ensures.shared c.len-files.ensures.unique c.len-files.ensures.keyed (rw (← c.self.view_is) at c.requires.values) (rw (← c.self.view_is) at c.requires.fits) c.are_bytes.ensures) in
    rw (← c.self.view_is)
    (all-free (memory_of all.state) c.args.job c.args.commit c.args.member c.args.rrn c.args.image.now parts.paths.paths ((rw (← c.self.view_is) at c.in_ok-free.ensures) c.if-free.true) asked.kept)

pub first_refusal-requires-clause-asked : goal.first_refusal-requires-clause-asked
first_refusal-requires-clause-asked c =
    let parts = c.self.inside in
    let all = joined parts.catalogue parts.members parts.next_member parts.journal parts.locks parts.jobs parts.due parts.paths in
    rw (← c.self.view_is)
    (is-new all c.args.member c.args.rrn c.args.image.now parts.jobs.orders parts.jobs.moves c.self.invariant.0.lawful c.at-none.ensures.lawful c.self.invariant.2 c.kept-kept.ensures.shared
    c.len-files.ensures.unique c.len-files.ensures.keyed (rw (← c.self.view_is) at c.requires.values) (rw (← c.self.view_is) at c.requires.fits) c.are_bytes.ensures)
