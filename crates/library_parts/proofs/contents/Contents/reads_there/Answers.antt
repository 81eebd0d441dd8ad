use Rattle.library_steps.specs.LogicalFiles.{bases_in}
use Rattle.parts_model.specs.Indexed.{path_read}
use Rattle.parts_model.specs.Parts.{state_of}
use Rattle.parts_model.proofs.ReadLemmas.{formats-by, formats-many, order-keyed, reads-among}
use Rattle.library_parts.proofs.contents.Contents.reads_there.Goals as goal

pub returns-clause-among : goal.returns-clause-among
returns-clause-among c =
    let inside = c.self.inside in
    let s = state_of inside.catalogue inside.members inside.next_member inside.journal inside.locks inside.jobs in
    let opened = c.args.opened.now in
    let has = rw (← c.self.view_is) at c.requires.member in
    let reads = rw (← c.self.view_is) at c.requires.reads in
    rw (← c.self.view_is)
    (reads-among s inside.jobs.orders inside.jobs.moves inside.paths c.len-files.ensures.keyed c.self.invariant.0.lawful c.at-member.ensures.lawful c.kept-paths.ensures.shared
    c.kept-paths.ensures.rooms c.self.invariant.2 opened.state opened.order c.args.file.now has reads.by c.requires.unjoined)

pub returns-clause-formats : goal.returns-clause-formats
returns-clause-formats c =
    formats-by c.args.self.now.room.paths.paths (path_read (bases_in c.args.self.now.state.files) c.args.file.now c.args.opened.now.state) c.args.opened.now.order c.requires.reads.by

pub returns-clause-keyed : goal.returns-clause-keyed
returns-clause-keyed c =
    order-keyed (bases_in c.args.self.now.state.files) c.args.self.now.room.paths.paths c.args.file.now c.args.opened.now.state c.args.opened.now.order c.requires.reads.so
    c.requires.reads.by

pub returns-clause-few : goal.returns-clause-few
returns-clause-few c =
    formats-many c.args.self.now.state.files c.args.self.now.room.paths.paths c.args.file.now c.args.opened.now.state c.args.opened.now.order c.requires.member.there
    c.requires.member.holds c.requires.reads.so c.requires.reads.by
