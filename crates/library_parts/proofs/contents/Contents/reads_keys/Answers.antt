use Rattle.library_steps.specs.LogicalFiles.{bases_in}
use Rattle.parts_model.specs.Indexed.{path_read}
use Rattle.parts_model.proofs.ReadLemmas.{formats-by, order-keyed}
use Rattle.library_parts.proofs.contents.Contents.reads_keys.Goals as goal

pub returns-clause-formats : goal.returns-clause-formats
returns-clause-formats c =
    formats-by c.args.self.now.room.paths.paths (path_read (bases_in c.args.self.now.state.files) c.args.file.now c.args.opened.now.state) c.args.opened.now.order c.requires.by

pub returns-clause-keyed : goal.returns-clause-keyed
returns-clause-keyed c =
    order-keyed (bases_in c.args.self.now.state.files) c.args.self.now.room.paths.paths c.args.file.now c.args.opened.now.state c.args.opened.now.order c.requires.so c.requires.by
