use Rattle.library_model.specs.declared.replies.Reply.TheVariants.{NoSuchName}
use Rattle.library_model.specs.declared.replies.Missing.TheVariants.{Name}
use Rattle.library_steps.specs.State.{physical_among}
use Rattle.lawful_states.proofs.FindLemmas.{found-is}
use Rattle.record_changes.proofs.ImageLemmas.{shows-none}
use Rattle.record_changes.proofs.images.base_file.Goals as goal

pub unreachable-requires : goal.unreachable-requires
unreachable-requires c =
    shows-none (physical_among c.args.name.now c.args.contents.now.state.files) (NoSuchName (Name c.args.name.now)) c.in-Err.field-0 c.requires
    (rw c.in-Err.is at c.physical_file.ensures.shows)

pub returns-clause-file : goal.returns-clause-file
returns-clause-file c = found-is _ _ _ c.in-Ok.ensures.shows
