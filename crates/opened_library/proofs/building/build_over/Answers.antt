use Rattle.receiver_chain.specs.Chain.{attached_of}
use Rattle.opened_library.proofs.BuiltLemmas.{left-at}
use Rattle.opened_library.proofs.building.build_over.Goals as goal

pub restarted_contents-requires : goal.restarted_contents-requires
restarted_contents-requires g c = record { left = c.requires.rest.left.left }

pub begin_library-requires-clause-left : goal.begin_library-requires-clause-left
begin_library-requires-clause-left g c =
    left-at c.in-Ok.contents.state (attached_of c.args.journal.chain) c.attached-attached.result c.args.entries.now c.attached-attached.ensures c.in-Ok.ensures.left
