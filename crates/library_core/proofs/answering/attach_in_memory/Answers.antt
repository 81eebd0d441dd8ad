use Rattle.library_core.proofs.answering.attach_in_memory.Goals as goal

pub returns : goal.returns
returns c = (c.apply_attach-reply.new.contents.state, c.apply_attach-reply.ensures, c.forget.ensures.state)
