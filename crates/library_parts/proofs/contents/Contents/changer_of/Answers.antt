use Rattle.library_parts.proofs.contents.Contents.changer_of.Goals as goal

pub returns : goal.returns
returns c = rw (← c.self.view_is) c.first_changer.ensures
