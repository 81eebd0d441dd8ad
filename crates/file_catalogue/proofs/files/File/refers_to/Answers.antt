use Rattle.file_catalogue.proofs.files.File.refers_to.Goals as goal

pub returns : goal.returns
returns c = rw (← c.self.view_is) (c.refers_to.ensures c.self.inside.members)
