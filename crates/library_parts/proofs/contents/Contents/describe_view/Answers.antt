use Rattle.library_parts.proofs.contents.Contents.describe_view.Goals as goal

pub returns : goal.returns
returns c = rw (← c.self.view_is) c.read.ensures
