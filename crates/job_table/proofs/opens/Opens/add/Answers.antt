use Rattle.job_table.proofs.opens.Opens.add.Goals as goal

pub returns : goal.returns
returns c = rw (← c.self.view_is) c.push_reserved.ensures.items
