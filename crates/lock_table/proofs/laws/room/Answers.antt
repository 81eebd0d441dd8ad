use Rattle.lock_table.proofs.Counts.{HasRoom-spare, HasRoom-there, HasRoom-turned}
use Rattle.lock_table.proofs.laws.room.Goals as goal

pub returns-clause-spare : goal.returns-clause-spare
returns-clause-spare c = HasRoom-spare

pub returns-clause-held : goal.returns-clause-held
returns-clause-held c = HasRoom-there

pub returns-clause-turned : goal.returns-clause-turned
returns-clause-turned c = HasRoom-turned
