use Rattle.std.proofs.Common.{ap, ◌∙◌}
use Rattle.lock_table.specs.Shelves.{all_on}
use Rattle.lock_table.proofs.Shelved.{spread-keeps, spread-locks}
use Rattle.lock_table.proofs.row.Row.widen.Goals as goal

pub returns-clause-locks : goal.returns-clause-locks
returns-clause-locks c = spread-locks c.self.inside.first c.self.inside.more.items _ c.args.count (c.self.view_is ∙ c.requires) c.in_ok-more.ensures ∙ ap all_on c.self.view_is

pub returns-clause-shelved : goal.returns-clause-shelved
returns-clause-shelved c = λ h. spread-keeps c.self.inside.first c.self.inside.more.items _ c.args.count (c.self.view_is ∙ c.requires) c.in_ok-more.ensures
