use Rattle.std.proofs.Common.{List, filter, ap, ◌∙◌}
use Rattle.lock_table.specs.declared.lock.Lock.{Lock}
use Rattle.lock_table.specs.Lock.{is_boundary_in}
use Rattle.lock_table.specs.Table.{least_job}
use Rattle.lock_table.specs.Shelves.{all_on}
use Rattle.lock_table.proofs.Shelved.{least-in_all, least-on_all}
use Rattle.lock_table.proofs.shelves.Shelves.least_keeper.Goals as goal

pub returns : goal.returns
returns c =
    c.least_keeper.ensures
    ∙ least-on_all (is_boundary_in c.args.member) c.self.inside.row
    ∙ least-in_all (is_boundary_in c.args.member) (all_on c.self.inside.row)
    ∙ ap (λ (xs : List Lock). least_job (filter (is_boundary_in c.args.member) xs)) c.self.view_is
