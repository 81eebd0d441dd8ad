use Rattle.std.proofs.Common.{sym, ap, ◌∙◌}
use Rattle.std.specs.List.{find}
use Rattle.lock_table.specs.Index.{is_sought}
use Rattle.lock_table.proofs.Shelved.{shelf-ordered, shelf-part}
use Rattle.lock_table.proofs.shelves.Shelves.first_in.Goals as goal

pub first_in-requires : goal.first_in-requires
first_in-requires c = shelf-ordered c.shelf.ensures

pub returns : goal.returns
returns c = c.first_in.ensures ∙ ap (find (is_sought c.args.sought)) (shelf-part c.shelf.ensures c.args.part (sym c.job.ensures))
