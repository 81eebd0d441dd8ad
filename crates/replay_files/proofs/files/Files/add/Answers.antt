use Rattle.std.proofs.Common.{◌∙◌, nat_eq, map, ap}
use Rattle.std.specs.Cmp.Lexicographic.{pointwise}
use Rattle.indexmap.proofs.CallerLemmas.{insert_entry-new}
use Rattle.replay_files.specs.Files.{catalog_file}
use Rattle.replay_files.proofs.NameLemmas.{files-push, files-absent}
use Rattle.replay_files.proofs.files.Files.add.Goals as goal

pub returns : goal.returns
returns c =
    rw (← c.self.view_is)
    (ap (map catalog_file) (c.in_ok-_replaced.ensures.entries
    ∙ insert_entry-new (pointwise nat_eq) c.self.inside.files c.args.name c.args.file (files-absent c.args.name c.self.inside.files.entries (rw (← c.self.view_is) at c.requires)))
    ∙ files-push c.args.name c.args.file c.self.inside.files.entries)
