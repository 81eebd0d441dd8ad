use Rattle.std.proofs.Common.{◌∙◌, sym, ap}
use Rattle.std.specs.Option.{option_map}
use Rattle.std.specs.Map.Iter.{deref_pair}
use Rattle.std.proofs.lemmas.Option.{slice_get-map}
use Rattle.replay_files.specs.Files.{catalog_file}
use Rattle.replay_files.proofs.NameLemmas.{mapped_twice}
use Rattle.replay_files.proofs.files.Files.at.Goals as goal

pub returns : goal.returns
returns c = rw (← c.self.view_is)
    (slice_get-map catalog_file c.self.inside.files.entries c.args.place ∙ ap (option_map catalog_file) (sym c.get_index.ensures.entry) ∙ mapped_twice catalog_file deref_pair _)
