use Rattle.std.proofs.Common.{◌∙◌, sym, ap}
use Rattle.std.specs.Option.{option_map}
use Rattle.replay_files.specs.Files.{FileBody, catalog_file}
use Rattle.replay_files.proofs.NameLemmas.{files-named}
use Rattle.replay_files.proofs.files.Files.named.Goals as goal

pub returns : goal.returns
returns c = rw (← c.self.view_is)
    (files-named c.args.name.now c.self.inside.files.entries ∙ ap (option_map (λ (b : FileBody). catalog_file (c.args.name.now, b))) (sym c.get.ensures.value))
