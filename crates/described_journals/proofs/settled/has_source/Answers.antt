use Rattle.std.proofs.Common.{sym, ◌∙◌, ap}
use Rattle.lawful_states.proofs.NameLemmas.{same_name-equal}
use Rattle.replay_files.specs.Files.{FileBody}
use Rattle.described_journals.proofs.settled.has_source.Goals as goal

pub returns-in-Physical : goal.returns-in-Physical
returns-in-Physical c = λ yes. (
  ap (λ (f : FileBody). f.kind) (sym c.file.view_is) ∙ c.in-Physical.is,
  ap (λ (f : FileBody). f.source) (sym c.file.view_is) ∙ same_name-equal c.file.inside.source c.args.source.now (sym c.is_same.ensures ∙ yes),
)
