use Rattle.std.proofs.Common.{sym, ◌∙◌, ap}
use Rattle.dds_physical.specs.Physical.{physical_of}
use Rattle.library_model.specs.Named.{Named}
use Rattle.library_steps.specs.State.{FileState}
use Rattle.named_bases.specs.Sources.{format_named, if_physical}
use Rattle.described_journals.proofs.SettledLemmas.{alone-describes}
use Rattle.described_journals.proofs.settled.describes.Goals as goal

pub returns : goal.returns
returns c = λ yes.
    alone-describes c.args.source.now c.args.text.now c.requires.read c.in_ok-spec.spec c.requires.alone
    (c.in_ok-spec.ensures ∙ ap (λ (files : Named FileState). if_physical (physical_of (format_named files) c.args.source.now)) c.new-none.ensures) (sym c.is_some.ensures ∙ yes)
