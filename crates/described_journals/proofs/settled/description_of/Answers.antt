use Rattle.std.proofs.Common.{◌≡◌, Some, [], sym, ◌∙◌, ap}
use Rattle.std.specs.Option.{option_map}
use Rattle.std.proofs.lemmas.Option.{IfSome_then}
use Rattle.entry_codec.specs.declared.kinds.FileKind.TheVariants.{Physical}
use Rattle.logical_model.specs.Bases.{PhysicalFile}
use Rattle.named_bases.specs.Sources.{described_files, names_by, spec_beside}
use Rattle.described_journals.specs.Kept.{AreSettled, Describes}
use Rattle.described_journals.proofs.SettledLemmas.{beside-any, settled-describes}
use Rattle.described_journals.proofs.settled.description_of.Goals as goal

pub returns-in_ok-others-in-Some : goal.returns-in_ok-others-in-Some
returns-in_ok-others-in-Some c =
    let is : spec_beside (described_files c.args.files.now) Physical c.args.text.now ≡ Some (PhysicalFile c.in-Some.spec) =
    beside-any c.args.source.now c.args.text.now c.requires (described_files c.args.files.now) ∙ sym c.in_ok-described.ensures ∙ ap (option_map PhysicalFile) c.in-Some.is in (
      is,
      IfSome_then c.in_ok-others-in-Some.others {P = λ others. AreSettled c.args.files.now (names_by Physical c.args.source.now) [] others.items}
          {Q = λ others. Describes c.args.text.now others.items c.in-Some.spec} c.in_ok-others-in-Some.ensures
          (λ others settled. settled-describes c.args.source.now c.args.text.now c.requires c.args.files.now others.items c.in-Some.spec settled is),
    )
