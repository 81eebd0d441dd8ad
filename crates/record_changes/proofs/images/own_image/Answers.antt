use Rattle.std.proofs.Common.{sym, subst}
use Rattle.std.specs.Prelude.{IfOk}
use Rattle.std.specs.Option.{option_copied}
use Rattle.record_fmt.specs.declared.formats.Format.{Format}
use Rattle.record_fmt.specs.Records.{record_given}
use Rattle.logical_laws.specs.Found.{HoldsRecord}
use Rattle.library_steps.specs.WriteRecord.{packed}
use Rattle.library_parts.specs.Answers.{Gives}
use Rattle.record_changes.proofs.images.own_image.Goals as goal

pub packed_image-requires : goal.packed_image-requires
packed_image-requires c = record {
  old = λ image is. subst (λ (format : Format). HoldsRecord format.fields image.now) (sym c.format.ensures.format) (c.requires.old image is);
}

pub returns-clause-packed : goal.returns-clause-packed
returns-clause-packed c =
    subst (λ (format : Format). Gives c.packed_image.result (packed (record_given format.fields c.args.given.now (option_copied c.args.old)))) c.format.ensures.format c.packed_image.ensures.packed

pub returns-clause-holds : goal.returns-clause-holds
returns-clause-holds c =
    subst (λ (format : Format). IfOk c.packed_image.result (λ image. HoldsRecord format.fields image)) c.format.ensures.format c.packed_image.ensures.holds
