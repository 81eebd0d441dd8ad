use Rattle.std.proofs.Common.{List, sym, subst}
use Rattle.std.specs.Prelude.{IfOk}
use Rattle.std.specs.Option.{option_copied}
use Rattle.record_fmt.specs.declared.formats.Field.{Field}
use Rattle.file_model.specs.Views.{base_image}
use Rattle.logical_laws.specs.Found.{HoldsRecord}
use Rattle.library_steps.specs.WriteRecord.{packed}
use Rattle.library_parts.specs.Answers.{Gives}
use Rattle.view_records.specs.Through.{IsWrittenThrough}
use Rattle.record_changes.proofs.images.image_over.Goals as goal

pub base_format-base-requires : goal.base_format-base-requires
base_format-base-requires c = c.requires.written.there

pub stored_image-requires-clause-written : goal.stored_image-requires-clause-written
stored_image-requires-clause-written c =
    subst (λ (fields : List Field). IsWrittenThrough fields c.args.view.now) (sym c.base_format-base.ensures) c.requires.written.written

pub stored_image-requires-clause-format : goal.stored_image-requires-clause-format
stored_image-requires-clause-format c = c.requires.written.format

pub stored_image-requires-clause-old : goal.stored_image-requires-clause-old
stored_image-requires-clause-old c = λ image is.
    subst (λ (fields : List Field). HoldsRecord fields image.now) (sym c.base_format-base.ensures) (c.requires.old image is)

pub returns-clause-packed : goal.returns-clause-packed
returns-clause-packed c =
    subst (λ (fields : List Field). Gives c.stored_image.result (packed (base_image fields c.args.view.now.mapping c.args.given.now (option_copied c.args.old)))) c.base_format-base.ensures
    c.stored_image.ensures.packed

pub returns-clause-holds : goal.returns-clause-holds
returns-clause-holds c =
    subst (λ (fields : List Field). IfOk c.stored_image.result (λ image. HoldsRecord fields image)) c.base_format-base.ensures c.stored_image.ensures.holds
