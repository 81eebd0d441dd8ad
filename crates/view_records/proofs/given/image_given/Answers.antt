use Rattle.std.proofs.Common.{◌<◌, List, length, sym, subst}
use Rattle.std.specs.List.{AllByRecursion}
use Rattle.std.specs.Option.{option_copied}
use Rattle.record_fmt.specs.Layout.{record_length}
use Rattle.record_fmt.specs.Records.{Packs}
use Rattle.file_model.specs.declared.views.LogicalField.{LogicalField}
use Rattle.file_model.specs.Views.{base_image}
use Rattle.logical_paths.specs.Stored.{IsStored}
use Rattle.view_records.proofs.GivenLemmas.{few-fields, fields-stored, packed-holds, old-holds}
use Rattle.view_records.proofs.given.image_given.Goals as goal

pub base-requires-clause-stored : goal.base-requires-clause-stored
base-requires-clause-stored c =
    let fields = c.args.base.now.fields in
    subst (AllByRecursion (IsStored (record_length fields))) (sym c.as_slice.ensures)
    (fields-stored fields c.as_slice-below.ensures.laid_out.lies c.args.view.now.mapping c.requires.written.fields c.requires.written.bytes)

pub base-requires-clause-few : goal.base-requires-clause-few
base-requires-clause-few c =
    subst (λ (mapping : List LogicalField). length mapping < 65536) (sym c.as_slice.ensures) (few-fields c.args.view.now c.requires.format c.as_slice-fields.ensures.laid_out)

pub returns-clause-packed : goal.returns-clause-packed
returns-clause-packed c =
    subst (λ (mapping : List LogicalField). Packs (base_image c.args.base.now.fields mapping c.args.given.now (option_copied c.args.old)) c.base.result) c.as_slice.ensures c.base.ensures.packed

pub returns-clause-holds : goal.returns-clause-holds
returns-clause-holds c =
    let fields = c.args.base.now.fields in
    let given = c.args.given.now in
    packed-holds fields c.args.view.now given (option_copied c.args.old) c.base.result c.requires.written c.as_slice-below.ensures.laid_out (old-holds fields c.args.old c.requires.old)
    (subst (λ (mapping : List LogicalField). Packs (base_image fields mapping given (option_copied c.args.old)) c.base.result) c.as_slice.ensures c.base.ensures.packed)
