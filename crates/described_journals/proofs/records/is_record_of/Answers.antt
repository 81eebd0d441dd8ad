use Rattle.std.proofs.Common.{rules, ◌≡◌, ◌∙◌, length}
use Rattle.std.specs.Prelude.{is_none}
use Rattle.std.specs.Option.{is_some}
use Rattle.record_fmt.specs.Layout.{record_length}
use Rattle.record_fmt.specs.Records.{record_held}
use Rattle.described_journals.proofs.RecordLemmas.{record-is, told-first}
use Rattle.described_journals.proofs.records.is_record_of.Goals as goal

pub returns-then-image-length : goal.returns-then-image-length
returns-then-image-length c =
    let long : length c.args.image.now ≡ record_length c.args.format.now.fields = search rules in
    let told : c.is_none.result ≡ is_none c.first_bad.result = search rules in
    record-is c.args.format.now.fields c.args.image.now c.is_none.result long
    (told ∙ told-first (λ bytes. is_some (record_held c.args.format.now.fields bytes)) c.args.image.now c.first_bad.result c.first_bad.ensures)
