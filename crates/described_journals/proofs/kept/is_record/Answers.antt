use Rattle.std.proofs.Common.{rules, ◌≡◌, ◌∙◌, ◌==◌, None, length, sym, ap}
use Rattle.entry_codec.specs.declared.kinds.FileKind.TheVariants.{Physical}
use Rattle.named_bases.specs.Sources.{described_files, fields_if, is_record_of, spec_beside}
use Rattle.described_journals.proofs.RecordLemmas.{no-record}
use Rattle.described_journals.proofs.kept.is_record.Goals as goal

pub returns-in-None : goal.returns-in-None
returns-in-None c =
    let none : spec_beside (described_files c.args.files.now) Physical c.args.source.now ≡ None = search rules in
    let empty : c.is_empty.result ≡ (length c.args.image.now == 0) = search rules in
    empty ∙ no-record c.args.image.now ∙ sym (ap (λ o. is_record_of (fields_if o) c.args.image.now) none)
