use Rattle.std.proofs.Common.{◌≤◌, length, ◌≡◌, ◌++◌, replicate, drop, sym}
use Rattle.field_types.proofs.NameLemmas.{length-is_name}
use Rattle.entry_codec.specs.Spelling.{name_field}
use Rattle.entry_codec.proofs.FieldLemmas.{name_field-parts}
use Rattle.entry_codec.proofs.fields.name.bytes.Goals as goal

pub returns-clause-written : goal.returns-clause-written
returns-clause-written c =
    let name = c.args.name.now in
    let short : length name ≤ 10 = length-is_name name c.as_bytes-text.ensures.named in
    let parts : name_field name ≡ name ++ drop (length name) (replicate 10 32) = name_field-parts name short in
    rw (c.copy_from_slice.ensures.after, c.as_bytes-text.ensures.value) (sym parts)
