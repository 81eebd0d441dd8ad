use Rattle.std.proofs.Common.{◌∙◌, ap, List}
use Rattle.record_fmt.specs.declared.formats.Field.{Field}
use Rattle.dds_logical.specs.FormatLines.{field_lines}
use Rattle.dds_logical.specs.Fields.{named_fields}
use Rattle.dds_logical.specs.Judged.{format_with}
use Rattle.dds_logical.proofs.MismatchLemmas.{view-noted}
use Rattle.dds_logical.proofs.format_faults.note_view.Goals as goal

pub returns : goal.returns
returns g c =
    let f = format_with c.args.line.now c.args.body.now in
    let under = c.base_of-base.ensures.fields in
    view-noted (g.B.Bases.bases c.args.bases.now) c.args.last_line c.args.is_multi f c.base_of-base.result.now c.as_slice-fields.result.now _ _ c.in_ok-note_lines.ensures under
    (c.as_slice-fields.ensures.fields ∙ c.in_ok-named.ensures ∙ ap (λ (b : List Field). named_fields b (field_lines f)) under)
