use Rattle.std.proofs.Common.{◌≡◌, ◌∙◌, ◌≤◌, ap, List, length, sym, subst}
use Rattle.record_fmt.specs.declared.formats.Field.{Field}
use Rattle.dds_logical.specs.declared.named_fields.NamedField.{NamedField}
use Rattle.dds_logical.specs.FormatLines.{field_lines}
use Rattle.dds_logical.specs.Fields.{named_fields}
use Rattle.dds_logical.specs.Logical.{base_of, fields_named}
use Rattle.dds_logical.specs.Judged.{format_with}
use Rattle.dds_logical.specs.JudgedKeys.{bytes_of}
use Rattle.dds_logical.specs.Complete.{view_with}
use Rattle.dds_logical.proofs.CompleteLemmas.{few_named}
use Rattle.dds_logical.proofs.format_views.view_described.Goals as goal

pub view_with-requires-clause-few : goal.view_with-requires-clause-few
view_with-requires-clause-few g c =
    subst (λ (fs : List NamedField). length fs ≤ 1000) (sym c.in_ok-named.ensures)
    (few_named c.base_of-base.result.now (field_lines (format_with c.args.line.now c.args.body.now)) c.base_of-base.ensures.laid_out.few c.requires.few)

pub view_with-requires-clause-narrow : goal.view_with-requires-clause-narrow
view_with-requires-clause-narrow g c =
    let f = format_with c.args.line.now c.args.body.now in
    let named : c.in_ok-named.named ≡ fields_named (g.B.Bases.bases c.args.bases.now) f = c.in_ok-named.ensures ∙ ap (λ (b : List Field). named_fields b (field_lines f)) c.base_of-base.ensures.fields in
    subst (λ (fs : List NamedField). bytes_of fs ≤ 32766) (sym named) c.requires.narrow

pub returns : goal.returns
returns g c =
    let bases = g.B.Bases.bases c.args.bases.now in
    let f = format_with c.args.line.now c.args.body.now in
    let under = c.base_of-base.ensures.fields in
    let named = c.in_ok-named.ensures ∙ ap (λ (b : List Field). named_fields b (field_lines f)) under in
    c.in_ok-view.ensures
    ∙ ap (λ (ns : List NamedField). view_with c.args.keywords.now c.args.is_multi c.args.positions f c.base_of-base.result.now ns) named
    ∙ ap (λ (b : List Field). view_with c.args.keywords.now c.args.is_multi c.args.positions f b (named_fields (base_of bases f) (field_lines f))) under
