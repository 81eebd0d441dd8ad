use Rattle.std.proofs.Common.{◌∙◌, ap, not}
use Rattle.dds_logical.specs.declared.format_lines.LineKind.TheVariants as line_kinds
use Rattle.dds_logical.proofs.FormatLemmas.{no_lines}
use Rattle.dds_logical.proofs.whole_file.has_no_fields.Goals as goal

pub returns : goal.returns
returns c = ap not c.has_lines.ensures ∙ no_lines line_kinds.Field c.args.body.now
