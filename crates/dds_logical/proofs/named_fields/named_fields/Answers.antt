use Rattle.std.proofs.Common.{◌∙◌, sym}
use Rattle.dds_logical.proofs.NamedLemmas.{named_by_lines, named_as_they_are}
use Rattle.dds_logical.proofs.named_fields.named_fields.Goals as goal

pub returns-in_ok-described : goal.returns-in_ok-described
returns-in_ok-described c = c.in_ok-described.ensures ∙ named_by_lines c.args.base.now c.args.lines.now (sym c.has_lines.ensures ∙ c.if-has_lines.true)

pub returns-in_ok-whole : goal.returns-in_ok-whole
returns-in_ok-whole c = c.in_ok-whole.ensures ∙ named_as_they_are c.args.base.now c.args.lines.now (sym c.has_lines.ensures ∙ c.if-has_lines.false)
