use Rattle.std.proofs.Common.{◌∙◌, ap, not}
use Rattle.dds_logical.proofs.FormatLemmas.{no_formats}
use Rattle.dds_logical.proofs.whole_file.has_no_format.Goals as goal

pub returns : goal.returns
returns c = ap not c.has_lines.ensures ∙ no_formats c.args.specifications.now
