use Rattle.std.proofs.Common.{◌∙◌, sym}
use Rattle.std.proofs.Math.Bool.{or-false}
use Rattle.library_model.specs.Named.{same_name}
use Rattle.file_catalogue.proofs.views.is_same.Goals as goal

pub returns : goal.returns
returns c = c.eq.ensures ∙ sym (or-false (same_name c.args.file.now c.args.base.now))
