use Rattle.std.proofs.Common.{◌∙◌, sym}
use Rattle.std.specs.Str.{bytes_eq}
use Rattle.record_changes.proofs.FormatLemmas.{position-one}
use Rattle.record_changes.proofs.refusals.only_place.Goals as goal

pub returns : goal.returns
returns c = c.place_or.ensures ∙ sym (position-one (bytes_eq c.args.name) c.args.format.now)
