use Rattle.std.proofs.Common.{◌∙◌, sym, ap}
use Rattle.std.specs.Option.{option_copied}
use Rattle.record_reads.proofs.SimpleLemmas.{join_in-logical, join_in-physical}
use Rattle.record_reads.proofs.shown.joined.Goals as goal

pub returns-in-Some : goal.returns-in-Some
returns-in-Some c = c.joined_in.ensures ∙ sym (join_in-logical c.args.file.now.spec c.in-Some.spec.now (sym c.logical.ensures ∙ ap option_copied c.in-Some.is))

pub returns-in-None : goal.returns-in-None
returns-in-None c = sym (join_in-physical c.args.file.now.spec (sym c.logical.ensures ∙ ap option_copied c.in-None.is))
