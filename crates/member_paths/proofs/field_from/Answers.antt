use Rattle.std.proofs.Common.{Some, None, ap}
use Rattle.std.specs.Option.{option_copied}
use Rattle.member_paths.proofs.PathLemmas.{shown_as}
use Rattle.member_paths.proofs.field_from.Goals as goal

pub returns-in-Some : goal.returns-in-Some
returns-in-Some c = shown_as c.args.at c.args.fields.now _ (Some c.in-Some.field.now) c.requires c.field_at.ensures (ap option_copied c.in-Some.is)

pub returns-in-None : goal.returns-in-None
returns-in-None c = shown_as c.args.at c.args.fields.now _ None c.requires c.field_at.ensures (ap option_copied c.in-None.is)
