use Rattle.std.proofs.Common.{rules}
use Rattle.join_rows.proofs.StepLemmas.{shown-room}
use Rattle.join_rows.proofs.wanted.value_of.Goals as goal

pub value-requires-clause-room : goal.value-requires-clause-room
value-requires-clause-room c = shown-room c.args.image.now c.args.field.now _ c.requires (search rules)
