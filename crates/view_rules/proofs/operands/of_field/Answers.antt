use Rattle.view_rules.proofs.OperandLemmas.{pieces-room}
use Rattle.view_rules.proofs.operands.of_field.Goals as goal

pub characters-requires-clause-room : goal.characters-requires-clause-room
characters-requires-clause-room c =
    rw c.as_slice.ensures (pieces-room c.args.field.now.ty c.args.field.now.source c.in-Concatenated.pieces c.args.image.now c.in-Concatenated.is c.requires.shown.source)
