use Rattle.std.proofs.Common.{List}
use Rattle.key_spec.specs.declared.KeyPart.{KeyPart}
use Rattle.file_cursor.specs.CursorPosition.{entry_of}
use Rattle.open_position.specs.OpenStand.{IsEntryIn}
use Rattle.open_position.proofs.StandLemmas.{in-one, entry-fits}
use Rattle.open_position.proofs.position.OpenPosition.settle.Goals as goal

pub settle-requires : goal.settle-requires
settle-requires c =
    entry-fits c.self.inside.formats.items c.self.inside.cursor.room c.self.invariant.room c.self.invariant.keys (entry_of c.args.hit.now)
    (in-one _ _ c.self.view_is (λ (formats : List (List KeyPart)). IsEntryIn formats (entry_of c.args.hit.now)) c.requires)
