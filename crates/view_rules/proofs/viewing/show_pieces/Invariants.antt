use Rattle.std.proofs.Common.{◌≡◌, ◌++◌, drop}
use Rattle.std.specs.List.{AllByRecursion, flat_map}
use Rattle.field_values.specs.FieldBytes.{filled}
use Rattle.file_model.specs.Views.{piece_of}
use Rattle.view_rules.specs.Shown.{IsWithin}
use Rattle.view_rules.proofs.viewing.show_pieces.Given as goal

abbrev pub invariant-loop-piece : goal.invariant-loop-piece
invariant-loop-piece l = record {
  within : AllByRecursion (IsWithin l.image) (drop l.piece-index l.pieces);
  same : l.into.items ++ filled l.left (flat_map (piece_of l.image) (drop l.piece-index l.pieces))
      ≡ l.fn.into.items ++ filled l.fn.width (flat_map (piece_of l.image) l.pieces);
}
