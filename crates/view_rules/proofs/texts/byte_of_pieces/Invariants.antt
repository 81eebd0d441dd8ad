use Rattle.std.proofs.Common.{◌≡◌, drop, get_or}
use Rattle.std.specs.List.{AllByRecursion, flat_map}
use Rattle.file_model.specs.Views.{piece_of}
use Rattle.view_rules.specs.Shown.{IsWithin}
use Rattle.view_rules.proofs.texts.byte_of_pieces.Given as goal

abbrev pub invariant-loop-piece : goal.invariant-loop-piece
invariant-loop-piece l = record {
  within : AllByRecursion (IsWithin l.image) (drop l.piece-index l.pieces);
  byte : get_or (flat_map (piece_of l.image) (drop l.piece-index l.pieces)) l.left 0x40 ≡ get_or (flat_map (piece_of l.image) l.pieces) l.i 0x40;
}
