use Rattle.std.proofs.Common.{◌≡◌, ◌≤◌, drop, length}
use Rattle.std.specs.List.{AllByRecursion}
use Rattle.field_values.specs.FieldBytes.{filled}
use Rattle.file_model.specs.Views.{pieces_length, put_pieces}
use Rattle.view_rules.specs.Stored.{EndsWithin}
use Rattle.view_rules.proofs.placing.split.Given as goal

abbrev pub invariant-loop-piece : goal.invariant-loop-piece
invariant-loop-piece l = record {
  place : AllByRecursion (EndsWithin (length l.fn.image)) (drop l.piece-index l.pieces);
  room : length l.rest ≤ pieces_length (drop l.piece-index l.pieces);
  same : put_pieces (drop l.piece-index l.pieces) (filled (pieces_length (drop l.piece-index l.pieces)) l.rest) l.image
      ≡ put_pieces l.pieces (filled (pieces_length l.pieces) l.fn.text) l.fn.image;
}
