use Rattle.std.proofs.Common.{◌≡◌, ◌+◌, ◌*◌, ◌^◌, ◌≤◌, drop}
use Rattle.file_model.specs.Views.{pieces_length}
use Rattle.dds_logical.proofs.origins.pieces_length.Given as goal

abbrev pub invariant-loop-piece : goal.invariant-loop-piece
invariant-loop-piece l = (l.length + pieces_length (drop l.piece-index l.pieces) ≡ pieces_length l.pieces) × (l.length ≤ 4294967295 * l.piece-index)
