use Rattle.std.proofs.Common.{◌≡◌, ◌∙◌, ◌+◌, ◌∷◌, ℕ, List, ap, sym, add-one, length, take, drop, get_or}
use Rattle.std.proofs.Math.Seq.{drop-cons}
use Rattle.field_values.specs.FieldBytes.{filled}
use Rattle.file_model.specs.declared.views.Piece.{Piece}
use Rattle.file_model.specs.Views.{put_pieces, pieces_length}
use Rattle.view_rules.proofs.StoreLemmas.{IsSplit, split-turn}
use Rattle.view_rules.proofs.placing.split.Goals as goal

pub loop-piece-preserved : goal.loop-piece-preserved
loop-piece-preserved c =
    let nowhere : Piece = record { offset = 0; length = 0 } in
    let pieces : List Piece = c.args.pieces.now in
    let i : ℕ = c.loop-piece.piece-index in
    let p : Piece = get_or pieces i nowhere in
    let rest : List ℕ = c.loop-piece.rest.now in
    let wanted : List ℕ = put_pieces pieces (filled (pieces_length pieces) c.args.text.now) c.args.image.now in
    let first : drop i pieces ≡ p ∷ drop (i + 1) pieces = drop-cons pieces i nowhere c.loop-piece-test.true ∙ ap (λ (n : ℕ). p ∷ drop n pieces) (sym (add-one i)) in
    let is : IsSplit (length c.args.image.now) (drop i pieces) rest c.loop-piece.image wanted =
    record { place = c.loop-piece.invariant.place; room = c.loop-piece.invariant.room; same = c.loop-piece.invariant.same } in
    let next = split-turn (length c.args.image.now) (drop i pieces) p (drop (i + 1) pieces) rest c.loop-piece.image wanted c.split_at.result.0.now c.split_at.result.1.now
    c.put_piece.new.image first is (c.split_at.ensures.front ∙ ap (λ (n : ℕ). take n rest) c.min.ensures) (c.split_at.ensures.back ∙ ap (λ (n : ℕ). drop n rest) c.min.ensures) c.put_piece.ensures in
    record { place = next.place; room = next.room; same = next.same }
