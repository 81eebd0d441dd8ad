use Rattle.std.proofs.Common.{◌≡◌, ◌∙◌, [], ◌∷◌, ◌++◌, List, ℕ, refl, ap}
use Rattle.gated_log.specs.Blocks.{between, frame}
use Rattle.gated_log.proofs.Numbers.{between_is}
use Rattle.checkpoint.specs.Roots.{root_bytes}
use Rattle.checkpoint.proofs.root.framed_root.Goals as goal

pub returns : goal.returns
returns c =
    let same : c.copy_from_slice.new.self ≡ root_bytes c.args.root.now = c.copy_from_slice.ensures.after ∙ c.bytes_of.ensures in
    c.put_frame.ensures ∙ ap (λ (l : List ℕ). frame (between ((0 ∷ 0 ∷ 0 ∷ 0 ∷ []) ++ l ++ 0 ∷ []))) same ∙ ap (λ (l : List ℕ). frame l) (between_is (0 ∷ 0 ∷ 0 ∷ 0 ∷ []) (root_bytes c.args.root.now) 0 refl)
