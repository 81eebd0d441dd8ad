-- What one root more makes of the roots.
use Rattle.std.proofs.Common.{◌≡◌, inl, inr, ℕ, List, [], ◌∷◌, ◌++◌, sym, ◌∙◌, subst, arith}
use Rattle.std.specs.List.{AllByRecursion}
use Rattle.std.proofs.lemmas.List.{map-append}
use Rattle.store_model.specs.Disk.{Disk, Does}
use Rattle.store_model.proofs.Runs.{weaken}
use Rattle.gated_log.specs.Blocks.{Spells}
use Rattle.gated_log.specs.Log.{IsWithOrWithout, LogState, Settled}
use Rattle.checkpoint.specs.declared.layout.TheConstants.{ROOT_AREA}
use Rattle.checkpoint.specs.declared.root.Root.{Root}
use Rattle.checkpoint.specs.Roots.{AreRoots, IsPutting, IsRoot, root_blocks, root_bytes}
use Rattle.checkpoint.specs.Holding.{Holds}
use Rattle.checkpoint.proofs.RootLaws.{all-push}
use Rattle.checkpoint.proofs.Kept.{plain}

pub blocks-push : (roots : List Root) (root : Root) → root_blocks roots ++ root_bytes root ∷ [] ≡ root_blocks (roots ++ root ∷ [])
blocks-push roots root = sym (map-append (λ (r : Root). root_bytes r) roots (root ∷ []))

-- one block more is one root more
pub one_more : (earlier : List Root) (last root : Root) (first version : ℕ) (bytes : List ℕ) → AllByRecursion IsRoot earlier → IsRoot last → IsRoot root → Spells ROOT_AREA first version (root_blocks (earlier ++ last ∷ []) ++ root_bytes root ∷ []) bytes → AreRoots (earlier ++ last ∷ []) root bytes
one_more earlier last root first version bytes each one is spells = record {
  each = all-push IsRoot earlier last each one;
  is_root = is;
  spells = plain ROOT_AREA first version _ bytes (omega arith) (subst (λ (l : List (List ℕ)). Spells ROOT_AREA first version l bytes) (blocks-push (earlier ++ last ∷ []) root) spells);
}

module _ (log : LogState) (last : Root) (earlier : List Root) (root : Root) (old new : Disk) (holds : Holds (record { log = log; last = last }) earlier old) (is : IsRoot root) where
  pub put_moment : Does log.area (λ _ bytes. IsWithOrWithout log.area log.first log.version (root_blocks (earlier ++ last ∷ [])) (root_bytes root) bytes) old new → Does ROOT_AREA (λ _ bytes. IsPutting earlier last root bytes) old new
  put_moment does =
      let here : Does ROOT_AREA (λ _ bytes. IsWithOrWithout ROOT_AREA log.first log.version (root_blocks (earlier ++ last ∷ [])) (root_bytes root) bytes) old new =
      subst (λ (a : ℕ). Does a (λ _ bytes. IsWithOrWithout a log.first log.version (root_blocks (earlier ++ last ∷ [])) (root_bytes root) bytes) old new) holds.area does in
      weaken ROOT_AREA (λ _ bytes. IsWithOrWithout ROOT_AREA log.first log.version (root_blocks (earlier ++ last ∷ [])) (root_bytes root) bytes) old new here (λ _. Unit {0}) (λ _ bytes. IsPutting earlier last root bytes) (λ d may. tt)
      (λ before after w some. elim some [
        | inl without ↦ inl (record { each = holds.each; is_root = holds.is_root; spells = plain ROOT_AREA log.first log.version _ after (omega arith) without })
        | inr with_one ↦ inr (one_more earlier last root log.first log.version after holds.each holds.is_root is with_one)
      ])

  pub put_holds : (after : LogState) → after.area ≡ log.area → Settled after (root_blocks (earlier ++ last ∷ []) ++ root_bytes root ∷ []) new → Holds (record { log = after; last = root }) (earlier ++ last ∷ []) new
  put_holds after area settled = record {
    area = area ∙ holds.area;
    each = all-push IsRoot earlier last holds.each holds.is_root;
    is_root = is;
    settled = subst (λ (l : List (List ℕ)). Settled after l new) (blocks-push (earlier ++ last ∷ []) root) settled;
  }
