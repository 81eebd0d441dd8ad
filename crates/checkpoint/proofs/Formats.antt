-- What a stop leaves while area 0 gets its first root.
use Rattle.std.proofs.Common.{◌≡◌, inl, inr, ℕ, ◌≤◌, List, [], ◌∷◌, ◌++◌, length, refl, ◌∙◌, ap, subst, arith, length-append}
use Rattle.store_model.specs.Disk.{Disk, Does, IsDurable, Stays}
use Rattle.store_model.proofs.Runs.{stays_does, then_does, weaken}
use Rattle.gated_log.specs.Blocks.{Opens, Spells, header, block_bytes}
use Rattle.gated_log.specs.Log.{IsWithOrWithout, LogState, Settled}
use Rattle.gated_log.specs.Steps.{IsNoLonger}
use Rattle.gated_log.proofs.Numbers.{length-block_bytes, length-header}
use Rattle.gated_log.proofs.Unique.{one_list}
use Rattle.checkpoint.specs.declared.layout.TheConstants.{ROOT_AREA, VERSION}
use Rattle.checkpoint.specs.declared.root.Root.{Root}
use Rattle.checkpoint.specs.Roots.{AreRoots, HasNoRoot, IsFormatting, IsRoot, first_root, root_blocks, root_bytes}
use Rattle.checkpoint.proofs.RootBytes.{length-root_bytes}
use Rattle.checkpoint.proofs.RootLaws.{no_cons}
use Rattle.checkpoint.proofs.Kept.{plain, settled_plain}

-- no call
pub stays_here : (disk : Disk) → Stays disk disk
stays_here disk = record {
  later = record { moment = omega arith; faults = omega arith; parts = λ t c le left. inl left; keeps = λ t c le left. left };
  seen = λ area. refl;
  images = λ c left. left;
}

pub is_first : IsRoot first_root
is_first = record {
  area = omega arith;
  sequence = omega arith;
  bytes = omega arith;
  receiver_from = omega arith;
  receiver_to = omega arith;
  member_from = omega arith;
  member_to = omega arith;
  none = λ same. (refl, refl);
}

-- a log of a root has that root's bytes at least
long_body : (roots : List Root) (last : Root) (body rest : List ℕ) → Opens (root_blocks (roots ++ last ∷ [])) body rest → 33 ≤ length body
long_body [] last body rest (gate, after, opened, short, is, more) = omega (arith, ap (λ (l : List ℕ). length l) is, length-append (block_bytes (root_bytes last)) after, length-block_bytes (root_bytes last), length-root_bytes last)
long_body (r ∷ roots) last body rest (gate, after, opened, short, is, more) = omega (arith, ap (λ (l : List ℕ). length l) is, length-append (block_bytes (root_bytes r)) after, length-block_bytes (root_bytes r), length-root_bytes r)

no_root_short : (bytes : List ℕ) → length bytes ≤ 33 → HasNoRoot bytes
no_root_short bytes short = λ earlier last are.
    omega (arith, short, long_body earlier last are.spells.body _ are.spells.opens, ap (λ (l : List ℕ). length l) are.spells.header, length-append (header ROOT_AREA 0 VERSION) are.spells.body, length-header ROOT_AREA 0 VERSION)

-- nor has a log of no block one
no_root_blocks : (earlier : List Root) (last : Root) → [] ≡ root_blocks (earlier ++ last ∷ []) → ⊥
no_root_blocks [] last same = no_cons (root_bytes last) [] same
no_root_blocks (x ∷ xs) last same = no_cons (root_bytes x) (root_blocks (xs ++ last ∷ [])) same

no_root_empty : (bytes : List ℕ) → Spells ROOT_AREA 0 VERSION [] bytes → HasNoRoot bytes
no_root_empty bytes spells = λ earlier last are. no_root_blocks earlier last (one_list ROOT_AREA 0 VERSION 0 VERSION [] _ bytes spells are.spells).2

first_alone : (bytes : List ℕ) → Spells ROOT_AREA 0 VERSION (root_bytes first_root ∷ []) bytes → AreRoots [] first_root bytes
first_alone bytes spells = record { each = tt; is_root = is_first; spells = spells }

module _ (d0 : Disk) (empty : d0.seen ROOT_AREA ≡ []) (durable : IsDurable ROOT_AREA d0) where
  pub blank_moment : (d1 : Disk) → Does ROOT_AREA IsNoLonger d0 d1 → Does ROOT_AREA (λ _ bytes. IsFormatting bytes) d0 d1
  blank_moment d1 short =
      weaken ROOT_AREA IsNoLonger d0 d1 short (λ bytes. bytes ≡ []) (λ _ bytes. IsFormatting bytes) (λ d may. durable d may ∙ empty)
      (λ old new none no_longer. inl (no_root_short new (omega (arith, no_longer, ap (λ (l : List ℕ). length l) none))))

  -- nothing is written
  pub none_moment : Does ROOT_AREA (λ _ bytes. IsFormatting bytes) d0 d0
  none_moment = blank_moment d0 (stays_does ROOT_AREA IsNoLonger d0 d0 (λ bytes. omega arith) (stays_here d0))

  pub first_moment : (log : LogState) (d1 d2 : Disk) → log.area ≡ ROOT_AREA → Does ROOT_AREA IsNoLonger d0 d1 → Does log.area (λ _ bytes. IsWithOrWithout log.area log.first log.version [] (root_bytes first_root) bytes) d1 d2
      → Does ROOT_AREA (λ _ bytes. IsFormatting bytes) d0 d2
  first_moment log d1 d2 area short next =
      then_does ROOT_AREA (λ _ bytes. IsFormatting bytes) d0 d1 (blank_moment d1 short) (λ _ bytes. IsWithOrWithout ROOT_AREA log.first log.version [] (root_bytes first_root) bytes) d2 (λ _. Unit {0}) (λ _ bytes. IsFormatting bytes)
      (subst (λ (a : ℕ). Does a (λ _ bytes. IsWithOrWithout a log.first log.version [] (root_bytes first_root) bytes) d1 d2) area next)
      (λ d may. tt) (λ old new formatting. formatting)
      (λ old mid new formatting w some. elim some [
        | inl none ↦ inl (no_root_empty new (plain ROOT_AREA log.first log.version [] new (omega arith) none))
        | inr one ↦ inr (first_alone new (plain ROOT_AREA log.first log.version (root_bytes first_root ∷ []) new (omega arith) one))
      ])

pub formatted : (log : LogState) (disk : Disk) → log.area ≡ ROOT_AREA → Settled log ([] ++ root_bytes first_root ∷ []) disk → AreRoots [] first_root (disk.seen ROOT_AREA)
formatted log disk area settled = first_alone (disk.seen ROOT_AREA) (settled_plain log ROOT_AREA (root_bytes first_root ∷ []) disk (omega arith) area settled)
