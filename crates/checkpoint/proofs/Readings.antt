-- Reading the roots of a log, one after another.
use Rattle.std.proofs.Common.{◌≡◌, inl, inr, ℕ, ◌+◌, ◌≤◌, ◌<◌, List, [], ◌∷◌, ◌++◌, length, get_or, take, drop, refl, sym, ◌∙◌, ap, subst, arith, take-append-drop}
use Rattle.std.specs.List.{AllByRecursion}
use Rattle.std.proofs.lemmas.List.{drop_more, length-map, nil_from_length, take-map, take_all, take_more}
use Rattle.store_model.specs.Disk.{Disk, Stays}
use Rattle.gated_log.specs.Blocks.{extent, sizes}
use Rattle.gated_log.specs.Log.{HasBlocks, LogState, Settled}
use Rattle.gated_log.proofs.Kept.{settled_stays}
use Rattle.checkpoint.specs.declared.layout.TheConstants.{FIRST_BLOCK, FIRST_GATE, ROOT_AREA}
use Rattle.checkpoint.specs.declared.root.Root.{Root}
use Rattle.checkpoint.specs.Roots.{BreaksAtRoot, IsNoRoot, IsRoot, IsRootsDamagedAt, root_blocks, root_bytes}
use Rattle.checkpoint.specs.Holding.{HasRoots}
use Rattle.checkpoint.proofs.RootLaws.{all-push}
use Rattle.checkpoint.proofs.Kept.{settled_plain}
use Rattle.checkpoint.proofs.Puttings.{blocks-push}

-- the first n blocks of the log are roots, and this is the last of them
pub record IsReadTo (log : LogState) (n : ℕ) (last : Root) (disk : Disk) : Type 0 where
  pub blocks : List (List ℕ)
  pub settled : Settled log blocks disk
  pub front : List Root
  pub each : AllByRecursion IsRoot front
  pub is_root : IsRoot last
  pub whole : take n blocks ≡ root_blocks (front ++ last ∷ [])

count_of : (log : LogState) (blocks : List (List ℕ)) (disk : Disk) → Settled log blocks disk → length log.lengths ≡ length blocks
count_of log blocks disk settled = ap (λ (l : List ℕ). length l) settled.lengths ∙ length-map blocks (λ (b : List ℕ). length b)

pub read_first : (log : LogState) (last : Root) (old new : Disk) → Stays old new → HasBlocks log old → IsRoot last → 0 < length log.lengths → ((blocks : List (List ℕ)) → Settled log blocks old → get_or blocks 0 [] ≡ root_bytes last) → IsReadTo log 1 last new
read_first log last old new stays has is some root = record {
  blocks = has.0;
  settled = settled_stays log has.0 old new stays has.1;
  front = [];
  each = tt;
  is_root = is;
  whole = take_more has.0 0 [] (omega (arith, some, count_of log has.0 old has.1)) ∙ ap (λ (b : List ℕ). b ∷ []) (root has.0 has.1);
}

pub read_next : (log : LogState) (n : ℕ) (last next : Root) (old new : Disk) → Stays old new → IsReadTo log n last old → IsRoot next → n < length log.lengths → ((blocks : List (List ℕ)) → Settled log blocks old → get_or blocks n [] ≡ root_bytes next) → IsReadTo log (n + 1) next new
read_next log n last next old new stays read is below root = record {
  blocks = read.blocks;
  settled = settled_stays log read.blocks old new stays read.settled;
  front = read.front ++ last ∷ [];
  each = all-push IsRoot read.front last read.each read.is_root;
  is_root = is;
  whole = take_more read.blocks n [] (omega (arith, below, count_of log read.blocks old read.settled)) ∙ ap (λ (b : List ℕ). take n read.blocks ++ b ∷ []) (root read.blocks read.settled)
      ∙ ap (λ (l : List (List ℕ)). l ++ root_bytes next ∷ []) read.whole ∙ blocks-push (read.front ++ last ∷ []) next;
}

pub read_all : (log : LogState) (n : ℕ) (last : Root) (disk : Disk) → log.area ≡ ROOT_AREA → IsReadTo log n last disk → length log.lengths ≤ n → HasRoots (record { log = log; last = last }) disk
read_all log n last disk area read past = (
  read.front,
  record {
    area = area;
    each = read.each;
    is_root = read.is_root;
    settled = subst (λ (l : List (List ℕ)). Settled log l disk) (sym (take_all n read.blocks (omega (arith, past, count_of log read.blocks disk read.settled))) ∙ read.whole) read.settled;
  },
)

-- ---- damage

-- there is no block
pub read_none : (log : LogState) (disk : Disk) → log.area ≡ ROOT_AREA → HasBlocks log disk → length log.lengths ≡ 0 → IsRootsDamagedAt (disk.seen ROOT_AREA) FIRST_GATE
read_none log disk area has none =
    inr (has.0, settled_plain log ROOT_AREA has.0 disk (omega arith) area has.1, inl (nil_from_length has.0 (omega (arith, none, count_of log has.0 disk has.1)), refl))

-- the nth isn't one
break_at : (log : LogState) (n at : ℕ) (disk : Disk) (blocks : List (List ℕ)) (front : List Root) → log.area ≡ ROOT_AREA → Settled log blocks disk → AllByRecursion IsRoot front → take n blocks ≡ root_blocks front → n < length log.lengths → IsNoRoot (get_or blocks n [])
    → at ≡ FIRST_BLOCK + extent (take n log.lengths) → IsRootsDamagedAt (disk.seen ROOT_AREA) at
break_at log n at disk blocks front area settled each whole below none place =
    let lengths : take n log.lengths ≡ sizes (root_blocks front) =
    ap (λ (l : List ℕ). take n l) settled.lengths ∙ take-map (λ (b : List ℕ). length b) n blocks ∙ ap (λ (l : List (List ℕ)). sizes l) whole in
    let here : BreaksAtRoot blocks at = record {
      front = front;
      each = each;
      block = get_or blocks n [];
      rest = drop (n + 1) blocks;
      whole = sym (take-append-drop n blocks) ∙ ap (λ (l : List (List ℕ)). l ++ drop n blocks) whole ∙ ap (λ (l : List (List ℕ)). root_blocks front ++ l) (drop_more blocks n [] (omega (arith, below, count_of log blocks disk settled)));
      none = none;
      place = place ∙ ap (λ (l : List ℕ). FIRST_BLOCK + extent l) lengths;
    } in
    inr (blocks, settled_plain log ROOT_AREA blocks disk (omega arith) area settled, inr here)

pub first_fault : (log : LogState) (at : ℕ) (disk : Disk) → log.area ≡ ROOT_AREA → HasBlocks log disk → 0 < length log.lengths → at ≡ FIRST_BLOCK + extent (take 0 log.lengths) → ((blocks : List (List ℕ)) → Settled log blocks disk → IsNoRoot (get_or blocks 0 [])) → IsRootsDamagedAt (disk.seen ROOT_AREA) at
first_fault log at disk area has some place none = break_at log 0 at disk has.0 [] area has.1 tt refl some (none has.0 has.1) place

pub next_fault : (log : LogState) (n at : ℕ) (last : Root) (disk : Disk) → log.area ≡ ROOT_AREA → IsReadTo log n last disk → n < length log.lengths → at ≡ FIRST_BLOCK + extent (take n log.lengths) → ((blocks : List (List ℕ)) → Settled log blocks disk → IsNoRoot (get_or blocks n [])) → IsRootsDamagedAt (disk.seen ROOT_AREA) at
next_fault log n at last disk area read below place none =
    break_at log n at disk read.blocks (read.front ++ last ∷ []) area read.settled (all-push IsRoot read.front last read.each read.is_root) read.whole below (none read.blocks read.settled) place
