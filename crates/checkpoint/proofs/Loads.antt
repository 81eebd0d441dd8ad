-- Loading a state: the one block of its area, and the entries in it.
use Rattle.std.proofs.Common.{◌≡◌, ◌≢◌, ◌⊎◌, inl, inr, ℕ, ◌+◌, ◌-◌, ◌≤◌, ◌<◌, List, [], ◌∷◌, ◌++◌, length, get_or, take, drop, refl, sym, ◌∙◌, ap, subst, arith, append_assoc, length-drop, length-take, take-append-drop}
use Rattle.std.specs.List.{AllByRecursion}
use Rattle.std.proofs.Math.Seq.{take-add}
use Rattle.std.proofs.lemmas.List.{append-nil, length-map, nil_from_length, take_all, take_at}
use Rattle.store_model.specs.Disk.{Areas, Disk, IsDurable, Stays}
use Rattle.entry_codec.specs.declared.entries.Entry.{Entry}
use Rattle.entry_codec.specs.Spelling.{Begins, IsSpelled, spelling}
use Rattle.gated_log.specs.Blocks.{IsDamagedAt, Spells, extent, sizes}
use Rattle.gated_log.specs.Log.{HasBlocks, LogState, Settled}
use Rattle.checkpoint.specs.declared.layout.TheConstants.{FIRST_BLOCK, FIRST_BYTE, FIRST_GATE, VERSION}
use Rattle.checkpoint.specs.declared.root.Root.{Root}
use Rattle.checkpoint.specs.States.{BreaksAtEntry, HasNoEntry, IsNotOneAt, IsSaved, IsStateDamagedAt, spelled}
use Rattle.checkpoint.specs.Holding.{IsKept}
use Rattle.checkpoint.proofs.RootLaws.{all-push, no_cons}
use Rattle.checkpoint.proofs.StateLaws.{one_state}
use Rattle.checkpoint.proofs.Kept.{kept_durable, saved_same, settled_plain}

-- ---- the one block

-- the area is a log, and not one of one block of that size
abbrev pub HasNotOne : ℕ → ℕ → List ℕ → ℕ → Type 0
HasNotOne area size bytes at = (blocks : List (List ℕ)) × Spells area 0 VERSION blocks bytes × IsNotOneAt size blocks at

count_of : (log : LogState) (blocks : List (List ℕ)) (disk : Disk) → Settled log blocks disk → length log.lengths ≡ length blocks
count_of log blocks disk settled = ap (λ (l : List ℕ). length l) settled.lengths ∙ length-map blocks (λ (b : List ℕ). length b)

no_block : (size : ℕ) (blocks : List (List ℕ)) → length blocks ≡ 0 → IsNotOneAt size blocks FIRST_GATE
no_block size [] none = refl
no_block size (b ∷ rest) none = absurd (omega (arith, none))

other_block : (size : ℕ) (blocks : List (List ℕ)) → 0 < length blocks → length (get_or blocks 0 []) ≢ size → IsNotOneAt size blocks FIRST_BLOCK
other_block size [] some other = absurd (omega (arith, some))
other_block size (b ∷ rest) some other = inl (other, refl)

more_blocks : (size at : ℕ) (blocks : List (List ℕ)) → 1 < length blocks → length (get_or blocks 0 []) ≡ size → at ≡ 33 + extent (take 1 (sizes blocks)) - 1 → IsNotOneAt size blocks at
more_blocks size at [] more same place = absurd (omega (arith, more))
more_blocks size at (b ∷ []) more same place = absurd (omega (arith, more))
more_blocks size at (b ∷ c ∷ rest) more same place = inr (same, λ none. no_cons c rest (sym none), omega (arith, place, same))

one_block : (blocks : List (List ℕ)) → length blocks ≡ 1 → blocks ≡ get_or blocks 0 [] ∷ []
one_block [] one = absurd (omega (arith, one))
one_block (b ∷ rest) one = ap (λ (l : List (List ℕ)). b ∷ l) (nil_from_length rest (omega (arith, one)))

module _ (log : LogState) (area size : ℕ) (disk : Disk) (le : area ≤ 2) (here : log.area ≡ area) (has : HasBlocks log disk) where
  pub none_there : length log.lengths ≡ 0 → HasNotOne area size (disk.seen area) FIRST_GATE
  none_there none = (has.0, settled_plain log area has.0 disk le here has.1, no_block size has.0 (omega (arith, none, count_of log has.0 disk has.1)))

  module _ (block : List ℕ) (read : (blocks : List (List ℕ)) → Settled log blocks disk → block ≡ get_or blocks 0 []) where
    pub other_there : 0 < length log.lengths → length block ≢ size → HasNotOne area size (disk.seen area) FIRST_BLOCK
    other_there some other = (
      has.0,
      settled_plain log area has.0 disk le here has.1,
      other_block size has.0 (omega (arith, some, count_of log has.0 disk has.1)) (λ same. other (ap (λ (l : List ℕ). length l) (read has.0 has.1) ∙ same)),
    )

    pub more_there : (at : ℕ) → 1 < length log.lengths → length block ≡ size → at ≡ 33 + extent (take 1 log.lengths) - 1 → HasNotOne area size (disk.seen area) at
    more_there at more same place = (
      has.0,
      settled_plain log area has.0 disk le here has.1,
      more_blocks size at has.0 (omega (arith, more, count_of log has.0 disk has.1)) (sym (ap (λ (l : List ℕ). length l) (read has.0 has.1)) ∙ same) (place ∙ ap (λ (l : List ℕ). 33 + extent (take 1 l) - 1) has.1.lengths),
    )

    pub one_there : length log.lengths ≡ 1 → Spells area 0 VERSION (block ∷ []) (disk.seen area)
    one_there one =
        let whole : has.0 ≡ block ∷ [] = one_block has.0 (omega (arith, one, count_of log has.0 disk has.1)) ∙ ap (λ (b : List ℕ). b ∷ []) (sym (read has.0 has.1)) in
        subst (λ (l : List (List ℕ)). Spells area 0 VERSION l (disk.seen area)) whole (settled_plain log area has.0 disk le here has.1)

-- ---- its entries

spelled-push : (xs : List Entry) (e : Entry) → spelled (xs ++ e ∷ []) ≡ spelled xs ++ spelling e
spelled-push [] e = append-nil (spelling e)
spelled-push (x ∷ xs) e = ap (λ (l : List ℕ). spelling x ++ l) (spelled-push xs e) ∙ sym (append_assoc (spelling x) (spelled xs) (spelling e))

-- the block was read up to a place
pub record IsReadTo (block : List ℕ) (at : ℕ) (entries : List Entry) : Type 0 where
  pub each : AllByRecursion IsSpelled entries
  pub whole : take at block ≡ spelled entries

pub read_none : (block : List ℕ) → IsReadTo block 0 []
read_none block = record { each = tt; whole = refl }

pub read_further : (block : List ℕ) (at count : ℕ) (entries pushed : List Entry) (e : Entry) → IsReadTo block at entries → Begins (drop at block) e count → pushed ≡ entries ++ e ∷ [] → IsReadTo block (at + count) pushed
read_further block at count entries pushed e read begins push =
    let front : take count (drop at block) ≡ spelling e = ap (λ (l : List ℕ). take count l) begins.front ∙ take_at (spelling e) (drop count (drop at block)) count (sym begins.long) in
    subst (λ (l : List Entry). IsReadTo block (at + count) l) (sym push) (record {
      each = all-push IsSpelled entries e read.each begins.spelled;
      whole = take-add at count block ∙ ap (λ (l : List ℕ). take at block ++ l) front ∙ ap (λ (l : List ℕ). l ++ spelling e) read.whole ∙ sym (spelled-push entries e);
    })

pub read_whole : (block : List ℕ) (at : ℕ) (entries : List Entry) → IsReadTo block at entries → length block ≤ at → block ≡ spelled entries
read_whole block at entries read past = sym (take_all at block past) ∙ read.whole

pub read_fault : (block : List ℕ) (at place : ℕ) (entries : List Entry) → IsReadTo block at entries → at < length block → HasNoEntry (drop at block) → place ≡ FIRST_BYTE + at → BreaksAtEntry block place
read_fault block at place entries read short none is = record {
  front = entries;
  each = read.each;
  rest = drop at block;
  whole = sym (take-append-drop at block) ∙ ap (λ (l : List ℕ). l ++ drop at block) read.whole;
  some = λ same. omega (arith, short, ap (λ (l : List ℕ). length l) same, length-drop at block);
  none = none;
  place = is ∙ ap (λ (n : ℕ). FIRST_BYTE + n) size;
}
  where
    size : at ≡ length (spelled entries)
    size = omega (arith, short, ap (λ (l : List ℕ). length l) read.whole, length-take at block)

-- ---- the state

pub loaded_is : (root : Root) (block : List ℕ) (entries : List Entry) (disk : Disk) → root.area ≢ 0 → Spells root.area 0 VERSION (block ∷ []) (disk.seen root.area) → IsDurable root.area disk → length block ≡ root.length → AllByRecursion IsSpelled entries → block ≡ spelled entries → IsKept root entries disk
loaded_is root block entries disk some spells durable size each whole =
    kept_durable root entries disk some
    (record { each = each; whole = ap (λ (l : List ℕ). length l) (sym whole) ∙ size; spells = subst (λ (l : List ℕ). Spells root.area 0 VERSION (l ∷ []) (disk.seen root.area)) whole spells })
    durable

-- what was loaded is what was there
pub loaded_same : (root : Root) (entries state : List Entry) (old new : Disk) → Stays old new → IsKept root entries new → IsSaved root state old.seen → entries ≡ state
loaded_same root entries state old new stays kept saved =
    one_state root entries state old.seen (saved_same root entries new.seen old.seen (λ some. sym (stays.seen root.area)) kept.seen) saved

pub none_same : (root : Root) (entries state : List Entry) (areas : Areas) → root.area ≡ 0 → entries ≡ [] → IsSaved root state areas → entries ≡ state
none_same root entries state areas none is (inl saved) = is ∙ sym saved.1
none_same root entries state areas none is (inr saved) = absurd (saved.0 none)

-- ---- damage

pub not_one : (root : Root) (bytes : List ℕ) (at : ℕ) → IsDamagedAt root.area bytes at ⊎ HasNotOne root.area root.length bytes at → IsStateDamagedAt root bytes at
not_one root bytes at (inl damaged) = inl damaged
not_one root bytes at (inr (blocks, spells, fault)) = inr (blocks, spells, inl fault)

pub no_entries : (root : Root) (block bytes : List ℕ) (at : ℕ) → Spells root.area 0 VERSION (block ∷ []) bytes → length block ≡ root.length → BreaksAtEntry block at → IsStateDamagedAt root bytes at
no_entries root block bytes at spells size breaks = inr (block ∷ [], spells, inr (block, refl, size, breaks))

-- before a call that changes no area
pub not_one_before : (area size at place : ℕ) (old new : Disk) → Stays old new → at ≡ place → HasNotOne area size (new.seen area) place → IsDamagedAt area (old.seen area) at ⊎ HasNotOne area size (old.seen area) at
not_one_before area size at place old new stays is misses =
    inr (subst (λ (n : ℕ). HasNotOne area size (old.seen area) n) (sym is) (subst (λ (l : List ℕ). HasNotOne area size l place) (stays.seen area) misses))
