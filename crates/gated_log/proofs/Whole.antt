-- What an append and a read of a block are, for a log that is settled.
use Rattle.std.proofs.Common.{◌≡◌, inl, ℕ, ◌+◌, ◌^◌, ◌<◌, ◌≤◌, List, [], ◌∷◌, ◌++◌, length, get_or, take, drop, sym, ◌∙◌, ap, subst, arith}
use Rattle.std.proofs.Math.Logic.{∥∥₁_elim}
use Rattle.std.proofs.Math.Bridge.{le_prop}
use Rattle.std.proofs.lemmas.List.{drop_at, drop-drop, length-map}
use Rattle.store_model.specs.Disk.{Disk, Does, Torn, IsDurable, written}
use Rattle.store_model.proofs.Runs.{weaken, then_does}
use Rattle.gated_log.specs.Blocks.{header, Spells, StandsAt, extent, sizes}
use Rattle.gated_log.specs.Log.{LogState, Settled, IsSettled, IsWithOrWithout}
use Rattle.gated_log.specs.Places.{ArePlaced, lengths_of}
use Rattle.gated_log.specs.Steps.{KeepsFront, IsStaged}
use Rattle.gated_log.specs.declared.log.Place.{Place}
use Rattle.gated_log.proofs.Numbers.{length-header}
use Rattle.gated_log.proofs.Blocks.{placed_end, placed_at, sizes-push, block_at, block_stands, Read}
use Rattle.gated_log.proofs.Append.{Upto, upto, gate_within, front_keeps, staged_size, torn_gate, opened_gate}

module _ (log : LogState) (area gate : ℕ) (places : List Place) (area_is : area ≡ log.area) (lengths_are : lengths_of places ≡ log.lengths) (placed : ArePlaced 32 places gate) where
  at_gate : (blocks : List (List ℕ)) (disk : Disk) → Settled log blocks disk → Upto log.area log.first log.version blocks (disk.seen log.area) gate
  at_gate blocks disk settled = upto log.area log.first log.version blocks (disk.seen log.area) gate settled.spells (placed_end 32 places gate placed ∙ ap (λ (l : List ℕ). 32 + extent l) (lengths_are ∙ settled.lengths))

  pub gate_in : (disk : Disk) → IsSettled log disk → gate + 1 ≤ length (disk.seen area)
  gate_in disk some =
      ∥∥₁_elim some le_prop (λ has.
      subst (λ (a : ℕ). gate + 1 ≤ length (disk.seen a)) (sym area_is)
      (gate_within log.area log.first log.version gate has.0 [] (disk.seen log.area) (at_gate has.0 disk has.1) (omega arith)))

  pub gate_in_staged : (old new : Disk) (block : List ℕ) → length block < 2 ^ 32 → IsSettled log old → IsStaged (gate + 1) block (old.seen area) (new.seen area) → gate ≤ length (new.seen area)
  gate_in_staged old new block small some staged =
      ∥∥₁_elim some le_prop (λ has.
      let at = subst (λ (a : ℕ). Upto log.area log.first log.version has.0 (old.seen a) gate) (sym area_is) (at_gate has.0 old has.1) in
      omega (arith, staged_size log.area log.first log.version gate has.0 block (old.seen area) at small (new.seen area) staged.0 staged.1))

  -- the nth block is read where it stands
  pub read_at : (blocks : List (List ℕ)) (disk : Disk) (n : ℕ) (place : Place) → Settled log blocks disk → n < length places → place ≡ get_or places n place → Read (disk.seen area) (get_or blocks n []) place
  read_at blocks disk n place settled below is =
      let whole = settled.spells.header in
      let read = block_at blocks places (header log.area log.first log.version) settled.spells.body (0 ∷ settled.spells.rest) 32 gate n place settled.spells.opens placed (lengths_are ∙ settled.lengths) (length-header log.area log.first log.version) below in
      let there = subst (λ (p : Place). Read (header log.area log.first log.version ++ settled.spells.body) (get_or blocks n []) p) (sym is) read in
      subst (λ (a : ℕ). Read (disk.seen a) (get_or blocks n []) place) (sym area_is)
      (subst (λ (l : List ℕ). Read l (get_or blocks n []) place) (sym whole) there)

  pub read_within : (disk : Disk) (n : ℕ) (place : Place) → IsSettled log disk → n < length places → place ≡ get_or places n place → place.at + place.length ≤ length (disk.seen area)
  read_within disk n place some below is = ∥∥₁_elim some le_prop (λ has. (read_at has.0 disk n place has.1 below is).within)

  -- the nth place, from the lengths before it
  pub place_is : (n : ℕ) (place : Place) → n < length places → place ≡ get_or places n place → place.at ≡ 37 + extent (take n log.lengths)
  place_is n place below is =
      ap (λ (p : Place). p.at) is ∙ placed_at 32 places gate n place placed below ∙ ap (λ (l : List ℕ). 37 + extent (take n l)) lengths_are

  -- the block stands there
  pub place_stands : (blocks : List (List ℕ)) (bytes : List ℕ) (n at : ℕ) → Spells log.area log.first log.version blocks bytes → log.lengths ≡ sizes blocks → n < length places → at ≡ 33 + extent (take n log.lengths) → StandsAt at (get_or blocks n []) bytes
  place_stands blocks bytes n at spells same below here =
      let before = 1 + extent (take n (sizes blocks)) in
      let count : n < length blocks = omega (arith, below, ap length (lengths_are ∙ same), length-map places (λ (p : Place). p.length), length-map blocks (λ (b : List ℕ). length b)) in
      let stands = block_stands blocks n spells.body (0 ∷ spells.rest) spells.opens count in
      let further : at ≡ 32 + before = omega (arith, here, ap (λ (l : List ℕ). extent (take n l)) same) in (
        stands.0,
        ap (λ (k : ℕ). drop k bytes) further ∙ sym (drop-drop before 32 bytes)
            ∙ ap (λ (l : List ℕ). drop before l) (ap (λ (l : List ℕ). drop 32 l) spells.header ∙ drop_at (header log.area log.first log.version) spells.body 32 (length-header log.area log.first log.version))
            ∙ stands.1,
      )

  module _ (blocks : List (List ℕ)) (block : List ℕ) (old : Disk) (settled : Settled log blocks old) (small : length block < 2 ^ 32) where
    at : Upto log.area log.first log.version blocks (old.seen log.area) gate
    at = at_gate blocks old settled

    -- while the block is written the list is the old one
    pub stage_moment : (mid : Disk) → Does area (KeepsFront (gate + 1)) old mid → Does log.area (λ _ bytes. IsWithOrWithout log.area log.first log.version blocks block bytes) old mid
    stage_moment mid does =
        let here = subst (λ (a : ℕ). Does a (KeepsFront (gate + 1)) old mid) area_is does in
        weaken log.area (KeepsFront (gate + 1)) old mid here (λ bytes. bytes ≡ old.seen log.area) (λ _ bytes. IsWithOrWithout log.area log.first log.version blocks block bytes) settled.durable
        (λ before after is keeps. inl (front_keeps log.area log.first log.version gate blocks block (old.seen log.area) at small after (subst (λ (l : List ℕ). KeepsFront (gate + 1) l after) is keeps)))

    -- while the gate is opened it is the old one or has the block
    pub whole_moment : (mid new : Disk) → Does area (KeepsFront (gate + 1)) old mid → IsDurable area mid → IsStaged (gate + 1) block (old.seen area) (mid.seen area) → Does area (Torn gate 1) mid new → Does log.area (λ _ bytes. IsWithOrWithout log.area log.first log.version blocks block bytes) old new
    whole_moment mid new first durable staged second =
        let next = subst (λ (a : ℕ). Does a (Torn gate 1) mid new) area_is second in
        let there = subst (λ (a : ℕ). IsStaged (gate + 1) block (old.seen a) (mid.seen a)) area_is staged in
        then_does log.area (λ _ bytes. IsWithOrWithout log.area log.first log.version blocks block bytes) old mid (stage_moment mid first) (Torn gate 1) new (λ bytes. bytes ≡ mid.seen log.area) (λ _ bytes. IsWithOrWithout log.area log.first log.version blocks block bytes) next
        (subst (λ (a : ℕ). IsDurable a mid) area_is durable) (λ before after r. r)
        (λ before between after r is torn. torn_gate log.area log.first log.version gate blocks block (old.seen log.area) at small (mid.seen log.area) there.0 there.1 after (subst (λ (l : List ℕ). Torn gate 1 l after) is torn))

    -- and then it has the block
    pub appended : (after : LogState) (mid new : Disk) → after.area ≡ area → after.first ≡ log.first → after.version ≡ log.version → after.lengths ≡ lengths_of places ++ length block ∷ []
        → IsStaged (gate + 1) block (old.seen area) (mid.seen area) → new.seen area ≡ written gate (1 ∷ []) (mid.seen area) → IsDurable area new → Settled after (blocks ++ block ∷ []) new
    appended after mid new same_area same_first same_version more staged opened durable =
        let there = subst (λ (a : ℕ). IsStaged (gate + 1) block (old.seen a) (mid.seen a)) area_is staged in
        let is = subst (λ (a : ℕ). new.seen a ≡ written gate (1 ∷ []) (mid.seen a)) area_is opened in
        let spells = opened_gate log.area log.first log.version gate blocks block (old.seen log.area) at small (mid.seen log.area) there.0 there.1 (new.seen log.area) is in
        let now = same_area ∙ area_is in
        record {
          spells = subst (λ (a : ℕ). Spells a after.first after.version (blocks ++ block ∷ []) (new.seen a)) (sym now)
              (subst (λ (f : ℕ). Spells log.area f after.version (blocks ++ block ∷ []) (new.seen log.area)) (sym same_first) (subst (λ (v : ℕ). Spells log.area log.first v (blocks ++ block ∷ []) (new.seen log.area)) (sym same_version) spells));
          lengths = more ∙ ap (λ (l : List ℕ). l ++ length block ∷ []) (lengths_are ∙ settled.lengths) ∙ sym (sizes-push blocks block);
          durable = subst (λ (a : ℕ). IsDurable a new) (sym same_area) durable;
        }
