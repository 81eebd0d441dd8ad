-- What keeps a log settled: for crates that hold logs.
use Rattle.std.proofs.Common.{◌≡◌, ◌≢◌, ℕ, List, sym, ◌∙◌, subst}
use Rattle.std.proofs.Math.Logic.{∥∥₁_map}
use Rattle.store_model.specs.Disk.{Disk, Does, Stays, IsDurable}
use Rattle.store_model.proofs.Runs.{stays_durable, durable_apart}
use Rattle.gated_log.specs.Blocks.{Spells}
use Rattle.gated_log.specs.Log.{LogState, Settled, IsSettled}

-- a log that differs in its room alone
pub settled_same : (old new : LogState) (blocks : List (List ℕ)) (disk : Disk) → new.area ≡ old.area → new.first ≡ old.first → new.version ≡ old.version → new.lengths ≡ old.lengths → Settled old blocks disk → Settled new blocks disk
settled_same old new blocks disk area first version lengths settled = record {
  spells = subst (λ (a : ℕ). Spells a new.first new.version blocks (disk.seen a)) (sym area) (subst (λ (f : ℕ). Spells old.area f new.version blocks (disk.seen old.area)) (sym first) (subst (λ (v : ℕ). Spells old.area old.first v blocks (disk.seen old.area)) (sym version) settled.spells));
  lengths = lengths ∙ settled.lengths;
  durable = subst (λ (a : ℕ). IsDurable a disk) (sym area) settled.durable;
}

-- a call that changes no area
pub settled_stays : (log : LogState) (blocks : List (List ℕ)) (old new : Disk) → Stays old new → Settled log blocks old → Settled log blocks new
settled_stays log blocks old new stays settled = record {
  spells = subst (λ (l : List ℕ). Spells log.area log.first log.version blocks l) (sym (stays.seen log.area)) settled.spells;
  lengths = settled.lengths;
  durable = stays_durable log.area old new stays settled.durable;
}

-- a call on another area
pub settled_apart : (log : LogState) (blocks : List (List ℕ)) (area : ℕ) (step : List ℕ → List ℕ → Type 0) (old new : Disk) → Does area step old new → log.area ≢ area → Settled log blocks old → Settled log blocks new
settled_apart log blocks area step old new does apart settled = record {
  spells = subst (λ (l : List ℕ). Spells log.area log.first log.version blocks l) (sym (does.others log.area apart)) settled.spells;
  lengths = settled.lengths;
  durable = durable_apart area step old new does log.area apart settled.durable;
}

-- the same of some blocks
pub is_settled_same : (old new : LogState) (disk : Disk) → new.area ≡ old.area → new.first ≡ old.first → new.version ≡ old.version → new.lengths ≡ old.lengths → IsSettled old disk → IsSettled new disk
is_settled_same old new disk area first version lengths some = ∥∥₁_map some (λ has. (has.0, settled_same old new has.0 disk area first version lengths has.1))

pub is_settled_stays : (log : LogState) (old new : Disk) → Stays old new → IsSettled log old → IsSettled log new
is_settled_stays log old new stays some = ∥∥₁_map some (λ has. (has.0, settled_stays log has.0 old new stays has.1))

pub is_settled_apart : (log : LogState) (area : ℕ) (step : List ℕ → List ℕ → Type 0) (old new : Disk) → Does area step old new → log.area ≢ area → IsSettled log old → IsSettled log new
is_settled_apart log area step old new does apart some = ∥∥₁_map some (λ has. (has.0, settled_apart log has.0 area step old new does apart has.1))
