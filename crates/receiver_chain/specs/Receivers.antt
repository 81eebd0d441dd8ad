-- Which receivers do the areas of a store spell, one tied to the next? A format of our own: the manual (Journal
-- Management, "Journal receivers") says that receivers form a chain, and not how.
use Rattle.std.specs.Prelude.{ℕ, ◌+◌, ◌-◌, ◌≡◌, ◌≢◌, ◌≤◌, ◌<◌, ◌⊎◌, ◌==◌, if◌then◌else◌, List, [], ◌∷◌, ◌++◌, length, get_or, drop, Option, Some, None}
use Rattle.store_model.specs.Disk.{Areas, Disk, May, Cut}
use Rattle.gated_log.specs.Blocks.{header, MayBegin, Spells, BreaksAt}
use Rattle.receiver_chain.specs.declared.numbers.TheConstants.{VERSION}
use Rattle.receiver_chain.specs.Links.{EndsInLink, EndsInNoLink}

-- the first sequence and the version in its header, and its blocks
pub record Receiver : Type 0 where
  pub first : ℕ
  pub version : ℕ
  pub blocks : List (List ℕ)

-- the receivers that are kept: those before the attached one, oldest first, and the attached one
pub record Kept : Type 0 where
  pub earlier : List Receiver
  pub attached : Receiver

-- ---- the one list of blocks

abbrev pub blocks_in : List Receiver → List (List ℕ)
blocks_in [] = []
blocks_in (r ∷ rs) = r.blocks ++ blocks_in rs

-- all blocks, one after another
abbrev pub blocks_of : Kept → List (List ℕ)
blocks_of kept = blocks_in kept.earlier ++ kept.attached.blocks

abbrev pub with_block : List ℕ → Receiver → Receiver
with_block block r = record r { blocks = r.blocks ++ block ∷ [] }

-- one block more in the attached receiver
abbrev pub deposited : List ℕ → Kept → Kept
deposited block kept = record kept { attached = with_block block kept.attached }

-- the attached receiver ends in this block, and the next one, which is empty, begins with this sequence
abbrev pub switched : List ℕ → ℕ → Kept → Kept
switched block first kept = record {
  earlier = kept.earlier ++ with_block block kept.attached ∷ [];
  attached = record { first = first; version = VERSION; blocks = [] };
}

-- the receiver of a number from the first kept one on
abbrev pub receiver_at : ℕ → Kept → ℕ → Receiver
receiver_at first kept receiver = get_or kept.earlier (receiver - first) kept.attached

-- without so many of the first ones
abbrev pub dropped : ℕ → Kept → Kept
dropped n kept = record { earlier = drop n kept.earlier; attached = kept.attached }

-- ---- areas

abbrev pub area_of : ℕ → ℕ
area_of receiver = 2 + receiver

-- the number of the attached receiver
abbrev pub attached_number : ℕ → Kept → ℕ
attached_number first kept = first + length kept.earlier

-- the last sequence before a receiver that is the first one kept: known of receiver 1 alone
abbrev pub before_first : ℕ → Option ℕ
before_first receiver = if receiver == 1 then Some 0 else None

-- a receiver begins with the sequence behind that one, where it is known
abbrev pub Follows : Option ℕ → ℕ → Type 0
Follows None first = Unit {0}
Follows (Some before) first = first ≡ before + 1

-- the areas from this receiver's on spell these
abbrev pub AreSpelled : ℕ → List Receiver → Areas → Type 0
AreSpelled number [] areas = Unit {0}
AreSpelled number (r ∷ rs) areas = Spells (area_of number) r.first r.version r.blocks (areas (area_of number)) × AreSpelled (number + 1) rs areas

-- each of these is tied to the one behind it, the last of them to receiver `next`, and before that one comes this sequence
abbrev pub LeadTo : ℕ → Option ℕ → List Receiver → ℕ → Option ℕ → Type 0
LeadTo number before [] next last = (next ≡ number) × (last ≡ before)
LeadTo number before (r ∷ rs) next last = Follows before r.first × (sequence : ℕ) × EndsInLink (number + 1) sequence r.blocks × LeadTo (number + 1) (Some sequence) rs next last

-- the areas are the one spelling of these receivers, from the first kept one on; nothing else counts
pub record AreChained (first : ℕ) (kept : Kept) (areas : Areas) : Type 0 where
  pub earlier : AreSpelled first kept.earlier areas
  pub before : Option ℕ
  pub lead : LeadTo first (before_first first) kept.earlier (attached_number first kept) before
  pub follows : Follows before kept.attached.first
  pub attached : Spells (area_of (attached_number first kept)) kept.attached.first kept.attached.version kept.attached.blocks (areas (area_of (attached_number first kept)))
  pub last : EndsInNoLink (attached_number first kept + 1) kept.attached.blocks

-- the areas of the receivers from the first to before the next one are whole or cut, the others are as they were
pub record AreCut (first next : ℕ) (old new : Areas) : Type 0 where
  pub cut : (number : ℕ) → first ≤ number → number < next → Cut 0 (old (area_of number)) (new (area_of number))
  pub others : (area : ℕ) → ((number : ℕ) → first ≤ number → number < next → area ≢ area_of number) → new area ≡ old area

-- the same of what a stop might have left
abbrev pub IsCutOf : Disk → ℕ → ℕ → Areas → Type 0
IsCutOf disk first next areas = (before : Areas) × May disk before × AreCut first next before areas

-- ---- damage

-- the area begins with no header that may stand there
abbrev pub HasNoStart : ℕ → Option ℕ → List ℕ → Type 0
HasNoStart area before bytes = (first version : ℕ) (body : List ℕ) → MayBegin area first version → Follows before first → bytes ≡ header area first version ++ body → ⊥

-- its header is at fault, or else the first gate or block
abbrev pub IsReceiverDamagedAt : ℕ → Option ℕ → List ℕ → ℕ → Type 0
IsReceiverDamagedAt area before bytes at = (HasNoStart area before bytes × (at ≡ 0)) ⊎ ((HasNoStart area before bytes → ⊥) × BreaksAt area bytes at)

-- receivers that are whole lead to one that is at fault
pub record IsChainDamagedAt (first : ℕ) (areas : Areas) (area at : ℕ) : Type 0 where
  pub earlier : List Receiver
  pub number : ℕ
  pub before : Option ℕ
  pub spelled : AreSpelled first earlier areas
  pub lead : LeadTo first (before_first first) earlier number before
  pub here : area ≡ area_of number
  pub damaged : IsReceiverDamagedAt area before (areas area) at
