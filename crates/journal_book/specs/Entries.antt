-- Which entries do the blocks of the receivers hold, and where do the entries stand that tie receivers? (Journal
-- Management, "Journal code finder", code J, entry types NR and PR. That a call's entries are one block is our own.)
use Rattle.std.specs.Prelude.{ℕ, ◌+◌, ◌-◌, ◌≡◌, ◌≢◌, ◌≤◌, ◌⊎◌, List, [], ◌∷◌, ◌++◌}
use Rattle.std.specs.List.{AllByRecursion}
use Rattle.entry_codec.specs.declared.entries.Entry.{Entry}
use Rattle.entry_codec.specs.declared.kinds.EntryKind.TheVariants.{NextReceiver, PreviousReceiver}
use Rattle.entry_codec.specs.Spelling.{IsSpelled, spelling}
use Rattle.journal_model.specs.Journal.{AreNumbered}
use Rattle.receiver_chain.specs.Receivers.{Receiver, Kept}

-- the entries, one after another
abbrev pub spelled : List Entry → List ℕ
spelled [] = []
spelled (e ∷ entries) = spelling e ++ spelled entries

-- the block is these entries and nothing more; a block may have none
pub record IsBlock (entries : List Entry) (block : List ℕ) : Type 0 where
  pub each : AllByRecursion IsSpelled entries
  pub whole : block ≡ spelled entries

abbrev pub AreBlocks : List (List Entry) → List (List ℕ) → Type 0
AreBlocks [] [] = Unit {0}
AreBlocks (entries ∷ groups) (block ∷ blocks) = IsBlock entries block × AreBlocks groups blocks
AreBlocks [] (block ∷ blocks) = ⊥
AreBlocks (entries ∷ groups) [] = ⊥

-- the entries of all blocks, one after another
abbrev pub flat : List (List Entry) → List Entry
flat [] = []
flat (entries ∷ groups) = entries ++ flat groups

-- ---- where J NR and J PR stand

-- the entry ties no receivers
abbrev pub IsInside : Entry → Type 0
IsInside e = (number : ℕ) → (e.kind ≡ NextReceiver number) ⊎ (e.kind ≡ PreviousReceiver number) → ⊥

-- the entry ends no receiver
abbrev pub IsNoEnd : Entry → Type 0
IsNoEnd e = (number : ℕ) → e.kind ≡ NextReceiver number → ⊥

-- none of these entries ties receivers
abbrev pub AreInside : List (List Entry) → Type 0
AreInside groups = AllByRecursion (λ entries. AllByRecursion IsInside entries) groups

-- a receiver begins with J PR of the one before, alone in its block, but for receiver 1
abbrev pub BeginsWith : ℕ → List (List Entry) → List (List Entry) → Type 0
BeginsWith number groups rest = ((number ≡ 1) × (groups ≡ rest)) ⊎ ((number ≢ 1) × ((e : Entry) × (e.kind ≡ PreviousReceiver (number - 1)) × (groups ≡ (e ∷ []) ∷ rest)))

-- a receiver that has begun, and then entries that tie nothing
abbrev pub HasBegun : ℕ → List (List Entry) → Type 0
HasBegun number groups = (body : List (List Entry)) × BeginsWith number groups body × AreInside body

-- a receiver that another follows ends with J NR of that one, alone in its block
abbrev pub IsEnded : ℕ → List (List Entry) → Type 0
IsEnded number groups =
    (body : List (List Entry)) × (e : Entry) × BeginsWith number groups (body ++ (e ∷ []) ∷ []) × AreInside body × (e.kind ≡ NextReceiver (number + 1))

-- the attached receiver has entries that tie nothing; it may still lack its J PR, and is empty then
abbrev pub IsAttached : ℕ → List (List Entry) → Type 0
IsAttached number groups = HasBegun number groups ⊎ ((number ≢ 1) × (groups ≡ []))

-- the groups of receivers, of which each but the last is ended
abbrev pub AreReceivers : ℕ → List Receiver → List (List (List Entry)) → Receiver → List (List Entry) → Type 0
AreReceivers number [] [] attached last = AreBlocks last attached.blocks × IsAttached number last
AreReceivers number (r ∷ rs) (groups ∷ more) attached last = AreBlocks groups r.blocks × IsEnded number groups × AreReceivers (number + 1) rs more attached last
AreReceivers number [] (groups ∷ more) attached last = ⊥
AreReceivers number (r ∷ rs) [] attached last = ⊥

-- the first sequence that is kept
abbrev pub first_sequence : Kept → ℕ
first_sequence kept = first_of kept.earlier kept.attached
  where
    first_of : List Receiver → Receiver → ℕ
    first_of [] attached = attached.first
    first_of (r ∷ rs) attached = r.first

-- all blocks of all receivers, as groups of entries
abbrev pub all_groups : List (List (List Entry)) → List (List Entry) → List (List Entry)
all_groups [] last = last
all_groups (groups ∷ more) last = groups ++ all_groups more last

-- the receivers hold these entries, in the grammar, in place and numbered; no sequence is 0
pub record HoldsEntries (first : ℕ) (kept : Kept) (entries : List Entry) : Type 0 where
  pub earlier : List (List (List Entry))
  pub last : List (List Entry)
  pub receivers : AreReceivers first kept.earlier earlier kept.attached last
  pub all : entries ≡ flat (all_groups earlier last)
  pub numbered : AreNumbered (first_sequence kept) entries
  pub counted : 1 ≤ first_sequence kept
