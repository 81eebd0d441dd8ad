-- How far the receivers of a chain were read, and with what. Our own.
use Rattle.std.specs.Prelude.{ℕ, ◌+◌, ◌-◌, ◌≡◌, ◌≢◌, ◌⊎◌, ⊤, List, [], ◌∷◌, ◌++◌, length}
use Rattle.entry_codec.specs.declared.entries.Entry.{Entry}
use Rattle.receiver_chain.specs.Links.{IsStart}
use Rattle.receiver_chain.specs.Receivers.{Kept, Receiver}
use Rattle.journal_model.specs.Journal.{AreNumbered}
use Rattle.journal_book.specs.Entries.{AreBlocks, AreReceivers, all_groups, flat}
use Rattle.journal_book.specs.Bodies.{IsBody}

-- the blocks are these groups of entries, which tie nothing and are numbered from behind this sequence
abbrev pub AreBodies : ℕ → List (List ℕ) → List (List Entry) → Type 0
AreBodies last [] [] = ⊤
AreBodies last (block ∷ blocks) (group ∷ groups) = IsBody last group block × AreBodies (last + length group) blocks groups
AreBodies last [] (group ∷ groups) = ⊥
AreBodies last (block ∷ blocks) [] = ⊥

-- they are some groups, and this is the last sequence; or none
abbrev pub HasBodies : ℕ → List (List ℕ) → ℕ → Type 0
HasBodies last blocks reached = (groups : List (List Entry)) × AreBodies last blocks groups × (reached ≡ last + length (flat groups))

abbrev pub HasNoBodies : ℕ → List (List ℕ) → Type 0
HasNoBodies last blocks = (groups : List (List Entry)) → AreBodies last blocks groups → ⊥

-- how many blocks of the receiver tie it to the one before, up to this sequence
abbrev pub IsFront : ℕ → ℕ → List (List ℕ) → ℕ → ℕ → Type 0
IsFront number last blocks taken reached =
    (((number ≡ 1) ⊎ ((number ≢ 1) × (blocks ≡ []))) × (taken ≡ 0) × (reached ≡ last))
    ⊎ ((number ≢ 1) × ((block : List ℕ) × (rest : List (List ℕ)) × (blocks ≡ block ∷ rest) × IsStart (number - 1) (last + 1) block) × (taken ≡ 1) × (reached ≡ last + 1))

-- its first block isn't the one that it begins by
abbrev pub HasNoFront : ℕ → ℕ → List (List ℕ) → Type 0
HasNoFront number last blocks = (number ≢ 1) × ((block : List ℕ) × (rest : List (List ℕ)) × (blocks ≡ block ∷ rest) × (IsStart (number - 1) (last + 1) block → ⊥))

-- a receiver's blocks are these groups, which stand so and are numbered from behind this sequence
pub record IsRead (Stands : List (List Entry) → Type 0) (last : ℕ) (blocks : List (List ℕ)) (groups : List (List Entry)) : Type 0 where
  pub spelled : AreBlocks groups blocks
  pub stands : Stands groups
  pub numbered : AreNumbered (last + 1) (flat groups)

-- they are some, and this is the last sequence; or none
abbrev pub HasRead : (List (List Entry) → Type 0) → ℕ → List (List ℕ) → ℕ → Type 0
HasRead Stands last blocks reached = (groups : List (List Entry)) × IsRead Stands last blocks groups × (reached ≡ last + length (flat groups))

abbrev pub HasNoRead : (List (List Entry) → Type 0) → ℕ → List (List ℕ) → Type 0
HasNoRead Stands last blocks = (groups : List (List Entry)) → IsRead Stands last blocks groups → ⊥

-- the receivers' blocks are these groups, in the grammar and numbered from behind this sequence
pub record AreRead (number last : ℕ) (rs : List Receiver) (attached : Receiver) (earlier : List (List (List Entry))) (final : List (List Entry)) : Type 0 where
  pub receivers : AreReceivers number rs earlier attached final
  pub numbered : AreNumbered (last + 1) (flat (all_groups earlier final))

-- they are some, and this is the last sequence; or none
abbrev pub HaveRead : ℕ → ℕ → List Receiver → Receiver → ℕ → Type 0
HaveRead number last rs attached reached =
    (earlier : List (List (List Entry))) × (final : List (List Entry)) × AreRead number last rs attached earlier final × (reached ≡ last + length (flat (all_groups earlier final)))

abbrev pub HaveNoRead : ℕ → ℕ → List Receiver → Receiver → Type 0
HaveNoRead number last rs attached = (earlier : List (List (List Entry))) (final : List (List Entry)) → AreRead number last rs attached earlier final → ⊥
