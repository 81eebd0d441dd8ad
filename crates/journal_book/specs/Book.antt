-- A journal's book as its callers see it, and how it stands to the disk. Our own.
use Rattle.std.specs.Prelude.{ℕ, ◌+◌, ◌-◌, ◌≡◌, ◌≢◌, ◌≤◌, ⊤, Bool, true, false, List, [], ◌∷◌, ◌++◌, length}
use Rattle.std.specs.List.{AllByRecursion}
use Rattle.store_model.specs.Disk.{Disk}
use Rattle.entry_codec.specs.declared.entries.Entry.{Entry}
use Rattle.entry_codec.specs.declared.kinds.EntryKind.TheVariants.{PreviousReceiver}
use Rattle.entry_codec.specs.Spelling.{spelling}
use Rattle.receiver_chain.specs.Receivers.{Kept}
use Rattle.receiver_chain.specs.Chain.{ChainState, attached_of}
use Rattle.journal_model.specs.Journal.{AreNumbered}
use Rattle.journal_book.specs.Entries.{IsBlock, IsInside, IsNoEnd, HasBegun, HoldsEntries, first_sequence}

-- the chain, the first sequence that is kept, how many entries the chain's blocks hold, the block that isn't forced yet
-- (how many entries, and its bytes), whether the attached receiver has begun, and for how many bytes more there is room
pub record BookState : Type 0 where
  pub chain : ChainState
  pub first : ℕ
  pub forced : ℕ
  pub waiting : ℕ
  pub begun : Bool
  pub buffered : List ℕ
  pub bytes : ℕ

-- the sequence of the next entry, and that of the last one
abbrev pub next_of : BookState → ℕ
next_of book = book.first + (book.forced + book.waiting)

abbrev pub last_of : BookState → ℕ
last_of book = next_of book - 1

-- the bytes are a block of entries that end no receiver
abbrev pub IsBuffer : List ℕ → ℕ → Type 0
IsBuffer bytes count = (tail : List Entry) × IsBlock tail bytes × AllByRecursion IsNoEnd tail × (count ≡ length tail)

-- ---- what a call makes of a book

-- one entry more waits
abbrev pub with_entry : Entry → ℕ → BookState → BookState
with_entry e bytes book = record book { waiting = book.waiting + 1; buffered = book.buffered ++ spelling e; bytes = bytes }

-- the buffered block is the chain's last one
abbrev pub with_block : ChainState → ℕ → BookState → BookState
with_block chain bytes book = record book { chain = chain; forced = book.forced + book.waiting; waiting = 0; begun = true; buffered = []; bytes = bytes }

-- it begins with this sequence, and so many entries are forced
abbrev pub from_sequence : ℕ → ℕ → BookState → BookState
from_sequence first forced book = record book { first = first; forced = forced }

-- new is old with no less room
pub record HasMoreRoom (old new : BookState) : Type 0 where
  pub receiver : new.chain.first ≡ old.chain.first
  pub earlier : new.chain.earlier ≡ old.chain.earlier
  pub area : new.chain.attached.area ≡ old.chain.attached.area
  pub head : new.chain.attached.first ≡ old.chain.attached.first
  pub version : new.chain.attached.version ≡ old.chain.attached.version
  pub lengths : new.chain.attached.lengths ≡ old.chain.attached.lengths
  pub places : old.chain.room ≤ new.chain.room
  pub first : new.first ≡ old.first
  pub forced : new.forced ≡ old.forced
  pub waiting : new.waiting ≡ old.waiting
  pub begun : new.begun ≡ old.begun
  pub buffered : new.buffered ≡ old.buffered
  pub bytes : old.bytes ≤ new.bytes

-- ---- how it stands to the disk

-- none, or the one by which the receiver begins
abbrev pub IsBeginning : ℕ → List Entry → Type 0
IsBeginning number [] = ⊤
IsBeginning number (e ∷ []) = e.kind ≡ PreviousReceiver (number - 1)
IsBeginning number (e ∷ f ∷ more) = ⊥

-- how the buffered entries stand to those of the attached receiver: they tie nothing where it has begun; else it is empty,
-- and they are those by which it begins
abbrev pub GoesOn : Bool → ℕ → List (List Entry) → List Entry → Type 0
GoesOn true number last tail = HasBegun number last × AllByRecursion IsInside tail
GoesOn false number last tail = (number ≢ 1) × (last ≡ []) × IsBeginning number tail

-- the entries are those of the receivers, and behind them those of the buffered block
pub record Keeps (book : BookState) (kept : Kept) (entries : List Entry) : Type 0 where
  pub front : List Entry
  pub tail : List Entry
  pub on_disk : HoldsEntries book.chain.first kept front
  pub goes_on : GoesOn book.begun (attached_of book.chain) on_disk.last tail
  pub all : entries ≡ front ++ tail
  pub forced : book.forced ≡ length front
  pub waiting : book.waiting ≡ length tail
  pub block : IsBlock tail book.buffered
  pub numbered : AreNumbered book.first entries
  pub first : book.first ≡ first_sequence kept

-- the disk holds these receivers, which a stop leaves
pub record Holds (book : BookState) (entries : List Entry) (disk : Disk) : Type 0 where
  pub kept : Kept
  pub chain : Rattle.receiver_chain.specs.Chain.Holds book.chain kept disk
  pub keeps : Keeps book kept entries

abbrev pub HasEntries : BookState → Disk → Type 0
HasEntries book disk = (entries : List Entry) × Holds book entries disk

-- the same as a mere fact, which a struct's ghost field can keep
abbrev pub IsHeld : BookState → Disk → Type 0
IsHeld book disk = ∥ HasEntries book disk ∥₁
