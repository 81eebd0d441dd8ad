-- Which two entries end a receiver and begin the next one? (Journal Management, "Journal code finder", code J, entry types
-- NR and PR.)
use Rattle.std.specs.Prelude.{ℕ, ◌+◌, ◌≡◌, ◌⊎◌, List, [], ◌∷◌}
use Rattle.entry_codec.specs.declared.entries.Draft.{Draft}
use Rattle.entry_codec.specs.declared.entries.Entry.{Entry}
use Rattle.entry_codec.specs.declared.kinds.EntryKind.TheVariants.{NextReceiver, PreviousReceiver}
use Rattle.entry_codec.specs.Drafts.{numbered}
use Rattle.entry_codec.specs.Spelling.{IsSpelled, spelling}
use Rattle.gated_log.specs.Blocks.{frame}
use Rattle.receiver_chain.specs.Chain.{attached_of}
use Rattle.journal_book.specs.Book.{BookState, next_of}

-- the entries that the two drafts become, from this sequence on
abbrev pub tied_by : Draft → Draft → ℕ → List Entry
tied_by nr pr next = numbered nr next ∷ numbered pr (next + 1) ∷ []

-- the entry names another receiver
abbrev pub IsTie : Entry → Type 0
IsTie e = (number : ℕ) × ((e.kind ≡ NextReceiver number) ⊎ (e.kind ≡ PreviousReceiver number))

-- the two end the book's attached receiver and begin the next one
pub record AreTies (book : BookState) (nr pr : Entry) : Type 0 where
  pub nr_spelled : IsSpelled nr
  pub pr_spelled : IsSpelled pr
  pub ends : nr.kind ≡ NextReceiver (attached_of book.chain + 1)
  pub begins : pr.kind ≡ PreviousReceiver (attached_of book.chain)
  pub nr_sequence : nr.sequence ≡ next_of book
  pub pr_sequence : pr.sequence ≡ next_of book + 1

-- these are their blocks, each in its frame
pub record AreTieBlocks (book : BookState) (nr pr : Entry) (ending beginning : List ℕ) : Type 0 where
  pub ties : AreTies book nr pr
  pub framed_ending : ending ≡ frame (spelling nr)
  pub framed_beginning : beginning ≡ frame (spelling pr)
