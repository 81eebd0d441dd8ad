-- What is said of the entries that a call deposits: which call ties two receivers by them, and which sources are short enough for them.
-- (Journal Management, "Managing receivers". How long a source may be is our own.)
use Rattle.std.specs.Prelude.{◌≡◌, ℕ, ◌+◌, ◌≤◌, Bool, true, false, List, [], ◌∷◌, length}
use Rattle.std.specs.List.{AllByRecursion}
use Rattle.entry_codec.specs.declared.entries.Entry.{Entry}
use Rattle.entry_codec.specs.declared.kinds.EntryKind.TheVariants.{NextReceiver, PreviousReceiver}
use Rattle.library_model.specs.declared.requests.Request.{Request}
use Rattle.library_model.specs.declared.requests.Request.TheVariants.{ChangeJournal}
use Rattle.library_model.specs.declared.sources.NamedSource.{NamedSource}
use Rattle.library_steps.specs.declared.limits.TheConstants.{MOST_BLOCK_BYTES}

-- CHGJRN, which attaches another receiver
abbrev pub switches : Request → Bool
switches ChangeJournal = true
switches _ = false

-- the entry by which this receiver ends, and the one by which the next begins
pub record AreSwitch (attached : ℕ) (entries : List Entry) : Type 0 where
  pub ending : Entry
  pub beginning : Entry
  pub both : entries ≡ ending ∷ beginning ∷ []
  pub next : ending.kind ≡ NextReceiver (attached + 1)
  pub before : beginning.kind ≡ PreviousReceiver attached

-- the entry of a file that is made of the source fits into a block
abbrev pub IsShort : List ℕ → Type 0
IsShort text = length text + 64 ≤ MOST_BLOCK_BYTES

abbrev pub AreShort : List NamedSource → Type 0
AreShort sources = AllByRecursion (λ source. IsShort source.text) sources
