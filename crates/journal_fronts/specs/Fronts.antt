-- What does a stop leave of the calls of a run? The journal of whole calls, from the first on, with each change that was acknowledged. (Journal Management,
-- "Recovery operations using journaling". When the journal is forced is our own.)
use Rattle.std.specs.Prelude.{◌≡◌, ◌⊎◌, ℕ, ◌+◌, ◌≤◌, true, Option, Some, None, Ok, List, [], ◌∷◌, ◌++◌, length, take, slice_get}
use Rattle.store_model.specs.Disk.{Areas, Disk}
use Rattle.entry_codec.specs.declared.entries.Entry.{Entry}
use Rattle.receiver_chain.specs.declared.numbers.TheConstants.{FIRST_RECEIVER}
use Rattle.journal_book.specs.Kept.{SpellEntries}
use Rattle.library_model.specs.declared.calls.Call.{Call}
use Rattle.library_model.specs.declared.sources.NamedSource.{NamedSource}
use Rattle.deposited_entries.specs.State.{State, memory_of}
use Rattle.deposited_entries.specs.Change.{Change}
use Rattle.deposited_entries.specs.Step.{change, step}
use Rattle.deposited_entries.specs.History.{Outcome, Standing, Failed, Comes, Runs}
use Rattle.deposited_entries.specs.Deposits.{switches}

-- the entries of the journal that calls led to; after a failed call those that it was to hold
abbrev pub entries_at : Outcome → List Entry
entries_at (Standing s) = s.entries
entries_at (Failed entries) = entries

-- the entries behind a call, where no store call fails
abbrev pub entries_behind : List NamedSource → State → Call → List Entry
entries_behind sources s call = (step sources s call.job call.timestamp call.request).0.entries

-- the call's change asks to be on the disk before it is answered, and it was answered
pub record IsAcknowledged (sources : List NamedSource) (s : State) (call : Call) : Type 0 where
  pub done : Change
  pub is : change sources s.entries (memory_of s) call.job call.timestamp call.request ≡ Ok done
  pub forced : done.forced ≡ true
  pub answered : call.reply ≡ done.reply

-- the call is CHGJRN, and the journal that it comes to has so many entries at least
pub record HasSwitched (sources : List NamedSource) (s : State) (call : Call) (count : ℕ) : Type 0 where
  pub switching : switches call.request ≡ true
  pub next : Outcome
  pub comes : Comes sources s call next
  pub few : count ≤ length (entries_at next)

-- so is the next call, where the calls before it led
abbrev pub Switches : Option Call → Outcome → List NamedSource → (count : ℕ) → Type 0
Switches None at sources count = ⊥
Switches (Some call) (Standing s) sources count = HasSwitched sources s call count
Switches (Some call) (Failed entries) sources count = ⊥

-- so many entries are those behind whole calls; or CHGJRN comes next, and the entry by which it ends a receiver stands alone behind them
pub record IsWhole (sources : List NamedSource) (start : State) (calls : List Call) (count : ℕ) : Type 0 where
  pub made : ℕ
  pub few : made ≤ length calls
  pub outcome : Outcome
  pub runs : Runs sources (Standing start) (take made calls) outcome
  pub count_is : (count ≡ length (entries_at outcome)) ⊎ ((count ≡ length (entries_at outcome) + 1) × Switches (slice_get calls made) outcome sources count)

-- so many entries are those of each acknowledged call of these at least
abbrev pub HasAcknowledged : List NamedSource → State → List Call → ℕ → Type 0
HasAcknowledged sources start calls count =
    (before : List Call) (call : Call) (later : List Call) (s : State) → calls ≡ before ++ call ∷ later → Runs sources (Standing start) before (Standing s)
    → IsAcknowledged sources s call → length (entries_behind sources s call) ≤ count

-- a stop leaves whole calls, with what was acknowledged of these
pub record IsFront (sources : List NamedSource) (start : State) (calls acknowledged : List Call) (outcome : Outcome) (areas : Areas) : Type 0 where
  pub count : ℕ
  pub whole : IsWhole sources start calls count
  pub least : HasAcknowledged sources start acknowledged count
  pub most : count ≤ length (entries_at outcome)
  pub spells : SpellEntries FIRST_RECEIVER (take count (entries_at outcome)) areas

-- calls led from one disk to a later one: there is a moment, that of the answer to the call with this number, before which a stop leaves whole ones of the
-- calls up to it, and since which it leaves whole calls with what these acknowledged
pub record IsAnswered (sources : List NamedSource) (start : State) (calls : List Call) (outcome : Outcome) (old new : Disk) (number : ℕ) : Type 0 where
  pub moment : ℕ
  pub begun : old.moment ≤ moment
  pub ended : moment ≤ new.moment
  pub reached : Outcome
  pub runs : Runs sources (Standing start) (take number calls) reached
  pub before : (areas : Areas) → new.since old.moment areas → new.since moment areas ⊎ IsFront sources start (take number calls) [] reached areas
  pub since : (areas : Areas) → new.since moment areas → IsFront sources start calls (take number calls) outcome areas
