-- Can a journal be opened again that a stop left in the middle of a run? It is that of whole calls, or ends with the entry by which CHGJRN ends a receiver.
-- (Journal Management, "Recovery operations using journaling".)
use Rattle.std.specs.Prelude.{◌≤◌, ℕ, List, length, take}
use Rattle.entry_codec.specs.declared.entries.Entry.{Entry}
use Rattle.journal_model.specs.Journal.{CanReplayJournal}
use Rattle.journaled_entries.specs.Deposited.{AreDeposited}
use Rattle.restart_model.specs.Libraries.{journal_with}
use Rattle.restart_model.specs.Sources.{descriptions}
use Rattle.library_model.specs.declared.calls.Call.{Call}
use Rattle.library_model.specs.declared.sources.NamedSource.{NamedSource}
use Rattle.library_steps.specs.State.{State}
use Rattle.library_steps.specs.History.{Outcome, Standing, Runs}
use Rattle.joint_state.specs.Sound.{IsSound}
use Rattle.replayed_histories.specs.Replayed.{IsReplayed}
use Rattle.replayed_histories.specs.Unsaved.{AsksNoCheckpoint}
use Rattle.journal_fronts.specs.Fronts.{entries_at, IsWhole}

-- it can be replayed, and holds only what libraries deposit
pub record CanBeOpened (entries : List Entry) : Type 0 where
  pub replays : CanReplayJournal descriptions (journal_with entries)
  pub deposited : AreDeposited entries

-- so it is of each front that whole calls leave, from a sound library that its journal leaves, without a checkpoint
abbrev pub FrontsCanBeOpened : Type 0
FrontsCanBeOpened =
    (sources : List NamedSource) (start : State) (calls : List Call) (outcome : Outcome) (count : ℕ) → IsSound start → IsReplayed start → AsksNoCheckpoint calls
    → Runs sources (Standing start) calls outcome → IsWhole sources start calls count → count ≤ length (entries_at outcome) → CanBeOpened (take count (entries_at outcome))
