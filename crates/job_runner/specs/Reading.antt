-- What calls have led to, for what each of them read of the journal. Over a store that tells nothing of its bytes a call may read other entries than were
-- deposited; it comes then to what its step comes to with these, or is refused since a block has changed. (Our own.)
use Rattle.std.specs.Prelude.{◌≡◌, IsTrue, List, [], ◌∷◌}
use Rattle.entry_codec.specs.declared.entries.Entry.{Entry}
use Rattle.library_model.specs.declared.calls.Call.{Call}
use Rattle.library_model.specs.declared.sources.NamedSource.{NamedSource}
use Rattle.library_steps.specs.State.{job_at}
use Rattle.library_steps.specs.History.{is_running, Outcome, Standing, Failed}
use Rattle.joint_state.specs.Sound.{MayBeRead}
use Rattle.library_core.specs.Stands.{ComesReading}

-- the calls lead from the first outcome to the last: each is of a job that runs, and comes to what its step comes to for what was read of the journal; where
-- the store tells of its bytes, that is what was deposited
abbrev pub RunsReading : (tells : Type 0) → List NamedSource → Outcome → List Call → Outcome → Type 0
RunsReading tells sources from [] to = to ≡ from
RunsReading tells sources (Standing s) (call ∷ calls) to =
    IsTrue (is_running (job_at call.job s.jobs)) × (read : List Entry) × MayBeRead s read × (tells → read ≡ s.entries) × (mid : Outcome) × ComesReading tells sources read s call mid × RunsReading tells sources mid calls to
RunsReading tells sources (Failed entries) (call ∷ calls) to = ⊥
