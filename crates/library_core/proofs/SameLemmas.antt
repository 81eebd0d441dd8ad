-- A request that wants no memory doesn't look at the journal's entries; and DLTJRNRCV is answered alike whatever they are, while no checkpoint is saved.
use Rattle.std.proofs.Common.{◌≡◌, ℕ, ◌+◌, Bool, true, false, not, List, Result, Ok, Err, refl, sym, ◌∙◌, ap}
use Rattle.entry_codec.specs.declared.entries.Entry.{Entry}
use Rattle.journal_model.specs.Journal.{AreNumbered}
use Rattle.library_model.specs.NeedsMemory.{needs_memory}
use Rattle.library_model.specs.declared.replies.Reply.{Reply}
use Rattle.library_model.specs.declared.replies.Reply.TheVariants.{Done, NoSuchName, StillNeeded}
use Rattle.library_model.specs.declared.replies.Missing.TheVariants.{Receiver}
use Rattle.library_model.specs.declared.requests.DeleteReceiver.{DeleteReceiver as DeleteForm}
use Rattle.library_model.specs.declared.requests.Request.{Request}
use Rattle.library_model.specs.declared.requests.Request.TheVariants as requests
use Rattle.library_model.specs.declared.sources.NamedSource.{NamedSource}
use Rattle.library_steps.specs.State.{Memory, State, memory_of}
use Rattle.library_steps.specs.Change.{does, unjournaled}
use Rattle.library_steps.specs.Receivers.{delete_receiver, give_up_plan, given_up, is_kept, is_needed}
use Rattle.library_steps.specs.Refusals.{◌>>=◌, refuse_if}
use Rattle.library_steps.specs.Step.{change}
use Rattle.kept_library.specs.Unread.{reads_journal}
use Rattle.library_core.proofs.ChangeLaws.{still-needed}

pub free-same : (sources : List NamedSource) (a b : List Entry) (m : Memory) (job timestamp : ℕ) (r : Request) → needs_memory r ≡ false
    → change sources a m job timestamp r ≡ change sources b m job timestamp r
unfolding change
free-same sources a b m job timestamp (requests.CreatePhysicalFile args) free = absurd cc
free-same sources a b m job timestamp (requests.CreateLogicalFile args) free = absurd cc
free-same sources a b m job timestamp (requests.DeleteFile args) free = absurd cc
free-same sources a b m job timestamp (requests.AddMember args) free = absurd cc
free-same sources a b m job timestamp (requests.ClearMember args) free = absurd cc
free-same sources a b m job timestamp (requests.ReorganizeMember args) free = absurd cc
free-same sources a b m job timestamp (requests.StartJournaling args) free = absurd cc
free-same sources a b m job timestamp (requests.EndJournaling args) free = absurd cc
free-same sources a b m job timestamp requests.ChangeJournal free = absurd cc
free-same sources a b m job timestamp (requests.DeleteReceiver args) free = absurd cc
free-same sources a b m job timestamp requests.Checkpoint free = absurd cc
free-same sources a b m job timestamp (requests.DisplayJournal args) free = absurd cc
free-same sources a b m job timestamp (requests.ApplyChanges args) free = absurd cc
free-same sources a b m job timestamp (requests.RemoveChanges args) free = absurd cc
free-same sources a b m job timestamp (requests.StartCommitment args) free = absurd cc
free-same sources a b m job timestamp requests.EndCommitment free = absurd cc
free-same sources a b m job timestamp requests.Commit free = refl
free-same sources a b m job timestamp requests.Rollback free = refl
free-same sources a b m job timestamp (requests.OpenFile args) free = absurd cc
free-same sources a b m job timestamp (requests.CloseFile args) free = refl
free-same sources a b m job timestamp (requests.SetLowerLimit args) free = refl
free-same sources a b m job timestamp (requests.SetGreaterThan args) free = refl
free-same sources a b m job timestamp (requests.Read args) free = absurd cc
free-same sources a b m job timestamp (requests.ReadPrior args) free = absurd cc
free-same sources a b m job timestamp (requests.ReadEqual args) free = absurd cc
free-same sources a b m job timestamp (requests.ReadPriorEqual args) free = absurd cc
free-same sources a b m job timestamp (requests.Chain args) free = absurd cc
free-same sources a b m job timestamp (requests.Write args) free = absurd cc
free-same sources a b m job timestamp (requests.Update args) free = absurd cc
free-same sources a b m job timestamp (requests.Delete args) free = absurd cc
free-same sources a b m job timestamp (requests.Unlock args) free = refl
free-same sources a b m job timestamp (requests.EndJob args) free = refl

-- what reads the journal may want memory
pub reads-need : (r : Request) → reads_journal r ≡ true → needs_memory r ≡ true
reads-need (requests.CreatePhysicalFile args) reads = absurd cc
reads-need (requests.CreateLogicalFile args) reads = absurd cc
reads-need (requests.DeleteFile args) reads = absurd cc
reads-need (requests.AddMember args) reads = absurd cc
reads-need (requests.ClearMember args) reads = absurd cc
reads-need (requests.ReorganizeMember args) reads = absurd cc
reads-need (requests.StartJournaling args) reads = absurd cc
reads-need (requests.EndJournaling args) reads = absurd cc
reads-need requests.ChangeJournal reads = absurd cc
reads-need (requests.DeleteReceiver args) reads = absurd cc
reads-need requests.Checkpoint reads = absurd cc
reads-need (requests.DisplayJournal args) reads = refl
reads-need (requests.ApplyChanges args) reads = refl
reads-need (requests.RemoveChanges args) reads = refl
reads-need (requests.StartCommitment args) reads = absurd cc
reads-need requests.EndCommitment reads = absurd cc
reads-need requests.Commit reads = absurd cc
reads-need requests.Rollback reads = absurd cc
reads-need (requests.OpenFile args) reads = absurd cc
reads-need (requests.CloseFile args) reads = absurd cc
reads-need (requests.SetLowerLimit args) reads = absurd cc
reads-need (requests.SetGreaterThan args) reads = absurd cc
reads-need (requests.Read args) reads = absurd cc
reads-need (requests.ReadPrior args) reads = absurd cc
reads-need (requests.ReadEqual args) reads = absurd cc
reads-need (requests.ReadPriorEqual args) reads = absurd cc
reads-need (requests.Chain args) reads = absurd cc
reads-need (requests.Write args) reads = absurd cc
reads-need (requests.Update args) reads = absurd cc
reads-need (requests.Delete args) reads = absurd cc
reads-need (requests.Unlock args) reads = absurd cc
reads-need (requests.EndJob args) reads = absurd cc

-- ---- DLTJRNRCV

-- a receiver that is still needed is refused, if none before it was
needed-plan : (kept needed : Bool) (missing still : Reply) (last : ℕ) → needed ≡ true
    → (refuse_if kept missing >>= (λ (x : Bool). refuse_if needed still >>= (λ (y : Bool). Ok last))) ≡ (refuse_if kept missing >>= (λ (x : Bool). Err still))
needed-plan true needed missing still last is = refl
needed-plan false needed missing still last is = ap (λ (b : Bool). refuse_if b still >>= (λ (y : Bool). Ok last)) is

needed-same : (m : Memory) (a b : List Entry) (args : DeleteForm) → is_needed args.number a m ≡ true → is_needed args.number b m ≡ true → give_up_plan a m args ≡ give_up_plan b m args
unfolding give_up_plan
needed-same m a b args one other =
    needed-plan (not (is_kept args.number m)) (is_needed args.number a m) (NoSuchName (Receiver args.number)) (StillNeeded (m.checkpoint + 1)) _ one
    ∙ sym (needed-plan (not (is_kept args.number m)) (is_needed args.number b m) (NoSuchName (Receiver args.number)) (StillNeeded (m.checkpoint + 1)) _ other)

pub give_up-same : (s : State) (a b : List Entry) (args : DeleteForm) → AreNumbered (s.gone + 1) a → AreNumbered (s.gone + 1) b → s.checkpoint ≡ 0
    → delete_receiver a (memory_of s) args ≡ delete_receiver b (memory_of s) args
give_up-same s a b args one other unsaved =
    let m = memory_of s in
    ap (λ (p : Result ℕ Reply). does (λ (last : ℕ). unjournaled Done (given_up args.number last m)) p) (needed-same m a b args (still-needed s a args.number one unsaved) (still-needed s b args.number other unsaved))
