-- What a call says of the library, from what it made of the library's parts.
use Rattle.std.proofs.Common.{◌≡◌, ◌≢◌, ◌⊎◌, inl, inr, ◌+◌, ◌≤◌, ℕ, Bool, true, false, List, length, take, refl, sym, ◌∙◌, ap, subst}
use Rattle.store_model.specs.Disk.{Areas, Disk, Leaves, May}
use Rattle.store_model.specs.Faults.{Rose}
use Rattle.path_set.specs.KeptPaths.{NumberedPaths}
use Rattle.entry_codec.specs.declared.entries.Entry.{Entry}
use Rattle.receiver_chain.specs.Others.{LeavesRoots}
use Rattle.journal_book.specs.Book.{BookState}
use Rattle.journal_book.specs.Kept.{IsForcedOrFrom, SpellEntries}
use Rattle.library_model.specs.declared.calls.Call.{Call}
use Rattle.library_model.specs.declared.replies.Reply.TheVariants.{StoreFault}
use Rattle.library_model.specs.declared.sources.NamedSource.{NamedSource}
use Rattle.library_steps.specs.State.{JobState, State, job_at}
use Rattle.library_steps.specs.History.{is_running, Standing, Failed}
use Rattle.journal_fronts.specs.Fronts.{IsAcknowledged, entries_behind}
use Rattle.kept_library.specs.Journaled.{IsRemembered}
use Rattle.kept_library.specs.Parts.{LibraryOver}
use Rattle.kept_library.specs.Stands.{Goes, Stands, whole_from}
use Rattle.kept_library.proofs.JournaledLemmas.{counted, journal-left}
use Rattle.library_core.specs.Puts.{HasCome, IsAcknowledgedReading, entries_reading}
use Rattle.library_core.specs.Running.{runs_after}
use Rattle.library_core.proofs.MemoryLemmas.{jobs-of, length-remembered, length-same}

-- a state that is remembered so
abbrev pub IsKept : {S : Type 0} → (tells : Type 0) → (disk : S → Disk) → LibraryOver S → Type 0
IsKept tells disk l = (s : State) × IsRemembered tells (disk l.store) l.book l.state s

-- what became of each state that the library had
pub record IsCalled {S : Type 0} (tells : Type 0) (disk : S → Disk) (sources : List NamedSource) (old new : LibraryOver S) (call : Call) : Type 0 where
  pub kept : IsKept tells disk old
  pub come : (s : State) → IsRemembered tells (disk old.store) old.book old.state s
      → HasCome tells sources (disk old.store) (disk new.store) old.book new.book new.state s call new.failed

pub called-of : {S : Type 0} (tells : Type 0) (disk : S → Disk) (sources : List NamedSource) (inside old new : LibraryOver S) (call : Call) → inside ≡ old → IsKept tells disk inside
    → ((s : State) → IsRemembered tells (disk inside.store) inside.book inside.state s
    → HasCome tells sources (disk inside.store) (disk new.store) inside.book new.book new.state s call new.failed) → IsCalled tells disk sources old new call
called-of {S = S} tells disk sources inside old new call seen kept come =
    subst (λ (l : LibraryOver S). IsCalled tells disk sources l new call) seen (record { kept = kept; come = come })

-- a library's parts are all that it is
pub same-library : {S : Type 0} (l : LibraryOver S) (store : S) (book : BookState) (state : State) (paths : NumberedPaths) → store ≡ l.store → book ≡ l.book → state ≡ l.state → paths ≡ l.paths
    → l.failed ≡ false → ◌≡◌ {A = LibraryOver S} (record { store = store; book = book; state = state; paths = paths; failed = false }) l
same-library l store book state paths of_store of_book of_state of_paths alive =
    λ i. record { store = of_store i; book = of_book i; state = of_state i; paths = of_paths i; failed = sym alive i }

-- a library that has a state has its journal
pub library-left : {S : Type 0} (tells : Type 0) (disk : S → Disk) (l : LibraryOver S) (t : State) → Stands tells disk l t → tells → (areas : Areas) → May (disk l.store) areas
    → SpellEntries l.book.chain.first (take l.book.forced t.entries) areas
library-left tells disk l t stands told areas may = journal-left tells (disk l.store) l.book t stands.remembered.journaled told areas may

-- what was forced and what waits are all
pub library-all : {S : Type 0} (tells : Type 0) (disk : S → Disk) (l : LibraryOver S) → IsKept tells disk l → l.book.forced + l.book.waiting ≡ length l.state.entries
library-all tells disk l kept = counted l.book kept.0 kept.1.journaled.book_of ∙ sym (length-remembered l.state kept.0 kept.1.memory)

module _ {S : Type 0} (tells : Type 0) (disk : S → Disk) (sources : List NamedSource) (old new : LibraryOver S) (call : Call) (called : IsCalled tells disk sources old new call) where
  -- of one state that it had
  its : HasCome tells sources (disk old.store) (disk new.store) old.book new.book new.state called.kept.0 call new.failed
  its = called.come called.kept.0 called.kept.1

  goes-by : (s : State) (come : HasCome tells sources (disk old.store) (disk new.store) old.book new.book new.state s call new.failed) (b : Bool) → new.failed ≡ b → Goes tells disk sources new s call
  goes-by s come false alive = record {
    read = come.read;
    may = come.may;
    own = come.own;
    outcome = Standing come.to;
    comes = come.answered.answered alive;
    at = record { alive = alive; remembered = record { memory = come.memory; sound = come.answered.sound; journaled = come.put.journaled alive } };
  }
  goes-by s come true failed = record {
    read = come.read;
    may = come.may;
    own = come.own;
    outcome = Failed (entries_reading sources come.read s call);
    comes = (come.answered.fault failed, refl);
    at = failed;
  }

  pub call-goes : (s : State) → Stands tells disk old s → Goes tells disk sources new s call
  call-goes s stands = goes-by s (called.come s stands.remembered) new.failed refl

  pub call-kept : new.failed ≡ false → IsKept tells disk new
  call-kept alive = (its.to, record { memory = its.memory; sound = its.answered.sound; journaled = its.put.journaled alive })

  pub call-running : (other : ℕ) → is_running (job_at other new.state.jobs) ≡ runs_after call.job call.request old.state.jobs other
  call-running other =
      ap (λ (js : List JobState). is_running (job_at other js)) (jobs-of new.state its.to its.memory)
      ∙ its.answered.runs other
      ∙ ap (λ (js : List JobState). runs_after call.job call.request js other) (sym (jobs-of old.state called.kept.0 called.kept.1.memory))

  alive-by : (b : Bool) → new.failed ≡ b → call.reply ≢ StoreFault → new.failed ≡ false
  alive-by false alive other = alive
  alive-by true failed other = absurd (other (its.answered.fault failed))

  pub call-alive : call.reply ≢ StoreFault → new.failed ≡ false
  call-alive = alive-by new.failed refl

  fault-by : (b : Bool) → new.failed ≡ b → call.reply ≡ StoreFault → new.failed ≡ true
  fault-by false alive is = absurd (its.answered.other alive is)
  fault-by true failed is = failed

  pub call-fault : call.reply ≡ StoreFault → new.failed ≡ true
  call-fault = fault-by new.failed refl

  pub call-cause : new.failed ≡ true → Rose (disk old.store).faults (disk new.store).faults
  call-cause = its.put.cause

  pub call-faults : (disk old.store).faults ≤ (disk new.store).faults
  call-faults = its.put.faults

  pub call-moments : (s : State) → Stands tells disk old s → tells → Leaves (disk old.store) (disk new.store)
      (IsForcedOrFrom old.book.chain.first old.book.forced (whole_from call.request s.entries (entries_behind sources s call)) (entries_behind sources s call))
  call-moments s stands told =
      let come = called.come s stands.remembered in
      subst (λ (read : List Entry). Leaves (disk old.store) (disk new.store)
      (IsForcedOrFrom old.book.chain.first old.book.forced (whole_from call.request s.entries (entries_reading sources read s call)) (entries_reading sources read s call)))
      (come.own told) (come.put.moments told)

  pub call-still : (s : State) → Stands tells disk old s → (t : State) → Stands tells disk new t → t.entries ≡ s.entries → tells
      → Leaves (disk old.store) (disk new.store) (IsForcedOrFrom old.book.chain.first old.book.forced (length s.entries) s.entries)
  call-still s stands t now same told =
      let come = called.come s stands.remembered in
      come.put.still now.alive (length-same new.state come.to t come.memory now.remembered.memory ∙ ap (λ (l : List Entry). length l) same) told

  pub call-left : (t : State) → Stands tells disk new t → tells → (areas : Areas) → May (disk new.store) areas → SpellEntries new.book.chain.first (take new.book.forced t.entries) areas
  call-left t now = library-left tells disk new t now

  acknowledged-reading : (s : State) (read : List Entry) → read ≡ s.entries → IsAcknowledged sources s call → IsAcknowledgedReading sources read s call
  acknowledged-reading s read own asked =
      subst (λ (l : List Entry). IsAcknowledgedReading sources l s call) (sym own) (record { done = asked.done; is = asked.is; forced = asked.forced; answered = asked.answered })

  pub call-acknowledged : (s : State) → Stands tells disk old s → tells → IsAcknowledged sources s call → new.book.waiting ≡ 0
  call-acknowledged s stands told asked =
      let come = called.come s stands.remembered in come.answered.acknowledged (acknowledged-reading s come.read (come.own told) asked)

  pub call-least : new.failed ≡ false → old.book.forced ≤ new.book.forced
  call-least = its.put.least

  pub call-whole : new.failed ≡ false → (new.book.forced ≡ old.book.forced) ⊎ (new.book.forced ≡ length new.state.entries)
  call-whole alive = elim (its.put.whole alive) [
    | inl same ↦ inl same
    | inr all ↦ inr (all ∙ sym (length-remembered new.state its.to its.memory))
  ]

  pub call-all : new.failed ≡ false → new.book.forced + new.book.waiting ≡ length new.state.entries
  call-all alive = library-all tells disk new (call-kept alive)

  pub call-receiver : new.book.chain.first ≡ old.book.chain.first
  call-receiver = its.put.receiver

  pub call-roots : LeavesRoots (disk old.store) (disk new.store)
  call-roots = its.put.roots
