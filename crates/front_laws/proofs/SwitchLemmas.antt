-- CHGJRN: the entry by which the receiver ends may stand alone behind the others, since it does nothing to files, members and commit cycles.
use Rattle.std.proofs.Common.{◌≡◌, ℕ, ◌+◌, ◌≤◌, true, IsTrue, List, [], ◌∷◌, ◌++◌, length, Result, Ok, Err, inl, inr, refl, sym, ap, ◌∙◌, subst, arith}
use Rattle.entry_codec.specs.declared.entries.Entry.{Entry}
use Rattle.entry_codec.specs.declared.kinds.EntryKind.TheVariants.{NextReceiver, PreviousReceiver}
use Rattle.journal_fronts.specs.Deposits.{switches}
use Rattle.journal_model.specs.Rollback.{numbered_from}
use Rattle.library_model.specs.declared.calls.Call.{Call}
use Rattle.library_model.specs.declared.replies.Reply.{Reply}
use Rattle.library_model.specs.declared.requests.Request.{Request}
use Rattle.library_model.specs.declared.requests.Request.TheVariants.{ChangeJournal}
use Rattle.library_model.specs.declared.sources.NamedSource.{NamedSource}
use Rattle.journal_replay.specs.Standing as replay
use Rattle.library_kept.proofs.ResultLemmas.{does-each}
use Rattle.library_steps.specs.State.{State, job_at, memory_of}
use Rattle.library_steps.specs.Change.{Change, changed}
use Rattle.library_steps.specs.Drafts.{author_of, library_draft}
use Rattle.library_steps.specs.Receivers.{attach_change, attach_plan, change_journal}
use Rattle.library_steps.specs.Step.{change, step}
use Rattle.library_steps.specs.History.{is_running, Outcome, Standing, Failed, Comes}
use Rattle.joint_state.specs.Sound.{IsSound, IsKept}
use Rattle.replayed_histories.specs.Replayed.{AreReplaysKept, IsReplayed}
use Rattle.replayed_histories.specs.Unsaved.{StaysCheckpoint}
use Rattle.replayed_histories.proofs.DepositLemmas.{next-is, one-left}
use Rattle.replayed_histories.proofs.QuietLemmas.{entry_of, next-quiet, quiet-after, quiet-may}
use Rattle.journal_fronts.specs.Fronts.{entries_at}
use Rattle.front_laws.specs.Opens.{CanBeOpened}
use Rattle.front_laws.proofs.WellLemmas.{IsWell, done-grows, left-opened}

-- the first of some entries may stand alone behind those that were there
pub record MayStandAlone (before added : List Entry) : Type 0 where
  pub ending : Entry
  pub more : List Entry
  pub is : added ≡ ending ∷ more
  pub opened : CanBeOpened (before ++ ending ∷ [])

alone : (s : State) → IsReplayed s → (job timestamp number : ℕ)
    → CanBeOpened (s.entries ++ entry_of (author_of (memory_of s) job timestamp) (NextReceiver number) (s.gone + length s.entries + 1) ∷ [])
alone s r job timestamp number =
    let author = author_of (memory_of s) job timestamp in
    let e = entry_of author (NextReceiver number) r.left.next in
    let left = one-left s.entries r.left e r.journal (quiet-may author (NextReceiver number) (next-quiet number) r.left r.whole r.journal.within) in
    let whole = ap (λ (l : replay.Standing). l.begun) (quiet-after author (NextReceiver number) (next-quiet number) r.left) in
    subst (λ (n : ℕ). CanBeOpened (s.entries ++ entry_of author (NextReceiver number) n ∷ [])) (sym (next-is s r))
    (left-opened (s.entries ++ e ∷ []) (replay.standing_after e r.left) left whole)

switch-alone : (s : State) → IsReplayed s → (job timestamp : ℕ) (done : Change) → change_journal (memory_of s) job timestamp ≡ Ok done → MayStandAlone s.entries done.entries
switch-alone s r job timestamp done does =
    does-each (attach_change (memory_of s) job timestamp) (attach_plan (memory_of s)) done (λ c. MayStandAlone s.entries c.entries) does
    (λ number is. record {
      ending = entry_of (author_of (memory_of s) job timestamp) (NextReceiver number) (s.gone + length s.entries + 1);
      more = numbered_from (s.gone + length s.entries + 1 + 1) (library_draft (author_of (memory_of s) job timestamp) (PreviousReceiver s.receivers.attached) ∷ []);
      is = refl;
      opened = alone s r job timestamp number;
    })

-- the journal ends these entries by one that may stand alone, and then has others
pub record EndsReceiver (before after : List Entry) : Type 0 where
  pub ending : Entry
  pub more : List Entry
  pub is : after ≡ before ++ ending ∷ more
  pub opened : CanBeOpened (before ++ ending ∷ [])

-- it has no more entries than there were
none-more : {P : Type 0} (before : List Entry) → length before + 1 ≤ length before → P
none-more before more = absurd (omega (arith, more))

switches-is : (request : Request) → switches request ≡ true → request ≡ ChangeJournal
switches-is ChangeJournal is = refl
switches-is _ is = absurd cc

module _ (replays : AreReplaysKept) (stays : StaysCheckpoint) (sounds : IsKept IsSound) (sources : List NamedSource) (s : State) (well : IsWell s) where
  -- the journal that the step comes to, where it has more entries
  module _ (job timestamp : ℕ) (running : IsTrue (is_running (job_at job s.jobs))) where
    done-ends : (done : Change) → change sources s.entries (memory_of s) job timestamp ChangeJournal ≡ Ok done → EndsReceiver s.entries (changed s (Ok done)).0.entries
    unfolding change
    done-ends done does =
        let its = switch-alone s well.replayed job timestamp done does in
        record {
          ending = its.ending;
          more = its.more;
          is = done-grows replays stays sounds sources s well job timestamp ChangeJournal running refl done does ∙ ap (λ (es : List Entry). s.entries ++ es) its.is;
          opened = its.opened;
        }

    journal-ends : length s.entries + 1 ≤ length (step sources s job timestamp ChangeJournal).0.entries → EndsReceiver s.entries (step sources s job timestamp ChangeJournal).0.entries
    journal-ends more = by (change sources s.entries (memory_of s) job timestamp ChangeJournal) refl more
      where
        by : (r : Result Change Reply) → change sources s.entries (memory_of s) job timestamp ChangeJournal ≡ r → length s.entries + 1 ≤ length (changed s r).0.entries
            → EndsReceiver s.entries (changed s r).0.entries
        by (Ok done) does more = done-ends done does
        by (Err refused) does more = none-more s.entries more

    step-ends : (request : Request) → switches request ≡ true → length s.entries + 1 ≤ length (step sources s job timestamp request).0.entries
        → EndsReceiver s.entries (step sources s job timestamp request).0.entries
    step-ends request switching =
        subst (λ (r : Request). length s.entries + 1 ≤ length (step sources s job timestamp r).0.entries → EndsReceiver s.entries (step sources s job timestamp r).0.entries)
        (sym (switches-is request switching)) journal-ends

  pub call-ends : (call : Call) (to : Outcome) → IsTrue (is_running (job_at call.job s.jobs)) → Comes sources s call to → switches call.request ≡ true
      → length s.entries + 1 ≤ length (entries_at to) → EndsReceiver s.entries (entries_at to)
  call-ends call (Standing t) running (inl is) switching more =
      let same = ap (λ (p : State × Reply). p.0.entries) is in
      subst (EndsReceiver s.entries) (sym same) (step-ends call.job call.timestamp running call.request switching (subst (λ (es : List Entry). length s.entries + 1 ≤ length es) same more))
  call-ends call (Standing t) running (inr same) switching more =
      none-more s.entries (subst (λ (x : State). length s.entries + 1 ≤ length x.entries) same.0 more)
  call-ends call (Failed entries) running comes switching more =
      subst (EndsReceiver s.entries) (sym comes.1)
      (step-ends call.job call.timestamp running call.request switching (subst (λ (es : List Entry). length s.entries + 1 ≤ length es) comes.1 more))
