-- What the journal of a restarted library leaves is that library.
use Rattle.std.proofs.Common.{◌≡◌, ℕ, true, Option, Some, None, is_none, List, [], ◌++◌, length, refl, sym, ◌∙◌, subst}
use Rattle.std.proofs.lemmas.List.{append-nil}
use Rattle.entry_codec.specs.declared.entries.Draft.{Draft}
use Rattle.entry_codec.specs.declared.entries.Entry.{Entry}
use Rattle.journal_model.specs.Acts.{entry_before}
use Rattle.journal_model.specs.Catalogue.{Catalogue, CatalogMember}
use Rattle.journal_model.specs.Journal.{CanReplayJournal, Journal, StaysMembers, acts_after, catalogue_of, open_cycles, restarted, start_of, state_of}
use Rattle.journal_model.specs.Pairs.{BeginsNoPair}
use Rattle.journal_model.specs.Replay.{replay}
use Rattle.journal_model.specs.Rollback.{missing_behind, restart_drafts, undos_of}
use Rattle.journal_model.proofs.JournalLemmas.{restarted-closed, restarted-replays}
use Rattle.journal_replay.specs.Standing.{Standing}
use Rattle.journal_replay.proofs.SoFarLemmas.{whole-journal, whole-journal-ends}
use Rattle.journal_replay.proofs.WholeLemmas.{whole-none}
use Rattle.library_steps.specs.State.{begun}
use Rattle.restart_model.specs.Libraries.{journal_with, library_restarted, restart_job}
use Rattle.restart_model.specs.Sources.{descriptions}
use Rattle.journaled_entries.specs.Deposited.{AreDeposited}
use Rattle.replayed_histories.proofs.DescribedLemmas.{Among}
use Rattle.replayed_histories.proofs.GoesLemmas.{numbered-among}
use Rattle.replayed_histories.proofs.StandLemmas.{Stands}
use Rattle.replayed_histories.specs.Replayed.{IsReplayed}
use Rattle.replayed_restarts.proofs.LeavesLemmas.{Leaves, Replays, journal-leaves}
use Rattle.replayed_restarts.proofs.RunLemmas.{AreFew, Reaches, ended}
use Rattle.replayed_restarts.proofs.StandLemmas.{held-within, journal-stands, library-stands}
use Rattle.replayed_restarts.proofs.TakenLemmas.{closed-undone, each-real, each-taken}

none-is : {X : Type 0} (o : Option X) → is_none o ≡ true → o ≡ None
none-is None h = refl
none-is (Some x) h = absurd cc

module _ (entries : List Entry) (moment : ℕ) (can : CanReplayJournal descriptions (journal_with entries)) (deposited : AreDeposited entries) where
  abbrev j : Journal
  j = journal_with entries

  abbrev c : Catalogue
  c = catalogue_of (journal_with entries)

  abbrev long : ℕ → ℕ
  long k = length (state_of (journal_with entries) k).slots

  -- the entries with those of the restart behind them
  abbrev target : List Entry
  target = (restarted restart_job moment (journal_with entries)).later

  abbrev drafts : List Draft
  drafts = missing_behind restart_job moment (entry_before None entries) ++ restart_drafts restart_job moment (open_cycles (journal_with entries)) (undos_of [] None entries)

  stood : Stands c (λ member. replay (start_of j member) (acts_after j member)) entries
  stood = journal-stands entries (whole-journal descriptions j can)

  few : (m : CatalogMember) → Among m c.members → AreFew c long m
  few m among =
      let limits = can.limits entries [] m (sym (append-nil entries)) (numbered-among c.members m stood.is.numbers among) in
      record { slots = limits.slots; bytes = limits.bytes }

  begins : Reaches c long target drafts
  begins = record {
    es = entries;
    stage = record { so_far = whole-journal descriptions j can; limits = can.limits; deposited = deposited; catalogue = refl; long_as = λ member. refl; all = refl };
    whole = whole-journal-ends descriptions j can;
  }

  ends : Reaches c long target []
  ends =
      ended c long few target (restarted-replays restart_job moment j can.replays) restart_job moment stood.is stood.plain (undos_of [] None entries) (each-taken entries can deposited)
      (each-real entries can deposited) (entry_before None entries) (open_cycles j) begins

  -- nothing is still to come
  record IsWhole (es : List Entry) : Type 0 where
    replays : Replays es
    limits : StaysMembers descriptions (journal_with es)
    placed : AreDeposited es
    whole : BeginsNoPair (entry_before None es)

  ended-whole : IsWhole target
  ended-whole =
      subst IsWhole (sym (append-nil ends.es) ∙ ends.stage.all)
      (record { replays = ends.stage.so_far; limits = ends.stage.limits; placed = ends.stage.deposited; whole = ends.whole })

  closed : (k : ℕ) → (state_of (journal_with target) k).cycles ≡ []
  closed k = restarted-closed restart_job moment j can.replays k

  pub restarted-replayed : (attached : ℕ) (names : List (List ℕ)) → IsReplayed (begun (library_restarted (λ _. 0) attached moment (journal_with entries)) names)
  restarted-replayed attached names = by (journal-leaves target ended-whole.replays) where
    by : (left : Standing) × Leaves target left → IsReplayed (begun (library_restarted (λ _. 0) attached moment (journal_with entries)) names)
    by its =
        let left : Standing = its.0 in
        let l : Leaves target left = its.1 in record {
          gone = refl;
          checkpoint = refl;
          left = left;
          journal = record { replays = l; limits = ended-whole.limits; within = held-within target left l ended-whole.limits; deposited = ended-whole.placed };
          whole = none-is left.begun (whole-none descriptions (λ member. 0) (journal_with target) left l ended-whole.whole);
          stands = library-stands target left l (l.cycles ∙ closed 0) (l.undos ∙ closed-undone target ended-whole.replays closed) names;
        }
