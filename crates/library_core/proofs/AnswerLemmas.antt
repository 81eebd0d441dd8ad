-- From what a request did in memory, and what became of its entries in the journal, to the call: for all requests but CHGJRN.
use Rattle.std.proofs.Common.{◌≡◌, ◌<◌, ◌≤◌, ◌⊎◌, inl, inr, ℕ, ◌+◌, ◌*◌, Bool, true, false, if◌then◌else◌, IsTrue, List, ◌++◌, length, length-append, Result, Ok, Err, OnOk, refl, sym, ◌∙◌, ap, subst}
use Rattle.std.proofs.Common.{arith}
use Rattle.std.specs.Prelude.{IsErr, IsErrOf, IsOk}
use Rattle.std.proofs.lemmas.Bool.{false≢true}
use Rattle.store_model.specs.Disk.{Disk, Leaves, Stays}
use Rattle.store_model.proofs.Runs.{leaves_now, leaves_stays}
use Rattle.receiver_chain.proofs.Others.{roots_stay}
use Rattle.entry_codec.specs.declared.entries.Entry.{Entry}
use Rattle.gated_log.specs.declared.fault.StoreFault.{StoreFault}
use Rattle.journal_book.specs.Book.{BookState, HasMoreRoom, Holds, IsHeld}
use Rattle.journal_book.specs.Kept.{IsForcedOrFrom}
use Rattle.journal_book.proofs.Deposits.{more_holds}
use Rattle.kept_journal.specs.Journals.{MayWait}
use Rattle.kept_journal.specs.declared.journal.TheConstants.{MUCH}
use Rattle.built_requests.specs.Built.{is_built}
use Rattle.library_model.specs.NeedsMemory.{needs_memory}
use Rattle.library_model.specs.declared.calls.Call.{Call}
use Rattle.library_model.specs.declared.replies.Reply.{Reply}
use Rattle.library_model.specs.declared.replies.Reply.TheVariants as replies
use Rattle.library_model.specs.declared.requests.Request.{Request}
use Rattle.library_model.specs.declared.sources.NamedSource.{NamedSource}
use Rattle.library_steps.specs.State.{Receivers, State, job_at, memory_of, with_entries}
use Rattle.library_steps.specs.Change.{Change, changed}
use Rattle.library_steps.specs.History.{is_running}
use Rattle.library_steps.specs.Step.{change}
use Rattle.memory_journal.specs.Blanks.{in_memory}
use Rattle.commitment_requests.specs.Answers.{Answers}
use Rattle.commitment_requests.specs.Remembered.{remembered}
use Rattle.commitment_requests.below.parts_model.specs.declared.stop.Stop.{Stop}
use Rattle.commitment_requests.below.parts_model.specs.declared.stop.Stop.TheVariants as stop
use Rattle.journal_fronts.specs.Deposits.{AreShort, switches}
use Rattle.forced_calls.proofs.ForcedLemmas.{asked}
use Rattle.record_changes.specs.Sound.{Does, IsSound, MayBeRead, after}
use Rattle.sound_histories.proofs.HistoryLemmas.{ReadingsStaySound}
use Rattle.store_model.specs.Faults.{Rose}
use Rattle.kept_library.specs.Unread.{reads_journal}
use Rattle.kept_library.specs.Journaled.{IsBookOf, IsJournaled}
use Rattle.library_core.specs.Laws.{DepositsStay, EntriesAreSpelled, EntriesMayWait, HasPlaces, PlacesLast}
use Rattle.kept_library.proofs.JournaledLemmas.{counted}
use Rattle.library_core.specs.Puts.{HasAnswered, HasCome, HasPut, HasTaken, answer_given, places_taken}
use Rattle.kept_library.specs.Stands.{whole_from}
use Rattle.library_core.proofs.ChangeLaws.{Keeps, change-keeps, gives_up-none}
use Rattle.library_core.proofs.JournalLemmas.{behind-book, moment-still, more-book}
use Rattle.library_core.proofs.OutcomeLemmas.{IsPlain, after-entries, behind-is, done-answered, fault-answered, changed-answered, front, no_memory-answered, refused-answered, same-entries, still-of, stopped-put, untouched-answered}
use Rattle.library_core.proofs.MemoryLemmas.{entries-kept, remembered-after, remembered-twice}

pub ok-is : {A E P : Type 0} (r : Result A E) → IsOk r → OnOk r P → P
ok-is (Ok a) is p = p
ok-is (Err e) is p = absurd (false≢true is)

-- the least count of a call that is no CHGJRN
whole-is : (r : Request) (before behind : List Entry) → switches r ≡ false → whole_from r before behind ≡ length behind
whole-is r before behind other = ap (λ (b : Bool). if b then length before else length behind) other

module _ (tells : Type 0) (old : Disk) (before roomy : BookState) (s : State) (read : List Entry) (reads : MayBeRead s read) (sources : List NamedSource) (job timestamp : ℕ) (r : Request)
    (running : IsTrue (is_running (job_at job s.jobs))) (built : IsTrue (is_built r)) (other : switches r ≡ false) (sound : IsSound s) (is : IsJournaled tells old before s)
    (more : HasMoreRoom before roomy) where
  abbrev Wanted : Result Change Reply
  Wanted = change sources read (memory_of s) job timestamp r

  abbrev Behind : List Entry
  Behind = (changed s Wanted).0.entries

  abbrev As : Reply → Call
  As reply = record { job = job; timestamp = timestamp; request = r; reply = reply }

  keeps : (c : Change) → Wanted ≡ Ok c → Keeps (memory_of s) c
  keeps c done = change-keeps sources read (memory_of s) job timestamp r c other built (gives_up-none s read reads.numbered is.may.unsaved) done

  does : (c : Change) → Wanted ≡ Ok c → Does s c
  does c done = record { sound = sound; sources = sources; job = job; timestamp = timestamp; request = r; running = running; read = read; reads = reads; does = done }

  roomy-of : IsBookOf roomy s
  roomy-of = more-book before roomy s more is.book_of

  pub plain : (c : Change) → Wanted ≡ Ok c → IsPlain (memory_of s) c
  plain c done = let kept = keeps c done in record { gone = kept.same.0; checkpoint = kept.same.2; told = kept.told }

  pub roomy-held : tells → IsHeld roomy old
  roomy-held told = ∣ (s.entries, more_holds before roomy s.entries old more (is.holds told)) ∣₁

  pub roomy-little : length roomy.buffered < MUCH
  roomy-little = roomy-of.little

  -- it was done
  module _ (c : Change) (done : Wanted ≡ Ok c) where
    its-after : (after s c).entries ≡ s.entries ++ c.entries
    its-after = after-entries tells old before roomy s read reads sources job timestamp r running built sound is more plain c done

    its-behind : Behind ≡ s.entries ++ c.entries
    its-behind = behind-is tells old before roomy s read reads sources job timestamp r running built sound is more plain c done

    pub done-wait : EntriesMayWait → AreShort sources → MayWait roomy c.entries
    unfolding does
    done-wait wait short = wait s c (does c done) roomy short other is.may (behind-book roomy s roomy-of)

    module _ (places : PlacesLast) (made : needs_memory r ≡ true → 2 * length s.jobs + 1 ≤ roomy.chain.room) where
      lasts : HasPlaces s c (places_taken r c.entries) roomy.chain.room
      unfolding does
      lasts = places s c (does c done) roomy.chain.room roomy-of.places made

      pub done-place : places_taken r c.entries ≤ roomy.chain.room
      done-place = lasts.there

      module _ (stay : DepositsStay) (short : AreShort sources) (new : Disk) (later : BookState) (put : Result (Unit {0}) StoreFault) (taken : HasTaken tells old new roomy later r c.entries put) where
        -- the first state's entries, and those of the call
        done-moments : tells → Leaves old new (IsForcedOrFrom before.chain.first before.forced (whole_from r s.entries Behind) Behind)
        done-moments told =
            let least : length (s.entries ++ c.entries) ≡ whole_from r s.entries Behind = ap (λ (l : List Entry). length l) (sym its-behind) ∙ sym (whole-is r s.entries Behind other) in
            subst (λ (l : List Entry). Leaves old new (IsForcedOrFrom before.chain.first before.forced (whole_from r s.entries Behind) l)) (sym its-behind)
            (subst (λ (n : ℕ). Leaves old new (IsForcedOrFrom before.chain.first before.forced n (s.entries ++ c.entries))) least
            (subst (λ (n : ℕ). Leaves old new (IsForcedOrFrom before.chain.first n (length (s.entries ++ c.entries)) (s.entries ++ c.entries))) more.forced
            (subst (λ (n : ℕ). Leaves old new (IsForcedOrFrom n roomy.forced (length (s.entries ++ c.entries)) (s.entries ++ c.entries))) more.receiver
            (taken.moments told s.entries (more_holds before roomy s.entries old more (is.holds told))))))

        done-book : IsOk put → IsBookOf later (after s c)
        done-book fine =
            let same = (keeps c done).same in
            let next = ok-is put fine taken.next in
            let length-is = ap (λ (l : List Entry). length l) its-after in
            record {
              first = taken.first ∙ roomy-of.first ∙ ap (λ (n : ℕ). n + 1) (sym same.0);
              next = omega (arith, next, roomy-of.next, same.0, length-is, length-append s.entries c.entries);
              receiver = taken.receiver ∙ roomy-of.receiver ∙ ap (λ (x : Receivers). x.first) (sym same.1);
              attached = taken.number ∙ roomy-of.attached ∙ ap (λ (x : Receivers). x.attached) (sym same.1);
              little = ok-is put fine taken.little;
              places = lasts.behind later.chain.room (ok-is put fine taken.places);
            }

        done-journaled : IsOk put → IsJournaled tells new later (after s c)
        unfolding does
        done-journaled fine = record {
          book_of = done-book fine;
          may = stay s c (does c done) short (keeps c done).same.2 is.may;
          holds = λ told. subst (λ (l : List Entry). Holds later l new) (sym its-after) (ok-is put fine taken.kept told s.entries (more_holds before roomy s.entries old more (is.holds told)));
        }

        done-whole : IsOk put → (later.forced ≡ before.forced) ⊎ (later.forced ≡ length (after s c).entries)
        done-whole fine =
            let all = counted later (after s c) (done-book fine) in
            elim (ok-is put fine taken.whole) [
              | inl same ↦ inl (same ∙ more.forced)
              | inr none ↦ inr (omega (arith, all, none))
            ]

        done-least : IsOk put → before.forced ≤ later.forced
        done-least fine =
            let all = counted later (after s c) (done-book fine) in
            let was = counted before s is.book_of in
            let length-is = ap (λ (l : List Entry). length l) its-after in
            elim (ok-is put fine taken.whole) [
              | inl same ↦ omega (arith, same, more.forced)
              | inr none ↦ omega (arith, all, was, none, length-is, length-append s.entries c.entries)
            ]

        pub done-put : IsOk put → HasPut tells old new before later s (after s c) r Behind false
        done-put fine = record {
          journaled = λ alive. done-journaled fine;
          front = (c.entries, its-behind);
          moments = done-moments;
          still = λ alive same told. still-of old new before.chain.first before.forced r s.entries Behind (after s c).entries (its-behind ∙ sym its-after)
              (same-entries s.entries c.entries (after s c).entries its-after same) (done-moments told);
          least = λ alive. done-least fine;
          whole = λ alive. done-whole fine;
          receiver = taken.receiver ∙ more.receiver;
          roots = taken.roots;
          faults = taken.faults;
          cause = λ failed. absurd (false≢true failed);
        }

        pub fault-put : IsErr put → HasPut tells old new before later s (after s c) r Behind true
        fault-put bad = record {
          journaled = λ alive. absurd (false≢true (sym alive));
          front = (c.entries, its-behind);
          moments = done-moments;
          still = λ alive same told. absurd (false≢true (sym alive));
          least = λ alive. absurd (false≢true (sym alive));
          whole = λ alive. absurd (false≢true (sym alive));
          receiver = taken.receiver ∙ more.receiver;
          roots = taken.roots;
          faults = taken.faults;
          cause = λ failed. taken.cause bad;
        }

        pub done-forced : IsOk put → c.forced ≡ true → later.waiting ≡ 0
        done-forced fine forced = ok-is put fine taken.acknowledged (asked sources read (memory_of s) job timestamp r c done forced)

  -- ---- by the cases of the answer over what is remembered

  module _ (spelled : EntriesAreSpelled) (short : AreShort sources) where
    -- what it has left in memory are its entries
    its-entries : (t : State) (c : Change) (done : Wanted ≡ Ok c) → t ≡ with_entries (remembered s).gone ((remembered s).entries ++ c.entries) c.memory → in_memory t.entries ≡ c.entries
    unfolding does
    its-entries t c done leads = entries-kept s t c leads (plain c done).gone (spelled s c (does c done) short is.may)

    pub asked-wait : EntriesMayWait → (t : State) (result : Result Reply Stop) → Answers (remembered s) t result Wanted → IsOk result → MayWait roomy (in_memory t.entries)
    asked-wait wait t (Ok reply) (c, done, given, leads) fine = subst (λ (l : List Entry). MayWait roomy l) (sym (its-entries t c done leads)) (done-wait c done wait short)
    asked-wait wait t (Err stopped) answers fine = absurd (false≢true fine)

    module _ (places : PlacesLast) (made : needs_memory r ≡ true → 2 * length s.jobs + 1 ≤ roomy.chain.room) where
      pub asked-place : (t : State) (result : Result Reply Stop) → Answers (remembered s) t result Wanted → IsOk result → places_taken r (in_memory t.entries) ≤ roomy.chain.room
      asked-place t (Ok reply) (c, done, given, leads) fine =
          subst (λ (l : List Entry). places_taken r l ≤ roomy.chain.room) (sym (its-entries t c done leads)) (done-place c done places made)
      asked-place t (Err stopped) answers fine = absurd (false≢true fine)

      module _ (stay : DepositsStay) (stays : ReadingsStaySound) (own : tells → read ≡ s.entries) (new : Disk) (later : BookState) where
        its-taken : (t : State) (c : Change) (done : Wanted ≡ Ok c) (put : Result (Unit {0}) StoreFault) → t ≡ with_entries (remembered s).gone ((remembered s).entries ++ c.entries) c.memory
            → HasTaken tells old new roomy later r (in_memory t.entries) put → HasTaken tells old new roomy later r c.entries put
        its-taken t c done put leads taken = subst (λ (l : List Entry). HasTaken tells old new roomy later r l put) (its-entries t c done leads) taken

        -- what the memory is once the entries are forgotten
        forgotten-after : (t u : State) (c : Change) → t ≡ with_entries (remembered s).gone ((remembered s).entries ++ c.entries) c.memory → u ≡ remembered t → u ≡ remembered (after s c)
        forgotten-after t u c leads forgets = forgets ∙ remembered-after s t c leads

        forgotten-same : (t u : State) → t ≡ remembered s → u ≡ remembered t → u ≡ remembered s
        forgotten-same t u same forgets = forgets ∙ ap (λ (x : State). remembered x) same ∙ remembered-twice s

        -- nothing was done
        stopped-come : (u : State) (reply : Reply) → u ≡ remembered s → later ≡ roomy → ((P : Disk → Type 0) → P old → P new)
            → HasAnswered tells sources read s s later (As reply) false → HasCome tells sources old new before later u s (As reply) false
        stopped-come u reply memory book disk answered = record {
          read = read;
          may = reads;
          own = own;
          to = s;
          memory = memory;
          put =
              subst (λ (b : BookState). HasPut tells old new before b s s r Behind false) (sym book) (disk (λ d. HasPut tells old d before roomy s s r Behind false)
              (stopped-put tells old before roomy s read reads sources job timestamp r running built sound is more plain));
          answered = answered;
        }

        pub ended-come : (t u : State) (result : Result Reply Stop) (put : Result (Unit {0}) StoreFault) → Answers (remembered s) t result Wanted → u ≡ remembered t
            → (IsErrOf result stop.NoMemory → IsTrue (needs_memory r)) → (IsOk result → HasTaken tells old new roomy later r (in_memory t.entries) put) → (IsErr result → IsOk put)
            → (IsErr result → later ≡ roomy) → (IsErr result → (P : Disk → Type 0) → P old → P new)
            → HasCome tells sources old new before later u s (As (answer_given put result).0) (answer_given put result).1
        ended-come t u (Ok reply) (Ok nothing) (c, done, given, leads) forgets needs taken nothing_called same_book same_disk =
            let its = its-taken t c done (Ok nothing) leads (taken refl) in
            record {
              read = read;
              may = reads;
              own = own;
              to = after s c;
              memory = forgotten-after t u c leads forgets;
              put = done-put c done places made stay short new later (Ok nothing) its refl;
              answered =
                  subst (λ (x : Reply). HasAnswered tells sources read s (after s c) later (As x) false) given
                  (done-answered tells old before roomy s read reads sources job timestamp r running built sound is more plain c done stays later
                  (done-forced c done places made stay short new later (Ok nothing) its refl));
            }
        ended-come t u (Ok reply) (Err fault) (c, done, given, leads) forgets needs taken nothing_called same_book same_disk = record {
          read = read;
          may = reads;
          own = own;
          to = after s c;
          memory = forgotten-after t u c leads forgets;
          put = fault-put c done places made stay short new later (Err fault) (its-taken t c done (Err fault) leads (taken refl)) refl;
          answered = fault-answered tells old before roomy s read reads sources job timestamp r running built sound is more plain c done stays later;
        }
        ended-come t u (Err stop.NoMemory) (Ok nothing) same forgets needs taken nothing_called same_book same_disk =
            stopped-come u replies.NoMemory (forgotten-same t u same forgets) (same_book refl) (same_disk refl)
            (no_memory-answered tells old before roomy s read reads sources job timestamp r running built sound is more plain later (needs refl))
        ended-come t u (Err (stop.Refused reply)) (Ok nothing) (same, refused) forgets needs taken nothing_called same_book same_disk =
            stopped-come u reply (forgotten-same t u same forgets) (same_book refl) (same_disk refl)
            (refused-answered tells old before roomy s read reads sources job timestamp r running built sound is more plain later reply refused)
        ended-come t u (Err stopped) (Err fault) answers forgets needs taken nothing_called same_book same_disk = absurd (false≢true (nothing_called refl))

  -- there was no room for its block
  pub roomless-come : (own : tells → read ≡ s.entries) (m : State) → m ≡ remembered s → IsTrue (needs_memory r) → HasCome tells sources old old before roomy m s (As replies.NoMemory) false
  roomless-come own m memory needs = record {
    read = read;
    may = reads;
    own = own;
    to = s;
    memory = memory;
    put = stopped-put tells old before roomy s read reads sources job timestamp r running built sound is more plain;
    answered = no_memory-answered tells old before roomy s read reads sources job timestamp r running built sound is more plain roomy needs;
  }

  -- the store was found at fault where the journal was read for it
  pub unread-come : (own : tells → read ≡ s.entries) (mid : Disk) → Stays old mid → Rose old.faults mid.faults → (m : State) → m ≡ remembered s → IsTrue (needs_memory r)
      → HasCome tells sources old mid before roomy m s (As replies.StoreFault) true
  unread-come own mid stays cause m memory needs =
      let rest = front tells old before roomy s read reads sources job timestamp r running built sound is more plain in
      let P = IsForcedOrFrom before.chain.first before.forced (whole_from r s.entries Behind) Behind in
      record {
        read = read;
        may = reads;
        own = own;
        to = s;
        memory = memory;
        put = record {
          journaled = λ alive. absurd (false≢true (sym alive));
          front = rest;
          moments = λ told.
              leaves_stays old mid P stays (leaves_now old old P (moment-still before s.entries rest.0 Behind (whole_from r s.entries Behind) old (is.holds told) rest.1));
          still = λ alive same told. absurd (false≢true (sym alive));
          least = λ alive. absurd (false≢true (sym alive));
          whole = λ alive. absurd (false≢true (sym alive));
          receiver = more.receiver;
          roots = roots_stay old mid stays;
          faults = stays.later.faults;
          cause = λ failed. cause;
        };
        answered = untouched-answered tells old before roomy s read reads sources job timestamp r running built sound is more plain roomy needs;
      }

  -- it wasn't read back
  pub changed-come : (own : tells → read ≡ s.entries) (m : State) (sequence : ℕ) → m ≡ remembered s → IsTrue (needs_memory r) → reads_journal r ≡ true → (tells → ⊥)
      → HasCome tells sources old old before roomy m s (As (replies.BlockChanged sequence)) false
  changed-come own m sequence memory needs asks untold = record {
    read = read;
    may = reads;
    own = own;
    to = s;
    memory = memory;
    put = stopped-put tells old before roomy s read reads sources job timestamp r running built sound is more plain;
    answered = changed-answered tells old before roomy s read reads sources job timestamp r running built sound is more plain roomy sequence needs asks untold;
  }
