-- A journal that was read before a call was done: the store has stayed, so that what the call made of it then it has made of it since the reading began.
use Rattle.std.proofs.Common.{◌≡◌, ◌≤◌, ◌+◌, ℕ, Bool, List, [], length, Result, Ok, refl, sym, ◌∙◌, ap, subst, arith}
use Rattle.store_model.specs.Disk.{Disk, Stays}
use Rattle.store_model.specs.Faults.{Rose}
use Rattle.store_model.proofs.Runs.{leaves_now, leaves_stays, leaves_then}
use Rattle.entry_codec.specs.declared.entries.Entry.{Entry}
use Rattle.receiver_chain.proofs.Others.{roots_stay, roots_then}
use Rattle.journal_book.specs.Book.{BookState}
use Rattle.journal_book.specs.Kept.{IsForcedOrFrom}
use Rattle.journal_book.proofs.Deposits.{stays_holds}
use Rattle.journal_book.proofs.Forcing.{none_exactly}
use Rattle.library_model.specs.declared.calls.Call.{Call}
use Rattle.library_model.specs.declared.requests.Request.{Request}
use Rattle.library_model.specs.declared.sources.NamedSource.{NamedSource}
use Rattle.library_steps.specs.State.{State}
use Rattle.record_changes.specs.Sound.{IsSound, MayBeRead}
use Rattle.record_changes.proofs.ReadLemmas.{own-read}
use Rattle.journal_reads.specs.Stretches.{EntriesFrom, IsStretchOf, entries_from}
use Rattle.journal_model.specs.Journal.{AreNumbered}
use Rattle.commitment_requests.specs.Remembered.{remembered}
use Rattle.kept_library.specs.Journaled.{IsJournaled, IsRemembered}
use Rattle.kept_library.specs.Stands.{whole_from}
use Rattle.library_core.specs.Puts.{HasCome, HasPut, entries_reading}
use Rattle.library_core.specs.Reads.{HasRead, IsReadOf}
use Rattle.library_core.proofs.JournalLemmas.{moment-still}
use Rattle.library_core.proofs.MemoryLemmas.{length-remembered}

pub journaled-stays : (tells : Type 0) (old mid : Disk) (book : BookState) (s : State) → Stays old mid → IsJournaled tells old book s → IsJournaled tells mid book s
journaled-stays tells old mid book s stays is = record { book_of = is.book_of; may = is.may; holds = λ told. stays_holds book s.entries old mid stays (is.holds told) }

pub remembered-stays : (tells : Type 0) (old mid : Disk) (book : BookState) (m s : State) → Stays old mid → IsRemembered tells old book m s → IsRemembered tells mid book m s
remembered-stays tells old mid book m s stays is = record { memory = is.memory; sound = is.sound; journaled = journaled-stays tells old mid book s stays is.journaled }

rose-behind : (a b c : ℕ) → a ≤ b → Rose b c → Rose a c
rose-behind a b c less rose = omega (arith, less, rose)

put-behind : (tells : Type 0) (old mid new : Disk) (before after : BookState) (s t : State) (r : Request) (behind : List Entry) (failed : Bool) → Stays old mid → IsJournaled tells old before s
    → HasPut tells mid new before after s t r behind failed → HasPut tells old new before after s t r behind failed
put-behind tells old mid new before after s t r behind failed stays is put = record {
  journaled = put.journaled;
  front = put.front;
  moments = λ told.
      let P = IsForcedOrFrom before.chain.first before.forced (whole_from r s.entries behind) behind in
      leaves_then old mid new P
      (leaves_stays old mid P stays (leaves_now old old P (moment-still before s.entries put.front.0 behind (whole_from r s.entries behind) old (is.holds told) put.front.1))) (put.moments told);
  still = λ alive same told.
      let P = IsForcedOrFrom before.chain.first before.forced (length s.entries) s.entries in
      leaves_then old mid new P (leaves_stays old mid P stays (leaves_now old old P (none_exactly before s.entries old (is.holds told)))) (put.still alive same told);
  least = put.least;
  whole = put.whole;
  receiver = put.receiver;
  roots = roots_then old mid new (roots_stay old mid stays) put.roots;
  faults = omega (arith, stays.later.faults, put.faults);
  cause = λ failing. rose-behind old.faults mid.faults new.faults stays.later.faults (put.cause failing);
}

pub come-behind : (tells : Type 0) (sources : List NamedSource) (old mid new : Disk) (before after : BookState) (m s : State) (call : Call) (failed : Bool) → Stays old mid
    → IsJournaled tells old before s → HasCome tells sources mid new before after m s call failed → HasCome tells sources old new before after m s call failed
come-behind tells sources old mid new before after m s call failed stays is come = record {
  read = come.read;
  may = come.may;
  own = come.own;
  to = come.to;
  memory = come.memory;
  put = put-behind tells old mid new before after s come.to call.request (entries_reading sources come.read s call) failed stays is come.put;
  answered = come.answered;
}

-- nothing was read: that is a part of the journal as it is
none-read : (tells : Type 0) (s : State) (first : ℕ) → IsSound s → s.gone + 1 ≤ first → IsReadOf tells s (entries_from first []) s.entries
none-read tells s first sound kept = record { may = own-read s sound; own = λ told. refl; part = record { begins = kept; same = refl } }

-- ---- what was read, over the memory

pub count-over : (m s : State) (read : List Entry) → m ≡ remembered s → MayBeRead s read → length read ≡ length m.entries
count-over m s read memory may = may.count ∙ sym (length-remembered m s memory)

pub numbered-over : (m s : State) (read : List Entry) → m ≡ remembered s → MayBeRead s read → AreNumbered (m.gone + 1) read
numbered-over m s read memory may = subst (λ (u : State). AreNumbered (u.gone + 1) read) (sym memory) may.numbered

pub part-over : (m s : State) (read : List Entry) (stretch : EntriesFrom) → m ≡ remembered s → IsStretchOf (s.gone + 1) read stretch → IsStretchOf (m.gone + 1) read stretch
part-over m s read stretch memory part = subst (λ (u : State). IsStretchOf (u.gone + 1) read stretch) (sym memory) part

pub stretch-read : {E : Type 0} (tells : Type 0) (s : State) (result : Result EntriesFrom E) (stretch : EntriesFrom) → result ≡ Ok stretch → HasRead tells s result
    → (read : List Entry) × IsReadOf tells s stretch read
stretch-read {E = E} tells s result stretch is has = subst (λ (r : Result EntriesFrom E). HasRead tells s r) is has

pub nothing-has : (tells : Type 0) (m s : State) (stretch : EntriesFrom) → m ≡ remembered s → IsSound s → stretch ≡ entries_from (m.gone + 1) []
    → (read : List Entry) × IsReadOf tells s stretch read
nothing-has tells m s stretch memory sound is =
    let same : m.gone ≡ s.gone = ap (λ (u : State). u.gone) memory in
    (s.entries, subst (λ (x : EntriesFrom). IsReadOf tells s x s.entries) (sym is) (none-read tells s (m.gone + 1) sound (omega (arith, same))))

-- the store's fault, where it has stayed before
pub cause-behind : (old mid new : Disk) → Stays old mid → Rose mid.faults new.faults → Rose old.faults new.faults
cause-behind old mid new stays rose = rose-behind old.faults mid.faults new.faults stays.later.faults rose
