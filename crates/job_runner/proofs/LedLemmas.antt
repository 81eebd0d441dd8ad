-- What calls make of the library and of its journal on the disk: no call, one, and those of two runs, one after the other.
use Rattle.std.proofs.Common.{◌≡◌, ◌⊎◌, inl, inr, ℕ, zero, suc, ◌+◌, ◌≤◌, Bool, true, false, if◌then◌else◌, IsTrue, List, [], ◌∷◌, ◌++◌, length, take, refl, sym, ◌∙◌, ap, subst, arith}
use Rattle.std.proofs.Common.{append_assoc, append-nil, length-append}
use Rattle.store_model.specs.Disk.{Areas, Disk, May, Later, Leaves}
use Rattle.store_model.proofs.Runs.{leaves_less, leaves_now, leaves_then}
use Rattle.entry_codec.specs.declared.entries.Entry.{Entry}
use Rattle.receiver_chain.specs.Others.{LeavesRoots}
use Rattle.receiver_chain.proofs.Others.{roots_here, roots_then}
use Rattle.journal_book.specs.Kept.{IsForcedOrFrom, SpellEntries}
use Rattle.library_model.specs.declared.calls.Call.{Call}
use Rattle.library_model.specs.declared.replies.Reply.{Reply}
use Rattle.library_model.specs.declared.requests.Request.{Request}
use Rattle.library_model.specs.declared.requests.Request.TheVariants.{ChangeJournal}
use Rattle.library_model.specs.declared.sources.NamedSource.{NamedSource}
use Rattle.library_steps.specs.State.{State, memory_of, job_at}
use Rattle.library_steps.specs.Change.{changed}
use Rattle.library_steps.specs.Step.{change, step}
use Rattle.library_steps.specs.History.{is_running, Outcome, Standing, Failed, Comes, Runs}
use Rattle.library_core.specs.Deposits.{switches}
use Rattle.library_core.specs.Parts.{LibraryOver}
use Rattle.library_core.specs.Stands.{Stands, IsAt, ComesReading, Goes, whole_from}
use Rattle.library_core.specs.Fronts.{entries_at, entries_behind, HasSwitched, IsAcknowledged, IsWhole, HasAcknowledged}
use Rattle.library_core.proofs.MemoryLemmas.{length-remembered}
use Rattle.joint_state.specs.Sound.{MayBeRead}
use Rattle.journal_model.specs.Journal.{AreNumbered}
use Rattle.job_runner.specs.Reading.{RunsReading}
use Rattle.job_runner.specs.Moments.{EndsWhole, IsLeft, IsAnsweredBy, LeavesForced, Leads}
use Rattle.job_runner.proofs.AnsweredLemmas.{answered-none, answered-one, answered-append}
use Rattle.job_runner.proofs.ReadingLemmas.{Comes-read, RunsReading-append}
use Rattle.job_runner.proofs.FrontLemmas.{acknowledged-none, acknowledged-call, whole-none, whole-all, ends-joined, left-more, left-behind, left-joined}
use Rattle.run_laws.proofs.AnsweredLemmas.{answered, is_unanswered, never-unanswered}
use Rattle.run_laws.proofs.GrownLemmas.{switch-two}
use Rattle.run_laws.proofs.OutcomeLemmas.{Runs-append}

-- ---- no call

stays-later : (disk : Disk) → Later disk disk
stays-later disk = record { moment = omega arith; faults = omega arith; parts = λ t areas before left. inl left; keeps = λ t areas before left. left }

-- where a stop leaves what is forced, it leaves no call more
none-left : {S : Type 0} (disk : S → Disk) (sources : List NamedSource) (first : LibraryOver S) (start : State) (acknowledged : List Call) → LeavesForced disk first start
    → HasAcknowledged sources start acknowledged first.book.forced
    → (areas : Areas) → May (disk first.store) areas → IsLeft sources start first.book [] acknowledged (Standing start) areas
none-left disk sources first start acknowledged forced has areas may = record {
  count = first.book.forced;
  ends = record { which = inl refl; least = omega arith; has = has };
  most = forced.few;
  spells = forced.spells areas may;
}

same-forced : {S : Type 0} (disk : S → Disk) (library : LibraryOver S) (s t : State) → ◌≡◌ {A = Outcome} (Standing s) (Standing t) → LeavesForced disk library s
    → LeavesForced disk library t
same-forced disk library s t is forced = let same : s ≡ t = cc in subst (λ (x : State). LeavesForced disk library x) same forced

pub Leads-none : {S : Type 0} (tells : Type 0) (disk : S → Disk) (sources : List NamedSource) (first : LibraryOver S) (start : State) → Stands tells disk first start
    → Leads tells disk sources first first start []
Leads-none tells disk sources first start stands = record {
  outcome = Standing start;
  reading = refl;
  at = stands;
  grows = ([], sym (append-nil start.entries));
  receiver = refl;
  least = λ still. omega arith;
  runs = λ told. refl;
  forced = λ told still. record { which = inl refl; least = omega arith; has = acknowledged-none sources start first.book.forced };
  left = λ told forced t is. same-forced disk first start t is forced;
  moments = λ told forced. record {
    later = stays-later (disk first.store);
    images = λ areas may. none-left disk sources first start [] forced (acknowledged-none sources start first.book.forced) areas may;
  };
  now = λ told forced areas may. none-left disk sources first start [] forced (acknowledged-none sources start first.book.forced) areas may;
  answered = λ told forced.
      answered-none sources start first.book (disk first.store)
      (none-left disk sources first start [] forced (acknowledged-none sources start first.book.forced));
  roots = roots_here (disk first.store);
}

-- ---- calls, and then others

module _ {S : Type 0} (tells : Type 0) (disk : S → Disk) (sources : List NamedSource) (first mid later : LibraryOver S) (start : State) (made more : List Call)
    (led : Leads tells disk sources first mid start made) where
  module _ (between : State) (is : led.outcome ≡ Standing between) (on : Leads tells disk sources mid later between more) where
    stands-between : Stands tells disk mid between
    stands-between = subst (λ (o : Outcome). IsAt tells disk mid o) is led.at

    reading-between : RunsReading tells sources (Standing start) made (Standing between)
    reading-between = subst (λ (o : Outcome). RunsReading tells sources (Standing start) made o) is led.reading

    runs-between : tells → Runs sources (Standing start) made (Standing between)
    runs-between told = subst (λ (o : Outcome). Runs sources (Standing start) made o) is (led.runs told)

    front-between : tells → EndsWhole sources start first.book.forced made made mid.book.forced
    front-between told = led.forced told stands-between.alive

    still-forced : tells → LeavesForced disk first start → LeavesForced disk mid between
    still-forced told forced = led.left told forced between is

    grown-between : between.entries ≡ start.entries ++ led.grows.0
    grown-between = ap entries_at (sym is) ∙ led.grows.1

    earlier-left : (areas : Areas) → IsLeft sources start first.book made [] led.outcome areas → IsLeft sources start first.book (made ++ more) [] on.outcome areas
    earlier-left areas left =
        left-more sources start between first.book made more [] on.outcome areas on.grows.0 on.grows.1
        (subst (λ (o : Outcome). IsLeft sources start first.book made [] o areas) is left)

    answered-first : tells → LeavesForced disk first start → (number : ℕ) → number ≤ length made
        → IsAnsweredBy sources start first.book made (Standing between) (disk first.store) (disk mid.store) number
    answered-first told forced number few =
        subst (λ (o : Outcome). IsAnsweredBy sources start first.book made o (disk first.store) (disk mid.store) number) is (led.answered told forced number few)

    answered-all : tells → LeavesForced disk first start → (number : ℕ) → number ≤ length (made ++ more)
        → IsAnsweredBy sources start first.book (made ++ more) on.outcome (disk first.store) (disk later.store) number
    answered-all told forced =
        answered-append sources start between first.book mid.book made more (runs-between told) (led.grows.0, grown-between) (front-between told) led.receiver on.outcome on.grows
        (disk first.store) (disk mid.store) (disk later.store)
        (subst (λ (o : Outcome). Leaves (disk first.store) (disk mid.store) (IsLeft sources start first.book made [] o)) is (led.moments told forced))
        (on.moments told (still-forced told forced)) (answered-first told forced) (on.answered told (still-forced told forced))

    Leads-on : Leads tells disk sources first later start (made ++ more)
    Leads-on = record {
      outcome = on.outcome;
      reading = RunsReading-append tells sources (Standing start) (Standing between) on.outcome made more reading-between on.reading;
      at = on.at;
      grows = (led.grows.0 ++ on.grows.0, on.grows.1 ∙ ap (λ (es : List Entry). es ++ on.grows.0) grown-between ∙ append_assoc start.entries led.grows.0 on.grows.0);
      receiver = on.receiver ∙ led.receiver;
      least = λ alive. omega (arith, led.least stands-between.alive, on.least alive);
      runs = λ told. Runs-append sources (Standing start) (Standing between) on.outcome made more (runs-between told) (on.runs told);
      forced = λ told alive.
          ends-joined sources start between made more (runs-between told) first.book.forced mid.book.forced (front-between told) more later.book.forced (on.forced told alive);
      left = λ told forced t at. on.left told (still-forced told forced) t at;
      moments = λ told forced.
          leaves_then (disk first.store) (disk mid.store) (disk later.store) (IsLeft sources start first.book (made ++ more) [] on.outcome)
          (leaves_less (disk first.store) (disk mid.store) (IsLeft sources start first.book made [] led.outcome)
          (IsLeft sources start first.book (made ++ more) [] on.outcome) (led.moments told forced) earlier-left)
          (leaves_less (disk mid.store) (disk later.store) (IsLeft sources between mid.book more [] on.outcome)
          (IsLeft sources start first.book (made ++ more) [] on.outcome) (on.moments told (still-forced told forced))
          (λ areas left. left-behind sources start between made more (runs-between told) first.book mid.book (front-between told) led.receiver on.outcome areas left));
      now = λ told forced areas may.
          left-joined sources start between made more (runs-between told) first.book mid.book (front-between told) led.receiver on.outcome areas more
          (on.now told (still-forced told forced) areas may);
      answered = answered-all;
      roots = roots_then (disk first.store) (disk mid.store) (disk later.store) led.roots on.roots;
    }

  -- a library that has failed is not called
  Leads-ended : mid.failed ≡ true → (more ≡ []) × (later ≡ mid) → Leads tells disk sources first later start (made ++ more)
  Leads-ended failed (none, same) =
      subst (λ (library : LibraryOver S). Leads tells disk sources first library start (made ++ more)) (sym same)
      (subst (λ (calls : List Call). Leads tells disk sources first mid start calls) (sym (ap (λ (calls : List Call). made ++ calls) none ∙ append-nil made)) led)

  pub Leads-append : ((between : State) → Stands tells disk mid between → Leads tells disk sources mid later between more) → (mid.failed ≡ true → (more ≡ []) × (later ≡ mid))
      → Leads tells disk sources first later start (made ++ more)
  Leads-append on ended = by led.outcome refl
    where
      by : (o : Outcome) → led.outcome ≡ o → Leads tells disk sources first later start (made ++ more)
      by (Standing between) is = Leads-on between is (on between (subst (λ (x : Outcome). IsAt tells disk mid x) is led.at))
      by (Failed entries) is = let failed = subst (λ (x : Outcome). IsAt tells disk mid x) is led.at in Leads-ended failed (ended failed)

-- ---- one call

-- what the library's own call says of it
pub record HasCalled {S : Type 0} (tells : Type 0) (disk : S → Disk) (sources : List NamedSource) (first later : LibraryOver S) (call : Call) : Type 0 where
  pub alive : first.failed ≡ false
  pub running : IsTrue (is_running (job_at call.job first.state.jobs))
  pub goes : (s : State) → Stands tells disk first s → Goes tells disk sources later s call
  pub moments : (s : State) → Stands tells disk first s → tells → Leaves (disk first.store) (disk later.store)
      (IsForcedOrFrom first.book.chain.first first.book.forced (whole_from call.request s.entries (entries_behind sources s call)) (entries_behind sources s call))
  pub still : (s : State) → Stands tells disk first s → (t : State) → Stands tells disk later t → t.entries ≡ s.entries → tells
      → Leaves (disk first.store) (disk later.store) (IsForcedOrFrom first.book.chain.first first.book.forced (length s.entries) s.entries)
  pub left : (t : State) → Stands tells disk later t → tells → (areas : Areas) → May (disk later.store) areas
      → SpellEntries later.book.chain.first (take later.book.forced t.entries) areas
  pub acknowledged : (s : State) → Stands tells disk first s → tells → IsAcknowledged sources s call → later.book.waiting ≡ 0
  pub least : later.failed ≡ false → first.book.forced ≤ later.book.forced
  pub whole : later.failed ≡ false → (later.book.forced ≡ first.book.forced) ⊎ (later.book.forced ≡ length later.state.entries)
  pub all : later.failed ≡ false → later.book.forced + later.book.waiting ≡ length later.state.entries
  pub receiver : later.book.chain.first ≡ first.book.chain.first
  pub grows : (s : State) → Stands tells disk first s → (read : List Entry) → AreNumbered (s.gone + 1) read
      → (more : List Entry) × ((changed s (change sources read (memory_of s) call.job call.timestamp call.request)).0.entries ≡ s.entries ++ more)
  pub roots : LeavesRoots (disk first.store) (disk later.store)

switches-is : (request : Request) → switches request ≡ true → request ≡ ChangeJournal
switches-is ChangeJournal is = refl
switches-is _ is = absurd cc

-- an acknowledged call was answered
not-answered : (sources : List NamedSource) (s : State) (call : Call) → is_unanswered call.reply ≡ true → IsAcknowledged sources s call → ⊥
not-answered sources s call unanswered acknowledged =
    never-unanswered acknowledged.done.reply
    (answered sources s.entries (memory_of s) call.job call.timestamp call.request acknowledged.done acknowledged.is) call.reply unanswered acknowledged.answered

-- a number and the two behind it
three : {P : Type 0} (n count : ℕ) → n ≤ count → count ≤ n + 2 → (count ≡ n → P) → (count ≡ n + 1 → P) → (count ≡ n + 2 → P) → P
three zero zero low high none one both = none refl
three zero (suc zero) low high none one both = one refl
three zero (suc (suc zero)) low high none one both = both refl
three zero (suc (suc (suc count))) low high none one both = absurd (omega (arith, high))
three (suc n) zero low high none one both = absurd (omega (arith, low))
three (suc n) (suc count) low high none one both =
    three n count (omega (arith, low)) (omega (arith, high)) (λ e. none (omega (arith, e))) (λ e. one (omega (arith, e))) (λ e. both (omega (arith, e)))

-- as many entries are in the memory as there are
pub length-kept : {S : Type 0} (tells : Type 0) (disk : S → Disk) (library : LibraryOver S) (s : State) → Stands tells disk library s → length library.state.entries ≡ length s.entries
length-kept tells disk library s stands = length-remembered library.state s stands.remembered.memory

module _ {S : Type 0} (tells : Type 0) (disk : S → Disk) (sources : List NamedSource) (first later : LibraryOver S) (call : Call) (called : HasCalled tells disk sources first later call)
    (s : State) (here : Stands tells disk first s) where
  running : IsTrue (is_running (job_at call.job s.jobs))
  running = subst (λ (x : State). IsTrue (is_running (job_at call.job x.jobs))) here.remembered.memory called.running

  abbrev behind : List Entry
  behind = entries_behind sources s call

  deposits : (more : List Entry) × (behind ≡ s.entries ++ more)
  deposits = called.grows s here s.entries here.remembered.sound.numbered

  grown : length behind ≡ length s.entries + length deposits.0
  grown = ap (λ (es : List Entry). length es) deposits.1 ∙ length-append s.entries deposits.0

  -- a count of entries within the call, where its own come
  module _ (outcome : Outcome) (runs : Runs sources (Standing s) (call ∷ []) outcome) (is : entries_at outcome ≡ behind) where
    whole-at : (count : ℕ) → count ≡ length behind → IsWhole sources s (call ∷ []) count
    whole-at count same = subst (IsWhole sources s (call ∷ [])) (ap (λ (es : List Entry). length es) is ∙ sym same) (whole-all sources s (call ∷ []) outcome runs)

    whole-within : (count : ℕ) → whole_from call.request s.entries behind ≤ count → count ≤ length behind → IsWhole sources s (call ∷ []) count
    whole-within count from most = by (switches call.request) refl
      where
        switched : switches call.request ≡ true → HasSwitched sources s call count
        switched switching = record { switching = switching; next = runs.1; comes = runs.2; few = subst (λ (es : List Entry). count ≤ length es) (sym is ∙ ap entries_at runs.3) most }

        by : (b : Bool) → switches call.request ≡ b → IsWhole sources s (call ∷ []) count
        by false other =
            let least : length behind ≤ count = subst (λ (b : Bool). (if b then length s.entries else length behind) ≤ count) other from in
            whole-at count (omega (arith, least, most))
        by true switching =
            let least : length s.entries ≤ count = subst (λ (b : Bool). (if b then length s.entries else length behind) ≤ count) switching from in
            let request : call.request ≡ ChangeJournal = switches-is call.request switching in
            let few : length behind ≤ length s.entries + 2 =
            subst (λ (r : Request). length (step sources s call.job call.timestamp r).0.entries ≤ length s.entries + 2) (sym request) (switch-two sources s call.job call.timestamp) in
            three (length s.entries) count least (omega (arith, most, few))
            (λ none. subst (IsWhole sources s (call ∷ [])) (sym none) (whole-none sources s (call ∷ [])))
            (λ one. record { made = 0; few = omega arith; outcome = Standing s; runs = refl; count_is = inr (one, switched switching) })
            (λ both. whole-at count (omega (arith, both, few, most)))

    left-within : LeavesForced disk first s → (areas : Areas) → IsForcedOrFrom first.book.chain.first first.book.forced (whole_from call.request s.entries behind) behind areas
        → IsLeft sources s first.book (call ∷ []) [] outcome areas
    left-within forced areas some = record {
      count = some.count;
      ends = record {
        which = elim some.which [
          | inl before ↦ inl before
          | inr from ↦ inr (whole-within some.count from some.at_most)
        ];
        least = elim some.which [
          | inl before ↦ omega (arith, before)
          | inr from ↦ omega (arith, at-least, from, forced.few)
        ];
        has = acknowledged-none sources s some.count;
      };
      most = subst (λ (es : List Entry). some.count ≤ length es) (sym is) some.at_most;
      spells = subst (λ (es : List Entry). SpellEntries first.book.chain.first (take some.count es) areas) (sym is) some.spells;
    }
      where
        at : (b : Bool) → length s.entries ≤ (if b then length s.entries else length behind)
        at true = omega arith
        at false = omega (arith, grown)

        at-least : length s.entries ≤ whole_from call.request s.entries behind
        at-least = at (switches call.request)

    moments-within : tells → LeavesForced disk first s → Leaves (disk first.store) (disk later.store) (IsLeft sources s first.book (call ∷ []) [] outcome)
    moments-within told forced =
        leaves_less (disk first.store) (disk later.store) (IsForcedOrFrom first.book.chain.first first.book.forced (whole_from call.request s.entries behind) behind)
        (IsLeft sources s first.book (call ∷ []) [] outcome) (called.moments s here told) (left-within forced)

  -- where the library stands behind the call
  module _ (read : List Entry) (may : MayBeRead s read) (own : tells → read ≡ s.entries) (t : State) (reads : ComesReading tells sources read s call (Standing t))
      (stands : Stands tells disk later t) where
    entries_are : length later.state.entries ≡ length t.entries
    entries_are = length-kept tells disk later t stands

    -- what the step deposits is there, where the call was acknowledged
    deposited : (c : Comes sources s call (Standing t)) → IsAcknowledged sources s call → length behind ≤ length t.entries
    deposited (inl is) acknowledged = let same : length t.entries ≡ length behind = ap (λ (p : State × Reply). length p.0.entries) is in omega (arith, same)
    deposited (inr (same, wanting, needs)) acknowledged = absurd (not-answered sources s call (ap is_unanswered wanting) acknowledged)

    grows-standing : (c : ComesReading tells sources read s call (Standing t)) → (more : List Entry) × (t.entries ≡ s.entries ++ more)
    grows-standing (inl (inl is)) = let grows = called.grows s here read may.numbered in (grows.0, ap (λ (p : State × Reply). p.0.entries) is ∙ grows.1)
    grows-standing (inl (inr (same, wanting, needs))) = ([], ap (λ (x : State). x.entries) same ∙ sym (append-nil s.entries))
    grows-standing (inr unread) = ([], ap (λ (x : State). x.entries) unread.same ∙ sym (append-nil s.entries))

    -- where the store tells of its bytes
    module _ (told : tells) where
      comes : Comes sources s call (Standing t)
      comes = Comes-read tells sources read s call (Standing t) told (own told) reads

      ran : Runs sources (Standing s) (call ∷ []) (Standing t)
      ran = (running, Standing t, comes, refl)

      forced-standing : EndsWhole sources s first.book.forced (call ∷ []) (call ∷ []) later.book.forced
      forced-standing = record {
        which = elim (called.whole stands.alive) [
          | inl before ↦ inl before
          | inr is ↦ inr (subst (IsWhole sources s (call ∷ [])) (sym entries_are ∙ sym is) (whole-all sources s (call ∷ []) (Standing t) ran))
        ];
        least = called.least stands.alive;
        has = acknowledged-call sources s call later.book.forced
            (λ acknowledged.
            let there : length behind ≤ length t.entries = deposited comes acknowledged in
            omega (arith, there, called.acknowledged s here told acknowledged, called.all stands.alive, entries_are));
      }

      moments-standing : (c : Comes sources s call (Standing t)) → LeavesForced disk first s
          → Leaves (disk first.store) (disk later.store) (IsLeft sources s first.book (call ∷ []) [] (Standing t))
      moments-standing (inl is) forced = moments-within (Standing t) ran (ap (λ (p : State × Reply). p.0.entries) is) told forced
      moments-standing (inr (same, wanting, needs)) forced =
          leaves_less (disk first.store) (disk later.store) (IsForcedOrFrom first.book.chain.first first.book.forced (length s.entries) s.entries)
          (IsLeft sources s first.book (call ∷ []) [] (Standing t)) (called.still s here t stands (ap (λ (x : State). x.entries) same) told)
          (λ areas some. subst (λ (x : State). IsLeft sources s first.book (call ∷ []) [] (Standing x) areas) (sym same) (record {
            count = some.count;
            ends = record {
              which = elim some.which [
                | inl before ↦ inl before
                | inr from ↦ inr (subst (IsWhole sources s (call ∷ [])) (count-is some.count (length s.entries) from some.at_most) (whole-none sources s (call ∷ [])))
              ];
              least = elim some.which [
                | inl before ↦ omega (arith, before)
                | inr from ↦ omega (arith, from, forced.few)
              ];
              has = acknowledged-none sources s some.count;
            };
            most = some.at_most;
            spells = some.spells;
          }))
        where
          count-is : (count n : ℕ) → n ≤ count → count ≤ n → n ≡ count
          count-is count n low high = omega (arith, low, high)

      forced-left : LeavesForced disk later t
      forced-left = record { few = let all = called.all stands.alive in omega (arith, all, entries_are); spells = called.left t stands told }

      now-standing : (areas : Areas) → May (disk later.store) areas → IsLeft sources s first.book (call ∷ []) (call ∷ []) (Standing t) areas
      now-standing areas may = record {
        count = later.book.forced;
        ends = forced-standing;
        most = let all = called.all stands.alive in omega (arith, all, entries_are);
        spells = subst (λ (n : ℕ). SpellEntries n (take later.book.forced t.entries) areas) called.receiver (called.left t stands told areas may);
      }

    standing : Leads tells disk sources first later s (call ∷ [])
    standing = record {
      outcome = Standing t;
      reading = (running, read, may, own, Standing t, reads, refl);
      at = stands;
      grows = grows-standing reads;
      receiver = called.receiver;
      least = called.least;
      runs = ran;
      forced = λ told alive. forced-standing told;
      left = λ told forced u is. same-forced disk later t u is (forced-left told);
      moments = λ told forced. moments-standing told (comes told) forced;
      now = λ told forced areas may. now-standing told areas may;
      answered = λ told forced.
          answered-one sources s first.book call (Standing t) (disk first.store) (disk later.store) (ran told) (grows-standing reads) (moments-standing told (comes told) forced)
          (now-standing told);
      roots = called.roots;
    }

  -- where the store was at fault
  module _ (read : List Entry) (may : MayBeRead s read) (own : tells → read ≡ s.entries) (entries : List Entry) (reads : ComesReading tells sources read s call (Failed entries))
      (failed : later.failed ≡ true) where
    grows-failed : (more : List Entry) × (entries ≡ s.entries ++ more)
    grows-failed = let grows = called.grows s here read may.numbered in (grows.0, reads.1 ∙ grows.1)

    not-alive : {P : Type 0} → later.failed ≡ false → P
    not-alive alive = absurd (let f = failed in let a = alive in cc)

    -- where the store tells of its bytes
    module _ (told : tells) where
      comes-failed : Comes sources s call (Failed entries)
      comes-failed = Comes-read tells sources read s call (Failed entries) told (own told) reads

      ran-failed : Runs sources (Standing s) (call ∷ []) (Failed entries)
      ran-failed = (running, Failed entries, comes-failed, refl)

      now-failed : LeavesForced disk first s → (areas : Areas) → May (disk later.store) areas → IsLeft sources s first.book (call ∷ []) (call ∷ []) (Failed entries) areas
      now-failed forced areas may =
          let moments = moments-within (Failed entries) ran-failed comes-failed.1 told forced in
          let left = leaves_now (disk first.store) (disk later.store) (IsLeft sources s first.book (call ∷ []) [] (Failed entries)) moments areas may in
          record {
            count = left.count;
            ends = record {
              which = left.ends.which;
              least = left.ends.least;
              has = acknowledged-call sources s call left.count (λ acknowledged. absurd (not-answered sources s call (ap is_unanswered comes-failed.0) acknowledged));
            };
            most = left.most;
            spells = left.spells;
          }

    ended : Leads tells disk sources first later s (call ∷ [])
    ended = record {
      outcome = Failed entries;
      reading = (running, read, may, own, Failed entries, reads, refl);
      at = failed;
      grows = grows-failed;
      receiver = called.receiver;
      least = called.least;
      runs = ran-failed;
      forced = λ told alive. not-alive alive;
      left = λ told forced t is. absurd cc;
      moments = λ told forced. moments-within (Failed entries) (ran-failed told) (comes-failed told).1 told forced;
      now = λ told forced areas may. now-failed told forced areas may;
      answered = λ told forced.
          answered-one sources s first.book call (Failed entries) (disk first.store) (disk later.store) (ran-failed told) grows-failed
          (moments-within (Failed entries) (ran-failed told) (comes-failed told).1 told forced) (now-failed told forced);
      roots = called.roots;
    }

  pub Leads-called : Leads tells disk sources first later s (call ∷ [])
  Leads-called = by done.outcome done.comes done.at
    where
      done : Goes tells disk sources later s call
      done = called.goes s here

      by : (outcome : Outcome) → ComesReading tells sources done.read s call outcome → IsAt tells disk later outcome → Leads tells disk sources first later s (call ∷ [])
      by (Standing t) comes stands = standing done.read done.may done.own t comes stands
      by (Failed entries) comes failed = ended done.read done.may done.own entries comes failed
