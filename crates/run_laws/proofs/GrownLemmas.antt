-- A call puts its entries behind those of the journal, and none of these goes: no receiver is given up as long as no checkpoint was saved.
use Rattle.std.proofs.Common.{◌≡◌, ℕ, ◌+◌, ◌-◌, ◌≤◌, ◌==◌, ◌||◌, nat_lt, not, Bool, true, false, cond, IfSome, Option, Some, None, List, [], ◌∷◌, ◌++◌, Result, Ok, Err, length, drop, refl}
use Rattle.std.proofs.Common.{sym, ◌∙◌, ap, subst, arith, append-nil, length-append}
use Rattle.std.specs.List.{find}
use Rattle.std.specs.Option.{option_map, option_map_or}
use Rattle.std.proofs.lemmas.Bool.Decides.{nat_tests}
use Rattle.entry_codec.specs.declared.entries.Entry.{Entry}
use Rattle.journal_model.specs.Journal.{AreNumbered}
use Rattle.journal_model.specs.Replay.{before_of}
use Rattle.journal_model.specs.Rollback.{MemberChange}
use Rattle.library_model.specs.declared.replies.Missing.TheVariants.{Receiver}
use Rattle.library_model.specs.declared.replies.Reply.{Reply}
use Rattle.library_model.specs.declared.replies.Reply.TheVariants.{NoSuchName, StillNeeded}
use Rattle.library_model.specs.declared.requests.Request.{Request}
use Rattle.library_model.specs.declared.requests.Request.TheVariants.{CreatePhysicalFile, CreateLogicalFile, DeleteFile, AddMember, ClearMember, ReorganizeMember, StartJournaling}
use Rattle.library_model.specs.declared.requests.Request.TheVariants.{EndJournaling, ChangeJournal, DeleteReceiver, Checkpoint, DisplayJournal, ApplyChanges, RemoveChanges, StartCommitment}
use Rattle.library_model.specs.declared.requests.Request.TheVariants.{EndCommitment, Commit, Rollback, OpenFile, CloseFile, SetLowerLimit, SetGreaterThan, Read, ReadPrior, ReadEqual}
use Rattle.library_model.specs.declared.requests.Request.TheVariants.{ReadPriorEqual, Chain, Write, Update, Delete, Unlock, EndJob}
use Rattle.library_model.specs.declared.sources.NamedSource.{NamedSource}
use Rattle.library_steps.specs.Change.{Change, changed, does}
use Rattle.library_steps.specs.ChangeRecord.{update_change}
use Rattle.library_steps.specs.ChangeRecord as records
use Rattle.library_steps.specs.Commitment.{changes_of, taken_back}
use Rattle.library_steps.specs.EndJob as jobs
use Rattle.library_steps.specs.Receivers.{attach_change, attach_plan, give_up_plan, is_kept, is_needed, is_number, last_in, next_receiver}
use Rattle.library_steps.specs.Refusals.{◌>>=◌, refuse_if}
use Rattle.library_steps.specs.SlotChange.{NewSlot, change_made, cycle_for, touched, with_slot, with_undo}
use Rattle.library_steps.specs.State.{CycleState, Memory, State, job_of, memory_of, with_status}
use Rattle.library_steps.specs.Step.{change, step}
use Rattle.library_steps.specs.WriteRecord.{write_call, write_change}

-- ---- plans that were done

bind-ok : {A B : Type 0} (r : Result A Reply) (next : A → Result B Reply) (b : B) → (r >>= next) ≡ Ok b → (a : A) × (r ≡ Ok a) × (next a ≡ Ok b)
bind-ok (Ok a) next b h = (a, refl, h)
bind-ok (Err e) next b h = absurd cc

does-each : {A : Type 0} (effect : A → Change) (plan : Result A Reply) (done : Change) (P : Change → Type 0) → does effect plan ≡ Ok done → ((a : A) → plan ≡ Ok a → P (effect a)) → P done
does-each effect (Ok a) done P h each = let same : effect a ≡ done = cc in subst P same (each a refl)
does-each effect (Err e) done P h each = absurd cc

not-refused : (b : Bool) (reply : Reply) (x : Bool) → refuse_if b reply ≡ Ok x → b ≡ false
not-refused true reply x h = absurd cc
not-refused false reply x h = refl

-- ---- each receiver is needed

found-late : (number first : ℕ) (entries : List Entry) → 1 ≤ first → AreNumbered first entries → IfSome (last_in number entries) (λ (last : ℕ). 1 ≤ last)
found-late number first [] least are = tt
found-late number first (e ∷ entries) least are =
    by (is_number (number + 1) (next_receiver e.kind)) (found-late number (first + 1) entries (omega (arith, least)) are.1)
  where
    by : (b : Bool) → IfSome (last_in number entries) (λ (last : ℕ). 1 ≤ last)
        → IfSome (option_map (λ (entry : Entry). entry.sequence) (cond b (Some e) (find (λ (entry : Entry). is_number (number + 1) (next_receiver entry.kind)) entries))) (λ (last : ℕ). 1 ≤ last)
    by true rest = subst (λ (n : ℕ). 1 ≤ n) (sym are.0) least
    by false rest = rest

second-false : (a b : Bool) → (a || b) ≡ false → b ≡ false
second-false true b h = absurd cc
second-false false b h = h

-- ---- what moves none of the journal's entries

undo-gone : (commit : Bool) (job : ℕ) (undo : MemberChange) (cycle : CycleState) (m : Memory) → (with_undo commit job undo cycle m).gone ≡ m.gone
undo-gone true job undo cycle m = refl
undo-gone false job undo cycle m = refl

taken-gone : (undos : List MemberChange) (m : Memory) → (taken_back undos m).gone ≡ m.gone
taken-gone [] m = refl
taken-gone (undo ∷ undos) m = taken-gone undos (with_slot undo.member (undo.change.place + 1) (before_of undo.change) m)

-- whatever was read of the journal's entries, with their numbers
module _ (s : State) (unsaved : s.checkpoint ≡ 0) (read : List Entry) (numbered : AreNumbered (s.gone + 1) read) where
  abbrev m : Memory
  m = memory_of s

  abbrev Stays : Change → Type 0
  Stays c = c.memory.gone ≡ s.gone

  never : (number : ℕ) → is_needed number read m ≡ false → ⊥
  never number h =
      by (last_in number read) (found-late number (s.gone + 1) read (omega arith) numbered)
      (second-false (number == s.receivers.attached) (option_map_or (λ (last : ℕ). nat_lt s.checkpoint last) (last_in number read) true) h)
    where
      by : (o : Option ℕ) → IfSome o (λ (last : ℕ). 1 ≤ last) → option_map_or (λ (last : ℕ). nat_lt s.checkpoint last) o true ≡ false → ⊥
      by None late needed = absurd cc
      by (Some last) late needed =
          let none : nat_lt 0 last ≡ false = subst (λ (n : ℕ). nat_lt n last ≡ false) unsaved needed in
          let some : nat_lt 0 last ≡ true = grind (arith, nat_tests, late) in
          absurd cc

  slot-gone : (job : ℕ) (new : NewSlot)
      → (with_undo new.opened.commit job (change_made m (job_of job m) new) (cycle_for m (job_of job m))
      (with_status new.opened.member touched (with_slot new.opened.member new.rrn new.slot m))).gone ≡ s.gone
  slot-gone job new =
      undo-gone new.opened.commit job (change_made m (job_of job m) new) (cycle_for m (job_of job m))
      (with_status new.opened.member touched (with_slot new.opened.member new.rrn new.slot m))

  gone-stays : (sources : List NamedSource) (job timestamp : ℕ) (request : Request) (done : Change) → change sources read m job timestamp request ≡ Ok done → Stays done
  unfolding change give_up_plan
  gone-stays sources job timestamp (CreatePhysicalFile args) done h = does-each _ _ done Stays h (λ x is. refl)
  gone-stays sources job timestamp (CreateLogicalFile args) done h = does-each _ _ done Stays h (λ x is. refl)
  gone-stays sources job timestamp (DeleteFile args) done h = does-each _ _ done Stays h (λ x is. refl)
  gone-stays sources job timestamp (AddMember args) done h = does-each _ _ done Stays h (λ x is. refl)
  gone-stays sources job timestamp (ClearMember args) done h = does-each _ _ done Stays h (λ x is. refl)
  gone-stays sources job timestamp (ReorganizeMember args) done h = does-each _ _ done Stays h (λ x is. refl)
  gone-stays sources job timestamp (StartJournaling args) done h = does-each _ _ done Stays h (λ x is. refl)
  gone-stays sources job timestamp (EndJournaling args) done h = does-each _ _ done Stays h (λ x is. refl)
  gone-stays sources job timestamp ChangeJournal done h = does-each _ _ done Stays h (λ x is. refl)
  gone-stays sources job timestamp (DeleteReceiver args) done h =
      does-each _ (give_up_plan read m args) done Stays h
      (λ last is.
      let a = bind-ok (refuse_if (not (is_kept args.number m)) (NoSuchName (Receiver args.number))) _ last is in
      let b = bind-ok (refuse_if (is_needed args.number read m) (StillNeeded (s.checkpoint + 1))) _ last a.2 in
      absurd (never args.number (not-refused (is_needed args.number read m) (StillNeeded (s.checkpoint + 1)) b.0 b.1)))
  gone-stays sources job timestamp Checkpoint done h = does-each _ _ done Stays h (λ x is. refl)
  gone-stays sources job timestamp (DisplayJournal args) done h = does-each _ _ done Stays h (λ x is. refl)
  gone-stays sources job timestamp (ApplyChanges args) done h = does-each _ _ done Stays h (λ x is. refl)
  gone-stays sources job timestamp (RemoveChanges args) done h = does-each _ _ done Stays h (λ x is. refl)
  gone-stays sources job timestamp (StartCommitment args) done h = does-each _ _ done Stays h (λ x is. refl)
  gone-stays sources job timestamp EndCommitment done h = does-each _ _ done Stays h (λ x is. refl)
  gone-stays sources job timestamp Commit done h = does-each _ _ done Stays h (λ x is. refl)
  gone-stays sources job timestamp Rollback done h = does-each _ _ done Stays h (λ x is. taken-gone (changes_of (job_of job m).cycle) m)
  gone-stays sources job timestamp (OpenFile args) done h = does-each _ _ done Stays h (λ x is. refl)
  gone-stays sources job timestamp (CloseFile args) done h = does-each _ _ done Stays h (λ x is. refl)
  gone-stays sources job timestamp (SetLowerLimit args) done h = does-each _ _ done Stays h (λ x is. refl)
  gone-stays sources job timestamp (SetGreaterThan args) done h = does-each _ _ done Stays h (λ x is. refl)
  gone-stays sources job timestamp (Read args) done h = does-each _ _ done Stays h (λ x is. refl)
  gone-stays sources job timestamp (ReadPrior args) done h = does-each _ _ done Stays h (λ x is. refl)
  gone-stays sources job timestamp (ReadEqual args) done h = does-each _ _ done Stays h (λ x is. refl)
  gone-stays sources job timestamp (ReadPriorEqual args) done h = does-each _ _ done Stays h (λ x is. refl)
  gone-stays sources job timestamp (Chain args) done h = does-each _ _ done Stays h (λ x is. refl)
  gone-stays sources job timestamp (Write args) done h = does-each (write_change m job timestamp (write_call args.record_number)) _ done Stays h (λ new is. slot-gone job new)
  gone-stays sources job timestamp (Update args) done h = does-each (update_change m job timestamp) _ done Stays h (λ new is. slot-gone job new)
  gone-stays sources job timestamp (Delete args) done h = does-each (records.delete_change m job timestamp) _ done Stays h (λ new is. slot-gone job new)
  gone-stays sources job timestamp (Unlock args) done h = does-each _ _ done Stays h (λ x is. refl)
  gone-stays sources job timestamp (EndJob args) done h =
      let e : jobs.end_change m job timestamp ≡ done = cc in
      sym (ap (λ (c : Change). c.memory.gone) e) ∙ taken-gone (changes_of (job_of job m).cycle) m

  -- behind a change, or a refusal
  grown : (r : Result Change Reply) → ((done : Change) → r ≡ Ok done → Stays done) → (more : List Entry) × ((changed s r).0.entries ≡ s.entries ++ more)
  grown (Ok done) stays =
      let none : done.memory.gone - s.gone ≡ 0 = let e = stays done refl in omega (arith, e) in
      (done.entries, ap (λ (n : ℕ). drop n (s.entries ++ done.entries)) none)
  grown (Err reply) stays = ([], sym (append-nil s.entries))

  pub entries-grow-reading : (sources : List NamedSource) (job timestamp : ℕ) (request : Request)
      → (more : List Entry) × ((changed s (change sources read m job timestamp request)).0.entries ≡ s.entries ++ more)
  entries-grow-reading sources job timestamp request = grown (change sources read m job timestamp request) (gone-stays sources job timestamp request)

pub entries-grow : (s : State) → s.checkpoint ≡ 0 → AreNumbered (s.gone + 1) s.entries → (sources : List NamedSource) (job timestamp : ℕ) (request : Request)
    → (more : List Entry) × ((step sources s job timestamp request).0.entries ≡ s.entries ++ more)
entries-grow s unsaved numbered sources job timestamp request = entries-grow-reading s unsaved s.entries numbered sources job timestamp request

-- CHGJRN deposits two entries, where it isn't refused
switched : (s : State) (job timestamp : ℕ) (plan : Result ℕ Reply) → length (changed s (does (attach_change (memory_of s) job timestamp) plan)).0.entries ≤ length s.entries + 2
switched s job timestamp (Ok number) =
    let none : s.gone - s.gone ≡ 0 = omega arith in
    let done = attach_change (memory_of s) job timestamp number in
    let all : drop (s.gone - s.gone) (s.entries ++ done.entries) ≡ s.entries ++ done.entries = ap (λ (n : ℕ). drop n (s.entries ++ done.entries)) none in
    let many : length (s.entries ++ done.entries) ≡ length s.entries + 2 = length-append s.entries done.entries in
    let is = ap (λ (es : List Entry). length es) all in
    omega (arith, is, many)
switched s job timestamp (Err reply) = omega arith

pub switch-two : (sources : List NamedSource) (s : State) (job timestamp : ℕ) → length (step sources s job timestamp ChangeJournal).0.entries ≤ length s.entries + 2
unfolding change
switch-two sources s job timestamp = switched s job timestamp (attach_plan (memory_of s))
