-- What is remembered of a library's state: what it says of the state, and what a request leaves of it.
use Rattle.std.proofs.Common.{◌≡◌, ℕ, zero, suc, ◌+◌, ◌-◌, Bool, false, not, cond, Option, Some, None, List, [], ◌∷◌, ◌++◌, length, drop, length-append, Result, IsTrue, refl, sym, ◌∙◌, ap, subst, arith}
use Rattle.std.specs.List.{AllByRecursion}
use Rattle.std.proofs.lemmas.List.{length-drop}
use Rattle.entry_codec.specs.declared.entries.Entry.{Entry}
use Rattle.entry_codec.specs.declared.kinds.EntryKind.{EntryKind}
use Rattle.entry_codec.specs.declared.kinds.EntryKind.TheVariants.{FileCreated, FileDeleted, MemberAdded, JournalingStarted, InitialSlot, JournalingEnded, MemberCleared, MemberReorganized}
use Rattle.entry_codec.specs.declared.kinds.EntryKind.TheVariants.{ChangesApplied, ChangesRemoved, RecordAdded, RecordAddedAtNumber, BeforeImage, AfterImage, RecordDeleted}
use Rattle.entry_codec.specs.declared.kinds.EntryKind.TheVariants.{UndoBeforeImage, UndoAfterImage, UndoDelete, CommitmentStarted, CommitCycleStarted, CommitCycleCommitted, CommitCycleRolledBack}
use Rattle.entry_codec.specs.declared.kinds.EntryKind.TheVariants.{CommitmentEnded, AbnormalEnd, NextReceiver, PreviousReceiver}
use Rattle.entry_codec.specs.Placing.{is_placed_at, place}
use Rattle.entry_codec.specs.Spelling.{HasSpelling}
use Rattle.journal_model.specs.Journal.{AreNumbered}
use Rattle.memory_journal.specs.Blanks.{blanks, in_memory, starts_none}
use Rattle.memory_journal.proofs.BlankLemmas.{length-blanks, memory-behind}
use Rattle.library_model.specs.declared.replies.Reply.{Reply}
use Rattle.library_model.specs.declared.requests.Request.{Request}
use Rattle.library_model.specs.declared.sources.NamedSource.{NamedSource}
use Rattle.library_steps.specs.State.{JobState, Memory, State, job_at, memory_of, with_entries}
use Rattle.library_steps.specs.History.{is_running}
use Rattle.library_steps.specs.Change.{Change}
use Rattle.library_steps.specs.Step.{change}
use Rattle.commitment_requests.specs.Answers.{Answers}
use Rattle.commitment_requests.specs.Remembered.{remembered}
use Rattle.commitment_requests.below.parts_model.specs.declared.stop.Stop.{Stop}
use Rattle.record_changes.specs.Sound.{after}

-- ---- what the memory says

pub length-remembered : (m s : State) → m ≡ remembered s → length m.entries ≡ length s.entries
length-remembered m s memory = ap (λ (t : State). length t.entries) memory ∙ length-blanks (s.gone + 1) (length s.entries)

-- two states of one memory have as many entries
pub length-same : (m s t : State) → m ≡ remembered s → m ≡ remembered t → length s.entries ≡ length t.entries
length-same m s t one other = sym (length-remembered m s one) ∙ length-remembered m t other

memory-same : (s : State) → memory_of (remembered s) ≡ memory_of s
memory-same s = ap (λ (n : ℕ). record (memory_of s) { last_entry = s.gone + n }) (length-blanks (s.gone + 1) (length s.entries))

pub memory-of : (m s : State) → m ≡ remembered s → memory_of m ≡ memory_of s
memory-of m s memory = ap (λ (t : State). memory_of t) memory ∙ memory-same s

pub jobs-of : (m s : State) → m ≡ remembered s → m.jobs ≡ s.jobs
jobs-of m s memory = ap (λ (t : State). t.jobs) memory

pub running-over : (m s : State) (job : ℕ) → m ≡ remembered s → IsTrue (is_running (job_at job m.jobs)) → IsTrue (is_running (job_at job s.jobs))
running-over m s job memory running = subst (λ (js : List JobState). IsTrue (is_running (job_at job js))) (jobs-of m s memory) running

numbered-blanks : (first count : ℕ) → AreNumbered first (blanks first count)
numbered-blanks first zero = tt
numbered-blanks first (suc count) = (refl, numbered-blanks (first + 1) count)

pub numbered-remembered : (m s : State) → m ≡ remembered s → AreNumbered (m.gone + 1) m.entries
numbered-remembered m s memory = subst (λ (t : State). AreNumbered (t.gone + 1) t.entries) (sym memory) (numbered-blanks (s.gone + 1) (length s.entries))

-- what was answered over the memory was answered over what is remembered, with the change that the state gives
pub answers-over : (m s t : State) (result : Result Reply Stop) (sources : List NamedSource) (read : List Entry) (job timestamp : ℕ) (r : Request) → m ≡ remembered s
    → Answers m t result (change sources read (memory_of m) job timestamp r) → Answers (remembered s) t result (change sources read (memory_of s) job timestamp r)
answers-over m s t result sources read job timestamp r memory answers =
    subst (λ (x : Memory). Answers (remembered s) t result (change sources read x job timestamp r)) (memory-same s)
    (subst (λ (u : State). Answers u t result (change sources read (memory_of u) job timestamp r)) memory answers)

-- ---- what a request leaves

drop-same : (k : ℕ) (xs zs ys : List Entry) → length xs ≡ length zs → length (drop k (xs ++ ys)) ≡ length (drop k (zs ++ ys))
drop-same k xs zs ys same =
    length-drop k (xs ++ ys) ∙ ap (λ (n : ℕ). n - k) (length-append xs ys ∙ ap (λ (n : ℕ). n + length ys) same ∙ sym (length-append zs ys)) ∙ sym (length-drop k (zs ++ ys))

-- the state that a change leads to, over what is remembered and over the state, is remembered alike
pub remembered-after : (s t : State) (c : Change) → t ≡ with_entries (remembered s).gone ((remembered s).entries ++ c.entries) c.memory → remembered t ≡ remembered (after s c)
remembered-after s t c leads =
    ap (λ (u : State). remembered u) leads
    ∙ ap (λ (n : ℕ). record (after s c) { entries = blanks (c.memory.gone + 1) n })
    (drop-same (c.memory.gone - s.gone) (blanks (s.gone + 1) (length s.entries)) s.entries c.entries (length-blanks (s.gone + 1) (length s.entries)))

-- a memory that is forgotten once more is what it was
pub remembered-twice : (s : State) → remembered (remembered s) ≡ remembered s
remembered-twice s = ap (λ (n : ℕ). record s { entries = blanks (s.gone + 1) n }) (length-blanks (s.gone + 1) (length s.entries))

-- ---- the entries of a call are in memory

own-cycle : (kind : EntryKind) (sequence : ℕ) (group member rrn : Option ℕ) → IsTrue (is_placed_at (place kind) sequence group member rrn) → starts_none kind group ≡ false
own-cycle CommitCycleStarted sequence None member rrn placed = absurd cc
own-cycle CommitCycleStarted sequence (Some n) member rrn placed = refl
own-cycle (FileCreated kind name source) sequence group member rrn placed = refl
own-cycle (FileDeleted name) sequence group member rrn placed = refl
own-cycle (MemberAdded file name) sequence group member rrn placed = refl
own-cycle (JournalingStarted images slots) sequence group member rrn placed = refl
own-cycle (InitialSlot image) sequence group member rrn placed = refl
own-cycle JournalingEnded sequence group member rrn placed = refl
own-cycle MemberCleared sequence group member rrn placed = refl
own-cycle MemberReorganized sequence group member rrn placed = refl
own-cycle (ChangesApplied first last changes) sequence group member rrn placed = refl
own-cycle (ChangesRemoved first last changes) sequence group member rrn placed = refl
own-cycle (RecordAdded image) sequence group member rrn placed = refl
own-cycle (RecordAddedAtNumber image) sequence group member rrn placed = refl
own-cycle (BeforeImage image) sequence group member rrn placed = refl
own-cycle (AfterImage has_before image) sequence group member rrn placed = refl
own-cycle (RecordDeleted before) sequence group member rrn placed = refl
own-cycle (UndoBeforeImage image) sequence group member rrn placed = refl
own-cycle (UndoAfterImage has_before image) sequence group member rrn placed = refl
own-cycle (UndoDelete image) sequence group member rrn placed = refl
own-cycle (CommitmentStarted level) sequence group member rrn placed = refl
own-cycle CommitCycleCommitted sequence group member rrn placed = refl
own-cycle CommitCycleRolledBack sequence group member rrn placed = refl
own-cycle CommitmentEnded sequence group member rrn placed = refl
own-cycle AbnormalEnd sequence group member rrn placed = refl
own-cycle (NextReceiver number) sequence group member rrn placed = refl
own-cycle (PreviousReceiver number) sequence group member rrn placed = refl

-- what has a spelling is no blank: the start of a commit cycle is spelled with its own
pub spelled-kept : (entries : List Entry) → AllByRecursion HasSpelling entries → in_memory entries ≡ entries
spelled-kept [] all = refl
spelled-kept (e ∷ entries) all =
    ap (λ (b : Bool). cond (not b) (e ∷ in_memory entries) (in_memory entries)) (own-cycle e.kind e.sequence e.group e.member e.rrn all.0.placed)
    ∙ ap (λ (l : List Entry). e ∷ l) (spelled-kept entries all.1)

none-dropped : (n : ℕ) (entries : List Entry) → n ≡ 0 → drop n entries ≡ entries
none-dropped n entries none = ap (λ (k : ℕ). drop k entries) none

-- so what a request has left in memory are the entries of its change
pub entries-kept : (s t : State) (c : Change) → t ≡ with_entries (remembered s).gone ((remembered s).entries ++ c.entries) c.memory → c.memory.gone ≡ s.gone
    → AllByRecursion HasSpelling c.entries → in_memory t.entries ≡ c.entries
entries-kept s t c leads same spelled =
    let none : c.memory.gone - s.gone ≡ 0 = omega (arith, same) in
    ap (λ (u : State). in_memory u.entries) leads
    ∙ ap in_memory (none-dropped (c.memory.gone - s.gone) (blanks (s.gone + 1) (length s.entries) ++ c.entries) none)
    ∙ memory-behind (s.gone + 1) (length s.entries) c.entries ∙ spelled-kept c.entries spelled
