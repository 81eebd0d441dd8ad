-- Blanks before other entries: how many there are, what is found behind them, and what is left where some are dropped.
use Rattle.std.proofs.Common.{◌≡◌, ◌∙◌, ℕ, zero, suc, ◌+◌, ◌-◌, ◌≤◌, not, Bool, true, false, cond, Option, List, [], ◌∷◌, ◌++◌, length, drop, refl, ap, subst, arith, length-append}
use Rattle.std.proofs.lemmas.List.Elements.{filter-append}
use Rattle.entry_codec.specs.declared.entries.Entry.{Entry}
use Rattle.entry_codec.specs.declared.entries.Draft.{Draft}
use Rattle.entry_codec.specs.declared.kinds.EntryKind.{EntryKind}
use Rattle.entry_codec.specs.declared.kinds.EntryKind.TheVariants.{FileCreated, FileDeleted, MemberAdded, JournalingStarted, InitialSlot, JournalingEnded, MemberCleared, MemberReorganized, ChangesApplied, ChangesRemoved, RecordAdded, RecordAddedAtNumber, BeforeImage, AfterImage, RecordDeleted, UndoBeforeImage, UndoAfterImage, UndoDelete, CommitmentStarted, CommitCycleStarted, CommitCycleCommitted, CommitCycleRolledBack, CommitmentEnded, AbnormalEnd, NextReceiver, PreviousReceiver}
use Rattle.entry_codec.specs.Drafts.{numbered, group_at}
use Rattle.journal_model.specs.Journal.{AreNumbered}
use Rattle.lawful_states.specs.Receivers.{last_in}
use Rattle.memory_journal.specs.Blanks.{blanks, is_blank, starts_none, in_memory}

pub length-blanks : (first count : ℕ) → length (blanks first count) ≡ count
length-blanks first zero = refl
length-blanks first (suc count) = ap suc (length-blanks (first + 1) count)

-- so many and others behind them
pub length_behind : (first count : ℕ) (entries : List Entry) → length (blanks first count ++ entries) ≡ count + length entries
length_behind first count entries = omega (arith, length-append (blanks first count) entries, length-blanks first count)

pub numbered-behind : (first count : ℕ) (entries : List Entry) → AreNumbered (first + count) entries → AreNumbered first (blanks first count ++ entries)
numbered-behind first zero entries all = subst (λ n. AreNumbered n entries) (omega arith) all
numbered-behind first (suc count) entries all = (refl, numbered-behind (first + 1) count entries (subst (λ n. AreNumbered n entries) (omega arith) all))

-- none of them is in memory
pub memory-behind : (first count : ℕ) (entries : List Entry) → in_memory (blanks first count ++ entries) ≡ in_memory entries
memory-behind first zero entries = refl
memory-behind first (suc count) entries = memory-behind (first + 1) count entries

-- none of them ends a receiver
pub last_in-behind : (receiver first count : ℕ) (entries : List Entry) → last_in receiver (blanks first count ++ entries) ≡ last_in receiver entries
last_in-behind receiver first zero entries = refl
last_in-behind receiver first (suc count) entries = last_in-behind receiver (first + 1) count entries

pub drop-behind : (n first count : ℕ) (entries : List Entry) → drop n (blanks first count ++ entries) ≡ blanks (first + n) (count - n) ++ drop (n - count) entries
drop-behind zero first count entries =
    let begin : first + 0 ≡ first = omega arith in
    let left : count - 0 ≡ count = omega arith in
    let none : 0 - count ≡ 0 = omega arith in
    rw (begin, left, none) refl
drop-behind (suc n) first zero entries =
    let none : 0 - suc n ≡ 0 = omega arith in
    let all : suc n - 0 ≡ suc n = omega arith in
    rw (none, all) refl
drop-behind (suc n) first (suc count) entries =
    let begin : first + suc n ≡ first + 1 + n = omega arith in
    let left : suc count - suc n ≡ count - n = omega arith in
    let more : suc n - suc count ≡ n - count = omega arith in
    rw (begin, left, more) (drop-behind n (first + 1) count entries)

-- ---- no draft becomes a blank

names-own : (kind : EntryKind) (sequence : ℕ) (group : Option ℕ) → starts_none kind (group_at kind sequence group) ≡ false
names-own (FileCreated kind name source) sequence group = refl
names-own (FileDeleted name) sequence group = refl
names-own (MemberAdded file name) sequence group = refl
names-own (JournalingStarted images slots) sequence group = refl
names-own (InitialSlot image) sequence group = refl
names-own JournalingEnded sequence group = refl
names-own MemberCleared sequence group = refl
names-own MemberReorganized sequence group = refl
names-own (ChangesApplied first last changes) sequence group = refl
names-own (ChangesRemoved first last changes) sequence group = refl
names-own (RecordAdded image) sequence group = refl
names-own (RecordAddedAtNumber image) sequence group = refl
names-own (BeforeImage image) sequence group = refl
names-own (AfterImage has_before image) sequence group = refl
names-own (RecordDeleted before) sequence group = refl
names-own (UndoBeforeImage image) sequence group = refl
names-own (UndoAfterImage has_before image) sequence group = refl
names-own (UndoDelete image) sequence group = refl
names-own (CommitmentStarted level) sequence group = refl
names-own CommitCycleStarted sequence group = refl
names-own CommitCycleCommitted sequence group = refl
names-own CommitCycleRolledBack sequence group = refl
names-own CommitmentEnded sequence group = refl
names-own AbnormalEnd sequence group = refl
names-own (NextReceiver number) sequence group = refl
names-own (PreviousReceiver number) sequence group = refl

pub numbered-kept : (d : Draft) (sequence : ℕ) → is_blank (numbered d sequence) ≡ false
numbered-kept d sequence = names-own d.kind sequence d.group

-- entries in memory stay there when one more comes
pub memory-more : (entries : List Entry) (d : Draft) (sequence : ℕ) → in_memory entries ≡ entries → in_memory (entries ++ numbered d sequence ∷ []) ≡ entries ++ numbered d sequence ∷ []
memory-more entries d sequence all =
    filter-append (λ (e : Entry). not (is_blank e)) entries (numbered d sequence ∷ [])
    ∙ ap (λ (es : List Entry). es ++ in_memory (numbered d sequence ∷ [])) all
    ∙ ap (λ (b : Bool). entries ++ cond (not b) (numbered d sequence ∷ []) []) (numbered-kept d sequence)

abbrev tail-of : List Entry → List Entry
tail-of [] = []
tail-of (e ∷ entries) = entries

-- a list in memory is no longer than it was
one-longer : (e : Entry) (entries : List Entry) (b : Bool) → length (in_memory entries) ≤ length entries
    → length (cond (not b) (e ∷ in_memory entries) (in_memory entries)) ≤ length (e ∷ entries)
one-longer e entries true fewer = omega (arith, fewer)
one-longer e entries false fewer = omega (arith, fewer)

no-longer : (entries : List Entry) → length (in_memory entries) ≤ length entries
no-longer [] = omega arith
no-longer (e ∷ entries) = one-longer e entries (is_blank e) (no-longer entries)

too-few : (e : Entry) (entries : List Entry) → in_memory entries ≡ e ∷ entries → ⊥
too-few e entries same = let counted : length (in_memory entries) ≡ length (e ∷ entries) = ap length same in omega (arith, counted, no-longer entries)

rest-kept : (e : Entry) (entries : List Entry) → in_memory (e ∷ entries) ≡ e ∷ entries → in_memory entries ≡ entries
rest-kept e entries all =
    elim (is_blank e) as (λ b. cond (not b) (e ∷ in_memory entries) (in_memory entries) ≡ e ∷ entries → in_memory entries ≡ entries) [
      | true ↦ λ h. absurd (too-few e entries h)
      | false ↦ λ h. ap tail-of h
    ] all

-- entries in memory stay there when the first ones are dropped
pub memory-fewer : (n : ℕ) (entries : List Entry) → in_memory entries ≡ entries → in_memory (drop n entries) ≡ drop n entries
memory-fewer zero entries all = all
memory-fewer (suc n) [] all = all
memory-fewer (suc n) (e ∷ entries) all = memory-fewer n entries (rest-kept e entries all)
