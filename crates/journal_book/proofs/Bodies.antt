-- Reading a block of a receiver, entry by entry.
use Rattle.std.proofs.Common.{◌≡◌, ◌⊎◌, inl, inr, ℕ, ◌+◌, ◌≤◌, ◌<◌, ◌^◌, true, false, List, [], ◌∷◌, ◌++◌, length, take, drop, refl, sym, ◌∙◌, ap, subst, arith, append_assoc, length-append, length-drop, take-append-drop}
use Rattle.std.specs.List.{AllByRecursion}
use Rattle.std.proofs.Math.Seq.{take-add}
use Rattle.std.proofs.lemmas.Bool.{false≢true}
use Rattle.std.proofs.lemmas.List.{append-nil, take_all, take_at}
use Rattle.entry_codec.specs.declared.entries.Entry.{Entry}
use Rattle.entry_codec.specs.declared.kinds.EntryKind.{EntryKind}
use Rattle.entry_codec.specs.declared.kinds.EntryKind.TheVariants.{NextReceiver, PreviousReceiver, FileCreated, FileDeleted, MemberAdded, JournalingStarted, InitialSlot, JournalingEnded, MemberCleared, MemberReorganized, ChangesApplied, ChangesRemoved, RecordAdded, RecordAddedAtNumber, BeforeImage, AfterImage, RecordDeleted, UndoBeforeImage, UndoAfterImage, UndoDelete, CommitmentStarted, CommitCycleStarted, CommitCycleCommitted, CommitCycleRolledBack, CommitmentEnded, AbnormalEnd}
use Rattle.entry_codec.specs.Spelling.{Begins, IsSpelled, spelling}
use Rattle.entry_codec.proofs.EntryLaws.{one_spelling}
use Rattle.entry_codec.proofs.Lengths.{length-spelling}
use Rattle.receiver_chain.specs.Links.{IsStart}
use Rattle.receiver_chain.proofs.LinkLemmas.{filled}
use Rattle.journal_model.specs.Journal.{AreNumbered}
use Rattle.journal_book.specs.Entries.{IsInside, spelled}
use Rattle.journal_book.specs.Bodies.{HasNoNext, IsBody, IsNext, ties}
use Rattle.journal_book.proofs.Numbering.{number_at}
use Rattle.journal_book.proofs.Reading.{some_bytes}
use Rattle.journal_book.proofs.Deposits.{all-push, block-push, numbered-push}

-- ---- kinds

tied_kind : (k : EntryKind) → ties k ≡ true → ((n : ℕ) × (k ≡ NextReceiver n)) ⊎ ((n : ℕ) × (k ≡ PreviousReceiver n))
tied_kind (NextReceiver n) is = inl (n, refl)
tied_kind (PreviousReceiver n) is = inr (n, refl)
tied_kind (FileCreated a b c) is = absurd (false≢true is)
tied_kind (FileDeleted a) is = absurd (false≢true is)
tied_kind (MemberAdded a b) is = absurd (false≢true is)
tied_kind (JournalingStarted a b) is = absurd (false≢true is)
tied_kind (InitialSlot a) is = absurd (false≢true is)
tied_kind JournalingEnded is = absurd (false≢true is)
tied_kind MemberCleared is = absurd (false≢true is)
tied_kind MemberReorganized is = absurd (false≢true is)
tied_kind (ChangesApplied a b c) is = absurd (false≢true is)
tied_kind (ChangesRemoved a b c) is = absurd (false≢true is)
tied_kind (RecordAdded a) is = absurd (false≢true is)
tied_kind (RecordAddedAtNumber a) is = absurd (false≢true is)
tied_kind (BeforeImage a) is = absurd (false≢true is)
tied_kind (AfterImage a b) is = absurd (false≢true is)
tied_kind (RecordDeleted a) is = absurd (false≢true is)
tied_kind (UndoBeforeImage a) is = absurd (false≢true is)
tied_kind (UndoAfterImage a b) is = absurd (false≢true is)
tied_kind (UndoDelete a) is = absurd (false≢true is)
tied_kind (CommitmentStarted a) is = absurd (false≢true is)
tied_kind CommitCycleStarted is = absurd (false≢true is)
tied_kind CommitCycleCommitted is = absurd (false≢true is)
tied_kind CommitCycleRolledBack is = absurd (false≢true is)
tied_kind CommitmentEnded is = absurd (false≢true is)
tied_kind AbnormalEnd is = absurd (false≢true is)

tied : (e : Entry) → ties e.kind ≡ true → IsInside e → ⊥
tied e is inside = elim (tied_kind e.kind is) [
  | inl next ↦ inside next.0 (inl next.1)
  | inr previous ↦ inside previous.0 (inr previous.1)
]

pub untied : (e : Entry) → ties e.kind ≡ false → IsInside e
untied e is = λ number names. elim names [
  | inl next ↦ false≢true (sym is ∙ ap ties next)
  | inr previous ↦ false≢true (sym is ∙ ap ties previous)
]

-- ---- what stands at the front

one_front : (bytes : List ℕ) (a b : Entry) (count : ℕ) (rest : List ℕ) → Begins bytes a count → IsSpelled b → bytes ≡ spelling b ++ rest → (a ≡ b) × (drop count bytes ≡ rest)
one_front bytes a b count rest front has is = one_spelling a b (drop count bytes) rest front.spelled has (sym front.front ∙ is)

no_next : (last : ℕ) (bytes : List ℕ) (e : Entry) (count : ℕ) → Begins bytes e count → (e.sequence ≡ last + 1 → IsInside e → ⊥) → HasNoNext last bytes
no_next last bytes e count front never = λ other rest has is sequence inside.
    let same = one_front bytes e other count rest front has is in
    never (ap (λ (x : Entry). x.sequence) same.0 ∙ sequence) (subst (λ (x : Entry). IsInside x) (sym same.0) inside)

pub no_next_tied : (last : ℕ) (bytes : List ℕ) (e : Entry) (count : ℕ) → Begins bytes e count → ties e.kind ≡ true → HasNoNext last bytes
no_next_tied last bytes e count front is = no_next last bytes e count front (λ sequence inside. tied e is inside)

pub no_next_sequence : (last : ℕ) (bytes : List ℕ) (e : Entry) (count : ℕ) → Begins bytes e count → (e.sequence ≡ last + 1 → ⊥) → HasNoNext last bytes
no_next_sequence last bytes e count front other = no_next last bytes e count front (λ sequence inside. other sequence)

pub is_next : (last : ℕ) (bytes : List ℕ) (e : Entry) (count : ℕ) → Begins bytes e count → e.sequence ≡ last + 1 → ties e.kind ≡ false → IsNext last bytes count
is_next last bytes e count front sequence is = record { entry = e; begins = front; sequence = sequence; inside = untied e is }

pub some_length : (bytes : List ℕ) (e : Entry) (count : ℕ) → Begins bytes e count → 1 ≤ count
some_length bytes e count front = omega (arith, front.long, length-spelling e)

pub fits_next : (last : ℕ) (bytes : List ℕ) (e : Entry) (count : ℕ) → Begins bytes e count → e.sequence ≡ last + 1 → last + 1 < 2 ^ 64
fits_next last bytes e count front sequence = subst (λ (n : ℕ). n < 2 ^ 64) sequence front.spelled.is.head.sequence

-- ---- the entry by which a receiver begins

pub start_by : (previous last : ℕ) (block : List ℕ) (e : Entry) (count : ℕ) → Begins block e count → count ≡ length block → e.kind ≡ PreviousReceiver previous → e.sequence ≡ last + 1 → IsStart previous (last + 1) block
start_by previous last block e count front full names sequence = record { entry = e; spelled = front.spelled; names = names; sequence = sequence; whole = filled count block e front full }

pub start_is : (previous first : ℕ) (block : List ℕ) (e : Entry) (count : ℕ) → Begins block e count → IsStart previous first block → (count ≡ length block) × (e.kind ≡ PreviousReceiver previous) × (e.sequence ≡ first)
start_is previous first block e count front start =
    let same = one_front block e start.entry count [] front start.spelled (start.whole ∙ sym (append-nil (spelling start.entry))) in (
      omega (arith, front.within, ap length same.1, length-drop count block),
      ap (λ (x : Entry). x.kind) same.0 ∙ start.names,
      ap (λ (x : Entry). x.sequence) same.0 ∙ start.sequence,
    )

pub one_previous : (a b : ℕ) → PreviousReceiver a ≡ PreviousReceiver b → a ≡ b
one_previous a b same = ap number_of same
  where
    number_of : EntryKind → ℕ
    number_of (PreviousReceiver n) = n
    number_of _ = 0

-- ---- the entries of a block

-- the block was read up to a place
abbrev pub IsReadTo : List ℕ → ℕ → ℕ → ℕ → Type 0
IsReadTo block last at reached = (entries : List Entry) × IsBody last entries (take at block) × (reached ≡ last + length entries)

pub read_none : (block : List ℕ) (last : ℕ) → IsReadTo block last 0 last
read_none block last = ([], record { whole = record { each = tt; whole = refl }; numbered = tt; inside = tt }, omega arith)

pub read_further : (block : List ℕ) (last at reached count : ℕ) → IsReadTo block last at reached → IsNext reached (drop at block) count → IsReadTo block last (at + count) (reached + 1)
read_further block last at reached count read next =
    let e = next.entry in
    let entries = read.0 in
    let front : take count (drop at block) ≡ spelling e = ap (λ (l : List ℕ). take count l) next.begins.front ∙ take_at (spelling e) (drop count (drop at block)) count (sym next.begins.long) in
    let whole : take (at + count) block ≡ take at block ++ spelling e = take-add at count block ∙ ap (λ (l : List ℕ). take at block ++ l) front in (
      entries ++ e ∷ [],
      record {
        whole = subst (λ (l : List ℕ). Rattle.journal_book.specs.Entries.IsBlock (entries ++ e ∷ []) l) (sym whole) (block-push entries e (take at block) read.1.whole next.begins.spelled);
        numbered = numbered-push (last + 1) entries e read.1.numbered (omega (arith, next.sequence, read.2));
        inside = all-push IsInside entries e read.1.inside next.inside;
      },
      omega (arith, read.2, length-append entries (e ∷ [])),
    )

pub read_whole : (block : List ℕ) (last at reached : ℕ) → IsReadTo block last at reached → length block ≤ at → (entries : List Entry) × IsBody last entries block × (reached ≡ last + length entries)
read_whole block last at reached read past = (read.0, subst (λ (l : List ℕ). IsBody last read.0 l) (take_all at block past) read.1, read.2)

-- ---- where it is no such block

split_spelled : (xs ys : List Entry) (rest : List ℕ) → AllByRecursion IsSpelled xs → AllByRecursion IsSpelled ys → spelled xs ++ rest ≡ spelled ys → (more : List Entry) × (ys ≡ xs ++ more) × (rest ≡ spelled more)
split_spelled [] ys rest all each same = (ys, refl, same)
split_spelled (x ∷ xs) [] rest all each same = absurd (some_bytes x (spelled xs ++ rest) (sym same ∙ append_assoc (spelling x) (spelled xs) rest))
split_spelled (x ∷ xs) (y ∷ ys) rest all each same =
    let parts = one_spelling x y (spelled xs ++ rest) (spelled ys) all.0 each.0 (sym (append_assoc (spelling x) (spelled xs) rest) ∙ same) in
    let more = split_spelled xs ys rest all.1 each.1 parts.1 in
    (more.0, ap (λ (e : Entry). e ∷ ys) (sym parts.0) ∙ ap (λ (l : List Entry). x ∷ l) more.1, more.2)

all_at : (P : Entry → Type 0) (xs : List Entry) (e : Entry) (ys : List Entry) → AllByRecursion P (xs ++ e ∷ ys) → P e
all_at P [] e ys all = all.0
all_at P (x ∷ xs) e ys all = all_at P xs e ys all.1

fault_by : (block : List ℕ) (last at reached : ℕ) (entries others more : List Entry) → reached ≡ last + length entries → at < length block → HasNoNext reached (drop at block) → IsBody last others block → others ≡ entries ++ more → drop at block ≡ spelled more → ⊥
fault_by block last at reached entries others [] count short none body same rest = omega (arith, short, ap length rest, length-drop at block)
fault_by block last at reached entries others (e ∷ more) count short none body same rest =
    let there : IsBody last (entries ++ e ∷ more) block = subst (λ (l : List Entry). IsBody last l block) same body in
    none e (spelled more) (all_at IsSpelled entries e more there.whole.each) rest (omega (arith, count, number_at (last + 1) entries e more there.numbered)) (all_at IsInside entries e more there.inside)

pub read_fault : (block : List ℕ) (last at reached : ℕ) → IsReadTo block last at reached → at < length block → HasNoNext reached (drop at block) → (others : List Entry) → IsBody last others block → ⊥
read_fault block last at reached read short none others body =
    let split = split_spelled read.0 others (drop at block) read.1.whole.each body.whole.each (ap (λ (l : List ℕ). l ++ drop at block) (sym read.1.whole.whole) ∙ take-append-drop at block ∙ body.whole.whole) in
    fault_by block last at reached read.0 others split.0 read.2 short none body split.1 split.2
