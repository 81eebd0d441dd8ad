-- How many bytes an entry has.
use Rattle.std.proofs.Common.{◌≡◌, ℕ, ◌+◌, ◌^◌, ◌<◌, Bool, true, false, List, ◌++◌, length, Option, Some, None, refl, arith, length-append, lit<}
use Rattle.std.specs.Prelude.{IfSome}
use Rattle.std.specs.Option.{unwrap_or}
use Rattle.entry_codec.specs.declared.entries.Entry.{Entry}
use Rattle.commit_level.specs.declared.Level.{Level}
use Rattle.commit_level.specs.declared.Level.TheVariants.{Chg, Cs, All}
use Rattle.entry_codec.specs.declared.kinds.FileKind.{FileKind}
use Rattle.entry_codec.specs.declared.kinds.FileKind.TheVariants.{Physical, Logical}
use Rattle.entry_codec.specs.declared.kinds.Images.{Images}
use Rattle.entry_codec.specs.declared.kinds.Images.TheVariants.{After, Both}
use Rattle.entry_codec.specs.declared.kinds.EntryKind.{EntryKind}
use Rattle.entry_codec.specs.declared.kinds.EntryKind.TheVariants.{FileCreated, FileDeleted, MemberAdded, JournalingStarted, InitialSlot, JournalingEnded, MemberCleared, MemberReorganized, ChangesApplied, ChangesRemoved, RecordAdded, RecordAddedAtNumber, BeforeImage, AfterImage, RecordDeleted, UndoBeforeImage, UndoAfterImage, UndoDelete, CommitmentStarted, CommitCycleStarted, CommitCycleCommitted, CommitCycleRolledBack, CommitmentEnded, AbnormalEnd, NextReceiver, PreviousReceiver}
use Rattle.entry_codec.specs.Placing.{letters}
use Rattle.entry_codec.specs.Spelling.{number4, number8, name_field, file_kind_field, images_field, level_field, before_field, source_field, body, head, content, spelling, HoldsFields, HasSpelling}
use Rattle.entry_codec.proofs.FieldLemmas.{length-number4, length-number8, length-name_field, length-job_field}

pub length-letters : (k : EntryKind) → length (letters k) ≡ 3
length-letters (FileCreated kind name source) = refl
length-letters (FileDeleted name) = refl
length-letters (MemberAdded file name) = refl
length-letters (JournalingStarted images slots) = refl
length-letters (InitialSlot image) = refl
length-letters JournalingEnded = refl
length-letters MemberCleared = refl
length-letters MemberReorganized = refl
length-letters (ChangesApplied first last changes) = refl
length-letters (ChangesRemoved first last changes) = refl
length-letters (RecordAdded image) = refl
length-letters (RecordAddedAtNumber image) = refl
length-letters (BeforeImage image) = refl
length-letters (AfterImage has_before image) = refl
length-letters (RecordDeleted before) = refl
length-letters (UndoBeforeImage image) = refl
length-letters (UndoAfterImage has_before image) = refl
length-letters (UndoDelete image) = refl
length-letters (CommitmentStarted level) = refl
length-letters CommitCycleStarted = refl
length-letters CommitCycleCommitted = refl
length-letters CommitCycleRolledBack = refl
length-letters CommitmentEnded = refl
length-letters AbnormalEnd = refl
length-letters (NextReceiver number) = refl
length-letters (PreviousReceiver number) = refl

length-file_kind_field : (k : FileKind) → length (file_kind_field k) ≡ 1
length-file_kind_field Physical = refl
length-file_kind_field Logical = refl

length-images_field : (i : Images) → length (images_field i) ≡ 1
length-images_field After = refl
length-images_field Both = refl

length-level_field : (l : Level) → length (level_field l) ≡ 1
length-level_field Chg = refl
length-level_field Cs = refl
length-level_field All = refl

length-before_field : (b : Bool) → length (before_field b) ≡ 1
length-before_field true = refl
length-before_field false = refl

pub length-file_created : (kind : FileKind) (name source : List ℕ) → length (body (FileCreated kind name source)) ≡ length source + 15
length-file_created kind name source =
    omega (arith, length-append (file_kind_field kind ++ name_field name) (source_field source), length-append (file_kind_field kind) (name_field name), length-append (number4 (length source)) source, length-file_kind_field kind, length-name_field name, length-number4 (length source))

pub length-head : (e : Entry) → length (head e) ≡ 45
length-head e =
    simp length-append (omega (arith, length-number8 e.sequence, length-letters e.kind, length-job_field e.job, length-number8 e.moment, length-number8 (unwrap_or e.group 0), length-number4 (unwrap_or e.member 0), length-number4 (unwrap_or e.rrn 0)))

pub length-content : (e : Entry) → length (content e) ≡ 45 + length (body e.kind)
length-content e = omega (arith, length-append (head e) (body e.kind), length-head e)

pub length-spelling : (e : Entry) → length (spelling e) ≡ 4 + length (content e)
length-spelling e = omega (arith, length-append (number4 (length (content e))) (content e), length-number4 (length (content e)))

-- the body of a kind leaves the length of the entry below 2 ^ 32
pub body-fits : (k : EntryKind) → HoldsFields k → 45 + length (body k) < 2 ^ 32
body-fits (FileCreated kind name source) h = omega (arith, h, length-file_created kind name source)
body-fits (FileDeleted name) h = omega (arith, length-name_field name)
body-fits (MemberAdded file name) h = omega (arith, length-append (name_field file) (name_field name), length-name_field file, length-name_field name)
body-fits (JournalingStarted images slots) h = omega (arith, length-append (images_field images) (number4 slots), length-images_field images, length-number4 slots)
body-fits (InitialSlot image) h = omega (arith, h.1)
body-fits JournalingEnded h = lit< tt
body-fits MemberCleared h = lit< tt
body-fits MemberReorganized h = lit< tt
body-fits (ChangesApplied first last changes) h = omega (arith, length-append (number8 first ++ number8 last) (number4 changes), length-append (number8 first) (number8 last), length-number8 first, length-number8 last, length-number4 changes)
body-fits (ChangesRemoved first last changes) h = omega (arith, length-append (number8 first ++ number8 last) (number4 changes), length-append (number8 first) (number8 last), length-number8 first, length-number8 last, length-number4 changes)
body-fits (RecordAdded image) h = omega (arith, h.1)
body-fits (RecordAddedAtNumber image) h = omega (arith, h.1)
body-fits (BeforeImage image) h = omega (arith, h.1)
body-fits (AfterImage has_before image) h = omega (arith, h.1, length-append (before_field has_before) image, length-before_field has_before)
body-fits (RecordDeleted None) h = lit< tt
body-fits (RecordDeleted (Some image)) h = omega (arith, h.1)
body-fits (UndoBeforeImage image) h = omega (arith, h.1)
body-fits (UndoAfterImage has_before image) h = omega (arith, h.1, length-append (before_field has_before) image, length-before_field has_before)
body-fits (UndoDelete image) h = omega (arith, h.1)
body-fits (CommitmentStarted level) h = omega (arith, length-level_field level)
body-fits CommitCycleStarted h = lit< tt
body-fits CommitCycleCommitted h = lit< tt
body-fits CommitCycleRolledBack h = lit< tt
body-fits CommitmentEnded h = lit< tt
body-fits AbnormalEnd h = lit< tt
body-fits (NextReceiver number) h = omega (arith, length-number4 number)
body-fits (PreviousReceiver number) h = omega (arith, length-number4 number)

pub content-fits : (e : Entry) → HasSpelling e → length (content e) < 2 ^ 32
content-fits e h = omega (arith, length-content e, body-fits e.kind h.fields)

-- a number that may be missing has its width where it is there
pub IfSome-from_unwrap_or : (limit : ℕ) (n : Option ℕ) → unwrap_or n 0 < limit → IfSome n (λ k. k < limit)
IfSome-from_unwrap_or limit None h = tt
IfSome-from_unwrap_or limit (Some n) h = h

pub ruleset entry_lengths = (length-head, length-content, length-spelling, content-fits)
