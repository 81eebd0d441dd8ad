-- What an entry has to be for a spelling, by its kind and by the draft that it was.
use Rattle.std.proofs.Common.{◌≡◌, ℕ, ◌+◌, ◌<◌, ◌≤◌, ◌^◌, ◌&&◌, ◌==◌, nat_lt, Bool, true, IsTrue, Option, Some, None, List, [], ◌∷◌, length, sym, ap, subst, arith}
use Rattle.std.proofs.lemmas.Bool.{and_from}
use Rattle.std.proofs.lemmas.Bool.Decides.{nat_tests}
use Rattle.std.specs.Bool.{⊤}
use Rattle.std.specs.List.{AllByRecursion}
use Rattle.entry_codec.specs.declared.entries.Draft.{Draft}
use Rattle.entry_codec.specs.declared.kinds.EntryKind.{EntryKind}
use Rattle.entry_codec.specs.declared.kinds.EntryKind.TheVariants.{FileCreated, FileDeleted, MemberAdded, JournalingStarted, InitialSlot, JournalingEnded, MemberCleared, MemberReorganized, ChangesApplied, ChangesRemoved, RecordAdded, RecordAddedAtNumber, BeforeImage, AfterImage, RecordDeleted, UndoBeforeImage, UndoAfterImage, UndoDelete, CommitmentStarted, CommitCycleStarted, CommitCycleCommitted, CommitCycleRolledBack, CommitmentEnded, AbnormalEnd, NextReceiver, PreviousReceiver}
use Rattle.entry_codec.specs.declared.places.Place.{Place}
use Rattle.entry_codec.specs.declared.places.Place.TheVariants.{Member, Record}
use Rattle.entry_codec.specs.Drafts.{group_at, numbered}
use Rattle.entry_codec.specs.Placing.{is_placed, is_placed_at, is_counted, place}
use Rattle.entry_codec.specs.Spelling.{HasSpelling, HoldsFields, IsImage}
use Rattle.journal_model.specs.Images.{images_of}
use Rattle.journal_model.specs.Rollback.{numbered_from}
use Rattle.library_steps.specs.Drafts.{Author, cycle_draft, member_draft, record_draft}
use Rattle.deposited_entries.specs.Deposits.{IsShort}

-- ---- kinds

abbrev pub HasShortSource : EntryKind → Type 0
HasShortSource (FileCreated kind name source) = length source + 60 < 2 ^ 32
HasShortSource _ = ⊤

abbrev pub HasImages : EntryKind → Type 0
HasImages kind = AllByRecursion IsImage (images_of kind)

fields-held : (kind : EntryKind) → HasImages kind → HasShortSource kind → HoldsFields kind
fields-held (FileCreated kind name source) images short = short
fields-held (FileDeleted name) images short = tt
fields-held (MemberAdded file name) images short = tt
fields-held (JournalingStarted kept slots) images short = tt
fields-held (InitialSlot image) images short = images.0
fields-held JournalingEnded images short = tt
fields-held MemberCleared images short = tt
fields-held MemberReorganized images short = tt
fields-held (ChangesApplied first last changes) images short = tt
fields-held (ChangesRemoved first last changes) images short = tt
fields-held (RecordAdded image) images short = images.0
fields-held (RecordAddedAtNumber image) images short = images.0
fields-held (BeforeImage image) images short = images.0
fields-held (AfterImage has_before image) images short = images.0
fields-held (RecordDeleted None) images short = tt
fields-held (RecordDeleted (Some image)) images short = images.0
fields-held (UndoBeforeImage image) images short = images.0
fields-held (UndoAfterImage has_before image) images short = images.0
fields-held (UndoDelete image) images short = images.0
fields-held (CommitmentStarted level) images short = tt
fields-held CommitCycleStarted images short = tt
fields-held CommitCycleCommitted images short = tt
fields-held CommitCycleRolledBack images short = tt
fields-held CommitmentEnded images short = tt
fields-held AbnormalEnd images short = tt
fields-held (NextReceiver number) images short = tt
fields-held (PreviousReceiver number) images short = tt

pub short-source : (text : List ℕ) → IsShort text → length text + 60 < 2 ^ 32
short-source text short = omega (arith, short)

-- ---- drafts

-- the entry names what its kind wants, whatever its sequence is
pub record IsShaped (d : Draft) : Type 0 where
  pub placed : (k : ℕ) → 1 ≤ k → IsTrue (is_placed (numbered d k))
  pub short : HasShortSource d.kind

abbrev pub ShowsImages : Draft → Type 0
ShowsImages d = HasImages d.kind

pub spelled-all : (k : ℕ) (drafts : List Draft) → 1 ≤ k → AllByRecursion IsShaped drafts → AllByRecursion ShowsImages drafts → AllByRecursion HasSpelling (numbered_from k drafts)
spelled-all k [] counted shaped images = tt
spelled-all k (d ∷ drafts) counted shaped images = (
  record { placed = shaped.0.placed k counted; fields = fields-held d.kind images.0 shaped.0.short },
  spelled-all (k + 1) drafts (omega arith) shaped.1 images.1,
)

pub some-number : (n : ℕ) → 1 ≤ n → nat_lt 0 n ≡ true
some-number n first = grind (arith, nat_tests, first)

-- an entry of a member
member-placed : (p : Place) (k number : ℕ) (group : Option ℕ) → p ≡ Member → group ≡ None → 1 ≤ number → IsTrue (is_placed_at p k group (Some number) None)
member-placed p k number group is none first =
    subst (λ (q : Place). IsTrue (is_placed_at q k group (Some number) None)) (sym is)
    (subst (λ (g : Option ℕ). IsTrue (is_placed_at Member k g (Some number) None)) (sym none) (ap (λ (b : Bool). b && true) (some-number number first)))

pub member-shaped : (author : Author) (number : ℕ) (kind : EntryKind) → 1 ≤ number → place kind ≡ Member → ((k : ℕ) → group_at kind k None ≡ None) → HasShortSource kind
    → IsShaped (member_draft author number kind)
member-shaped author number kind first is none short = record { placed = λ k counted. member-placed (place kind) k number (group_at kind k None) is (none k) first; short = short }

-- a kind of a record, which no commit cycle begins with
pub record IsOfRecord (kind : EntryKind) : Type 0 where
  pub where_is : place kind ≡ Record
  pub group : (k : ℕ) (g : Option ℕ) → group_at kind k g ≡ g
  pub short : HasShortSource kind

record-placed : (p : Place) (k member rrn : ℕ) (group : Option ℕ) → p ≡ Record → is_counted group ≡ true → 1 ≤ member → 1 ≤ rrn
    → IsTrue (is_placed_at p k group (Some member) (Some rrn))
record-placed p k member rrn group is cycle first there =
    subst (λ (q : Place). IsTrue (is_placed_at q k group (Some member) (Some rrn))) (sym is)
    (and_from (is_counted group && nat_lt 0 member) (nat_lt 0 rrn) (and_from (is_counted group) (nat_lt 0 member) cycle (some-number member first)) (some-number rrn there))

pub record-shaped : (job : Option (List ℕ)) (moment : ℕ) (cycle : Option ℕ) (member rrn : ℕ) (kind : EntryKind) → is_counted cycle ≡ true → 1 ≤ member → 1 ≤ rrn → IsOfRecord kind
    → IsShaped (record { job = job; moment = moment; group = cycle; member = Some member; rrn = Some rrn; kind = kind })
record-shaped job moment cycle member rrn kind counted first there its = record {
  placed = λ k some. subst (λ (g : Option ℕ). IsTrue (is_placed_at (place kind) k g (Some member) (Some rrn))) (sym (its.group k cycle))
      (record-placed (place kind) k member rrn cycle its.where_is counted first there);
  short = its.short;
}

pub initial-shaped : (author : Author) (member rrn : ℕ) (image : List ℕ) → 1 ≤ member → 1 ≤ rrn → IsShaped (record_draft author None member rrn (InitialSlot image))
initial-shaped author member rrn image first there =
    record { placed = λ k some. and_from (nat_lt 0 member) (nat_lt 0 rrn) (some-number member first) (some-number rrn there); short = tt }

pub started-shaped : (author : Author) (n : ℕ) → IsShaped (cycle_draft author n CommitCycleStarted)
started-shaped author n = record {
  placed = λ k some. (
      let same : (k == k) ≡ true = grind (arith, nat_tests) in
      ap (λ (b : Bool). (b && true) && true) (and_from (nat_lt 0 k) (k == k) (some-number k some) same));
  short = tt;
}

pub committed-shaped : (author : Author) (n : ℕ) → 1 ≤ n → IsShaped (cycle_draft author n CommitCycleCommitted)
committed-shaped author n first = record { placed = λ k some. ap (λ (b : Bool). (b && true) && true) (some-number n first); short = tt }

pub rolled_back-shaped : (job : Option (List ℕ)) (moment n : ℕ) → 1 ≤ n
    → IsShaped (record { job = job; moment = moment; group = Some n; member = None; rrn = None; kind = CommitCycleRolledBack })
rolled_back-shaped job moment n first = record { placed = λ k some. ap (λ (b : Bool). (b && true) && true) (some-number n first); short = tt }
