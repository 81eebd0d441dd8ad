-- What is the journal of a library, when can it be replayed, and what does restart make of it?
-- (Journal Management, "Recovery operations using journaling". Checkpoints and kept receivers are this project's own.)
use Rattle.std.specs.Prelude.{ℕ, ◌+◌, ◌≡◌, List, [], ◌∷◌, ◌++◌, length, Option, Some, None, ⊤}
use Rattle.std.specs.List.{AllByRecursion}
use Rattle.entry_codec.specs.declared.entries.Entry.{Entry}
use Rattle.entry_codec.specs.declared.kinds.EntryKind.TheVariants.{FileDeleted, CommitCycleStarted}
use Rattle.member_slots.specs.declared.slot.Slot.{Slot}
use Rattle.member_slots.specs.Member.{IsMember}
use Rattle.journal_model.specs.Acts.{Act, acts, entry_before}
use Rattle.journal_model.specs.Replay.{State, state_at, replay}
use Rattle.journal_model.specs.Replayable.{CanReplay, IsFree, IsOpen}
use Rattle.journal_model.specs.Settled.{settled}
use Rattle.journal_model.specs.ManyMembers.{NumberedSlots, slots_in}
use Rattle.journal_model.specs.Pairs.{AreInPairs}
use Rattle.journal_model.specs.Catalogue.{Catalogue, CatalogFile, CatalogMember, Descriptions, catalogue_after, MayEnterAll, members_of, file_named, member_numbered}
use Rattle.journal_model.specs.Images.{HasRecords, AllHaveRecords, HasPlace}
use Rattle.journal_model.specs.Rollback.{undos_of, restart_drafts, missing_behind, numbered_from}

pub record Journal : Type 0 where
  -- the sequence of the checkpoint, 0 where there is none, and the library as it was there
  pub checkpoint : ℕ
  pub catalogue : Catalogue
  pub members : List NumberedSlots
  -- the number of the first receiver that is kept
  pub receiver : ℕ
  -- the entries that are kept from before the checkpoint, up to its sequence, and those after it
  pub kept : List Entry
  pub later : List Entry

-- ---- what it leaves

abbrev pub entries : Journal → List Entry
entries j = j.kept ++ j.later

abbrev pub last_sequence : Journal → ℕ
last_sequence j = j.checkpoint + length j.later

-- what the entries after the checkpoint do to a member
abbrev pub acts_after : Journal → ℕ → List Act
acts_after j member = acts member (entry_before None j.kept) j.later

abbrev pub start_of : Journal → ℕ → State
start_of j member = state_at (j.checkpoint + 1) (slots_in member j.members)

-- a member with the commit cycles that are open at the journal's end
abbrev pub state_of : Journal → ℕ → State
state_of j member = replay (start_of j member) (acts_after j member)

-- no entry names member 0, so that it shows the commit cycles alone
abbrev pub open_cycles : Journal → List ℕ
open_cycles j = (state_of j 0).cycles

abbrev pub catalogue_of : Journal → Catalogue
catalogue_of j = catalogue_after j.catalogue j.later

-- the records of a member that stay for good
abbrev pub settled_of : Journal → ℕ → List Slot
settled_of j member = settled (slots_in member j.members) (acts_after j member)

-- ---- it can be replayed

abbrev pub AreNumbered : ℕ → List Entry → Type 0
AreNumbered first [] = ⊤
AreNumbered first (e ∷ entries) = (e.sequence ≡ first) × AreNumbered (first + 1) entries

-- each commit cycle that an entry names is open, but for the entry that begins it
abbrev pub NamesOpen : Journal → Type 0
NamesOpen j =
    (front rest : List Entry) (e : Entry) → j.later ≡ front ++ e ∷ rest → (e.kind ≡ CommitCycleStarted → ⊥)
    → IsOpen (replay (start_of j 0) (acts 0 (entry_before None j.kept) front)).cycles e.group

-- a file is deleted while no open commit cycle has changed a member of it
abbrev pub DeletesFree : Journal → Type 0
DeletesFree j =
    (front rest : List Entry) (e : Entry) (name : List ℕ) → j.later ≡ front ++ e ∷ rest → e.kind ≡ FileDeleted name
    → AllByRecursion (λ (m : CatalogMember). IsFree (replay (start_of j m.number) (acts m.number (entry_before None j.kept) front))) (members_of name (catalogue_after j.catalogue front))

-- the bytes of a file's records, 0 where the file isn't there
abbrev pub length_in : Descriptions → Catalogue → Option CatalogFile → ℕ
length_in d c None = 0
length_in d c (Some file) = d.record_length c.files file.source

abbrev pub record_length : Descriptions → Catalogue → CatalogMember → ℕ
record_length d c member = length_in d c (file_named member.file c)

-- ⊤ or the fact of the member
abbrev pub OfMember : Option CatalogMember → (CatalogMember → Type 0) → Type 0
OfMember None fact = ⊤
OfMember (Some member) fact = fact member

-- a place that a member can have, where the checkpoint has the member
abbrev pub HasPlaceIn : Descriptions → Catalogue → Entry → Type 0
HasPlaceIn d c e = OfMember (member_numbered e.member c) (λ (m : CatalogMember). HasPlace (record_length d c m) e.rrn)

-- while the catalogue has a member, it stays within its limits
abbrev pub StaysMembers : Descriptions → Journal → Type 0
StaysMembers d j =
    (front rest : List Entry) (member : CatalogMember) → j.later ≡ front ++ rest → member_numbered (Some member.number) (catalogue_after j.catalogue front) ≡ Some member
    → IsMember (record {
      record_length = record_length d (catalogue_after j.catalogue front) member;
      slots =
          (replay (start_of j member.number) (acts member.number (entry_before None j.kept) front)).slots;
    })

pub record CanReplayJournal (d : Descriptions) (j : Journal) : Type 0 where
  pub first : ℕ
  pub kept : AreNumbered first j.kept
  pub joined : first + length j.kept ≡ j.checkpoint + 1
  pub later : AreNumbered (j.checkpoint + 1) j.later
  pub enters : MayEnterAll d j.catalogue j.later
  pub replays : (member : ℕ) → CanReplay (start_of j member) (acts_after j member)
  pub names : NamesOpen j
  pub deletes : DeletesFree j
  pub pairs : AreInPairs None (entries j)
  -- kept entries are judged where the checkpoint has their member
  pub kept_records : AllByRecursion (HasRecords d j.catalogue) j.kept
  pub kept_places : AllByRecursion (HasPlaceIn d j.catalogue) j.kept
  pub records : AllHaveRecords d j.catalogue j.later
  pub limits : StaysMembers d j

-- ---- restart

-- the entries by which restart brings the journal to an end: the one that begins the receiver, where it is missing, and
-- those that roll back what is open
abbrev pub restart_entries : (job : Option (List ℕ)) (moment : ℕ) → Journal → List Entry
restart_entries job moment j =
    numbered_from (last_sequence j + 1) (missing_behind job moment (entry_before None (entries j)) ++ restart_drafts job moment (open_cycles j) (undos_of [] (entry_before None j.kept) j.later))

abbrev pub restarted : (job : Option (List ℕ)) (moment : ℕ) → Journal → Journal
restarted job moment j = record j { later = j.later ++ restart_entries job moment j }
