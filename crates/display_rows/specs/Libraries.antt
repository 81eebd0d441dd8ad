-- The library of the rows: two files, of which one has a deleted record, one that can't be printed, and both images in the journal; and three
-- entries. The display reads nothing of what the sources describe.
use Rattle.std.specs.Prelude.{ℕ, false, Option, Some, None, List, [], ◌∷◌, ◌++◌, codes}
use Rattle.dds_physical.specs.declared.physical_files.PhysicalSpec.{PhysicalSpec}
use Rattle.dds_logical.specs.declared.views.LogicalSpec.{LogicalSpec}
use Rattle.entry_codec.specs.declared.entries.Entry.{Entry}
use Rattle.entry_codec.specs.declared.kinds.EntryKind.{EntryKind}
use Rattle.entry_codec.specs.declared.kinds.EntryKind.TheVariants.{JournalingStarted, RecordAdded, RecordDeleted}
use Rattle.entry_codec.specs.declared.kinds.Images.{Images}
use Rattle.entry_codec.specs.declared.kinds.Images.TheVariants.{After, Both}
use Rattle.member_slots.specs.declared.slot.Slot.TheVariants.{Live, Deleted}
use Rattle.member_slots.specs.Member.{empty_member}
use Rattle.logical_model.specs.Bases.{PhysicalFile, LogicalFile}
use Rattle.library_steps.specs.State.{State, FileState, MemberStatus}

-- AB, an apostrophe and two blanks
abbrev pub quoted : List ℕ
quoted = 0xC1 ∷ 0xC2 ∷ 0x7D ∷ 0x40 ∷ 0x40 ∷ []

-- C, three bytes without a character, and a blank
abbrev pub unprintable : List ℕ
unprintable = 0xC3 ∷ 0x00 ∷ 0x0A ∷ 0xFF ∷ 0x40 ∷ []

abbrev pub journaled_by : ℕ → Option Images → MemberStatus
journaled_by number images = record { number = number; images = images; changed = false; records_then = 0; last_break = 0 }

abbrev pub customers : PhysicalSpec → FileState
customers spec = record {
  source = codes "     A          R CUSTR" ++ 10 ∷ codes "     A            NAME           5A" ++ 10 ∷ [];
  spec = PhysicalFile spec;
  members = (codes "CUST", journaled_by 1 (Some Both)) ∷ [];
}

-- its source has no line feed behind its last line; its first member has no slots
abbrev pub items : PhysicalSpec → FileState
items spec = record {
  source = codes "     A          R ITEMR";
  spec = PhysicalFile spec;
  members = (codes "ITEM", journaled_by 2 None) ∷ (codes "OLD", journaled_by 14 (Some After)) ∷ [];
}

-- a logical file, with an empty line in its source
abbrev pub logical_file : LogicalSpec → FileState
logical_file spec = record { source = codes "A" ++ 10 ∷ 10 ∷ codes "B" ++ 10 ∷ []; spec = LogicalFile spec; members = [] }

-- an entry of the member CUST
abbrev pub entry_at : (sequence : ℕ) → (job : List ℕ) → (rrn : Option ℕ) → EntryKind → Entry
entry_at sequence job rrn kind = record { sequence = sequence; job = Some job; moment = 17; group = None; member = Some 1; rrn = rrn; kind = kind }

-- two entries are gone with the first receiver
abbrev pub library : PhysicalSpec → State
library spec = record {
  files = (codes "CUST", customers spec) ∷ (codes "ITEM", items spec) ∷ [];
  members =
      record { number = 1; item = record { record_length = 5; slots = Live quoted ∷ Deleted ∷ Live unprintable ∷ [] } }
      ∷ record { number = 2; item = empty_member 1 }
      ∷ record { number = 14; item = record { record_length = 1; slots = Live (0xC1 ∷ []) ∷ [] } }
      ∷ [];
  next_member = 15;
  gone = 2;
  entries =
      entry_at 3 (codes "J1") None (JournalingStarted Both 2)
      ∷ entry_at 4 (codes "J1") (Some 3) (RecordAdded unprintable)
      ∷ entry_at 5 (codes "J2") (Some 2) (RecordDeleted (Some quoted))
      ∷ [];
  receivers = record { first = 2; attached = 2 };
  checkpoint = 0;
  locks = [];
  jobs = [];
}
