-- Which row is made of the records with these numbers? (Our own.)
use Rattle.std.specs.Prelude.{ℕ, List, [], ◌∷◌, Option, Some, None}
use Rattle.member_slots.specs.declared.slot.Slot.{Slot}
use Rattle.member_slots.specs.declared.slot.Slot.TheVariants.{Live, Deleted}
use Rattle.member_slots.specs.Member.{MemberState, slot_at}
use Rattle.member_slots.specs.Members.{NumberedMembers, member_of}
use Rattle.key_pages.specs.declared.entries.Entry.{Entry}
use Rattle.file_model.specs.declared.joins.Secondary.{Secondary}
use Rattle.file_model.specs.Joins.{Matched, NoRecord, JoinRow, matched, row_with}
use Rattle.file_model.specs.Paths.{path_key}
use Rattle.access_path.specs.KeyBytes.{key_bytes}
use Rattle.access_path.specs.KeptEntries.{entry_with}
use Rattle.join_rows.specs.Matches.{format_of}

-- the record in a slot
abbrev pub image_of : Option Slot → List ℕ
image_of None = []
image_of (Some (Live image)) = image
image_of (Some Deleted) = []

abbrev pub image_at : MemberState → ℕ → List ℕ
image_at member rrn = image_of (slot_at member rrn)

-- a record of a secondary file, or its default
abbrev pub matched_number : Secondary → NumberedMembers → Option ℕ → Matched
matched_number file members None = record { match = NoRecord; image = file.default }
matched_number file members (Some rrn) = matched file (rrn, image_at (member_of file.member members) rrn)

-- a row with these records of the secondary files
abbrev pub row_by : NumberedMembers → List Secondary → JoinRow → List (Option ℕ) → JoinRow
row_by members files row [] = row
row_by members [] row (n ∷ numbers) = row
row_by members (file ∷ files) row (n ∷ numbers) = row_by members files (row_with row (matched_number file members n)) numbers

-- the entry of a record in the secondary's path
abbrev pub entry_in_path : Secondary → ℕ × List ℕ → Entry
entry_in_path file pair = entry_with 0 pair.0 (key_bytes (format_of file).key (path_key (format_of file) pair.1))
