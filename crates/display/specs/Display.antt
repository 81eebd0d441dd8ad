-- What DSP shows of a library: its files with their sources, their members with the records, and the journal's entries.
-- (Our own; DSPFD, DSPPFM and DSPJRN show the same.)
use Rattle.std.specs.Prelude.{ℕ, ◌+◌, Option, Some, None, List, [], ◌∷◌, ◌++◌, length, codes}
use Rattle.std.specs.List.{flat_map}
use Rattle.std.specs.Fmt.{decimal}
use Rattle.text_lines.specs.Lines.{lines_of}
use Rattle.entry_codec.specs.declared.entries.Entry.{Entry}
use Rattle.entry_codec.specs.declared.kinds.Images.{Images}
use Rattle.member_slots.specs.Member.{MemberState, records}
use Rattle.member_slots.specs.Members.{NumberedMembers, member_of}
use Rattle.logical_model.specs.Bases.{FileSpec, PhysicalFile, LogicalFile}
use Rattle.library_model.specs.Named.{Named}
use Rattle.library_steps.specs.State.{State, FileState, MemberStatus}
use Rattle.listing.specs.Texts.{parameter, number_parameter, text_literal}
use Rattle.listing.specs.RequestText.{images_text}
use Rattle.listing.specs.EntryText.{entry_text}

-- a text and its line feed
abbrev pub line : List ℕ → List ℕ
line text = text ++ 10 ∷ []

-- ---- a member

-- the images that the journal keeps of its records
abbrev pub journaled_text : Option Images → List ℕ
journaled_text None = codes "*NONE"
journaled_text (Some images) = images_text images

-- its name, its number, how many slots and records it has, and whether it is journaled
unfoldable pub member_line : List ℕ → MemberStatus → (slots live : ℕ) → List ℕ
member_line name status slots live =
    line (codes "MBR " ++ name ++ number_parameter (codes "NBR") status.number ++ number_parameter (codes "SLOTS") slots
    ++ number_parameter (codes "LIVE") live ++ parameter (codes "JRN") (journaled_text status.images))

-- a record behind its relative record number
unfoldable pub record_line : ℕ × List ℕ → List ℕ
record_line entry = line (codes "RCD " ++ decimal entry.0 ++ 32 ∷ text_literal entry.1)

-- a member with these slots, and its records
unfoldable pub shown_member : List ℕ → MemberStatus → MemberState → List ℕ
shown_member name status member =
    member_line name status (length member.slots) (length (records member)) ++ flat_map record_line (records member)

abbrev pub member_text : NumberedMembers → List ℕ × MemberStatus → List ℕ
member_text members entry = shown_member entry.0 entry.1 (member_of entry.1.number members)

-- ---- a file

abbrev pub kind_text : FileSpec → List ℕ
kind_text (PhysicalFile spec) = codes "*PHY"
kind_text (LogicalFile spec) = codes "*LGL"

unfoldable pub file_line : List ℕ → FileSpec → List ℕ
file_line name spec = line (codes "FILE " ++ name ++ 32 ∷ kind_text spec)

unfoldable pub source_line : List ℕ → List ℕ
source_line text = line (codes "SRC " ++ text)

-- a file, the lines of its source, and its members
unfoldable pub file_text : NumberedMembers → List ℕ × FileState → List ℕ
file_text members entry =
    file_line entry.0 entry.1.spec ++ flat_map source_line (lines_of entry.1.source) ++ flat_map (member_text members) entry.1.members

-- ---- the library

-- the sequence of the last entry, and the receiver that is attached
unfoldable pub library_line : (last attached : ℕ) → List ℕ
library_line last attached = line (codes "LIBRARY" ++ number_parameter (codes "SEQ") last ++ number_parameter (codes "RCV") attached)

unfoldable pub entry_line : Entry → List ℕ
entry_line entry = line (entry_text entry)

-- the files in order of creation, and the entries that are kept
unfoldable pub display_of : (last attached : ℕ) → Named FileState → NumberedMembers → List Entry → List ℕ
display_of last attached files members entries =
    library_line last attached ++ flat_map (file_text members) files ++ flat_map entry_line entries ++ line (codes "END")

-- of a library with these entries in place of those that its journal keeps, as many as they were
abbrev pub display_reading : State → (read : List Entry) → List ℕ
display_reading s read = display_of (s.gone + length s.entries) s.receivers.attached s.files s.members read

-- with its own
abbrev pub display : State → List ℕ
display s = display_reading s s.entries

-- ---- its parts, one behind the other

-- what stands before the entries
unfoldable pub display_front : (last attached : ℕ) → Named FileState → NumberedMembers → List ℕ
display_front last attached files members = library_line last attached ++ flat_map (file_text members) files

-- what stands behind them
abbrev pub end_line : List ℕ
end_line = line (codes "END")
