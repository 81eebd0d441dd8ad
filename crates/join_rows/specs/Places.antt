-- Where does a position stand among the records of a secondary file that a row is joined to? (Our own.)
use Rattle.std.specs.Prelude.{◌≡◌, ℕ, ◌≤◌, ◌-◌, List, [], ◌∷◌, ◌++◌, Option, Some, None, map, All}
use Rattle.key_spec.specs.declared.KeyPart.{KeyPart}
use Rattle.key_pages.specs.EntryList.{EntryList}
use Rattle.member_slots.specs.Member.{records}
use Rattle.member_slots.specs.Members.{NumberedMembers, member_of}
use Rattle.file_model.specs.declared.joins.Secondary.{Secondary}
use Rattle.file_model.specs.declared.paths.PathSpec.{PathSpec}
use Rattle.file_model.specs.KeyOrder.{KeyValue, key_value}
use Rattle.file_model.specs.Joins.{Match, NoRecord, RecordAt, sequence_part}
use Rattle.file_model.specs.Paths.{path}
use Rattle.access_path.specs.KeyBytes.{key_bytes}
use Rattle.access_path.specs.KeyFields.{AreBytes}
use Rattle.access_path.specs.PathBytes.{is_falling, in_bytes}
use Rattle.join_rows.specs.Matches.{sequence_key, HasJoined}

-- the pages hold the entries of the path in bytes
pub record IsPathOf (list : EntryList) (spec : PathSpec) (members : NumberedMembers) : Type 0 where
  pub entries : list.entries ≡ map (in_bytes spec.formats) (path spec members)
  pub falling : list.falling ≡ is_falling spec.ties

-- the bytes of a value at the position of JDUPSEQ
abbrev pub sequence_bytes : KeyPart → KeyValue → List ℕ
sequence_bytes sequence v = key_bytes (sequence_part 0 sequence) (sequence_key sequence v)

-- a record of bytes may have this value under JDUPSEQ
pub record IsSequence (file : Secondary) (v : KeyValue) : Type 0 where
  pub image : List ℕ
  pub bytes : AreBytes image
  pub value : v ≡ key_value file.sequence image

-- the records of a secondary file are bytes, and show a value in each field of JFLD
pub record AreJoinable (file : Secondary) (members : NumberedMembers) : Type 0 where
  pub joined : All (λ pair. HasJoined file pair.1) (records (member_of file.member members))
  pub bytes : All (λ pair. AreBytes pair.1) (records (member_of file.member members))

-- a record that a position has of a secondary file
abbrev pub IsMatchOf : Secondary → Match → Type 0
IsMatchOf file NoRecord = Unit {0}
IsMatchOf file (RecordAt v rrn) = IsSequence file v × (1 ≤ rrn)

-- the key and the number after which the matches of a position begin, where their keys begin with some bytes
abbrev pub key_from : Secondary → List ℕ → Option (List Match) → List ℕ
key_from file part None = part
key_from file part (Some []) = part
key_from file part (Some (NoRecord ∷ rest)) = part
key_from file part (Some (RecordAt v rrn ∷ rest)) = part ++ sequence_bytes file.sequence v

abbrev pub number_from : Option (List Match) → ℕ
number_from None = 0
number_from (Some []) = 0
number_from (Some (NoRecord ∷ rest)) = 0
number_from (Some (RecordAt v rrn ∷ rest)) = rrn - 1

-- a position below a row is one that its file's records can have
abbrev pub IsFrom : Secondary → Option (List Match) → Type 0
IsFrom file None = Unit {0}
IsFrom file (Some []) = Unit {0}
IsFrom file (Some (place ∷ rest)) = IsMatchOf file place
