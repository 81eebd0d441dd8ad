-- Where do the records stand in a secondary file's path that a row is joined to? (Our own.)
use Rattle.std.specs.Prelude.{◌≡◌, ℕ, true, false, List, [], ◌∷◌, ◌++◌, map, None, is_some, All}
use Rattle.key_spec.specs.declared.KeyPart.{KeyPart}
use Rattle.key_spec.specs.declared.KeyPart.TheVariants.{Field, Absent}
use Rattle.key_spec.specs.declared.Ties.TheVariants.{Rising}
use Rattle.member_slots.specs.Member.{records}
use Rattle.member_slots.specs.Members.{NumberedMembers, member_of}
use Rattle.file_model.specs.declared.paths.PathFormat.{PathFormat}
use Rattle.file_model.specs.declared.joins.JoinPair.{JoinPair}
use Rattle.file_model.specs.declared.joins.Secondary.{Secondary}
use Rattle.file_model.specs.KeyOrder.{KeyValue, at_position, key_value}
use Rattle.file_model.specs.Joins.{joined_fields, sequence_field, parts_from, sequence_part, total_width}
use Rattle.file_model.specs.Paths.{compare_entries, entry_of}
use Rattle.file_model.specs.Sorting.{in_order}
use Rattle.file_model.specs.Views.{field_value}

-- the one format of the path
abbrev pub format_of : Secondary → PathFormat
format_of file = record {
  member = file.member;
  rules = record { statements = []; all = None };
  fields = joined_fields file ++ sequence_field file.sequence;
  key = parts_from 0 (joined_fields file) ++ sequence_part (total_width (joined_fields file)) file.sequence;
}

-- the values of a record at the positions of JFLD
abbrev pub joined_key : List JoinPair → List ℕ → List KeyValue
joined_key pairs image = map (λ pair. at_position false false (field_value image pair.to)) pairs

-- and at that of JDUPSEQ, where there is one
abbrev pub sequence_key : KeyPart → KeyValue → List KeyValue
sequence_key (Field t offset descend absval) v = v ∷ []
sequence_key Absent v = []

abbrev pub secondary_key : Secondary → List ℕ → List KeyValue
secondary_key file image = joined_key file.pairs image ++ sequence_key file.sequence (key_value file.sequence image)

-- the records of the file, in the order of its path
abbrev pub records_in_path : Secondary → NumberedMembers → List (ℕ × List ℕ)
records_in_path file members =
    in_order (λ a b. compare_entries Rising (entry_of 0 (format_of file) a) (entry_of 0 (format_of file) b)) (records (member_of file.member members))

-- the record shows a value in each field of JFLD
abbrev pub HasJoined : Secondary → List ℕ → Type 0
HasJoined file image = All (λ pair. is_some (field_value image pair.to) ≡ true) file.pairs
