-- The library of the worked rows: one file of customers, each with a name of five characters, and the jobs J1 and J2.
use Rattle.std.specs.Prelude.{ℕ, ◌-◌, false, true, List, [], ◌∷◌, ◌++◌, length, replicate, Some, None, codes}
use Rattle.entry_codec.specs.declared.entries.Entry.{Entry}
use Rattle.entry_codec.specs.declared.kinds.FileKind.TheVariants.{Physical}
use Rattle.entry_codec.specs.declared.kinds.EntryKind.TheVariants.{FileCreated}
use Rattle.field_types.specs.declared.kinds.Kind.TheVariants.{Char}
use Rattle.field_types.specs.declared.kinds.FieldType.{FieldType}
use Rattle.field_types.specs.declared.values.Value.TheVariants.{Chars}
use Rattle.key_spec.specs.declared.KeyPart.TheVariants.{Field as KeyField}
use Rattle.key_spec.specs.declared.KeySpec.{KeySpec}
use Rattle.key_spec.specs.declared.Ties.TheVariants.{Rising}
use Rattle.member_slots.specs.Member.{empty_member}
use Rattle.member_slots.specs.declared.slot.Slot.{Slot}
use Rattle.member_slots.specs.declared.slot.Slot.TheVariants.{Live}
use Rattle.record_fmt.specs.declared.formats.Field.{Field}
use Rattle.record_fmt.specs.declared.formats.Format.{Format}
use Rattle.logical_model.specs.Bases.{PhysicalFile}
use Rattle.library_steps.specs.State.{State, FileState, new_job}
use Rattle.library_steps.specs.CreatePhysicalFile.{new_status}

abbrev pub cust : List ℕ
cust = codes "CUST"

abbrev pub name_type : FieldType
name_type = record { kind = Char; length = 5; decimals = 0 }

abbrev pub name_field : Field
name_field = record { name = codes "NAME"; ty = name_type; offset = 0; default = Chars []; text = [] }

abbrev pub cust_format : Format
cust_format = record { name = codes "CUSTR"; fields = name_field ∷ [] }

-- in arrival order; or by name, which no two customers share
abbrev pub no_key : KeySpec
no_key = record { parts = []; unique = false; ties = Rising }

abbrev pub by_name : KeySpec
by_name = record { parts = KeyField name_type 0 false false ∷ []; unique = true; ties = Rising }

abbrev pub customers : KeySpec → FileState
customers keys = record { source = []; spec = PhysicalFile (record { format = cust_format; keys = keys }); members = (cust, new_status 1) ∷ [] }

abbrev pub creation : Entry
creation = record { sequence = 1; job = Some (codes "J1"); moment = 0; group = None; member = Some 1; rrn = None; kind = FileCreated Physical cust [] }

-- the file has been made, and nothing else
abbrev pub library : KeySpec → State
library keys = record {
  files = (cust, customers keys) ∷ [];
  members = record { number = 1; item = empty_member 5 } ∷ [];
  next_member = 2;
  gone = 0;
  entries = creation ∷ [];
  receivers = record { first = 1; attached = 1 };
  checkpoint = 0;
  locks = [];
  jobs = new_job (codes "J1") ∷ new_job (codes "J2") ∷ [];
}

-- a name as a record holds it
abbrev pub held : List ℕ → List ℕ
held name = name ++ replicate (5 - length name) 64

abbrev pub customer : List ℕ → Slot
customer name = Live (held name)
