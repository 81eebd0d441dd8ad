-- The path over a member that isn't there yet: it can be kept, and has no equal keys.
use Rattle.std.proofs.Common.{ℕ, ◌≤◌, ◌≡◌, nat_lt, if◌then◌else◌, Bool, true, false, List, [], ◌++◌, length, Option, Some, None, refl, sym, ap, arith, ◌∙◌, subst}
use Rattle.std.specs.Prelude.{All, unwrap_or}
use Rattle.std.proofs.lemmas.Bool.{cond-true}
use Rattle.std.proofs.lemmas.Bool.Decides.{nat_tests}
use Rattle.record_fmt.specs.declared.formats.Field.{Field}
use Rattle.member_slots.specs.Member.{MemberState, empty_member}
use Rattle.member_slots.specs.Members.{NumberedMembers, member_at, member_of}
use Rattle.library_steps.below.dds_physical.specs.declared.physical_files.PhysicalSpec.{PhysicalSpec}
use Rattle.file_model.specs.FilePaths.{every_record, own_fields, path_format, physical_path}
use Rattle.file_model.specs.Paths.{entries_in, first_repeated, repeated_in}
use Rattle.path_set.specs.Repeated.{TellsRepeated}
use Rattle.path_set.specs.Sharing.{CanBeKept}
use Rattle.file_catalogue.specs.KeyedFiles.{IsKeyed, IsRecordSlot, HasRecordsOf}
use Rattle.file_catalogue.proofs.RecordLemmas.{path-bytes, path-kept}
use Rattle.parts_model.specs.PathChanges.{member_path}

-- ---- whether there is one

pub path-none : (spec : PhysicalSpec) (number : ℕ) → spec.keys.parts ≡ [] → member_path spec number ≡ None
path-none spec number none =
    ap (λ (b : Bool). if b then Some (physical_path number spec.format.fields spec.keys) else None) (ap (λ (parts : List _). nat_lt 0 (length parts)) none)

pub path-some : (spec : PhysicalSpec) (number : ℕ) → 1 ≤ length spec.keys.parts → member_path spec number ≡ Some (physical_path number spec.format.fields spec.keys)
path-some spec number some =
    cond-true (nat_lt 0 (length spec.keys.parts)) (Some (physical_path number spec.format.fields spec.keys)) None (let e : nat_lt 0 (length spec.keys.parts) ≡ true = grind (arith, nat_tests) in e)

-- ---- over no member

module _ (spec : PhysicalSpec) (number : ℕ) (members : NumberedMembers) (none : member_at number members ≡ None) where
  absent : member_of number members ≡ empty_member 0
  absent = ap (λ (o : Option MemberState). unwrap_or o (empty_member 0)) none

  pub records-none : (fields : List Field) → HasRecordsOf fields number members
  records-none fields = subst (λ (m : MemberState). All (IsRecordSlot fields) m.slots) (sym absent) (λ k d low. absurd (omega (arith, low)))

  pub new-kept : IsKeyed spec → CanBeKept (physical_path number spec.format.fields spec.keys) members
  new-kept keyed = path-kept spec number members keyed (records-none spec.format.fields)

  pub new-tells : IsKeyed spec → TellsRepeated (physical_path number spec.format.fields spec.keys) members
  new-tells keyed = record {
    bytes = path-bytes spec number members keyed (records-none spec.format.fields);
    one = λ unique. (let one : 1 ≤ 1 = omega arith in one);
  }

  pub new-repeated : repeated_in (physical_path number spec.format.fields spec.keys) members ≡ None
  new-repeated =
      ap (λ (m : MemberState). if spec.keys.unique then first_repeated (entries_in 0 (path_format number every_record (own_fields spec.format.fields) spec.keys.parts) m.slots ++ []) else None) absent
      ∙ either spec.keys.unique
    where
      either : (b : Bool) → (if b then first_repeated [] else None) ≡ None
      either true = refl
      either false = refl
