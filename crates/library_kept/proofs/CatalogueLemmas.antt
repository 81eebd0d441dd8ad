-- Files and members made, taken away and emptied leave a library.
use Rattle.std.proofs.Common.{◌≡◌, ℕ, ◌+◌, ◌*◌, ◌≤◌, ◌==◌, not, cond, if◌then◌else◌, nat_lt, Bool, true, false, List, [], ◌∷◌, filter, Some, None, is_some, refl, arith}
use Rattle.std.specs.List.{AllByRecursion}
use Rattle.lawful_states.specs.declared.changes.StatusChange.TheVariants.{Renumbered}
use Rattle.member_slots.specs.Member.{MemberState, empty_member, cleared, reorganized, is_live}
use Rattle.member_slots.specs.Members.{Numbered, NumberedMembers, member_at, member_of, put_member, with_member, without_member}
use Rattle.record_fmt.specs.declared.formats.Field.{Field}
use Rattle.record_fmt.specs.Layout.{record_length}
use Rattle.library_steps.specs.Bases.{FileSpec, PhysicalFile, LogicalFile}
use Rattle.library_model.specs.declared.requests.FileMember.{FileMember}
use Rattle.library_model.specs.Named.{Named, named}
use Rattle.library_steps.specs.CreateLogicalFile.{NewLogical, logical_file, with_logical}
use Rattle.library_steps.specs.CreatePhysicalFile.{NewFile, new_file, new_status, with_file}
use Rattle.library_steps.specs.DeleteFile.{first_dependent, user_by, without_file, without_members}
use Rattle.library_steps.specs.MemberCommands.{member_added, renumbered, with_slots}
use Rattle.library_steps.specs.Ranges.{library_bytes}
use Rattle.library_steps.specs.State.{State, Memory, FileState, MemberStatus, memory_of, with_status, fields_of, physical_among}
use Rattle.library_steps.specs.Uses.{user_of}
use Rattle.lawful_states.specs.Lawful.{HasRecords, StandsOver}
use Rattle.lawful_states.specs.Slots.{weight}
use Rattle.lawful_states.proofs.AddLemmas.{AreOne-member_added}
use Rattle.lawful_states.proofs.BoundaryLemmas.{is_some-there}
use Rattle.lawful_states.proofs.DeleteLemmas.{AreOne-deleted, free-independent}
use Rattle.lawful_states.proofs.FileLemmas.{AreOne-with_file, AreOne-with_logical, based-first}
use Rattle.lawful_states.proofs.LawfulLemmas.{AreOne-slots}
use Rattle.lawful_states.proofs.LockLemmas.{length-filter}
use Rattle.lawful_states.proofs.MemberLemmas.{HasRecords-cleared, HasRecords-reorganized, at-member_of, library_bytes-cons, library_bytes-with, weight-cleared, weight-reorganized}
use Rattle.joint_state.specs.Limits.{IsWithin, AreWithin}
use Rattle.joint_state.specs.Sound.{IsSound}
use Rattle.library_kept.proofs.StandLemmas.{bare, Stands, one-of, Stands-memory_of, Stands-status, within-of, within-with}

-- ---- more members

within-empty : (long : ℕ) → IsWithin (empty_member long)
within-empty long = let none : 0 * long ≡ 0 = omega arith in record { few = omega arith; small = omega (arith, none) }

within-put : (members : NumberedMembers) (number long : ℕ) → AreWithin members → AreWithin (put_member number (empty_member long) members)
within-put [] number long all = (within-empty long, tt)
within-put (entry ∷ members) number long all =
    elim (nat_lt entry.number number) as (λ b. AreWithin (if b
    then entry ∷ put_member number (empty_member long) members
    else (if entry.number == number then record { number = number; item = empty_member long } ∷ members else record { number = number; item = empty_member long } ∷ entry ∷ members))) [
      | true ↦ (all.0, within-put members number long all.1)
      | false ↦ elim (entry.number == number) as (λ b. AreWithin
          (if b then record { number = number; item = empty_member long } ∷ members else record { number = number; item = empty_member long } ∷ entry ∷ members)) [
            | true ↦ (within-empty long, all.1)
            | false ↦ (within-empty long, (all.0, all.1))
          ]
    ]

pub with_file-stands : (m : Memory) (name : List ℕ) (plan : NewFile) → Stands m → Stands (with_file name (new_file name m.next_member plan) m)
with_file-stands m name plan stands = record {
  library = (AreOne-with_file (bare m) (library_bytes m.members) name name (new_file name m.next_member plan) (one-of (bare m) stands.library)
      (based-first (bare m) name (new_file name m.next_member plan) plan.spec (new_status m.next_member) refl refl) refl).lawful;
  within = within-put m.members m.next_member (record_length (fields_of (new_file name m.next_member plan))) stands.within;
}

pub with_logical-stands : (m : Memory) (name : List ℕ) (plan : NewLogical) → Stands m → StandsOver m.files [] plan.spec → Stands (with_logical name plan m)
with_logical-stands m name plan stands over = record {
  library = (AreOne-with_logical (bare m) (library_bytes m.members) name (logical_file plan) (one-of (bare m) stands.library) over refl).lawful;
  within = stands.within;
}

pub member_added-stands : (m : Memory) (args : FileMember) (file : FileState) → Stands m → physical_among args.file m.files ≡ Some file → Stands (member_added args file m)
member_added-stands m args file stands there = record {
  library = (AreOne-member_added (bare m) (library_bytes m.members) args.file args.member file (one-of (bare m) stands.library) there).lawful;
  within = within-put m.members m.next_member (record_length (fields_of file)) stands.within;
}

-- ---- fewer members

filter-kept : {X : Type 0} (P : X → Type 0) (test : X → Bool) (xs : List X) → AllByRecursion P xs → AllByRecursion P (filter test xs)
filter-kept P test [] all = tt
filter-kept P test (x ∷ xs) all =
    elim (test x) as (λ b. AllByRecursion P (cond b (x ∷ filter test xs) (filter test xs))) [
      | true ↦ (all.0, filter-kept P test xs all.1)
      | false ↦ filter-kept P test xs all.1
    ]

within-without : (gone : Named MemberStatus) (members : NumberedMembers) → AreWithin members → AreWithin (without_members gone members)
within-without [] members all = all
within-without (entry ∷ gone) members all =
    within-without gone (without_member entry.1.number members)
    (filter-kept (λ (e : Numbered MemberState). IsWithin e.item) (λ (e : Numbered MemberState). not (e.number == entry.1.number)) members all)

bytes-filter : (test : Numbered MemberState → Bool) (members : NumberedMembers) → library_bytes (filter test members) ≤ library_bytes members
bytes-filter test [] = omega arith
bytes-filter test (entry ∷ members) =
    let rest = bytes-filter test members in
    let whole = library_bytes-cons entry members in
    elim (test entry) as (λ b. library_bytes (cond b (entry ∷ filter test members) (filter test members)) ≤ library_bytes (entry ∷ members)) [
      | true ↦ (let kept = library_bytes-cons entry (filter test members) in omega (arith, rest, whole, kept))
      | false ↦ omega (arith, rest, whole)
    ]

bytes-without_members : (gone : Named MemberStatus) (members : NumberedMembers) → library_bytes (without_members gone members) ≤ library_bytes members
bytes-without_members [] members = omega arith
bytes-without_members (entry ∷ gone) members =
    let rest = bytes-without_members gone (without_member entry.1.number members) in
    let first = bytes-filter (λ (e : Numbered MemberState). not (e.number == entry.1.number)) members in
    omega (arith, rest, first)

-- who uses a file doesn't read the journal
user-bare : (s : State) (spec : FileSpec) (name : List ℕ) (file : FileState) → user_by spec name file (memory_of s) ≡ None → user_by spec name file (memory_of (bare (memory_of s))) ≡ None
user-bare s (PhysicalFile spec) name file unused = unused
user-bare s (LogicalFile spec) name file unused = unused

pub deleted-stands : (s : State) (name : List ℕ) (file : FileState) → IsSound s → named name s.files ≡ Some file → first_dependent name s.files ≡ None
    → user_by file.spec name file (memory_of s) ≡ None → Stands (record (memory_of s) { files = without_file name s.files; members = without_members file.members s.members })
deleted-stands s name file sound there alone unused =
    let m = memory_of s in
    let stands = Stands-memory_of s sound in record {
      library = (AreOne-deleted (bare m) (library_bytes s.members) (library_bytes (without_members file.members s.members)) name file (one-of (bare m) stands.library) sound.apart
          (free-independent name s.files alone) there (user-bare s file.spec name file unused) refl (bytes-without_members file.members s.members)).lawful;
      within = within-without file.members s.members sound.within;
    }

-- ---- a member that isn't used

within-cleared : (member : MemberState) → IsWithin member → IsWithin (cleared member)
within-cleared member is = within-empty member.record_length

within-reorganized : (member : MemberState) → IsWithin member → IsWithin (reorganized member)
within-reorganized member is =
    let fewer = length-filter is_live member.slots in
    let less = weight-reorganized member in
    let few = is.few in
    let small = is.small in
    record { few = omega (arith, fewer, few); small = omega (arith, less, small) }

module _ (m : Memory) (number : ℕ) (stands : Stands m) (there : is_some (member_at number m.members) ≡ true) (unused : user_of number m ≡ None) where
  slots-stand : (change : MemberState → MemberState) → ((fields : List Field) (member : MemberState) → HasRecords fields member → HasRecords fields (change member))
      → ((member : MemberState) → weight (change member) ≤ weight member) → ((member : MemberState) → IsWithin member → IsWithin (change member)) → Stands (with_slots number change m)
  slots-stand change records less within =
      let its = member_of number m.members in record {
        library = (AreOne-slots (bare m) (library_bytes m.members) (library_bytes (with_member number (change its) m.members)) number change (one-of (bare m) stands.library)
            (is_some-there (member_at number m.members) there) records (less its) (library_bytes-with number its (change its) m.members (at-member_of number m.members there)) unused).lawful;
        within = within-with m.members number (change its) (within its (within-of number m.members stands.within)) stands.within;
      }

  pub cleared-stands : Stands (with_status number (renumbered (m.last_entry + 1)) (with_slots number cleared m))
  cleared-stands =
      Stands-status (with_slots number cleared m) number (Renumbered (m.last_entry + 1))
      (slots-stand cleared (λ fields member has. HasRecords-cleared fields member has) (λ member. let none = weight-cleared member in omega (arith, none)) within-cleared)

  pub reorganized-stands : Stands (with_status number (renumbered (m.last_entry + 1)) (with_slots number reorganized m))
  reorganized-stands =
      Stands-status (with_slots number reorganized m) number (Renumbered (m.last_entry + 1))
      (slots-stand reorganized (λ fields member has. HasRecords-reorganized fields member has) weight-reorganized within-reorganized)
