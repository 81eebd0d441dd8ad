-- What is found by names in a lawful library is there.
use Rattle.std.proofs.Common.{◌≡◌, ℕ, zero, suc, ◌-◌, ◌==◌, ◌||◌, if◌then◌else◌, true, false, cond, map, List, [], ◌∷◌, Option, Some, None, IsSome, Ok, slice_get, subst, refl, sym, ◌∙◌, ap, arith}
use Rattle.std.specs.List.{AllByRecursion}
use Rattle.std.proofs.lemmas.Bool.Decides.{nat_tests}
use Rattle.library_steps.specs.Bases.{Base, FileSpec, PhysicalFile, LogicalFile, base_names}
use Rattle.lawful_states.specs.Owners.{Owns, has_number}
use Rattle.lawful_states.specs.Physical.{IsPhysical}
use Rattle.lawful_states.proofs.StatusLemmas.{has_number-cons}
use Rattle.library_steps.below.library_model.specs.declared.replies.Reply.{Reply}
use Rattle.library_steps.specs.Named.{Named, named, same_name}
use Rattle.library_steps.specs.Refusals.{found}
use Rattle.library_steps.specs.LogicalFiles.{bases_in}
use Rattle.library_steps.specs.State.{State, FileState, MemberStatus, OpenState, JobState, fields_of, memory_of, open_named, job_at, or_new, physical_among}
use Rattle.lawful_states.specs.Members.{HasMember}
use Rattle.lawful_states.specs.Lawful.{IsBased, OpenHolds, OpensBy, OpensFile, OpensHold, StandsOver, IsLibrary}
use Rattle.lawful_states.proofs.BaseLemmas.{base-is, physical-found, physical-member, some-of}
use Rattle.lawful_states.proofs.MemberLemmas.{AllByRecursion-get}

-- what a look-up has found is there
pub found-is : {A : Type 0} (thing : Option A) (reply : Reply) (value : A) → found thing reply ≡ Ok value → thing ≡ Some value
found-is None reply value is = absurd cc
found-is (Some other) reply value is = cc

-- what holds of each thing holds of the one that is found by its name
pub named-each : {A : Type 0} (P : A → Type 0) (name : List ℕ) (things : Named A) (thing : A) → AllByRecursion (λ (e : List ℕ × A). P e.1) things → named name things ≡ Some thing → P thing
named-each P name [] thing all found = absurd cc
named-each P name (first ∷ things) thing all found =
    elim (same_name name first.0) as (λ b. cond b (Some first.1) (named name things) ≡ Some thing → P thing) [
      | true ↦ λ same. let e : first.1 ≡ thing = cc in subst P e all.0
      | false ↦ λ later. named-each P name things thing all.1 later
    ] found

-- a member that is found by its name has its number
has_number-named : (name : List ℕ) (members : Named MemberStatus) (status : MemberStatus) → named name members ≡ Some status → has_number status.number members ≡ true
has_number-named name [] status found = absurd cc
has_number-named name (first ∷ members) status found =
    has_number-cons status.number first members ∙
    elim (same_name name first.0) as (λ b. cond b (Some first.1) (named name members) ≡ Some status → ((first.1.number == status.number) || has_number status.number members) ≡ true) [
      | true ↦ λ here. let e : first.1 ≡ status = cc in subst (λ (other : MemberStatus). ((first.1.number == other.number) || has_number other.number members) ≡ true) e (grind (arith, nat_tests))
      | false ↦ λ later. let rest = has_number-named name members status later in grind (arith, nat_tests, rest)
    ] found

pub member-there : (s : State) (name member : List ℕ) (file : FileState) (status : MemberStatus) → IsLibrary s → named name s.files ≡ Some file → named member file.members ≡ Some status
    → HasMember s name file status.number
member-there s name member file status lawful here found =
    let owns : Owns s.files name file status.number = record { there = here; has = has_number-named member file.members status found } in
    record { owns = owns; there = lawful.members name file status.number owns }

job-opens : (files : Named FileState) (place : ℕ) (jobs : List JobState) → AllByRecursion (OpensHold files) jobs
    → AllByRecursion (λ (e : List ℕ × OpenState). OpenHolds files e.1) (or_new (slice_get jobs place)).opens
job-opens files place [] all = tt
job-opens files zero (first ∷ jobs) all = all.0
job-opens files (suc place) (first ∷ jobs) all = job-opens files place jobs all.1

opens-of : (s : State) (job : ℕ) → IsLibrary s → AllByRecursion (λ (e : List ℕ × OpenState). OpenHolds s.files e.1) (or_new (job_at job s.jobs)).opens
opens-of s job lawful =
    elim (job == 0) as (λ b. AllByRecursion (λ (e : List ℕ × OpenState). OpenHolds s.files e.1) (or_new (if b then None else slice_get s.jobs (job - 1))).opens) [
      | true ↦ tt
      | false ↦ job-opens s.files (job - 1) s.jobs lawful.opens
    ]

-- an open of the job holds
pub open-holds : (s : State) (job : ℕ) (name : List ℕ) (opened : OpenState) → IsLibrary s → open_named name job (memory_of s) ≡ Some opened → OpenHolds s.files opened
open-holds s job name opened lawful found = named-each (OpenHolds s.files) name (or_new (job_at job s.jobs)).opens opened (opens-of s job lawful) found

-- ---- the members that opens are over

-- a member of a physical file, with records of its fields
pub record IsMember (s : State) (number : ℕ) : Type 0 where
  pub name : List ℕ
  pub file : FileState
  pub physical : IsPhysical file.spec
  pub has : HasMember s name file number

-- an open of a physical file is over one of its members
pub physical-opened : (s : State) (opened : OpenState) (file : FileState) → IsLibrary s → OpenHolds s.files opened → named opened.file s.files ≡ Some file → IsPhysical file.spec
    → HasMember s opened.file file opened.member
physical-opened s opened file lawful holds here physical = by file.spec physical (subst (OpensFile s.files opened) here holds)
  where
    by : (spec : FileSpec) → IsPhysical spec → OpensBy s.files opened file.members spec → HasMember s opened.file file opened.member
    by (PhysicalFile spec) is own =
        let owns : Owns s.files opened.file file opened.member = record { there = here; has = own.has } in
        record { owns = owns; there = lawful.members opened.file file opened.member owns }
    by (LogicalFile spec) is own = absurd is

-- a base file has its member
pub record HasBase (s : State) (name : List ℕ) : Type 0 where
  pub file : FileState
  pub physical : IsPhysical file.spec
  pub here : named name s.files ≡ Some file
  pub has : HasMember s name file (bases_in s.files name).member
  pub fields : (bases_in s.files name).fields ≡ fields_of file

pub has-base : (s : State) → IsLibrary s → (name : List ℕ) → IsSome (physical_among name s.files) → HasBase s name
has-base s lawful name there =
    let file = some-of (physical_among name s.files) there in
    let found = physical-found name s.files file.0 file.1 in
    let first = some-of (named name file.0.members) (physical-member s.files name file.0.members file.0.spec found.1 (lawful.bases name file.0 found.0)) in
    let has = member-there s name name file.0 first.0 lawful found.0 first.1 in
    let base = base-is s.files name file.0 first.0 file.1 first.1 in
    let is : (bases_in s.files name).member ≡ first.0.number = ap (λ (b : Base). b.member) base in
    record { file = file.0; physical = found.1; here = found.0; has = subst (HasMember s name file.0) (sym is) has; fields = ap (λ (b : Base). b.fields) base }

base-there : (s : State) → IsLibrary s → (name : List ℕ) → IsSome (physical_among name s.files) → IsMember s (bases_in s.files name).member
base-there s lawful name there = let base = has-base s lawful name there in record { name = name; file = base.file; physical = base.physical; has = base.has }

bases-there : (s : State) → IsLibrary s → (names : List (List ℕ)) → AllByRecursion (λ name. IsSome (physical_among name s.files)) names
    → AllByRecursion (IsMember s) (map (λ name. (bases_in s.files name).member) names)
bases-there s lawful [] all = tt
bases-there s lawful (name ∷ names) all = (base-there s lawful name all.0, bases-there s lawful names all.1)

-- what an open is over by its file: each of its members is there, and that of the record read last is one of them
record IsOver (s : State) (opened : OpenState) : Type 0 where
  all : AllByRecursion (IsMember s) opened.members
  last : slice_get opened.members opened.format ≡ Some opened.member

over-file : (s : State) (opened : OpenState) → IsLibrary s → OpenHolds s.files opened → IsOver s opened
over-file s opened lawful holds = by (named opened.file s.files) refl holds
  where
    kind : (file : FileState) → named opened.file s.files ≡ Some file → (spec : FileSpec) → file.spec ≡ spec → OpensBy s.files opened file.members spec → IsOver s opened
    kind file here (PhysicalFile spec) is own =
        let physical : IsPhysical file.spec = subst IsPhysical (sym is) tt in
        let owns : Owns s.files opened.file file opened.member = record { there = here; has = own.has } in
        let member : IsMember s opened.member = record {
          name = opened.file;
          file = file;
          physical = physical;
          has = record { owns = owns; there = lawful.members opened.file file opened.member owns };
        } in
        record { all = subst (AllByRecursion (IsMember s)) (sym own.only) (member, tt); last = λ i. slice_get (own.only i) (own.format i) }
    kind file here (LogicalFile spec) is over =
        let stands : StandsOver s.files file.members spec = subst (IsBased s.files opened.file file.members) is (lawful.bases opened.file file here) in
        record { all = subst (AllByRecursion (IsMember s)) (sym over.all) (bases-there s lawful (base_names spec) stands.bases); last = over.read }

    by : (o : Option FileState) → named opened.file s.files ≡ o → OpensFile s.files opened o → IsOver s opened
    by None is h = absurd h
    by (Some file) is h = kind file is file.spec refl h

-- each member of an open is there
pub members-of-open : (s : State) (opened : OpenState) → IsLibrary s → OpenHolds s.files opened → AllByRecursion (IsMember s) opened.members
members-of-open s opened lawful holds = (over-file s opened lawful holds).all

-- the member of the record that it read last is one of them
pub member-of-open : (s : State) (opened : OpenState) → IsLibrary s → OpenHolds s.files opened → IsMember s opened.member
member-of-open s opened lawful holds =
    let over = over-file s opened lawful holds in
    AllByRecursion-get (IsMember s) opened.members opened.format opened.member over.all over.last

pub opened-there : (s : State) (job : ℕ) (name : List ℕ) (opened : OpenState) → IsLibrary s → open_named name job (memory_of s) ≡ Some opened → IsMember s opened.member
opened-there s job name opened lawful found = member-of-open s opened lawful (open-holds s job name opened lawful found)

pub opened-members : (s : State) (job : ℕ) (name : List ℕ) (opened : OpenState) → IsLibrary s → open_named name job (memory_of s) ≡ Some opened → AllByRecursion (IsMember s) opened.members
opened-members s job name opened lawful found = members-of-open s opened lawful (open-holds s job name opened lawful found)

-- where its file is a physical one, the member is one of the file
pub opened-physical : (s : State) (job : ℕ) (name : List ℕ) (opened : OpenState) (file : FileState) → IsLibrary s → open_named name job (memory_of s) ≡ Some opened
    → named opened.file s.files ≡ Some file → IsPhysical file.spec → HasMember s opened.file file opened.member
opened-physical s job name opened file lawful found here physical = physical-opened s opened file lawful (open-holds s job name opened lawful found) here physical
