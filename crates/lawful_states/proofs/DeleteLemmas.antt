-- A library stays lawful with one file less, and its members.
use Rattle.std.proofs.Common.{◌≡◌, ◌≢◌, ℕ, suc, ◌+◌, ◌<◌, ◌≤◌, ◌==◌, ◌||◌, if◌then◌else◌, Bool, true, false, cond, not, filter, List, [], ◌∷◌, Option, Some, None, IsSome, All, unwrap_or, subst, refl, sym, ◌∙◌, ap, arith}
use Rattle.std.specs.List.{AllByRecursion, AllPairs, list_any}
use Rattle.std.specs.Option.{option_and_then}
use Rattle.std.proofs.lemmas.Bool.{eqb-true}
use Rattle.std.proofs.lemmas.Bool.Decides.{nat_tests}
use Rattle.std.proofs.lemmas.List.Elements.{recursion_from_All}
use Rattle.library_steps.specs.Rollback.{MemberChange}
use Rattle.library_steps.below.dds_logical.specs.declared.views.LogicalSpec.{LogicalSpec}
use Rattle.library_steps.below.lock_table.specs.declared.lock.Lock.{Lock}
use Rattle.library_steps.specs.Bases.{FileSpec, PhysicalFile, LogicalFile, base_members, base_names}
use Rattle.member_slots.specs.Member.{MemberState, empty_member}
use Rattle.member_slots.specs.Members.{Numbered, NumberedMembers, AreMembers, member_at, member_of, without_member}
use Rattle.lawful_states.specs.Owners.{Owns, AreApart, has_number}
use Rattle.lawful_states.specs.Physical.{IsPhysical, AllArePhysical}
use Rattle.lawful_states.proofs.PhysicalLemmas.{physical-named}
use Rattle.lawful_states.proofs.NameLemmas.{same_name-equal, same_name-self, some-equal, named-without, named-without_other}
use Rattle.lawful_states.proofs.StatusLemmas.{has_number-cons}
use Rattle.library_steps.specs.Named.{Named, named, same_name}
use Rattle.library_steps.specs.State.{State, Memory, FileState, MemberStatus, OpenState, JobState, memory_of, fields_of, if_physical, physical_among}
use Rattle.library_steps.specs.DeleteFile.{depends_by, file_refers, first_dependent, user_by, without_file, without_members}
use Rattle.library_steps.specs.LogicalFiles.{base_in, bases_in}
use Rattle.library_steps.specs.Ranges.{library_bytes}
use Rattle.library_steps.specs.Uses.{first_job, changes_in, has_open_of, has_open_over, has_changed, has_boundary_lock, uses, user_of_any}
use Rattle.lawful_states.specs.Lawful.{AreBased, IsBased, IsThere, OpenHolds, OpensBy, OpensFile, OpensHold, GoesBack, AllGoBack, StandsOver, AreOne}
use Rattle.lawful_states.specs.Slots.{weight}
use Rattle.lawful_states.proofs.MemberLemmas.{item_at-without_item_other, library_bytes-cons}
use Rattle.lawful_states.proofs.BaseLemmas.{IsOverBases-stays, StandsOver-stays, Stays}
use Rattle.lawful_states.proofs.BackLemmas.{FitsPlace-same, AllGoBack-each, AllGoBack-kept, neither, unused-unchanged}

-- ---- a member less

abbrev AreRising : NumberedMembers → Type 0
AreRising members = AllPairs (λ (former later : Numbered MemberState). former.number < later.number) members

without-greater : (number : ℕ) (members : NumberedMembers) → AllByRecursion (λ entry. number < entry.number) members → without_member number members ≡ members
without-greater number [] all = refl
without-greater number (entry ∷ members) all =
    let greater = all.0 in
    let other : (entry.number == number) ≡ false = grind (arith, nat_tests) in
    rw other (ap (λ (rest : NumberedMembers). entry ∷ rest) (without-greater number members all.1))

without-none : (number : ℕ) (members : NumberedMembers) → member_at number members ≡ None → without_member number members ≡ members
without-none number [] none = refl
without-none number (entry ∷ members) none =
    elim (entry.number == number) as (λ b. (if b then Some entry.item else member_at number members) ≡ None
    → cond (not b) (entry ∷ without_member number members) (without_member number members) ≡ entry ∷ members) [
      | true ↦ λ e. absurd cc
      | false ↦ λ e. ap (λ (rest : NumberedMembers). entry ∷ rest) (without-none number members e)
    ] none

bytes-without_one : (number : ℕ) (old : MemberState) (members : NumberedMembers) → AreRising members → member_at number members ≡ Some old
    → library_bytes (without_member number members) + weight old ≡ library_bytes members
bytes-without_one number old [] rising there = absurd cc
bytes-without_one number old (entry ∷ members) rising there =
    elim (entry.number == number) as (λ b. (entry.number == number) ≡ b → (if b then Some entry.item else member_at number members) ≡ Some old
    → library_bytes (cond (not b) (entry ∷ without_member number members) (without_member number members)) + weight old ≡ library_bytes (entry ∷ members)) [
      | true ↦ λ same e.
          let is : entry.number ≡ number = grind (arith, nat_tests, same) in
          let item : entry.item ≡ old = cc in
          let weighs = ap weight item in
          let behind : All (λ (later : Numbered MemberState). entry.number < later.number) members = λ k d lt. rising 0 (suc k) d (omega arith) (omega arith) in
          let greater : AllByRecursion (λ (later : Numbered MemberState). number < later.number) members =
          subst (λ n. AllByRecursion (λ (later : Numbered MemberState). n < later.number) members) is (recursion_from_All (λ
          (later : Numbered MemberState). entry.number < later.number) members behind) in
          let rest = ap library_bytes (without-greater number members greater) in
          let before = library_bytes-cons entry members in
          omega (arith, rest, before, weighs)
      | false ↦ λ other e.
          let tail : AreRising members = λ i j d lt within. rising (suc i) (suc j) d (omega arith) (omega arith) in
          let rest = bytes-without_one number old members tail e in
          let before = library_bytes-cons entry members in
          let after = library_bytes-cons entry (without_member number members) in
          omega (arith, rest, before, after)
    ] refl there

pub bytes-without : (number : ℕ) (members : NumberedMembers) → AreMembers members → library_bytes (without_member number members) + weight (member_of number members) ≡ library_bytes members
bytes-without number members are = by (member_at number members) refl
  where
    by : (o : Option MemberState) → member_at number members ≡ o
        → library_bytes (without_member number members) + weight (unwrap_or (member_at number members) (empty_member 0)) ≡ library_bytes members
    by None is =
        let same = ap library_bytes (without-none number members is) in
        let none : weight (unwrap_or (member_at number members) (empty_member 0)) ≡ 0 = ap (λ (o : Option MemberState). weight (unwrap_or o (empty_member 0))) is in
        omega (arith, same, none)
    by (Some old) is =
        let less = bytes-without_one number old members are.rising is in
        let weighs : weight (unwrap_or (member_at number members) (empty_member 0)) ≡ weight old = ap (λ (o : Option MemberState). weight (unwrap_or o (empty_member 0))) is in
        omega (arith, less, weighs)

-- ---- the members of a file less

at-without_members : (gone : Named MemberStatus) (members : NumberedMembers) (number : ℕ) → has_number number gone ≡ false → member_at number (without_members gone members) ≡ member_at number members
at-without_members [] members number absent = refl
at-without_members (entry ∷ gone) members number absent =
    let parts = neither (entry.1.number == number) (has_number number gone) (sym (has_number-cons number entry gone) ∙ absent) in
    let apart : number ≢ entry.1.number = (let differ = parts.0 in grind (arith, nat_tests)) in
    at-without_members gone (without_member entry.1.number members) number parts.1 ∙ item_at-without_item_other number entry.1.number members apart

filter-kept : {X : Type 0} (P : X → Type 0) (test : X → Bool) (xs : List X) → AllByRecursion P xs → AllByRecursion P (filter test xs)
filter-kept P test [] all = tt
filter-kept P test (x ∷ xs) all =
    elim (test x) as (λ b. AllByRecursion P (cond b (x ∷ filter test xs) (filter test xs))) [
      | true ↦ (all.0, filter-kept P test xs all.1)
      | false ↦ filter-kept P test xs all.1
    ]

numbers-without_members : (gone : Named MemberStatus) (members : NumberedMembers) (bound : ℕ) → AllByRecursion (λ entry. entry.number < bound) members
    → AllByRecursion (λ entry. entry.number < bound) (without_members gone members)
numbers-without_members [] members bound all = all
numbers-without_members (entry ∷ gone) members bound all =
    numbers-without_members gone (without_member entry.1.number members) bound
    (filter-kept (λ (e : Numbered MemberState). e.number < bound) (λ (e : Numbered MemberState). not (e.number == entry.1.number)) members all)

-- ---- no job uses them

-- an open is over this member
abbrev is_over : OpenState → ℕ → Bool
is_over opened member = list_any (λ base. base == member) opened.members

-- an open is over none of the members that its job doesn't use
open-unused : (members : Named MemberStatus) (locks : List Lock) (number : ℕ) (job : JobState) (opened : OpenState)
    → ((member : ℕ) → has_open_over member job ≡ false → is_over opened member ≡ false)
    → list_any (λ entry. uses entry.1.number locks number job) members ≡ false → (base : ℕ) → is_over opened base ≡ true → has_number base members ≡ false
open-unused [] locks number job opened each none base over = refl
open-unused (entry ∷ members) locks number job opened each none base over =
    let parts = neither (uses entry.1.number locks number job) (list_any (λ (e : List ℕ × MemberStatus). uses e.1.number locks number job) members) none in
    let first = neither (has_open_over entry.1.number job || has_changed entry.1.number job) (has_boundary_lock entry.1.number number locks) parts.0 in
    let free = each entry.1.number (neither (has_open_over entry.1.number job) (has_changed entry.1.number job) first.0).0 in
    let rest = open-unused members locks number job opened each parts.1 base over in
    has_number-cons base entry members ∙
    elim (entry.1.number == base) as (λ b. entry.1.number == base ≡ b → (b || has_number base members) ≡ false) [
      | true ↦ λ same. (let taken : is_over opened entry.1.number ≡ true = subst (λ (n : ℕ). is_over opened n ≡ true) (sym (eqb-true entry.1.number base same)) over in absurd cc)
      | false ↦ λ other. rest
    ] refl

opens-unused : (files others : Named FileState) (opens : Named OpenState) (members : Named MemberStatus)
    → ((opened : OpenState) → ((base : ℕ) → is_over opened base ≡ true → has_number base members ≡ false) → OpenHolds files opened → OpenHolds others opened)
    → ((opened : OpenState) → ((member : ℕ) → list_any (λ entry. is_over entry.1 member) opens ≡ false → is_over opened member ≡ false)
    → (base : ℕ) → is_over opened base ≡ true → has_number base members ≡ false)
    → AllByRecursion (λ (e : List ℕ × OpenState). OpenHolds files e.1) opens → AllByRecursion (λ (e : List ℕ × OpenState). OpenHolds others e.1) opens
opens-unused files others [] members each unused all = tt
opens-unused files others (entry ∷ opens) members each unused all = (
  each entry.1 (unused entry.1 (λ member none. (neither (is_over entry.1 member) (list_any (λ (e : List ℕ × OpenState). is_over e.1 member) opens) none).0)) all.0,
  opens-unused files others opens members each
      (λ opened rest. unused opened (λ member none. rest member (neither (is_over entry.1 member) (list_any (λ (e : List ℕ × OpenState). is_over e.1 member) opens) none).1)) all.1,
)

-- what a test keeps of each job's opens, where no job passes it
jobs-kept : (files others : Named FileState) (test : ℕ → JobState → Bool) → ((number : ℕ) (job : JobState) → test number job ≡ false → OpensHold files job → OpensHold others job)
    → (number : ℕ) (jobs : List JobState) → first_job test number jobs ≡ None → AllByRecursion (OpensHold files) jobs → AllByRecursion (OpensHold others) jobs
jobs-kept files others test each number [] unused all = tt
jobs-kept files others test each number (job ∷ jobs) unused all =
    elim (test number job) as (λ b. test number job ≡ b → (if b then Some number else first_job test (number + 1) jobs) ≡ None → AllByRecursion (OpensHold others) (job ∷ jobs)) [
      | true ↦ λ uses_one e. absurd cc
      | false ↦ λ none e. (each number job none all.0, jobs-kept files others test each (number + 1) jobs e all.1)
    ] refl unused

-- opens of other files than the one of this name
opens-other : (files others : Named FileState) (name : List ℕ) (opens : Named OpenState)
    → ((opened : OpenState) → same_name name opened.file ≡ false → OpenHolds files opened → OpenHolds others opened)
    → list_any (λ entry. same_name name entry.1.file) opens ≡ false → AllByRecursion (λ (e : List ℕ × OpenState). OpenHolds files e.1) opens
    → AllByRecursion (λ (e : List ℕ × OpenState). OpenHolds others e.1) opens
opens-other files others name [] each none all = tt
opens-other files others name (entry ∷ opens) each none all =
    let parts = neither (same_name name entry.1.file) (list_any (λ (e : List ℕ × OpenState). same_name name e.1.file) opens) none in
    (each entry.1 parts.0 all.0, opens-other files others name opens each parts.1 all.1)

-- a job that uses none of the members has changed none of them
none-changed : (members : Named MemberStatus) (locks : List Lock) (number : ℕ) (job : JobState) → list_any (λ entry. uses entry.1.number locks number job) members ≡ false
    → list_any (λ entry. has_changed entry.1.number job) members ≡ false
none-changed [] locks number job none = refl
none-changed (entry ∷ members) locks number job none =
    let parts = neither (uses entry.1.number locks number job) (list_any (λ (e : List ℕ × MemberStatus). uses e.1.number locks number job) members) none in
    rw (unused-unchanged entry.1.number number locks job parts.0) (none-changed members locks number job parts.1)

-- of changes and members: no member is that of the first change, and none that of a later one
first-change : (members : Named MemberStatus) (undo : MemberChange) (undos : List MemberChange)
    → list_any (λ entry. list_any (λ (u : MemberChange). u.member == entry.1.number) (undo ∷ undos)) members ≡ false
    → (has_number undo.member members ≡ false) × (list_any (λ entry. list_any (λ (u : MemberChange). u.member == entry.1.number) undos) members ≡ false)
first-change [] undo undos none = (refl, refl)
first-change (entry ∷ members) undo undos none =
    let parts = neither (list_any (λ (u : MemberChange). u.member == entry.1.number) (undo ∷ undos))
    (list_any (λ (e : List ℕ × MemberStatus). list_any (λ (u : MemberChange). u.member == e.1.number) (undo ∷ undos)) members) none in
    let here = neither (undo.member == entry.1.number) (list_any (λ (u : MemberChange). u.member == entry.1.number) undos) parts.0 in
    let rest = first-change members undo undos parts.1 in
    let differ = here.0 in
    let other : (entry.1.number == undo.member) ≡ false = grind (arith, nat_tests) in
    (has_number-cons undo.member entry members ∙ rw (other, rest.0) refl, rw (here.1, rest.1) refl)

changes-apart : (members : Named MemberStatus) (undos : List MemberChange) → list_any (λ entry. list_any (λ (u : MemberChange). u.member == entry.1.number) undos) members ≡ false
    → list_any (λ (u : MemberChange). has_number u.member members) undos ≡ false
changes-apart members [] none = refl
changes-apart members (undo ∷ undos) none = let parts = first-change members undo undos none in rw parts.0 (changes-apart members undos parts.1)

changes-unused : (members : Named MemberStatus) (locks : List Lock) (number : ℕ) (job : JobState) → list_any (λ entry. uses entry.1.number locks number job) members ≡ false
    → list_any (λ (u : MemberChange). has_number u.member members) (changes_in job.cycle) ≡ false
changes-unused members locks number job none = changes-apart members (changes_in job.cycle) (none-changed members locks number job none)

-- ---- no logical file stands over the one that goes

abbrev pub IsFree : (gone : List ℕ) → FileSpec → Type 0
IsFree gone (PhysicalFile spec) = Unit {0}
IsFree gone (LogicalFile spec) = list_any (same_name gone) (base_names spec) ≡ false

-- none of these files does
abbrev pub AreFree : (gone : List ℕ) → Named FileState → Type 0
AreFree gone files = (name : List ℕ) (file : FileState) → named name files ≡ Some file → IsFree gone file.spec

free-file : (gone : List ℕ) (file : FileState) → file_refers gone file ≡ false → IsFree gone file.spec
free-file gone file none = by file.spec none
  where
    by : (spec : FileSpec) → depends_by spec gone file ≡ false → IsFree gone spec
    by (PhysicalFile spec) e = tt
    by (LogicalFile spec) e = e

-- no file that depends on it is there
pub free-independent : (gone : List ℕ) (files : Named FileState) → first_dependent gone files ≡ None → AreFree gone files
free-independent gone [] none name file found = absurd cc
free-independent gone (first ∷ files) none name file found =
    elim (file_refers gone first.1) as (λ b. file_refers gone first.1 ≡ b → (if b then Some first.0 else first_dependent gone files) ≡ None → IsFree gone file.spec) [
      | true ↦ λ refers e. absurd cc
      | false ↦ λ free e. elim (same_name name first.0) as (λ b. cond b (Some first.1) (named name files) ≡ Some file → IsFree gone file.spec) [
        | true ↦ λ is. subst (λ (f : FileState). IsFree gone f.spec) (some-equal is) (free-file gone first.1 free)
        | false ↦ λ later. free-independent gone files e name file later
      ] found
    ] refl none

-- there are no logical files at all
pub free-physical : (gone : List ℕ) (files : Named FileState) → AllArePhysical files → AreFree gone files
free-physical gone files all name file found = by file.spec (physical-named name file files all found)
  where
    by : (spec : FileSpec) → IsPhysical spec → IsFree gone spec
    by (PhysicalFile spec) is = tt
    by (LogicalFile spec) is = absurd is

-- a physical file's users are those of its members
pub user-physical : (name : List ℕ) (file : FileState) (m : Memory) → IsPhysical file.spec → user_by file.spec name file m ≡ user_of_any file.members m
user-physical name file m is = by file.spec is
  where
    by : (spec : FileSpec) → IsPhysical spec → user_by spec name file m ≡ user_of_any file.members m
    by (PhysicalFile spec) is = refl
    by (LogicalFile spec) is = absurd is

physical-without : (gone : List ℕ) (files : Named FileState) (name : List ℕ) → same_name gone name ≡ false → physical_among name (without_file gone files) ≡ physical_among name files
physical-without gone files name other = ap (λ (o : Option FileState). option_and_then (λ (f : FileState). if_physical f.spec f) o) (named-without_other gone name files other)

-- the other bases stay
pub bases-without : (gone : List ℕ) (files : Named FileState) (names : List (List ℕ)) → list_any (same_name gone) names ≡ false → AllByRecursion (λ name. IsSome (physical_among name files)) names
    → AllByRecursion (Stays files (without_file gone files)) names
bases-without gone files [] none all = tt
bases-without gone files (name ∷ names) none all =
    let parts = neither (same_name gone name) (list_any (same_name gone) names) none in
    let same = physical-without gone files name parts.0 in (
      record { there = subst (λ (o : Option FileState). IsSome o) (sym same) all.0; same = ap (λ (o : Option FileState). base_in name o) same },
      bases-without gone files names parts.1 all.1,
    )

module _ (gone : List ℕ) (files : Named FileState) (based : AreBased files) (free : AreFree gone files) where
  -- the bases of a logical file that is there
  its-bases : (name : List ℕ) (file : FileState) (spec : LogicalSpec) → named name files ≡ Some file → file.spec ≡ LogicalFile spec
      → AllByRecursion (Stays files (without_file gone files)) (base_names spec)
  its-bases name file spec here is =
      let stands : StandsOver files file.members spec = subst (IsBased files name file.members) is (based name file here) in
      let others : IsFree gone (LogicalFile spec) = subst (IsFree gone) is (free name file here) in
      bases-without gone files (base_names spec) others stands.bases

  pub AreBased-without : AreBased (without_file gone files)
  AreBased-without name file there = by file.spec refl (based name file here)
    where
      here : named name files ≡ Some file
      here = (named-without gone name files file there).0

      by : (spec : FileSpec) → file.spec ≡ spec → IsBased files name file.members spec → IsBased (without_file gone files) name file.members spec
      by (PhysicalFile spec) is own = own
      by (LogicalFile spec) is over = StandsOver-stays files (without_file gone files) file.members spec (its-bases name file spec here is) over

  -- an open of another file
  pub OpenHolds-other : (opened : OpenState) → same_name gone opened.file ≡ false → OpenHolds files opened → OpenHolds (without_file gone files) opened
  OpenHolds-other opened other holds = subst (OpensFile (without_file gone files) opened) (sym (named-without_other gone opened.file files other)) (by (named opened.file files) refl holds)
    where
      kind : (file : FileState) → named opened.file files ≡ Some file → (spec : FileSpec) → file.spec ≡ spec → OpensBy files opened file.members spec
          → OpensBy (without_file gone files) opened file.members spec
      kind file here (PhysicalFile spec) is own = own
      kind file here (LogicalFile spec) is over = IsOverBases-stays files (without_file gone files) spec opened (its-bases opened.file file spec here is) over

      by : (o : Option FileState) → named opened.file files ≡ o → OpensFile files opened o → OpensFile (without_file gone files) opened o
      by None is h = absurd h
      by (Some file) is h = kind file is file.spec refl h

module _ (s : State) (bytes after : ℕ) (name : List ℕ) (file : FileState) (one : AreOne s bytes) (apart : AreApart s.files) (free : AreFree name s.files) (there : named name s.files ≡ Some file) where
  -- an open of a physical file is over one of its members
  its-member : (opened : OpenState) (spec : FileSpec) → IsPhysical spec → OpensBy s.files opened file.members spec
      → (is_over opened opened.member ≡ true) × (has_number opened.member file.members ≡ true)
  its-member opened (PhysicalFile spec) physical own =
      let same : (opened.member == opened.member) ≡ true = grind (arith, nat_tests) in
      let first : ((opened.member == opened.member) || false) ≡ true = rw same refl in
      (subst (λ (members : List ℕ). list_any (λ base. base == opened.member) members ≡ true) (sym own.only) first, own.has)
  its-member opened (LogicalFile spec) physical own = absurd physical

  -- an open that isn't over its members is of another file
  OpenHolds-without : IsPhysical file.spec → (opened : OpenState) → ((base : ℕ) → is_over opened base ≡ true → has_number base file.members ≡ false) → OpenHolds s.files opened
      → OpenHolds (without_file name s.files) opened
  OpenHolds-without physical opened absent holds =
      elim (same_name name opened.file) as (λ b. same_name name opened.file ≡ b → OpenHolds (without_file name s.files) opened) [
        | true ↦ λ same. (
            let here : named opened.file s.files ≡ Some file = ap (λ (n : List ℕ). named n s.files) (sym (same_name-equal name opened.file same)) ∙ there in
            let own : OpensBy s.files opened file.members file.spec = subst (OpensFile s.files opened) here holds in
            let member = its-member opened file.spec physical own in
            let has : has_number opened.member file.members ≡ true = member.1 in
            let none : has_number opened.member file.members ≡ false = absent opened.member member.0 in
            absurd cc)
        | false ↦ λ other. OpenHolds-other name s.files one.lawful.bases free opened other holds
      ] refl

  Owns-without : (other : List ℕ) (another : FileState) (number : ℕ) → Owns (without_file name s.files) other another number → Owns s.files other another number
  Owns-without other another number owns = record { there = (named-without name other s.files another owns.there).0; has = owns.has }

  -- the members of the others are not its own
  number-other : (other : List ℕ) (another : FileState) (number : ℕ) → Owns (without_file name s.files) other another number → has_number number file.members ≡ false
  number-other other another number owns =
      elim (has_number number file.members) as (λ b. has_number number file.members ≡ b → b ≡ false) [
        | true ↦ λ has. (
            let same : name ≡ other = apart.apart name other file another number (record { there = there; has = has }) (Owns-without other another number owns) in
            let equal : same_name name other ≡ true = subst (λ (n : List ℕ). same_name name n ≡ true) same (same_name-self name) in
            let differ = (named-without name other s.files another owns.there).1 in
            absurd cc)
        | false ↦ λ has. refl
      ] refl

  goes-back : (sequence : ℕ) (undo : MemberChange) → has_number undo.member file.members ≡ false → GoesBack s.files s.members sequence undo
      → GoesBack (without_file name s.files) (without_members file.members s.members) sequence undo
  goes-back sequence undo absent back = record {
    cycle = back.cycle;
    place = FitsPlace-same s.members (without_members file.members s.members) undo (at-without_members file.members s.members undo.member absent) back.place;
    values = λ other another owns. back.values other another (Owns-without other another undo.member owns);
  }

  -- a logical file has no members
  no-members : (spec : LogicalSpec) → file.spec ≡ LogicalFile spec → file.members ≡ []
  no-members spec is = let stands : StandsOver s.files file.members spec = subst (IsBased s.files name file.members) is (one.lawful.bases name file there) in stands.none

  opens-deleted : (spec : FileSpec) → file.spec ≡ spec → user_by spec name file (memory_of s) ≡ None → AllByRecursion (OpensHold (without_file name s.files)) s.jobs
  opens-deleted (PhysicalFile spec) is unused =
      jobs-kept s.files (without_file name s.files) (λ number job. list_any (λ entry. uses entry.1.number s.locks number job) file.members)
      (λ number job none all. opens-unused s.files (without_file name s.files) job.opens file.members (OpenHolds-without (subst IsPhysical (sym is) tt))
      (λ opened over. open-unused file.members s.locks number job opened over none) all)
      1 s.jobs unused one.lawful.opens
  opens-deleted (LogicalFile spec) is unused =
      let changes : JobState → Bool = λ job. list_any (λ member. has_changed member job) (base_members (bases_in s.files) spec) in
      jobs-kept s.files (without_file name s.files) (λ number job. has_open_of name job || changes job)
      (λ number job none all. opens-other s.files (without_file name s.files) name job.opens (OpenHolds-other name s.files one.lawful.bases free)
      (neither (has_open_of name job) (changes job) none).0 all)
      1 s.jobs unused one.lawful.opens

  changes-deleted : (spec : FileSpec) → file.spec ≡ spec → user_by spec name file (memory_of s) ≡ None → AllGoBack (without_file name s.files) (without_members file.members s.members) s.jobs
  changes-deleted (PhysicalFile spec) is unused =
      AllGoBack-kept s.files (without_file name s.files) s.members (without_members file.members s.members) (λ undo. has_number undo.member file.members) goes-back
      (λ number job. list_any (λ entry. uses entry.1.number s.locks number job) file.members)
      (λ number job none. changes-unused file.members s.locks number job none) 1 s.jobs unused one.lawful.changes
  changes-deleted (LogicalFile spec) is unused =
      AllGoBack-each s.files (without_file name s.files) s.members (without_members file.members s.members)
      (λ sequence undo back. goes-back sequence undo (ap (λ (members : Named MemberStatus). has_number undo.member members) (no-members spec is)) back) s.jobs one.lawful.changes

  pub AreOne-deleted : user_by file.spec name file (memory_of s) ≡ None → after ≡ library_bytes (without_members file.members s.members) → after ≤ bytes
      → AreOne (record s { files = without_file name s.files; members = without_members file.members s.members }) after
  AreOne-deleted unused counted fewer = let before = one.counted in let few = one.lawful.few in record {
    lawful = record {
      members = λ other another number owns. subst (IsThere (fields_of another)) (sym (at-without_members file.members s.members number (number-other other another number owns)))
          (one.lawful.members other another number (Owns-without other another number owns));
      bases = AreBased-without name s.files one.lawful.bases free;
      opens = opens-deleted file.spec refl unused;
      changes = changes-deleted file.spec refl unused;
      numbers = numbers-without_members file.members s.members s.next_member one.lawful.numbers;
      keepers = one.lawful.keepers;
      few = omega (arith, counted, fewer, before, few);
    };
    counted = counted;
  }
