-- The files and members of a library that is built from what a journal leaves, with one file or one member more.
use Rattle.std.proofs.Common.{ℕ, ◌<◌, ◌≡◌, ◌==◌, nat_lt, if◌then◌else◌, Bool, true, false, cond, map, filter, List, [], ◌∷◌, ◌++◌, Option, Some, None, refl, sym, ap, arith, ◌∙◌, ne_eqb}
use Rattle.std.specs.List.{AllByRecursion}
use Rattle.std.specs.Option.{is_some, option_and_then, option_map}
use Rattle.std.specs.Str.{bytes_eq}
use Rattle.std.proofs.lemmas.Bool.{eq-eqb}
use Rattle.std.proofs.lemmas.Bool.Decides.{nat_tests}
use Rattle.std.proofs.lemmas.List.{append-nil, map-append}
use Rattle.dds_physical.specs.declared.physical_files.PhysicalSpec.{PhysicalSpec}
use Rattle.member_slots.specs.Member.{MemberState}
use Rattle.member_slots.specs.Members.{NumberedMembers, item_at, put_member, with_member}
use Rattle.journal_replay.specs.Standing.{HeldMember}
use Rattle.lawful_states.proofs.NameLemmas.{same_name-equal, same_name-self}
use Rattle.lawful_states.proofs.BaseLemmas.{named-before}
use Rattle.library_model.specs.Named.{Named, named, same_name}
use Rattle.library_steps.specs.CreatePhysicalFile.{new_status}
use Rattle.library_steps.specs.MemberCommands.{file_changed, with_member_name}
use Rattle.library_steps.specs.State.{FileState, MemberStatus, physical_in, status_changed}
use Rattle.restart_model.specs.Libraries.{record_length_in}
use Rattle.restarted_library.specs.Built.{files_added, files_built, is_of, member_built, members_built, status_added, status_held, statuses_of, with_added, with_statuses}

-- ---- what is found by a name

named-changed : (change : List ℕ → FileState → FileState) (name : List ℕ) (files : Named FileState)
    → named name (map (λ (entry : List ℕ × FileState). (entry.0, change entry.0 entry.1)) files) ≡ option_map (change name) (named name files)
named-changed change name [] = refl
named-changed change name (entry ∷ files) =
    elim (same_name name entry.0) as (λ b. same_name name entry.0 ≡ b
    → cond b (Some (change entry.0 entry.1)) (named name (map (λ (e : List ℕ × FileState). (e.0, change e.0 e.1)) files)) ≡ option_map (change name) (cond b (Some entry.1) (named name files))) [
      | true ↦ λ same. ap (λ (n : List ℕ). Some (change n entry.1)) (sym (same_name-equal name entry.0 same))
      | false ↦ λ differ. named-changed change name files
    ] refl

abbrev pub with_members_of : List HeldMember → List ℕ → FileState → FileState
with_members_of held name file = record file { members = statuses_of name held }

pub named-built : (described : Named FileState) (held : List HeldMember) (name : List ℕ) → named name (files_built described held) ≡ option_map (with_members_of held name) (named name described)
named-built described held name = named-changed (with_members_of held) name described

some-map : (change : FileState → FileState) (o : Option FileState) (file : FileState) → option_map change o ≡ Some file → is_some o ≡ true
some-map change None file is = absurd cc
some-map change (Some f) file is = refl

pub built-there : (described : Named FileState) (held : List HeldMember) (name : List ℕ) (file : FileState) → named name (files_built described held) ≡ Some file
    → is_some (named name described) ≡ true
built-there described held name file is = some-map (with_members_of held name) (named name described) file (sym (named-built described held name) ∙ is)

none-map : (change : FileState → FileState) (o : Option FileState) → option_map change o ≡ None → o ≡ None
none-map change None is = refl
none-map change (Some f) is = absurd cc

pub built-absent : (described : Named FileState) (held : List HeldMember) (name : List ℕ) → named name (files_built described held) ≡ None → named name described ≡ None
built-absent described held name is = none-map (with_members_of held name) (named name described) (sym (named-built described held name) ∙ is)

pub length-built : (described : Named FileState) (held : List HeldMember) (name : List ℕ) → record_length_in (named name (files_built described held)) ≡ record_length_in (named name described)
length-built described held name = ap record_length_in (named-built described held name) ∙ by (named name described)
  where
    by : (o : Option FileState) → record_length_in (option_map (with_members_of held name) o) ≡ record_length_in o
    by None = refl
    by (Some file) = refl

abbrev physical_found : Option FileState → Option PhysicalSpec
physical_found o = option_and_then (λ (file : FileState). physical_in file.spec) o

pub spec-built : (described : Named FileState) (held : List HeldMember) (name : List ℕ)
    → option_and_then (λ (file : FileState). physical_in file.spec) (named name (files_built described held)) ≡ option_and_then (λ (file : FileState). physical_in file.spec) (named name described)
spec-built described held name = ap physical_found (named-built described held name) ∙ by (named name described)
  where
    by : (o : Option FileState) → physical_found (option_map (with_members_of held name) o) ≡ physical_found o
    by None = refl
    by (Some file) = refl

-- ---- the statuses of a file's members

pub statuses-push : (file : List ℕ) (held : List HeldMember) (m : HeldMember) → statuses_of file (held ++ m ∷ []) ≡ statuses_of file held ++ (if is_of file m then status_held m ∷ [] else [])
statuses-push file [] m = elim (is_of file m) as (λ b. map status_held (cond b (m ∷ []) []) ≡ cond b (status_held m ∷ []) []) [ true ↦ refl | false ↦ refl ]
statuses-push file (x ∷ held) m =
    elim (is_of file x) as (λ b. map status_held (cond b (x ∷ filter (is_of file) (held ++ m ∷ [])) (filter (is_of file) (held ++ m ∷ [])))
    ≡ map status_held (cond b (x ∷ filter (is_of file) held) (filter (is_of file) held)) ++ (if is_of file m then status_held m ∷ [] else [])) [
      | true ↦ ap (λ (w : Named MemberStatus). status_held x ∷ w) (statuses-push file held m)
      | false ↦ statuses-push file held m
    ]

abbrev changed_at : ℕ → (MemberStatus → MemberStatus) → List ℕ × MemberStatus → List ℕ × MemberStatus
changed_at number change entry = (entry.0, if entry.1.number == number then change entry.1 else entry.1)

-- members below the number keep their statuses
statuses-kept : (file : List ℕ) (number : ℕ) (change : MemberStatus → MemberStatus) (held : List HeldMember) → AllByRecursion (λ (m : HeldMember). m.number < number) held
    → map (changed_at number change) (statuses_of file held) ≡ statuses_of file held
statuses-kept file number change [] below = refl
statuses-kept file number change (x ∷ held) below =
    let low = below.0 in
    let other : (x.number == number) ≡ false = ne_eqb x.number number (λ e. absurd (omega (arith, low, e))) in
    elim (is_of file x) as (λ b. map (changed_at number change) (map status_held (cond b (x ∷ filter (is_of file) held) (filter (is_of file) held)))
    ≡ map status_held (cond b (x ∷ filter (is_of file) held) (filter (is_of file) held))) [
      | true ↦ λ i. (x.name, (ap (λ (t : Bool). cond t (change (status_held x).1) (status_held x).1) other) i) ∷ statuses-kept file number change held below.1 i
      | false ↦ statuses-kept file number change held below.1
    ]

status-new : (file : List ℕ) (m : HeldMember) (change : MemberStatus → MemberStatus) → change (new_status m.number) ≡ (status_held m).1
    → map (changed_at m.number change) (status_added file m) ≡ (if is_of file m then status_held m ∷ [] else [])
status-new file m change is =
    let own : (m.number == m.number) ≡ true = eq-eqb m.number m.number refl in
    elim (is_of file m) as (λ b. map (changed_at m.number change) (cond b ((m.name, new_status m.number) ∷ []) []) ≡ cond b (status_held m ∷ []) []) [
      | true ↦ λ i. (m.name, (ap (λ (t : Bool). cond t (change (new_status m.number)) (new_status m.number)) own ∙ is) i) ∷ []
      | false ↦ refl
    ]

-- ---- files

-- the file gets one member more
pub files-extended : (held : List HeldMember) (m : HeldMember) (described : Named FileState)
    → file_changed m.file (with_member_name m.name m.number) (files_built described held) ≡ files_added described held m
files-extended held m [] = refl
files-extended held m (entry ∷ described) =
    let file : FileState = record entry.1 { members = statuses_of entry.0 held } in
    let one : cond (bytes_eq m.file entry.0) (with_member_name m.name m.number file) file ≡ record entry.1 { members = statuses_of entry.0 held ++ status_added entry.0 m } =
    elim (bytes_eq m.file entry.0) as (λ b. cond b (with_member_name m.name m.number file) file
    ≡ record entry.1 { members = statuses_of entry.0 held ++ cond b ((m.name, new_status m.number) ∷ []) [] }) [
      | true ↦ refl
      | false ↦ ap (λ (ms : Named MemberStatus). record entry.1 { members = ms }) (sym (append-nil (statuses_of entry.0 held)))
    ] in
    λ i. (entry.0, one i) ∷ files-extended held m described i

-- and the member's status is set
pub files-set : (held : List HeldMember) (m : HeldMember) (change : MemberStatus → MemberStatus) → change (new_status m.number) ≡ (status_held m).1
    → AllByRecursion (λ (other : HeldMember). other.number < m.number) held → (described : Named FileState)
    → map (λ (entry : List ℕ × FileState). (entry.0, status_changed m.number change entry.1)) (files_added described held m) ≡ files_built described (held ++ m ∷ [])
files-set held m change is below [] = refl
files-set held m change is below (entry ∷ described) =
    let one : map (changed_at m.number change) (statuses_of entry.0 held ++ status_added entry.0 m) ≡ statuses_of entry.0 (held ++ m ∷ []) =
    map-append (changed_at m.number change) (statuses_of entry.0 held) (status_added entry.0 m)
    ∙ (λ i. statuses-kept entry.0 m.number change held below i ++ status-new entry.0 m change is i)
    ∙ sym (statuses-push entry.0 held m) in
    λ i. (entry.0, record entry.1 { members = one i }) ∷ files-set held m change is below described i

-- a file that isn't described has none of the members
pub none-held : (described : Named FileState) (name : List ℕ) → named name described ≡ None → (held : List HeldMember)
    → AllByRecursion (λ (m : HeldMember). is_some (named m.file described) ≡ true) held → statuses_of name held ≡ []
none-held described name absent [] owned = refl
none-held described name absent (x ∷ held) owned =
    elim (bytes_eq x.file name) as (λ b. bytes_eq x.file name ≡ b → map status_held (cond b (x ∷ filter (is_of name) held) (filter (is_of name) held)) ≡ []) [
      | true ↦ λ same. (
          let none : is_some (named x.file described) ≡ false = ap (λ (n : List ℕ). is_some (named n described)) (same_name-equal x.file name same) ∙ ap (λ (o : Option FileState). is_some o) absent in
          let there : is_some (named x.file described) ≡ true = owned.0 in
          absurd cc)
      | false ↦ λ differ. none-held described name absent held owned.1
    ] refl

-- a member of a file that isn't described is one of no other
others-added : (held : List HeldMember) (m : HeldMember) (described : Named FileState) → named m.file described ≡ None → files_added described held m ≡ files_built described held
others-added held m [] absent = refl
others-added held m (entry ∷ described) absent =
    elim (same_name m.file entry.0) as (λ b. bytes_eq m.file entry.0 ≡ b → cond b (Some entry.1) (named m.file described) ≡ None
    → files_added (entry ∷ described) held m ≡ files_built (entry ∷ described) held) [
      | true ↦ λ same none. absurd cc
      | false ↦ λ differ none. (
          let one : statuses_of entry.0 held ++ status_added entry.0 m ≡ statuses_of entry.0 held =
          ap (λ (b : Bool). statuses_of entry.0 held ++ cond b ((m.name, new_status m.number) ∷ []) []) differ ∙ append-nil (statuses_of entry.0 held) in
          λ i. (entry.0, record entry.1 { members = one i }) ∷ others-added held m described none i)
    ] refl absent

-- one file more, with its first member
pub files-owner : (held : List HeldMember) (m : HeldMember) (described : Named FileState) (file : FileState) → named m.file described ≡ None
    → AllByRecursion (λ (other : HeldMember). is_some (named other.file described) ≡ true) held
    → files_built described held ++ (m.file, record file { members = (m.name, new_status m.number) ∷ [] }) ∷ [] ≡ files_added (described ++ (m.file, file) ∷ []) held m
files-owner held m described file absent owned =
    let own : bytes_eq m.file m.file ≡ true = same_name-self m.file in
    let members : (m.name, new_status m.number) ∷ [] ≡ statuses_of m.file held ++ status_added m.file m =
    sym (ap (λ (w : Named MemberStatus). w ++ status_added m.file m) (none-held described m.file absent held owned)
    ∙ ap (λ (b : Bool). cond b ((m.name, new_status m.number) ∷ []) []) own) in
    (λ i. sym (others-added held m described absent) i ++ (m.file, record file { members = members i }) ∷ [])
    ∙ sym (map-append (with_added held m) described ((m.file, file) ∷ []))

-- one file more, without members
pub files-more : (held : List HeldMember) (name : List ℕ) (described : Named FileState) (file : FileState) → named name described ≡ None
    → AllByRecursion (λ (other : HeldMember). is_some (named other.file described) ≡ true) held
    → files_built described held ++ (name, record file { members = [] }) ∷ [] ≡ files_built (described ++ (name, file) ∷ []) held
files-more held name described file absent owned =
    (λ i. files_built described held ++ (name, record file { members = sym (none-held described name absent held owned) i }) ∷ [])
    ∙ sym (map-append (with_statuses held) described ((name, file) ∷ []))

-- ---- members

pub put-last : (described : Named FileState) (number : ℕ) (item : MemberState) (held : List HeldMember) → AllByRecursion (λ (m : HeldMember). m.number < number) held
    → put_member number item (members_built described held) ≡ members_built described held ++ record { number = number; item = item } ∷ []
put-last described number item [] below = refl
put-last described number item (x ∷ held) below =
    let low : nat_lt x.number number ≡ true = (let l = below.0 in grind (arith, nat_tests, l)) in
    rw low (ap (λ (w : NumberedMembers). member_built described x ∷ w) (put-last described number item held below.1))

-- what is put last is found
pub at-last : (described : Named FileState) (number : ℕ) (item : MemberState) (held : List HeldMember) → AllByRecursion (λ (m : HeldMember). m.number < number) held
    → item_at number (members_built described held ++ record { number = number; item = item } ∷ []) ≡ Some item
at-last described number item [] below = rw (eq-eqb number number refl) refl
at-last described number item (x ∷ held) below =
    let low = below.0 in
    let other : (x.number == number) ≡ false = ne_eqb x.number number (λ e. absurd (omega (arith, low, e))) in
    rw other (at-last described number item held below.1)

-- and another stands in its place
pub with-last : (described : Named FileState) (number : ℕ) (item new : MemberState) (held : List HeldMember) → AllByRecursion (λ (m : HeldMember). m.number < number) held
    → with_member number new (members_built described held ++ record { number = number; item = item } ∷ []) ≡ members_built described held ++ record { number = number; item = new } ∷ []
with-last described number item new [] below = rw (eq-eqb number number refl) refl
with-last described number item new (x ∷ held) below =
    let low = below.0 in
    let other : (x.number == number) ≡ false = ne_eqb x.number number (λ e. absurd (omega (arith, low, e))) in
    rw other (ap (λ (w : NumberedMembers). member_built described x ∷ w) (with-last described number item new held below.1))

pub members-push : (described : Named FileState) (held : List HeldMember) (m : HeldMember) → members_built described (held ++ m ∷ []) ≡ members_built described held ++ member_built described m ∷ []
members-push described held m = map-append (member_built described) held (m ∷ [])

-- the members stay where one file more is described
found-more : (described : Named FileState) (entry : List ℕ × FileState) (name : List ℕ) → is_some (named name described) ≡ true → named name (described ++ entry ∷ []) ≡ named name described
found-more described entry name there = by (named name described) refl there
  where
    by : (o : Option FileState) → named name described ≡ o → is_some o ≡ true → named name (described ++ entry ∷ []) ≡ named name described
    by None is some = absurd cc
    by (Some file) is some = named-before name described entry file is ∙ sym is

pub members-more : (described : Named FileState) (entry : List ℕ × FileState) (held : List HeldMember) → AllByRecursion (λ (m : HeldMember). is_some (named m.file described) ≡ true) held
    → members_built (described ++ entry ∷ []) held ≡ members_built described held
members-more described entry [] owned = refl
members-more described entry (x ∷ held) owned =
    λ i. record { number = x.number; item = record { record_length = record_length_in (found-more described entry x.file owned.0 i); slots = x.slots } } ∷ members-more described entry held owned.1 i

pub owned-more : (described : Named FileState) (entry : List ℕ × FileState) (held : List HeldMember) → AllByRecursion (λ (m : HeldMember). is_some (named m.file described) ≡ true) held
    → AllByRecursion (λ (m : HeldMember). is_some (named m.file (described ++ entry ∷ [])) ≡ true) held
owned-more described entry [] owned = tt
owned-more described entry (x ∷ held) owned = (ap (λ (o : Option FileState). is_some o) (found-more described entry x.file owned.0) ∙ owned.0, owned-more described entry held owned.1)

-- and the file more is found by its name
pub own-found : (described : Named FileState) (name : List ℕ) (file : FileState) → named name described ≡ None → named name (described ++ (name, file) ∷ []) ≡ Some file
own-found [] name file none = ap (λ (b : Bool). cond b (Some file) None) (same_name-self name)
own-found (entry ∷ described) name file none =
    elim (same_name name entry.0) as (λ b. cond b (Some entry.1) (named name described) ≡ None → cond b (Some entry.1) (named name (described ++ (name, file) ∷ [])) ≡ Some file) [
      | true ↦ λ e. absurd cc
      | false ↦ λ e. own-found described name file e
    ] none

pub own-more : (described : Named FileState) (name : List ℕ) (file : FileState) → is_some (named name (described ++ (name, file) ∷ [])) ≡ true
own-more [] name file = ap (λ (b : Bool). is_some (cond b (Some file) None)) (same_name-self name)
own-more (entry ∷ described) name file =
    elim (same_name name entry.0) as (λ b. is_some (cond b (Some entry.1) (named name (described ++ (name, file) ∷ []))) ≡ true) [
      | true ↦ refl
      | false ↦ own-more described name file
    ]
