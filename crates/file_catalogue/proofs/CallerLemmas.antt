-- What a caller of the catalogue cites: that a new file may be added, and which unique paths a member has.
use Rattle.std.proofs.Common.{◌≡◌, ◌∙◌, ℕ, true, false, cond, nat_eq, Some, None, List, [], ◌∷◌, ◌++◌, flat_map, append-nil, refl, sym, ap, subst}
use Rattle.std.proofs.Math.Bool.{and-false}
use Rattle.std.specs.List.{AllByRecursion, IsDistinct, find}
use Rattle.std.specs.Option.{is_some, option_map}
use Rattle.std.specs.Map.{keys_of}
use Rattle.library_model.specs.Named.{Named, named, same_name}
use Rattle.logical_model.specs.Bases.{FileSpec, PhysicalFile, LogicalFile}
use Rattle.lawful_states.specs.State.{Memory, FileState, MemberStatus}
use Rattle.lawful_states.specs.CreatePhysicalFile.{NewFile, new_file}
use Rattle.lawful_states.specs.SlotChange.{status_among}
use Rattle.lawful_states.specs.UniqueKeys.{UniquePath, has_member, uniques_by}
use Rattle.lawful_states.specs.Owners.{has_number, numbers_of, owner, Owns, AreApart}
use Rattle.lawful_states.specs.Physical.{IsPhysical, AllArePhysical}
use Rattle.lawful_states.proofs.NameLemmas.{same_name-self, some-equal}
use Rattle.lawful_states.proofs.OwnerLemmas.{owns-behind, owns-first, Unowned, unowned-status, IsOnly, owner-owns}
use Rattle.lawful_states.proofs.ChangeLemmas.{behind-first}

-- a file that is new, whose one member has a number of nobody's
pub new_file-fits : (member : List ℕ) (number : ℕ) (plan : NewFile) (files : Named FileState) → status_among number files ≡ None
    → AllByRecursion (λ entry. status_among entry.1.number files ≡ None) (new_file member number plan).members × IsDistinct nat_eq (numbers_of (new_file member number plan).members)
unfolding IsDistinct
new_file-fits member number plan files none = ((none, tt), (tt, tt))

-- a member that no file has
pub fresh : (number : ℕ) (files : Named FileState) → IsDistinct same_name (keys_of files) → Unowned files number → status_among number files ≡ None
fresh number files distinct none = (unowned-status number files distinct none).0

pub has_member-number : (number : ℕ) (members : Named MemberStatus) → has_member number members ≡ has_number number members
has_member-number number members =
    elim (find (λ (e : List ℕ × MemberStatus). nat_eq e.1.number number) members) as (λ o. is_some o ≡ is_some (option_map (λ (e : List ℕ × MemberStatus). e.1) o)) [
      | None ↦ refl
      | Some e ↦ refl
    ]

-- the unique paths of a file that are over a member
abbrev pub uniques_in : Memory → ℕ → List ℕ × FileState → List UniquePath
uniques_in m number entry = uniques_by entry.1.spec m number entry

lacks-unique : (m : Memory) (number : ℕ) (spec : FileSpec) (entry : List ℕ × FileState) → IsPhysical spec → has_number number entry.1.members ≡ false → uniques_by spec m number entry ≡ []
lacks-unique m number (PhysicalFile spec) entry is lacks = rw (has_member-number number entry.1.members ∙ lacks, and-false spec.keys.unique) refl
lacks-unique m number (LogicalFile spec) entry is lacks = absurd is

-- among physical files a member that nobody owns has no unique path
pub unique-none : (m : Memory) (number : ℕ) (files : Named FileState) → AllArePhysical files → owner number files ≡ None → flat_map (uniques_in m number) files ≡ []
unique-none m number [] all none = refl
unique-none m number (entry ∷ files) all none =
    elim (has_number number entry.1.members) as (λ b. has_number number entry.1.members ≡ b → cond b (Some entry.0) (owner number files) ≡ None
    → uniques_in m number entry ++ flat_map (uniques_in m number) files ≡ []) [
      | true ↦ λ has e. absurd cc
      | false ↦ λ lacks e. rw (lacks-unique m number entry.1.spec entry all.0 lacks) (unique-none m number files all.1 e)
    ] refl none

unique-only : (m : Memory) (number : ℕ) (name : List ℕ) (file : FileState) (files : Named FileState) → AllArePhysical files → IsDistinct same_name (keys_of files) → Owns files name file number → IsOnly files number name
    → flat_map (uniques_in m number) files ≡ uniques_in m number (name, file)
unfolding IsDistinct
unique-only m number name file [] all distinct owns only = let e : None ≡ Some file = owns.there in absurd cc
unique-only m number name file (entry ∷ files) all distinct owns only =
    elim (has_number number entry.1.members) as (λ b. has_number number entry.1.members ≡ b → uniques_in m number entry ++ flat_map (uniques_in m number) files ≡ uniques_in m number (name, file)) [
      | true ↦ λ has. here has
      | false ↦ λ lacks. behind lacks (λ f. unique-only m number name file files all.1 distinct.1 (record { there = f; has = owns.has }) (λ other another o. only other another (owns-behind distinct.0 o)))
    ] refl
  where
    here : has_number number entry.1.members ≡ true → uniques_in m number entry ++ flat_map (uniques_in m number) files ≡ uniques_in m number (name, file)
    here has =
        let same : name ≡ entry.0 = only entry.0 entry.1 (owns-first entry files number has) in
        let found : Some entry.1 ≡ Some file = sym (rw (same_name-self entry.0) refl) ∙ ap (λ n. named n (entry ∷ files)) (sym same) ∙ owns.there in
        let none : Unowned files number = behind-first number entry files distinct.0 (subst (λ (n : List ℕ). IsOnly (entry ∷ files) number n) same only) in
        rw (unique-none m number files all.1 (unowned-status number files distinct.1 none).1)
        (append-nil (uniques_in m number entry) ∙ (λ i. uniques_in m number (sym same i, some-equal found i)))

    behind : has_number number entry.1.members ≡ false → (named name files ≡ Some file → flat_map (uniques_in m number) files ≡ uniques_in m number (name, file))
        → uniques_in m number entry ++ flat_map (uniques_in m number) files ≡ uniques_in m number (name, file)
    behind lacks rest =
        rw (lacks-unique m number entry.1.spec entry all.0 lacks)
        (elim (same_name name entry.0) as (λ b. cond b (Some entry.1) (named name files) ≡ Some file → flat_map (uniques_in m number) files ≡ uniques_in m number (name, file)) [
          | true ↦ λ f. let g : has_number number entry.1.members ≡ true = subst (λ (x : FileState). has_number number x.members ≡ true) (some-equal (sym f)) owns.has in absurd cc
          | false ↦ rest
        ] owns.there)

-- where all files are physical, the unique paths of a member are its file's
pub unique-owner : (m : Memory) (number : ℕ) (name : List ℕ) (file : FileState) (files : Named FileState) → AllArePhysical files → IsDistinct same_name (keys_of files) → AreApart files
    → owner number files ≡ Some name → named name files ≡ Some file → flat_map (uniques_in m number) files ≡ uniques_in m number (name, file)
unique-owner m number name file files all distinct apart at there =
    let it = owner-owns number name files distinct at in
    let owns : Owns files name file number = record { there = there; has = ap (λ (x : FileState). has_number number x.members) (some-equal (sym there ∙ it.1.there)) ∙ it.1.has } in
    unique-only m number name file files all distinct owns (λ other another o. apart.apart name other file another number owns o)
