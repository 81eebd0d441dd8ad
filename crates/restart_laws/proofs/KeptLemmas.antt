-- The images that a journal keeps of a member are those of its catalogue.
use Rattle.std.proofs.Common.{◌≡◌, ℕ, ◌==◌, ◌||◌, cond, map, Bool, true, false, if◌then◌else◌, Option, Some, None, is_some, List, [], ◌∷◌, refl, sym, ◌∙◌, ap, subst}
use Rattle.std.proofs.lemmas.Bool.{eqb-true}
use Rattle.std.specs.List.{AllByRecursion, filter, find}
use Rattle.std.specs.Option.{option_and_then, option_map}
use Rattle.std.specs.Str.{bytes_eq}
use Rattle.member_slots.specs.Members.{item_at}
use Rattle.journal_model.specs.Catalogue.{CatalogMember, is_in_file}
use Rattle.journal_model.specs.Journal.{Journal, catalogue_of}
use Rattle.lawful_states.specs.Owners.{Owns, has_number}
use Rattle.lawful_states.proofs.NameLemmas.{same_name-self, some-equal}
use Rattle.lawful_states.proofs.OwnerLemmas.{status-unowned}
use Rattle.lawful_states.proofs.StatusLemmas.{has_number-cons}
use Rattle.library_model.specs.Named.{Named}
use Rattle.lawful_states.specs.SlotChange.{status_among, status_in}
use Rattle.lawful_states.specs.State.{FileState, MemberStatus}
use Rattle.restart_model.specs.Libraries.{file_left, member_left, status_left}
use Rattle.restart_laws.proofs.CatalogueLemmas.{AreNumbersApart, HasOther}
use Rattle.restart_laws.proofs.LeftLemmas.{members_left, none-numbered}

status_in-cons : (number : ℕ) (entry : List ℕ × MemberStatus) (members : Named MemberStatus)
    → status_in number (entry ∷ members) ≡ cond (entry.1.number == number) (Some entry.1) (status_in number members)
status_in-cons number entry members =
    elim (entry.1.number == number) as (λ b. option_map (λ (e : List ℕ × MemberStatus). e.1) (cond b (Some entry) (find (λ (e : List ℕ × MemberStatus). e.1.number == number) members))
    ≡ cond b (Some entry.1) (status_in number members)) [
      | true ↦ refl
      | false ↦ refl
    ]

module _ (breaks : ℕ → ℕ) (j : Journal) where
  abbrev its : List ℕ → List CatalogMember → Named MemberStatus
  its name members = map (status_left breaks j) (filter (is_in_file name) members)

  -- of the member with the number, in whichever file it is found
  status-images : (members : List CatalogMember) (name : List ℕ) (number : ℕ) (m : CatalogMember) (status : MemberStatus) → AreNumbersApart members
      → find (λ (o : CatalogMember). o.number == number) members ≡ Some m → status_in number (its name members) ≡ Some status → status.images ≡ m.images
  status-images [] name number m status apart found is = absurd cc
  status-images (o ∷ members) name number m status apart found is =
      elim (o.number == number) as (λ b. o.number == number ≡ b → cond b (Some o) (find (λ (x : CatalogMember). x.number == number) members) ≡ Some m → status.images ≡ m.images) [
        | true ↦ λ equal e. first equal ∙ ap (λ (x : CatalogMember). x.images) (some-equal e)
        | false ↦ λ differs e. status-images members name number m status apart.1 e (rest differs)
      ] refl found
    where
      first : o.number == number ≡ true → status.images ≡ o.images
      first equal =
          elim (bytes_eq o.file name) as (λ b. status_in number (map (status_left breaks j) (cond b (o ∷ filter (is_in_file name) members) (filter (is_in_file name) members))) ≡ Some status
          → status.images ≡ o.images) [
            | true ↦ λ e.
                let one : Some (status_left breaks j o).1 ≡ Some status =
                sym (ap (λ (b : Bool). cond b (Some (status_left breaks j o).1) (status_in number (its name members))) equal)
                ∙ sym (status_in-cons number (status_left breaks j o) (its name members)) ∙ e in
                ap (λ (x : MemberStatus). x.images) (sym (some-equal one))
            | false ↦ λ e. absurd (
                let none : has_number number (its name members) ≡ false =
                none-numbered (status_left breaks j) (λ x. refl) (λ x. refl) members name number
                (subst (λ (n : ℕ). AllByRecursion (HasOther n) members) (eqb-true o.number number equal) apart.0) in
                let some : has_number number (its name members) ≡ true = ap (λ (x : Option MemberStatus). is_some x) e in cc)
          ] is

      rest : o.number == number ≡ false → status_in number (its name members) ≡ Some status
      rest differs =
          elim (bytes_eq o.file name) as (λ b. status_in number (map (status_left breaks j) (cond b (o ∷ filter (is_in_file name) members) (filter (is_in_file name) members))) ≡ Some status
          → status_in number (its name members) ≡ Some status) [
            | true ↦ λ e. sym (ap (λ (b : Bool). cond b (Some (status_left breaks j o).1) (status_in number (its name members))) differs)
                ∙ sym (status_in-cons number (status_left breaks j o) (its name members)) ∙ e
            | false ↦ λ e. e
          ] is

  among-images : (files : Named FileState) (number : ℕ) (m : CatalogMember) (status : MemberStatus) → AreNumbersApart (catalogue_of j).members
      → find (λ (o : CatalogMember). o.number == number) (catalogue_of j).members ≡ Some m → status_among number (map (file_left breaks j) files) ≡ Some status → status.images ≡ m.images
  among-images [] number m status apart found is = absurd cc
  among-images (entry ∷ files) number m status apart found is =
      elim (is_some (status_in number (members_left breaks j entry.0))) as (λ b.
      (if b then status_in number (members_left breaks j entry.0) else status_among number (map (file_left breaks j) files)) ≡ Some status → status.images ≡ m.images) [
        | true ↦ λ e. status-images (catalogue_of j).members entry.0 number m status apart found e
        | false ↦ λ e. among-images files number m status apart found e
      ] is

  -- its file has it
  pub has-own : (members : List CatalogMember) (number : ℕ) (m : CatalogMember) → find (λ (o : CatalogMember). o.number == number) members ≡ Some m → has_number number (its m.file members) ≡ true
  has-own [] number m found = absurd cc
  has-own (o ∷ members) number m found =
      elim (o.number == number) as (λ b. o.number == number ≡ b → cond b (Some o) (find (λ (x : CatalogMember). x.number == number) members) ≡ Some m
      → has_number number (map (status_left breaks j) (cond (bytes_eq o.file m.file) (o ∷ filter (is_in_file m.file) members) (filter (is_in_file m.file) members))) ≡ true) [
        | true ↦ λ equal e. own equal (ap (λ (x : CatalogMember). bytes_eq x.file m.file) (some-equal e) ∙ same_name-self m.file)
        | false ↦ λ differs e. later differs (has-own members number m e)
      ] refl found
    where
      own : o.number == number ≡ true → bytes_eq o.file m.file ≡ true
          → has_number number (map (status_left breaks j) (cond (bytes_eq o.file m.file) (o ∷ filter (is_in_file m.file) members) (filter (is_in_file m.file) members))) ≡ true
      own equal same =
          ap (λ (b : Bool). has_number number (map (status_left breaks j) (cond b (o ∷ filter (is_in_file m.file) members) (filter (is_in_file m.file) members)))) same
          ∙ has_number-cons number (status_left breaks j o) (its m.file members) ∙ ap (λ (b : Bool). b || has_number number (its m.file members)) equal

      later : o.number == number ≡ false → has_number number (its m.file members) ≡ true
          → has_number number (map (status_left breaks j) (cond (bytes_eq o.file m.file) (o ∷ filter (is_in_file m.file) members) (filter (is_in_file m.file) members))) ≡ true
      later differs has =
          elim (bytes_eq o.file m.file) as (λ b. has_number number (map (status_left breaks j) (cond b (o ∷ filter (is_in_file m.file) members) (filter (is_in_file m.file) members))) ≡ true) [
            | true ↦ has_number-cons number (status_left breaks j o) (its m.file members) ∙ ap (λ (b : Bool). b || has_number number (its m.file members)) differs ∙ has
            | false ↦ has
          ]

  -- what the library says is what the catalogue does
  pub images-kept : (files : Named FileState) (number : ℕ) (m : CatalogMember) (name : List ℕ) (file : FileState) → AreNumbersApart (catalogue_of j).members
      → find (λ (o : CatalogMember). o.number == number) (catalogue_of j).members ≡ Some m → Owns (map (file_left breaks j) files) name file number
      → option_and_then (λ (status : MemberStatus). status.images) (status_among number (map (file_left breaks j) files)) ≡ m.images
  images-kept files number m name file apart found owns = by (status_among number (map (file_left breaks j) files)) refl
    where
      by : (o : Option MemberStatus) → status_among number (map (file_left breaks j) files) ≡ o → option_and_then (λ (status : MemberStatus). status.images) o ≡ m.images
      by None is = absurd (status-unowned number (map (file_left breaks j) files) is name file owns)
      by (Some status) is = among-images files number m status apart found is

  pub there-found : (files : Named FileState) (members : List CatalogMember) (number : ℕ) → is_some (item_at number (map (member_left files j) members)) ≡ true
      → (m : CatalogMember) × (find (λ (o : CatalogMember). o.number == number) members ≡ Some m)
  there-found files [] number some = absurd cc
  there-found files (o ∷ members) number some =
      elim (o.number == number) as (λ b. is_some (if b then Some (member_left files j o).item else item_at number (map (member_left files j) members)) ≡ true
      → (m : CatalogMember) × (cond b (Some o) (find (λ (x : CatalogMember). x.number == number) members) ≡ Some m)) [
        | true ↦ λ e. (o, refl)
        | false ↦ λ e. there-found files members number e
      ] some
