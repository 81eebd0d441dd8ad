-- The status of a member and the member itself, found by its number.
use Rattle.std.proofs.Common.{◌≡◌, ℕ, ◌==◌, Bool, true, false, cond, Option, Some, None, List, [], ◌∷◌, map, refl, sym, ap, ◌∙◌, subst, arith}
use Rattle.std.specs.List.{find}
use Rattle.std.specs.Option.{is_some, option_map}
use Rattle.std.proofs.lemmas.Bool.{eqb-true}
use Rattle.std.proofs.lemmas.Bool.Decides.{nat_tests}
use Rattle.member_slots.specs.Members.{NumberedMembers, member_at}
use Rattle.journal_model.specs.Catalogue.{CatalogMember, has_number}
use Rattle.journal_replay.specs.Standing.{HeldMember, catalog_member}
use Rattle.library_model.specs.Named.{Named}
use Rattle.library_steps.specs.State.{FileState, MemberStatus}
use Rattle.library_steps.specs.SlotChange.{status_among, status_in}
use Rattle.replayed_histories.proofs.MemberLemmas.{statuses_changed}

-- ---- the status

in-cons : (number : ℕ) (entry : List ℕ × MemberStatus) (members : Named MemberStatus)
    → status_in number (entry ∷ members) ≡ cond (entry.1.number == number) (Some entry.1) (status_in number members)
in-cons number entry members =
    elim (entry.1.number == number) as (λ b. option_map (λ (e : List ℕ × MemberStatus). e.1) (cond b (Some entry) (find (λ (e : List ℕ × MemberStatus). e.1.number == number) members))
    ≡ cond b (Some entry.1) (status_in number members)) [ true ↦ refl | false ↦ refl ]

in-number : (number : ℕ) (members : Named MemberStatus) (status : MemberStatus) → status_in number members ≡ Some status → status.number ≡ number
in-number number [] status h = absurd cc
in-number number (entry ∷ members) status h =
    by (entry.1.number == number) refl (sym (in-cons number entry members) ∙ h) (λ rest. in-number number members status rest)
  where
    by : (b : Bool) → (entry.1.number == number) ≡ b → cond b (Some entry.1) (status_in number members) ≡ Some status
        → (status_in number members ≡ Some status → status.number ≡ number) → status.number ≡ number
    by true is h more = let e : entry.1 ≡ status = cc in subst (λ (x : MemberStatus). x.number ≡ number) e (eqb-true entry.1.number number is)
    by false is h more = more h

-- the status that a number finds is of the member with this number
pub among-number : (number : ℕ) (files : Named FileState) (status : MemberStatus) → status_among number files ≡ Some status → status.number ≡ number
among-number number [] status h = absurd cc
among-number number (entry ∷ files) status h = by (is_some (status_in number entry.1.members)) h (λ rest. among-number number files status rest) where
  by : (b : Bool) → cond b (status_in number entry.1.members) (status_among number files) ≡ Some status → (status_among number files ≡ Some status → status.number ≡ number)
      → status.number ≡ number
  by true h more = in-number number entry.1.members status h
  by false h more = more h

module _ (g : MemberStatus → MemberStatus) (same : (status : MemberStatus) → (g status).number ≡ status.number) where
  in-changed : (number : ℕ) (members : Named MemberStatus)
      → status_in number (map (λ (member : List ℕ × MemberStatus). (member.0, g member.1)) members) ≡ option_map g (status_in number members)
  in-changed number [] = refl
  in-changed number (entry ∷ members) =
      in-cons number (entry.0, g entry.1) (map (λ (member : List ℕ × MemberStatus). (member.0, g member.1)) members)
      ∙ ap (λ (n : ℕ). cond (n == number) (Some (g entry.1)) (status_in number (map (λ (member : List ℕ × MemberStatus). (member.0, g member.1)) members))) (same entry.1)
      ∙ by (entry.1.number == number) (in-changed number members)
      ∙ ap (option_map g) (sym (in-cons number entry members))
    where
      by : (b : Bool) → status_in number (map (λ (member : List ℕ × MemberStatus). (member.0, g member.1)) members) ≡ option_map g (status_in number members)
          → cond b (Some (g entry.1)) (status_in number (map (λ (member : List ℕ × MemberStatus). (member.0, g member.1)) members))
          ≡ option_map g (cond b (Some entry.1) (status_in number members))
      by true rest = refl
      by false rest = rest

  some-mapped : (o : Option MemberStatus) → is_some (option_map g o) ≡ is_some o
  some-mapped None = refl
  some-mapped (Some status) = refl

  -- the status that a number finds, changed
  pub among-changed : (number : ℕ) (files : Named FileState) → status_among number (map (statuses_changed g) files) ≡ option_map g (status_among number files)
  among-changed number [] = refl
  among-changed number (entry ∷ files) =
      ap (λ (o : Option MemberStatus). cond (is_some o) o (status_among number (map (statuses_changed g) files))) (in-changed number entry.1.members)
      ∙ ap (λ (b : Bool). cond b (option_map g (status_in number entry.1.members)) (status_among number (map (statuses_changed g) files))) (some-mapped (status_in number entry.1.members))
      ∙ by (is_some (status_in number entry.1.members)) (among-changed number files)
    where
      by : (b : Bool) → status_among number (map (statuses_changed g) files) ≡ option_map g (status_among number files)
          → cond b (option_map g (status_in number entry.1.members)) (status_among number (map (statuses_changed g) files))
          ≡ option_map g (cond b (status_in number entry.1.members) (status_among number files))
      by true rest = refl
      by false rest = rest

-- ---- the member

-- a member of the library is one that the journal's catalogue has
pub numbered-there : (n : ℕ) (held : List HeldMember) (members : NumberedMembers) → map (λ (m : HeldMember). m.number) held ≡ map (λ entry. entry.number) members
    → is_some (member_at n members) ≡ true → (c : CatalogMember) × (find (has_number (Some n)) (map catalog_member held) ≡ Some c)
numbered-there n held [] same there = absurd cc
numbered-there n [] (entry ∷ members) same there = absurd cc
numbered-there n (m ∷ held) (entry ∷ members) same there =
    by (entry.number == n) refl there (λ rest. numbered-there n held members tails rest)
  where
    heads : m.number ≡ entry.number
    heads = cc

    tails : map (λ (x : HeldMember). x.number) held ≡ map (λ x. x.number) members
    tails = cc

    by : (b : Bool) → (entry.number == n) ≡ b → is_some (cond b (Some entry.item) (member_at n members)) ≡ true
        → (is_some (member_at n members) ≡ true → (c : CatalogMember) × (find (has_number (Some n)) (map catalog_member held) ≡ Some c))
        → (c : CatalogMember) × (cond (n == m.number) (Some (catalog_member m)) (find (has_number (Some n)) (map catalog_member held)) ≡ Some c)
    by true is some more =
        let here : (n == m.number) ≡ true = grind (arith, nat_tests, is, heads) in
        (catalog_member m, ap (λ (b : Bool). cond b (Some (catalog_member m)) (find (has_number (Some n)) (map catalog_member held))) here)
    by false is some more =
        let other : (n == m.number) ≡ false = grind (arith, nat_tests, is, heads) in
        let found = more some in
        (found.0, ap (λ (b : Bool). cond b (Some (catalog_member m)) (find (has_number (Some n)) (map catalog_member held))) other ∙ found.1)
