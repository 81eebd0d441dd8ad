-- What a journal leaves stands as the library that it leaves, where no commit cycle is open.
use Rattle.std.proofs.Common.{◌≡◌, ℕ, ◌≤◌, true, inl, inr, Option, Some, None, is_some, List, [], ◌∷◌, length, map, refl, sym, ap, ◌∙◌, subst}
use Rattle.std.specs.List.{AllByRecursion}
use Rattle.std.proofs.lemmas.List.{append-nil}
use Rattle.entry_codec.specs.declared.entries.Entry.{Entry}
use Rattle.member_slots.specs.declared.slot.Slot.{Slot}
use Rattle.member_slots.specs.Member.{IsMember, records}
use Rattle.member_slots.specs.Members.{NumberedMembers, member_of}
use Rattle.journal_model.specs.Catalogue.{Catalogue, CatalogMember, empty_catalogue}
use Rattle.journal_model.specs.Journal.{Journal, StaysMembers, acts_after, catalogue_of, record_length, start_of, state_of}
use Rattle.journal_model.specs.Replay.{replay}
use Rattle.journal_model.specs.Replayable.{is_one_of}
use Rattle.journal_model.specs.Rollback.{MemberChange}
use Rattle.journal_replay.specs.Left.{IsLeft}
use Rattle.journal_replay.specs.SoFar.{CanReplaySoFar}
use Rattle.journal_replay.specs.Standing.{HeldMember, Standing, catalog_member, catalogue_in}
use Rattle.library_model.specs.Named.{Named, named}
use Rattle.library_steps.specs.SlotChange.{status_among}
use Rattle.library_steps.specs.State.{FileState, new_job}
use Rattle.restart_model.specs.Libraries.{file_left, files_left, journal_with, member_left, status_left}
use Rattle.restart_model.specs.Sources.{descriptions, described_files}
use Rattle.replayed_histories.proofs.CatalogueLemmas.{empty-is}
use Rattle.replayed_histories.proofs.DescribedLemmas.{Among}
use Rattle.replayed_histories.proofs.GoesLemmas.{numbered-among}
use Rattle.replayed_histories.proofs.StandLemmas.{Stands, stands-all}
use Rattle.replayed_histories.specs.Shown.{AreDifferent, catalog_shown, cycle_numbers, file_shown, memberless}
use Rattle.replayed_histories.specs.Replayed.{CyclesStand, HasItsChanges, IsHeldWithin, MemberStands, StandsAs}
use Rattle.replayed_restarts.proofs.CountedLemmas.{AreCounted, entries-counted, nothing-counted}
use Rattle.replayed_restarts.proofs.FileLemmas.{IsDescribed, entries-described, nothing-described, whole-is}
use Rattle.replayed_restarts.proofs.ShownLemmas.{HasFields, file-there, files-fields, files-memberless, files-shown, members-shown, nothing-there, numbers-shown, slots-there, status-there, then-counted}

-- ---- lists

pub each-of-among : {X : Type 0} (P : X → Type 0) (xs : List X) → ((x : X) → Among x xs → P x) → AllByRecursion P xs
each-of-among P [] all = tt
each-of-among P (x ∷ xs) all = (all x (inl refl), each-of-among P xs (λ y among. all y (inr among)))

each-unmapped : {A B : Type 0} (P : B → Type 0) (f : A → B) (xs : List A) → AllByRecursion P (map f xs) → AllByRecursion (λ x. P (f x)) xs
each-unmapped P f [] all = tt
each-unmapped P f (x ∷ xs) all = (all.0, each-unmapped P f xs all.1)

each-two : {X : Type 0} (P Q R : X → Type 0) (xs : List X) → ((x : X) → P x → Q x → R x) → AllByRecursion P xs → AllByRecursion Q xs → AllByRecursion R xs
each-two P Q R [] both p q = tt
each-two P Q R (x ∷ xs) both p q = (both x p.0 q.0, each-two P Q R xs both p.1 q.1)

-- ---- a journal from the beginning

module _ (entries : List Entry) (so_far : CanReplaySoFar descriptions (journal_with entries)) where
  abbrev j : Journal
  j = journal_with entries

  -- what holds of its members and their slots
  pub journal-stands : Stands (catalogue_of j) (λ member. replay (start_of j member) (acts_after j member)) entries
  journal-stands =
      stands-all entries empty_catalogue (λ member. start_of j member) [] None
      (record { is = empty-is; plain = tt; holds = λ m among. absurd among; fresh = λ number above. (refl, refl); told = tt }) so_far.enters so_far.records so_far.replays

  pub journal-described : IsDescribed (catalogue_of j).files
  journal-described = entries-described entries empty_catalogue nothing-described so_far.enters

  pub journal-counted : AreCounted (catalogue_of j)
  journal-counted = entries-counted entries empty_catalogue nothing-counted so_far.enters

-- ---- commit cycles

no-cycles : (names : List (List ℕ)) → cycle_numbers (map new_job names) ≡ []
no-cycles [] = refl
no-cycles (name ∷ names) = no-cycles names

no-changes : (undos : List MemberChange) (names : List (List ℕ)) → AllByRecursion (HasItsChanges undos) (map new_job names)
no-changes undos [] = tt
no-changes undos (name ∷ names) = (tt, no-changes undos names)

closed-stand : (next : ℕ) (names : List (List ℕ)) → CyclesStand next [] [] (map new_job names)
closed-stand next names = record {
  same = λ n. ap (λ (numbers : List ℕ). is_one_of numbers n) (sym (no-cycles names));
  rising = tt;
  apart = subst AreDifferent (sym (no-cycles names)) tt;
  begun = tt;
  changes = no-changes [] names;
  owned = tt;
}

-- ---- what is left

module _ (entries : List Entry) (left : Standing) (l : IsLeft descriptions (λ member. 0) (journal_with entries) left) where
  abbrev its : Journal
  its = journal_with entries

  abbrev c : Catalogue
  c = catalogue_of (journal_with entries)

  abbrev files : Named FileState
  files = files_left (λ member. 0) (journal_with entries)

  abbrev members : NumberedMembers
  members = map (member_left (files_left (λ member. 0) (journal_with entries)) (journal_with entries)) (catalogue_of (journal_with entries)).members

  stood : Stands c (λ member. replay (start_of its member) (acts_after its member)) entries
  stood = journal-stands entries l.so_far

  described : IsDescribed c.files
  described = journal-described entries l.so_far

  files_are : files ≡ map (file_left (λ member. 0) its) described.files
  files_are = ap (map (file_left (λ member. 0) its)) (whole-is c.files described)

  same_members : map catalog_member left.members ≡ c.members
  same_members = ap (λ (k : Catalogue). k.members) l.catalogue

  -- what holds of each member of the catalogue holds of each that is held
  of-held : (P : CatalogMember → Type 0) → ((m : CatalogMember) → Among m c.members → P m) → AllByRecursion (λ (m : HeldMember). P (catalog_member m)) left.members
  of-held P all = each-unmapped P catalog_member left.members (subst (AllByRecursion P) (sym same_members) (each-of-among P c.members all))

  record IsThere (m : CatalogMember) : Type 0 where
    counted : 1 ≤ m.number
    status : status_among m.number files ≡ Some (status_left (λ member. 0) its m).1
    slots : (member_of m.number members).slots ≡ (state_of its m.number).slots

  each-there : (m : CatalogMember) → Among m c.members → 1 ≤ m.number → IsThere m
  each-there m among counted = record {
    counted = counted;
    status = status-there (λ member. 0) its stood.is stood.plain m among;
    slots = slots-there (λ member. 0) its stood.is stood.plain m among;
  }

  -- each of them is counted
  counted-held : AllByRecursion (λ (m : HeldMember). 1 ≤ m.number) left.members
  counted-held =
      each-unmapped (λ (m : CatalogMember). 1 ≤ m.number) catalog_member left.members
      (subst (AllByRecursion (λ (m : CatalogMember). 1 ≤ m.number)) (sym same_members) (journal-counted entries l.so_far).members)

  member-stands : (m : HeldMember) → m.slots ≡ (state_of its m.number).slots → IsThere (catalog_member m) → MemberStands files members m
  member-stands m is there = record {
    counted = there.counted;
    status = (status_left (λ member. 0) its (catalog_member m)).1;
    found = there.status;
    images = refl;
    journaled = λ on. is ∙ sym there.slots;
    ended = λ off. record {
      records_then = then-counted m.images (state_of its m.number).slots off ∙ ap (λ (slots : List Slot). length (records (record { record_length = 0; slots = slots }))) (sym is);
      unchanged = λ so. is ∙ sym there.slots;
    };
  }

  slots-stand : AllByRecursion (MemberStands files members) left.members
  slots-stand =
      each-two (λ (m : HeldMember). m.slots ≡ (state_of its m.number).slots) (λ (m : HeldMember). IsThere (catalog_member m)) (MemberStands files members) left.members
      (λ m is there. member-stands m is there) l.slots
      (each-two (λ (m : HeldMember). 1 ≤ m.number) (λ (m : HeldMember). 1 ≤ m.number → IsThere (catalog_member m)) (λ (m : HeldMember). IsThere (catalog_member m)) left.members
      (λ m counted placed. placed counted) counted-held
      (of-held (λ (m : CatalogMember). 1 ≤ m.number → IsThere m) (λ m among counted. each-there m among counted)))

  pub library-stands : left.cycles ≡ [] → left.undos ≡ [] → (names : List (List ℕ)) → StandsAs left files members c.next_member (map new_job names)
  library-stands closed undone names = record {
    files_are = ap (λ (k : Catalogue). map catalog_shown k.files) l.catalogue ∙ files-shown (λ member. 0) its c.files [] described.files described.are ∙ ap (map file_shown) (sym files_are);
    described = ap (λ (k : Catalogue). described_files k.files) l.catalogue ∙ whole-is c.files described
        ∙ files-memberless (λ member. 0) its c.files [] described.files described.are ∙ ap (map memberless) (sym files_are);
    fields_are = subst (λ (k : Catalogue). AllByRecursion (HasFields (λ member. 0) its k.files) files) (sym l.catalogue)
        (subst (AllByRecursion (HasFields (λ member. 0) its c.files)) (sym files_are)
        (files-fields (λ member. 0) its c.files c.files [] described.files described.are stood.is.names (nothing-there c.files) (whole-is c.files described) stood.plain));
    members_are = members-shown (λ member. 0) its left.members same_members (described_files c.files);
    homes = of-held (λ (m : CatalogMember). is_some (named m.file files) ≡ true)
        (λ m among. ap (λ (o : Option FileState). is_some o) (file-there (λ member. 0) its stood.is stood.plain m among).1);
    numbers = numbers-shown (λ member. 0) its files left.members ∙ ap (λ (ms : List CatalogMember). map (λ entry. entry.number) (map (member_left files its) ms)) same_members;
    next_is = ap (λ (k : Catalogue). k.next_member) l.catalogue;
    slots = slots-stand;
    cycles_are = subst (λ (cycles : List ℕ). CyclesStand left.next cycles left.undos (map new_job names)) (sym closed)
        (subst (λ (undos : List MemberChange). CyclesStand left.next [] undos (map new_job names)) (sym undone) (closed-stand left.next names));
  }

  abbrev Fits : CatalogMember → Type 0
  Fits m = IsMember (record { record_length = record_length descriptions c m; slots = (state_of its m.number).slots })

  -- and its members are within their limits
  pub held-within : StaysMembers descriptions (journal_with entries) → AllByRecursion (IsHeldWithin left) left.members
  held-within limits =
      each-two (λ (m : HeldMember). m.slots ≡ (state_of its m.number).slots) (λ (m : HeldMember). Fits (catalog_member m)) (IsHeldWithin left) left.members within l.slots
      (of-held Fits (λ m among. limits entries [] m (sym (append-nil entries)) (numbered-among c.members m stood.is.numbers among)))
    where
      within : (m : HeldMember) → m.slots ≡ (state_of its m.number).slots → Fits (catalog_member m) → IsHeldWithin left m
      within m is fits =
          subst (λ (slots : List Slot). IsMember (record { record_length = record_length descriptions (catalogue_in left) (catalog_member m); slots = slots })) (sym is)
          (subst (λ (k : Catalogue). IsMember (record { record_length = record_length descriptions k (catalog_member m); slots = (state_of its m.number).slots })) (sym l.catalogue) fits)
