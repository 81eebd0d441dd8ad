-- A library stays lawful with one file more.
use Rattle.std.proofs.Common.{◌≡◌, ◌≢◌, ◌⊎◌, inl, inr, ℕ, ◌+◌, ◌*◌, ◌<◌, nat_lt, nat_eq, true, List, [], ◌∷◌, ◌++◌, Some, None, is_some, IsSome, subst, refl, sym, ◌∙◌, ap, arith}
use Rattle.std.specs.List.{AllByRecursion, IsDistinct}
use Rattle.std.specs.Map.{keys_of}
use Rattle.std.proofs.lemmas.Bool.Decides.{nat_tests}
use Rattle.member_slots.specs.Member.{MemberState, empty_member}
use Rattle.member_slots.specs.Members.{NumberedMembers, member_at, put_member}
use Rattle.library_steps.specs.Layout.{record_length}
use Rattle.library_steps.below.dds_physical.specs.declared.physical_files.PhysicalSpec.{PhysicalSpec}
use Rattle.library_steps.specs.Bases.{FileSpec, PhysicalFile, LogicalFile}
use Rattle.lawful_states.specs.Owners.{Owns, has_number}
use Rattle.lawful_states.specs.Physical.{IsPhysical}
use Rattle.lawful_states.proofs.NameLemmas.{named-append}
use Rattle.lawful_states.proofs.OwnerLemmas.{unowned-status}
use Rattle.library_steps.specs.Named.{Named, named, same_name}
use Rattle.library_steps.specs.State.{State, FileState, MemberStatus, fields_of}
use Rattle.library_steps.specs.CreatePhysicalFile.{new_status}
use Rattle.library_steps.specs.Ranges.{library_bytes}
use Rattle.library_steps.specs.SlotChange.{status_among}
use Rattle.library_steps.specs.Replay.{before_of}
use Rattle.library_steps.specs.Rollback.{MemberChange}
use Rattle.lawful_states.specs.Lawful.{HoldsValues, IsThere, IsBased, GoesBack, IsLibrary, AreOne}
use Rattle.lawful_states.proofs.MemberLemmas.{item_at-put_item_other, item_at-put_item_same, IsThere-is_some, library_bytes-cons}
use Rattle.lawful_states.specs.Slots.{weight}
use Rattle.lawful_states.proofs.BaseLemmas.{AreBased-more, OpenHolds-kept, kept-more, named-only, some-is}
use Rattle.lawful_states.proofs.LawfulLemmas.{jobs-each}
use Rattle.lawful_states.proofs.BackLemmas.{FitsPlace-same, GoesBack-values, AllGoBack-each}

-- ---- numbers

-- a member that is there has a number below the next
pub number-below : (members : NumberedMembers) (number next : ℕ) → AllByRecursion (λ entry. entry.number < next) members → is_some (member_at number members) ≡ true → number < next
number-below [] number next all there = absurd cc
number-below (entry ∷ members) number next all there = grind (arith, nat_tests, all.0, number-below members number next all.1)

pub Owns-below : (s : State) (name : List ℕ) (file : FileState) (number : ℕ) → IsLibrary s → Owns s.files name file number → number < s.next_member
Owns-below s name file number lawful owns =
    number-below s.members number s.next_member lawful.numbers (IsThere-is_some (fields_of file) (member_at number s.members) (lawful.members name file number owns))

-- no file has the next number
pub next-unowned : (s : State) → IsLibrary s → IsDistinct same_name (keys_of s.files) → status_among s.next_member s.files ≡ None
next-unowned s lawful distinct =
    (unowned-status s.next_member s.files distinct (λ name file owns. let below = Owns-below s name file s.next_member lawful owns in absurd (omega arith))).0

pub distinct-one : (number : ℕ) → IsDistinct nat_eq (number ∷ [])
unfolding IsDistinct
distinct-one number = (tt, tt)

pub numbers-put_member : (members : NumberedMembers) (next : ℕ) (member : MemberState) → AllByRecursion (λ entry. entry.number < next) members
    → AllByRecursion (λ entry. entry.number < next + 1) (put_member next member members)
numbers-put_member [] next member all = (omega arith, tt)
numbers-put_member (entry ∷ members) next member all = grind (arith, nat_tests, all.0, numbers-put_member members next member all.1)

-- a member without slots has no bytes
pub bytes-put_member : (members : NumberedMembers) (next long : ℕ) → AllByRecursion (λ entry. entry.number < next) members
    → library_bytes (put_member next (empty_member long) members) ≡ library_bytes members
bytes-put_member [] next long all = let none : 0 + 0 * long ≡ 0 = omega arith in none
bytes-put_member (entry ∷ members) next long all =
    let below : nat_lt entry.number next ≡ true = (let less = all.0 in grind (arith, nat_tests)) in
    let rest = bytes-put_member members next long all.1 in
    let before = library_bytes-cons entry members in
    let after = library_bytes-cons entry (put_member next (empty_member long) members) in
    rw below (after ∙ ap (λ n. weight entry.item + n) rest ∙ sym before)

module _ (s : State) (bytes : ℕ) (name member : List ℕ) (file : FileState) (one : AreOne s bytes) (based : IsBased s.files name file.members file.spec)
    (first : file.members ≡ (member, new_status s.next_member) ∷ []) where
  -- its one member has the next number
  first_number : (another : FileState) (number : ℕ) → file ≡ another → has_number number another.members ≡ true → s.next_member ≡ number
  first_number another number same has =
      let here : has_number number ((member, new_status s.next_member) ∷ []) ≡ true = subst (λ (m : Named MemberStatus). has_number number m ≡ true) (ap (λ (f : FileState). f.members)
      (sym same) ∙ first) has in
      grind (arith, nat_tests, here)

  IsThere-put : (other : List ℕ) (another : FileState) (number : ℕ) → (named other s.files ≡ Some another) ⊎ ((other ≡ name) × (file ≡ another)) → has_number number another.members ≡ true
      → IsThere (fields_of another) (member_at number (put_member s.next_member (empty_member (record_length (fields_of file))) s.members))
  IsThere-put other another number (inl there) has =
      let owns : Owns s.files other another number = record { there = there; has = has } in
      let below = Owns-below s other another number one.lawful owns in
      let apart : number ≢ s.next_member = omega arith in
      subst (IsThere (fields_of another)) (sym (item_at-put_item_other number s.next_member (empty_member (record_length (fields_of file))) s.members apart))
      (one.lawful.members other another number owns)
  IsThere-put other another number (inr same) has =
      let here = first_number another number same.1 has in
      let put : member_at number (put_member s.next_member (empty_member (record_length (fields_of file))) s.members) ≡ Some (empty_member (record_length (fields_of file))) = ap (λ
      (n : ℕ). member_at n (put_member s.next_member (empty_member (record_length (fields_of file))) s.members)) (sym here)
      ∙ item_at-put_item_same s.next_member (empty_member (record_length (fields_of file))) s.members in
      subst (λ (f : FileState). IsThere (fields_of f) (member_at number (put_member s.next_member (empty_member (record_length (fields_of file))) s.members))) same.1 (subst (IsThere
      (fields_of file)) (sym put) (record { long = refl; values = tt }))

  -- the new file has no member that was changed
  values : (undo : MemberChange) → undo.member < s.next_member → ((before : List ℕ) (its : FileState) → Owns s.files before its undo.member → HoldsValues (fields_of its) (before_of undo.change))
      → (other : List ℕ) (another : FileState) → (named other s.files ≡ Some another) ⊎ ((other ≡ name) × (file ≡ another)) → has_number undo.member another.members ≡ true
      → HoldsValues (fields_of another) (before_of undo.change)
  values undo below held other another (inl there) has = held other another (record { there = there; has = has })
  values undo below held other another (inr same) has = let here = first_number another undo.member same.1 has in absurd (omega (arith, here, below))

  goes-back : (sequence : ℕ) (undo : MemberChange) → GoesBack s.files s.members sequence undo
      → GoesBack (s.files ++ (name, file) ∷ []) (put_member s.next_member (empty_member (record_length (fields_of file))) s.members) sequence undo
  goes-back sequence undo back =
      let below = number-below s.members undo.member s.next_member one.lawful.numbers back.place.there in
      let apart : undo.member ≢ s.next_member = omega (arith, below) in
      record {
        cycle = back.cycle;
        place = FitsPlace-same s.members (put_member s.next_member (empty_member (record_length (fields_of file))) s.members) undo
            (item_at-put_item_other undo.member s.next_member (empty_member (record_length (fields_of file))) s.members apart) back.place;
        values = λ other another owns. values undo below back.values other another (named-append other name s.files file another owns.there) owns.has;
      }

  pub AreOne-with_file : AreOne (record s {
    files = s.files ++ (name, file) ∷ [];
    members = put_member s.next_member (empty_member (record_length
        (fields_of file))) s.members;
    next_member = s.next_member + 1;
  }) bytes
  AreOne-with_file = let same = bytes-put_member s.members s.next_member (record_length (fields_of file)) one.lawful.numbers in let few = one.lawful.few in record {
    lawful = record {
      members = λ other another number owns. IsThere-put other another number (named-append other name s.files file another owns.there) owns.has;
      bases = AreBased-more s.files name file one.lawful.bases based;
      opens = jobs-each s.files (s.files ++ (name, file) ∷ []) (OpenHolds-kept s.files (s.files ++ (name, file) ∷ []) one.lawful.bases (kept-more s.files (name, file))) s.jobs one.lawful.opens;
      changes = AllGoBack-each s.files (s.files ++ (name, file) ∷ []) s.members (put_member s.next_member (empty_member (record_length (fields_of file))) s.members) goes-back s.jobs one.lawful.changes;
      numbers = numbers-put_member s.members s.next_member (empty_member (record_length (fields_of file))) one.lawful.numbers;
      keepers = one.lawful.keepers;
      few = omega (arith, same, few);
    };
    counted = one.counted ∙ sym same;
  }

-- a physical file is based on its first member
pub based-physical : (files : Named FileState) (name : List ℕ) (file : FileState) (status : MemberStatus) → IsPhysical file.spec → file.members ≡ (name, status) ∷ []
    → IsBased files name file.members file.spec
based-physical files name file status physical first =
    by file.spec physical (some-is (ap (λ (members : Named MemberStatus). named name members) first ∙ named-only name status))
  where
    by : (spec : FileSpec) → IsPhysical spec → IsSome (named name file.members) → IsBased files name file.members spec
    by (PhysicalFile spec) is has = has
    by (LogicalFile spec) is has = absurd is

pub based-first : (s : State) (name : List ℕ) (file : FileState) (spec : PhysicalSpec) (status : MemberStatus) → file.spec ≡ PhysicalFile spec → file.members ≡ (name, status) ∷ []
    → IsBased s.files name file.members file.spec
based-first s name file spec status is first = based-physical s.files name file status (subst IsPhysical (sym is) tt) first

-- ---- a file more that has no members, as a logical file

module _ (s : State) (bytes : ℕ) (name : List ℕ) (file : FileState) (one : AreOne s bytes) (based : IsBased s.files name file.members file.spec) (none : file.members ≡ []) where
  -- none of the members is its own
  no-number : (another : FileState) (number : ℕ) → file ≡ another → has_number number another.members ≡ true → ⊥
  no-number another number same has =
      let here : has_number number [] ≡ true = subst (λ (m : Named MemberStatus). has_number number m ≡ true) (ap (λ (f : FileState). f.members) (sym same) ∙ none) has in
      absurd cc

  IsThere-more : (other : List ℕ) (another : FileState) (number : ℕ) → (named other s.files ≡ Some another) ⊎ ((other ≡ name) × (file ≡ another)) → has_number number another.members ≡ true
      → IsThere (fields_of another) (member_at number s.members)
  IsThere-more other another number (inl there) has = one.lawful.members other another number (record { there = there; has = has })
  IsThere-more other another number (inr same) has = absurd (no-number another number same.1 has)

  values-more : (undo : MemberChange) → ((before : List ℕ) (its : FileState) → Owns s.files before its undo.member → HoldsValues (fields_of its) (before_of undo.change))
      → (other : List ℕ) (another : FileState) → (named other s.files ≡ Some another) ⊎ ((other ≡ name) × (file ≡ another)) → has_number undo.member another.members ≡ true
      → HoldsValues (fields_of another) (before_of undo.change)
  values-more undo held other another (inl there) has = held other another (record { there = there; has = has })
  values-more undo held other another (inr same) has = absurd (no-number another undo.member same.1 has)

  pub AreOne-with_logical : AreOne (record s { files = s.files ++ (name, file) ∷ [] }) bytes
  AreOne-with_logical = record {
    lawful = record {
      members = λ other another number owns. IsThere-more other another number (named-append other name s.files file another owns.there) owns.has;
      bases = AreBased-more s.files name file one.lawful.bases based;
      opens = jobs-each s.files (s.files ++ (name, file) ∷ []) (OpenHolds-kept s.files (s.files ++ (name, file) ∷ []) one.lawful.bases (kept-more s.files (name, file))) s.jobs one.lawful.opens;
      changes = AllGoBack-each s.files (s.files ++ (name, file) ∷ []) s.members s.members
          (λ sequence undo back. GoesBack-values s.files (s.files ++ (name, file) ∷ []) s.members sequence undo
          (λ other another owns. values-more undo back.values other another (named-append other name s.files file another owns.there) owns.has) back) s.jobs one.lawful.changes;
      numbers = one.lawful.numbers;
      keepers = one.lawful.keepers;
      few = one.lawful.few;
    };
    counted = one.counted;
  }
