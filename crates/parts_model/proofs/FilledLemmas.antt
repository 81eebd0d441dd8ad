-- A library stays one where the next number rises, and where a member takes the place of one that is there.
use Rattle.std.proofs.Common.{ℕ, ◌+◌, ◌<◌, ◌≤◌, ◌≡◌, ◌==◌, inl, inr, true, false, cond, List, [], ◌∷◌, Some, IsSome, refl, sym, ap, arith, ◌∙◌, subst}
use Rattle.std.specs.Prelude.{All}
use Rattle.std.specs.List.{AllByRecursion}
use Rattle.std.specs.Option.{is_some}
use Rattle.std.proofs.lemmas.Bool.{cases_eq}
use Rattle.std.proofs.lemmas.Bool.Decides.{nat_tests}
use Rattle.std.proofs.lemmas.List.Elements.{All-from_recursion, recursion_from_All}
use Rattle.record_fmt.specs.declared.formats.Field.{Field}
use Rattle.record_fmt.specs.Layout.{record_length}
use Rattle.member_slots.specs.declared.slot.Slot.{Slot}
use Rattle.member_slots.specs.declared.slot.Slot.TheVariants.{Live, Deleted}
use Rattle.member_slots.specs.Member.{MemberState, FitsSlot, IsMember}
use Rattle.member_slots.specs.Members.{Numbered, NumberedMembers, AreMembers, member_at, member_of, put_member, with_member}
use Rattle.file_catalogue.specs.KeyedFiles.{IsRecordSlot}
use Rattle.lawful_states.specs.Lawful.{AreOne, HasRecords, HoldsValues}
use Rattle.lawful_states.specs.Owners.{Owns}
use Rattle.lawful_states.specs.Slots.{MayStand, weight}
use Rattle.lawful_states.proofs.BackLemmas.{AllGoBack-unused}
use Rattle.lawful_states.proofs.LawfulLemmas.{AreOne-with_member}
use Rattle.lawful_states.proofs.MemberLemmas.{HasRecords-member_of, at-member_of, is_some-IsSome, library_bytes-with}
use Rattle.library_paths.proofs.ListLemmas.{EachTwo, two-from}
use Rattle.library_steps.specs.Ranges.{library_bytes}
use Rattle.library_steps.specs.State.{State, FileState, fields_of}
use Rattle.parts_model.specs.Indexed.{HasBytes}
use Rattle.parts_model.specs.Filled.{MayFill}

-- ---- the next number

below-more : (next more : ℕ) → next ≤ more → (members : NumberedMembers) → AllByRecursion (λ (entry : Numbered MemberState). entry.number < next) members
    → AllByRecursion (λ (entry : Numbered MemberState). entry.number < more) members
below-more next more fewer [] all = tt
below-more next more fewer (entry ∷ members) all = (let low = all.0 in omega (arith, low, fewer), below-more next more fewer members all.1)

pub AreOne-passed : (s : State) (bytes next : ℕ) → s.next_member ≤ next → AreOne s bytes → AreOne (record s { next_member = next }) bytes
AreOne-passed s bytes next fewer one = record {
  lawful = record {
    members = one.lawful.members;
    bases = one.lawful.bases;
    opens = one.lawful.opens;
    changes = one.lawful.changes;
    numbers = below-more s.next_member next fewer s.members one.lawful.numbers;
    keepers = one.lawful.keepers;
    few = one.lawful.few;
  };
  counted = one.counted;
}

-- ---- a member that is put where one is there

abbrev IsBelow : Numbered MemberState → Numbered MemberState → Type 0
IsBelow former later = former.number < later.number

below-there : (low number : ℕ) (members : NumberedMembers) → AllByRecursion (λ (later : Numbered MemberState). low < later.number) members → is_some (member_at number members) ≡ true → low < number
below-there low number [] all there = absurd cc
below-there low number (entry ∷ members) all there =
    elim (cases_eq entry.number number) [
      | inl same ↦ (let here = all.0 in omega (arith, same, here))
      | inr differs ↦ below-there low number members all.1 (grind (arith, nat_tests, differs, there))
    ]

with-two : (number : ℕ) (member : MemberState) (members : NumberedMembers) → EachTwo IsBelow members → is_some (member_at number members) ≡ true
    → put_member number member members ≡ with_member number member members
with-two number member [] two there = absurd cc
with-two number member (entry ∷ members) two there =
    elim (cases_eq entry.number number) [
      | inl same ↦ grind (arith, nat_tests, same)
      | inr differs ↦ (
          let later : is_some (member_at number members) ≡ true = grind (arith, nat_tests, differs, there) in
          let low : entry.number < number = below-there entry.number number members two.0 later in
          grind (arith, nat_tests, low, differs, with-two number member members two.1 later))
    ]

pub with-put : (number : ℕ) (member : MemberState) (members : NumberedMembers) → AreMembers members → IsSome (member_at number members)
    → put_member number member members ≡ with_member number member members
with-put number member members are there = with-two number member members (two-from IsBelow members are.rising) (is_some-IsSome (member_at number members) there)

-- ---- what stands in it

each-value : (s : State) (number : ℕ) (name : List ℕ) (file : FileState) → Owns s.files name file number → (slots : List Slot) → AllByRecursion (λ (slot : Slot). MayStand s number slot) slots
    → AllByRecursion (HoldsValues (fields_of file)) slots
each-value s number name file owns [] all = tt
each-value s number name file owns (slot ∷ slots) all = (all.0 name file owns, each-value s number name file owns slots all.1)

each-record : (fields : List Field) (length_is : ℕ) (slots : List Slot) → length_is ≡ record_length fields → AllByRecursion (FitsSlot length_is) slots → AllByRecursion (HoldsValues fields) slots
    → AllByRecursion HasBytes slots → AllByRecursion (IsRecordSlot fields) slots
each-record fields length_is [] long fits values bytes = tt
each-record fields length_is (Live image ∷ slots) long fits values bytes =
    (record { long = fits.0 ∙ long; held = values.0; bytes = bytes.0 }, each-record fields length_is slots long fits.1 values.1 bytes.1)
each-record fields length_is (Deleted ∷ slots) long fits values bytes = (tt, each-record fields length_is slots long fits.1 values.1 bytes.1)

module _ (s : State) (number : ℕ) (member : MemberState) (may : MayFill s number member) where
  filled-has : (lawful_bytes : ℕ) → AreOne s lawful_bytes → (name : List ℕ) (file : FileState) → Owns s.files name file number → HasRecords (fields_of file) member
  filled-has bytes one name file owns = record {
    long = may.long ∙ (HasRecords-member_of (fields_of file) number s.members (one.lawful.members name file number owns)).long;
    values = each-value s number name file owns member.slots may.values;
  }

  -- each slot has a record of its file, or none
  pub filled-records : (bytes : ℕ) → AreOne s bytes → IsMember member → (name : List ℕ) (file : FileState) → Owns s.files name file number → All (IsRecordSlot (fields_of file)) member.slots
  filled-records bytes one is name file owns =
      let has = filled-has bytes one name file owns in
      All-from_recursion (IsRecordSlot (fields_of file)) member.slots
      (each-record (fields_of file) member.record_length member.slots has.long (recursion_from_All (FitsSlot member.record_length) member.slots is.records) has.values may.bytes)

  pub AreOne-filled : (bytes after : ℕ) → AreOne s bytes → after + weight (member_of number s.members) ≡ bytes + weight member → AreOne (record s { members = with_member number member s.members }) after
  AreOne-filled bytes after one is =
      let old = member_of number s.members in
      let here : member_at number s.members ≡ Some old = at-member_of number s.members (is_some-IsSome (member_at number s.members) may.there) in
      let sum = library_bytes-with number old member s.members here in
      let counted = one.counted in
      let few = may.few in
      AreOne-with_member s bytes after number member one (filled-has bytes one) (omega (arith, sum, counted, is)) (omega (arith, sum, few))
      (AllGoBack-unused s.files s.members number member s.locks s.jobs may.unused one.lawful.changes)
