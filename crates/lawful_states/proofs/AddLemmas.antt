-- A library stays lawful with one member more in a file.
use Rattle.std.proofs.Common.{◌≡◌, ◌≢◌, ◌⊎◌, inl, inr, ℕ, ◌+◌, ◌<◌, true, false, cond, List, Some, subst, refl, sym, ◌∙◌, ap, arith}
use Rattle.std.specs.Option.{option_map}
use Rattle.std.proofs.lemmas.Bool.{cases_eq}
use Rattle.std.proofs.lemmas.Bool.Decides.{nat_tests}
use Rattle.member_slots.specs.Member.{empty_member}
use Rattle.member_slots.specs.Members.{member_at, put_member}
use Rattle.library_steps.specs.Layout.{record_length}
use Rattle.lawful_states.specs.Owners.{Owns, has_number}
use Rattle.lawful_states.proofs.NameLemmas.{same_name-equal, some-equal}
use Rattle.lawful_states.proofs.ChangeLemmas.{named-file_changed, changed-from}
use Rattle.lawful_states.proofs.StatusLemmas.{has_number-push}
use Rattle.library_steps.specs.Named.{named, same_name}
use Rattle.library_steps.specs.State.{State, FileState, fields_of, physical_among}
use Rattle.library_steps.specs.MemberCommands.{file_changed, with_member_name}
use Rattle.library_steps.specs.Replay.{before_of}
use Rattle.library_steps.specs.Rollback.{MemberChange}
use Rattle.lawful_states.specs.Lawful.{HoldsValues, IsThere, GoesBack, AreOne}
use Rattle.lawful_states.proofs.MemberLemmas.{item_at-put_item_other, item_at-put_item_same}
use Rattle.lawful_states.proofs.BaseLemmas.{AreBased-wider, OpenHolds-kept, kept-wider, physical-found}
use Rattle.lawful_states.proofs.LawfulLemmas.{jobs-each}
use Rattle.lawful_states.proofs.BackLemmas.{FitsPlace-same, AllGoBack-each}
use Rattle.lawful_states.proofs.FileLemmas.{number-below, Owns-below, bytes-put_member, numbers-put_member}

module _ (s : State) (bytes : ℕ) (name member : List ℕ) (file : FileState) (one : AreOne s bytes) (found : physical_among name s.files ≡ Some file) where
  there : named name s.files ≡ Some file
  there = (physical-found name s.files file found).0

  -- a file among those with the member is one that was there, or the one with the member
  split : (other : List ℕ) (another : FileState) → named other (file_changed name (with_member_name member s.next_member) s.files) ≡ Some another
      → ((before : FileState) × (named other s.files ≡ Some before) × (with_member_name member s.next_member before ≡ another) × (before ≡ file)) ⊎ (named other s.files ≡ Some another)
  split other another found =
      elim (same_name name other) as (λ b. same_name name other ≡ b
      → cond b (option_map (with_member_name member s.next_member) (named other s.files)) (named other s.files) ≡ Some another
      → ((before : FileState) × (named other s.files ≡ Some before) × (with_member_name member s.next_member before ≡ another) × (before ≡ file)) ⊎ (named other s.files ≡ Some another)) [
        | true ↦ λ same e. (
            let was = changed-from (with_member_name member s.next_member) (named other s.files) another e in
            let its : Some was.0 ≡ Some file = sym was.1 ∙ ap (λ (n : List ℕ). named n s.files) (sym (same_name-equal name other same)) ∙ there in
            inl (was.0, was.1, was.2, some-equal its))
        | false ↦ λ differ e. inr e
      ] refl (sym (named-file_changed name other (with_member_name member s.next_member) s.files) ∙ found)

  -- a member that was there
  kept : (other : List ℕ) (another : FileState) (number : ℕ) → Owns s.files other another number
      → IsThere (fields_of another) (member_at number (put_member s.next_member (empty_member (record_length (fields_of file))) s.members))
  kept other another number owns =
      let below = Owns-below s other another number one.lawful owns in
      let apart : number ≢ s.next_member = omega arith in
      subst (IsThere (fields_of another)) (sym (item_at-put_item_other number s.next_member (empty_member (record_length (fields_of file))) s.members apart))
      (one.lawful.members other another number owns)

  -- the new one
  new : (number : ℕ) → s.next_member ≡ number → IsThere (fields_of file) (member_at number (put_member s.next_member (empty_member (record_length (fields_of file))) s.members))
  new number here =
      let put : member_at number (put_member s.next_member (empty_member (record_length (fields_of file))) s.members) ≡ Some (empty_member (record_length (fields_of file))) = ap (λ
      (n : ℕ). member_at n (put_member s.next_member (empty_member (record_length (fields_of file))) s.members)) (sym here)
      ∙ item_at-put_item_same s.next_member (empty_member (record_length (fields_of file))) s.members in
      subst (IsThere (fields_of file)) (sym put) (record { long = refl; values = tt })

  IsThere-added : (other : List ℕ) (another : FileState) (number : ℕ)
      → ((before : FileState) × (named other s.files ≡ Some before) × (with_member_name member s.next_member before ≡ another) × (before ≡ file)) ⊎ (named other s.files ≡ Some another)
      → has_number number another.members ≡ true → IsThere (fields_of another) (member_at number (put_member s.next_member (empty_member (record_length (fields_of file))) s.members))
  IsThere-added other another number (inr found) has = kept other another number (record { there = found; has = has })
  IsThere-added other another number (inl was) has =
      let fields = ap (λ (f : FileState). fields_of f) was.2 in
      subst (λ fs. IsThere fs (member_at number (put_member s.next_member (empty_member (record_length (fields_of file))) s.members))) fields
      (elim (cases_eq s.next_member number) [
        | inl same ↦ subst (λ (f : FileState). IsThere (fields_of f) (member_at number (put_member s.next_member (empty_member (record_length (fields_of file))) s.members))) (sym was.3)
            (new number same)
        | inr differ ↦ (
            let more : has_number number (with_member_name member s.next_member was.0).members ≡ true = ap (λ (f : FileState). has_number number f.members) was.2 ∙ has in
            let either = sym (has_number-push number was.0.members member s.next_member) ∙ more in
            let before : has_number number was.0.members ≡ true = grind (arith, nat_tests) in
            kept other was.0 number (record { there = was.1; has = before }))
      ])

  -- the new member was changed by nobody
  values : (undo : MemberChange) → undo.member < s.next_member → ((before : List ℕ) (its : FileState) → Owns s.files before its undo.member → HoldsValues (fields_of its) (before_of undo.change))
      → (other : List ℕ) (another : FileState)
      → ((before : FileState) × (named other s.files ≡ Some before) × (with_member_name member s.next_member before ≡ another) × (before ≡ file)) ⊎ (named other s.files ≡ Some another)
      → has_number undo.member another.members ≡ true → HoldsValues (fields_of another) (before_of undo.change)
  values undo below held other another (inr found) has = held other another (record { there = found; has = has })
  values undo below held other another (inl was) has =
      let more : has_number undo.member (with_member_name member s.next_member was.0).members ≡ true = ap (λ (f : FileState). has_number undo.member f.members) was.2 ∙ has in
      let either = sym (has_number-push undo.member was.0.members member s.next_member) ∙ more in
      let differ : s.next_member ≢ undo.member = omega (arith, below) in
      let before : has_number undo.member was.0.members ≡ true = grind (arith, nat_tests) in
      subst (λ (f : FileState). HoldsValues (fields_of f) (before_of undo.change)) was.2 (held other was.0 (record { there = was.1; has = before }))

  goes-back : (sequence : ℕ) (undo : MemberChange) → GoesBack s.files s.members sequence undo
      → GoesBack (file_changed name (with_member_name member s.next_member) s.files) (put_member s.next_member (empty_member (record_length (fields_of file))) s.members) sequence undo
  goes-back sequence undo back =
      let below = number-below s.members undo.member s.next_member one.lawful.numbers back.place.there in
      let apart : undo.member ≢ s.next_member = omega (arith, below) in
      record {
        cycle = back.cycle;
        place = FitsPlace-same s.members (put_member s.next_member (empty_member (record_length (fields_of file))) s.members) undo
            (item_at-put_item_other undo.member s.next_member (empty_member (record_length (fields_of file))) s.members apart) back.place;
        values = λ other another owns. values undo below back.values other another (split other another owns.there) owns.has;
      }

  pub AreOne-member_added : AreOne (record s {
    files = file_changed name (with_member_name member s.next_member) s.files;
    members = put_member s.next_member (empty_member (record_length (fields_of file))) s.members;
    next_member = s.next_member + 1;
  }) bytes
  AreOne-member_added = let same = bytes-put_member s.members s.next_member (record_length (fields_of file)) one.lawful.numbers in let few = one.lawful.few in record {
    lawful = record {
      members = λ other another number owns. IsThere-added other another number (split other another owns.there) owns.has;
      bases = AreBased-wider s.files name member s.next_member file found one.lawful.bases;
      opens = jobs-each s.files (file_changed name (with_member_name member s.next_member) s.files)
          (OpenHolds-kept s.files (file_changed name (with_member_name member s.next_member) s.files) one.lawful.bases (kept-wider s.files name member s.next_member file found))
          s.jobs one.lawful.opens;
      changes = AllGoBack-each s.files (file_changed name (with_member_name member s.next_member) s.files) s.members
          (put_member s.next_member (empty_member (record_length (fields_of file))) s.members) goes-back s.jobs one.lawful.changes;
      numbers = numbers-put_member s.members s.next_member (empty_member (record_length (fields_of file))) one.lawful.numbers;
      keepers = one.lawful.keepers;
      few = omega (arith, same, few);
    };
    counted = one.counted ∙ sym same;
  }
