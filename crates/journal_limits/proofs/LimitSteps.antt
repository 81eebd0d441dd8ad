-- The members of a journal with an entry more stay within their limits exactly where the member that the entry names is within them.
use Rattle.std.proofs.Common.{◌≡◌, ◌≤◌, ℕ, ◌*◌, ◌==◌, ◌||◌, Bool, true, false, cond, if◌then◌else◌, Option, Some, None, List, [], ◌∷◌, map, length, refl, sym, ◌∙◌, ap, subst, inl, inr, arith}
use Rattle.std.specs.Prelude.{nat_le}
use Rattle.std.specs.List.{AllByRecursion, find}
use Rattle.std.proofs.lemmas.Bool.{and_parts, eqb-true}
use Rattle.std.proofs.lemmas.Bool.Decides.{nat_tests}
use Rattle.std.proofs.lemmas.List.{append-nil}
use Rattle.std.proofs.lemmas.List.Elements.{All-from_recursion, recursion_from_All}
use Rattle.entry_codec.specs.declared.entries.Entry.{Entry}
use Rattle.member_slots.specs.declared.slot.Slot.{Slot}
use Rattle.member_slots.specs.Member.{FitsSlot, IsMember}
use Rattle.journal_model.specs.Acts.{act, act_elsewhere, act_there, entry_before, is_number}
use Rattle.journal_model.specs.Catalogue.{Catalogue, CatalogMember, Descriptions, MayEnterAll, catalogue_after, catalogue_by, empty_catalogue, has_number, member_numbered}
use Rattle.journal_model.specs.Images.{images_of}
use Rattle.journal_model.specs.Journal.{Journal, StaysMembers, acts_after, catalogue_of, entries as entries_of, record_length, start_of, state_of}
use Rattle.journal_model.specs.Replay.{State, moved, replay}
use Rattle.journal_model.proofs.ReplayLemmas.{replay-append}
use Rattle.journal_replay.specs.Left.{IsLeft, is_held}
use Rattle.journal_replay.specs.SoFar.{AreWithinLimits, MayComeNext, with_entry}
use Rattle.journal_replay.specs.Standing.{HeldMember, Standing, catalog_member, catalogue_in, slots_at}
use Rattle.journal_replay.proofs.KindLemmas.{absent_act, held-found, quiet_slots}
use Rattle.journal_replay.proofs.LimitLemmas.{limits-last, limits-push}
use Rattle.journal_replay.proofs.SoFarLemmas.{acts_with, catalogue_after-append, so_far-last}
use Rattle.journal_limits.specs.Fits.{fits_found, fits_named, may_have}
use Rattle.journal_limits.specs.Lengths.{IsNewTo, KeepsLengths, WasAsLong, journal_of}
use Rattle.journal_limits.proofs.MovedLemmas.{gives-there, moved-holds}

-- ---- numbers

number-of : (o : Option ℕ) (n : ℕ) → is_number o n ≡ true → o ≡ Some n
number-of None n h = absurd cc
number-of (Some m) n h = ap (λ (x : ℕ). Some x) (eqb-true m n h)

found-holds : {X : Type 0} (test : X → Bool) (xs : List X) (x : X) → find test xs ≡ Some x → test x ≡ true
found-holds test [] x found = absurd cc
found-holds test (y ∷ ys) x found =
    elim (test y) as (λ b. test y ≡ b → cond b (Some y) (find test ys) ≡ Some x → test x ≡ true) [
      | true ↦ λ is e. ap test (sym (some-equal e)) ∙ is
      | false ↦ λ is e. found-holds test ys x e
    ] refl found
  where
    some-equal : {X : Type 0} {a b : X} → Some a ≡ Some b → a ≡ b
    some-equal e = cc

-- ---- so many slots

record HasFew (long : ℕ) (slots : List Slot) : Type 0 where
  few : length slots ≤ 1000000
  bytes : length slots * long ≤ 268435456

le-true : (a b : ℕ) → a ≤ b → nat_le a b ≡ true
le-true a b le = grind (arith, nat_tests, le)

true-le : (a b : ℕ) → nat_le a b ≡ true → a ≤ b
true-le a b is = grind (arith, nat_tests, is)

tested-few : (long many : ℕ) (slots : List Slot) → length slots ≡ many → may_have long many ≡ true → HasFew long slots
tested-few long many slots same h =
    let parts = and_parts (nat_le many 1000000) (nat_le (many * long) 268435456) h in record {
      few = subst (λ (n : ℕ). n ≤ 1000000) (sym same) (true-le many 1000000 parts.0);
      bytes = subst (λ (n : ℕ). n * long ≤ 268435456) (sym same) (true-le (many * long) 268435456 parts.1);
    }

few-tested : (long many : ℕ) → many ≤ 1000000 → many * long ≤ 268435456 → may_have long many ≡ true
few-tested long many few bytes = rw (le-true many 1000000 few) (le-true (many * long) 268435456 bytes)

-- a member without slots
none-fit : (long : ℕ) → IsMember (record { record_length = long; slots = [] })
none-fit long = record { records = All-from_recursion (FitsSlot long) [] tt; slots = omega arith; bytes = omega arith }

-- ---- slots of members that are left

held-slots : (of : ℕ → List Slot) (number : ℕ) (members : List HeldMember) → AllByRecursion (λ (m : HeldMember). m.slots ≡ of m.number) members → is_held number members ≡ true
    → slots_at number members ≡ of number
held-slots of number [] all h = absurd cc
held-slots of number (m ∷ members) all h =
    elim (m.number == number) as (λ b. m.number == number ≡ b → (b || is_held number members) ≡ true → (if b then m.slots else slots_at number members) ≡ of number) [
      | true ↦ λ is e. all.0 ∙ ap of (eqb-true m.number number is)
      | false ↦ λ is e. held-slots of number members all.1 e
    ] refl h

found-slots : (of : ℕ → List Slot) (number : ℕ) (members : List HeldMember) (m : CatalogMember) → AllByRecursion (λ (x : HeldMember). x.slots ≡ of x.number) members
    → find (has_number (Some number)) (map catalog_member members) ≡ Some m → slots_at number members ≡ of number
found-slots of number members m all found = by (is_held number members) refl
  where
    by : (b : Bool) → is_held number members ≡ b → slots_at number members ≡ of number
    by true is = held-slots of number members all is
    by false is = (let none = held-found number members is in absurd cc)

module _ (d : Descriptions) (entries : List Entry) (e : Entry) (next : Standing) (after : IsLeft d (λ member. 0) (with_entry e (journal_of entries)) next) where
  abbrev whole : Journal
  whole = with_entry e (journal_of entries)

  -- where the member that a standing tells of is found, the standing's slots are those of the journal
  left-slots : (m : CatalogMember) (number : ℕ) → member_numbered (Some number) (catalogue_in next) ≡ Some m → slots_at number next.members ≡ (state_of whole number).slots
  left-slots m number found = found-slots (λ (n : ℕ). (state_of whole n).slots) number next.members m after.slots found

  left-long : (m : CatalogMember) → record_length d (catalogue_in next) m ≡ record_length d (catalogue_of whole) m
  left-long m = ap (λ (c : Catalogue). record_length d c m) after.catalogue

  found-few : (m : CatalogMember) → member_numbered (Some m.number) (catalogue_of whole) ≡ Some m → fits_named d next e.member ≡ true → is_number e.member m.number ≡ true
      → HasFew (record_length d (catalogue_of whole) m) (state_of whole m.number).slots
  found-few m there fits own =
      let here : member_numbered (Some m.number) (catalogue_in next) ≡ Some m = subst (λ (c : Catalogue). member_numbered (Some m.number) c ≡ Some m) (sym after.catalogue) there in
      let test : fits_named d next (Some m.number) ≡ true = subst (λ (o : Option ℕ). fits_named d next o ≡ true) (number-of e.member m.number own) fits in
      let found : fits_found d next m.number (Some m) ≡ true = subst (λ (o : Option CatalogMember). fits_found d next m.number o ≡ true) here test in
      subst (λ (long : ℕ). HasFew long (state_of whole m.number).slots) (left-long m)
      (tested-few (record_length d (catalogue_in next) m) (length (slots_at m.number next.members)) (state_of whole m.number).slots
      (ap (λ (slots : List Slot). length slots) (sym (left-slots m m.number here))) found)

  -- within its limits, it passes the test
  within-fits : AreWithinLimits d whole → fits_named d next e.member ≡ true
  within-fits within = by e.member
    where
      of-found : (number : ℕ) (m : CatalogMember) → member_numbered (Some number) (catalogue_in next) ≡ Some m → fits_found d next number (Some m) ≡ true
      of-found number m here =
          let same : number ≡ m.number = eqb-true number m.number (found-holds (has_number (Some number)) (catalogue_in next).members m here) in
          let there : member_numbered (Some m.number) (catalogue_of whole) ≡ Some m =
          subst (λ (n : ℕ). member_numbered (Some n) (catalogue_of whole) ≡ Some m) same (subst (λ (c : Catalogue). member_numbered (Some number) c ≡ Some m) after.catalogue here) in
          let its = within m there in
          let many : length (state_of whole m.number).slots ≡ length (slots_at number next.members) =
          ap (λ (n : ℕ). length (state_of whole n).slots) (sym same) ∙ ap (λ (slots : List Slot). length slots) (sym (left-slots m number here)) in
          few-tested (record_length d (catalogue_in next) m) (length (slots_at number next.members)) (subst (λ (n : ℕ). n ≤ 1000000) many its.slots)
          (subst (λ (long : ℕ). length (slots_at number next.members) * long ≤ 268435456) (sym (left-long m))
          (subst (λ (n : ℕ). n * record_length d (catalogue_of whole) m ≤ 268435456) many its.bytes))

      at : (number : ℕ) (o : Option CatalogMember) → member_numbered (Some number) (catalogue_in next) ≡ o → fits_found d next number o ≡ true
      at number None here = refl
      at number (Some m) here = of-found number m here

      by : (o : Option ℕ) → fits_named d next o ≡ true
      by None = refl
      by (Some number) = at number (member_numbered (Some number) (catalogue_in next)) refl

  pub stays-fits : StaysMembers d (with_entry e (journal_of entries)) → fits_named d next e.member ≡ true
  stays-fits stays = within-fits (limits-last d (journal_of entries) e stays)

-- ---- an entry more

module _ (d : Descriptions) (keeps : KeepsLengths d) (entries : List Entry) (s : Standing) (left : IsLeft d (λ member. 0) (journal_of entries) s) (e : Entry) (next : Standing)
    (after : IsLeft d (λ member. 0) (with_entry e (journal_of entries)) next) where
  abbrev j : Journal
  j = journal_of entries

  abbrev c : Catalogue
  c = catalogue_after empty_catalogue entries

  abbrev later : Catalogue
  later = catalogue_by e.kind e c

  come : MayComeNext d j e
  come = so_far-last d j e after.so_far

  enters : MayEnterAll d empty_catalogue entries
  enters = left.so_far.enters

  catalogue-with : catalogue_of (with_entry e j) ≡ later
  catalogue-with = catalogue_after-append empty_catalogue entries (e ∷ [])

  abbrev prior : Option Entry
  prior = entry_before None (entries_of j)

  slots-with : (number : ℕ) → (state_of (with_entry e j) number).slots ≡ moved (state_of j number).slots (act number prior e)
  slots-with number =
      ap (λ (t : State). t.slots)
      (ap (replay (start_of j number)) (acts_with d j e number) ∙ replay-append (start_of j number) (acts_after j number) (act number (entry_before None (entries_of j)) e ∷ []))

  module _ (within : AreWithinLimits d j) (m : CatalogMember) (there : member_numbered (Some m.number) later ≡ Some m)
      (few : is_number e.member m.number ≡ true → HasFew (record_length d later m) (moved (state_of j m.number).slots (act m.number prior e))) where
    -- a new one has no slots
    new-fits : IsNewTo c m → IsMember (record { record_length = record_length d later m; slots = moved (state_of j m.number).slots (act m.number prior e) })
    new-fits new =
        let counted = ap (λ (x : Catalogue). x.next_member) left.catalogue in
        let none : (state_of j m.number).slots ≡ [] = (left.fresh m.number (let low = new.next in omega (arith, counted, low))).0 in
        let silent : moved (state_of j m.number).slots (act m.number prior e) ≡ [] =
        ap (moved (state_of j m.number).slots) (absent_act d prior e c m.number come.enters new.none) ∙ quiet_slots e.kind e (state_of j m.number).slots ∙ none in
        subst (λ (slots : List Slot). IsMember (record { record_length = record_length d later m; slots = slots })) (sym silent) (none-fit (record_length d later m))

    old-fits : (was : WasAsLong d c later m) → IsMember (record { record_length = record_length d later m; slots = (state_of j m.number).slots })
    old-fits was =
        subst (λ (long : ℕ). IsMember (record { record_length = long; slots = (state_of j m.number).slots })) was.long
        (subst (λ (n : ℕ). IsMember (record { record_length = record_length d c was.was; slots = (state_of j n).slots })) was.number
        (within was.was (ap (λ (n : ℕ). member_numbered (Some n) c) was.number ∙ was.there)))

    images-fit : (was : WasAsLong d c later m) → is_number e.member m.number ≡ true → AllByRecursion (λ (image : List ℕ). length image ≡ record_length d later m) (images_of e.kind)
    images-fit was own =
        subst (λ (long : ℕ). AllByRecursion (λ (image : List ℕ). length image ≡ long) (images_of e.kind)) was.long
        (keeps.images entries e enters come.records was.was (ap (λ (o : Option ℕ). member_numbered o c) (number-of e.member m.number own) ∙ was.there))

    was-fits : WasAsLong d c later m → IsMember (record { record_length = record_length d later m; slots = moved (state_of j m.number).slots (act m.number prior e) })
    was-fits was = by (is_number e.member m.number) refl
      where
        by : (b : Bool) → is_number e.member m.number ≡ b
            → IsMember (record { record_length = record_length d later m; slots = moved (state_of j m.number).slots (if b then act_there e.kind prior e else act_elsewhere e.kind e) })
        by true own =
            let old = old-fits was in
            let its : HasFew (record_length d later m) (moved (state_of j m.number).slots (act_there e.kind prior e)) =
            subst (λ (b : Bool). HasFew (record_length d later m) (moved (state_of j m.number).slots (if b then act_there e.kind prior e else act_elsewhere e.kind e))) own (few own) in record {
              records = All-from_recursion (FitsSlot (record_length d later m)) (moved (state_of j m.number).slots (act_there e.kind prior e))
                  (moved-holds (FitsSlot (record_length d later m)) tt (state_of j m.number).slots (act_there e.kind prior e)
                  (gives-there (record_length d later m) e.kind prior e (images-fit was own))
                  (recursion_from_All (FitsSlot (record_length d later m)) (state_of j m.number).slots old.records));
              slots = its.few;
              bytes = its.bytes;
            }
        by false other =
            subst (λ (slots : List Slot). IsMember (record { record_length = record_length d later m; slots = slots })) (sym (quiet_slots e.kind e (state_of j m.number).slots)) (old-fits was)

    member-fits : IsMember (record { record_length = record_length d later m; slots = moved (state_of j m.number).slots (act m.number prior e) })
    member-fits = elim (keeps.stay entries e enters come.enters m there) [ inl new ↦ new-fits new | inr was ↦ was-fits was ]

  within-next : AreWithinLimits d j → fits_named d next e.member ≡ true → AreWithinLimits d (with_entry e j)
  within-next within fits m there =
      subst (λ (k : Catalogue). IsMember (record { record_length = record_length d k m; slots = (state_of (with_entry e j) m.number).slots })) (sym catalogue-with)
      (subst (λ (slots : List Slot). IsMember (record { record_length = record_length d later m; slots = slots })) (sym (slots-with m.number))
      (member-fits within m (subst (λ (k : Catalogue). member_numbered (Some m.number) k ≡ Some m) catalogue-with there) (λ own.
      subst (λ (slots : List Slot). HasFew (record_length d later m) slots) (slots-with m.number)
      (subst (λ (k : Catalogue). HasFew (record_length d k m) (state_of (with_entry e j) m.number).slots) catalogue-with (found-few d entries e next after m there fits own)))))

  pub fits-stays : StaysMembers d (journal_of entries) → fits_named d next e.member ≡ true → StaysMembers d (with_entry e (journal_of entries))
  fits-stays stays fits =
      limits-push d (journal_of entries) e stays (within-next (λ m there. stays entries [] m (sym (append-nil entries)) there) fits)
