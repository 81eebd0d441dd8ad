-- A change of a member is a change of one record, and a path that isn't over a changed member stays.
use Rattle.std.proofs.Common.{ℕ, zero, suc, ◌+◌, ◌-◌, ◌≡◌, ◌≢◌, ◌==◌, Bool, true, false, cond, ◌||◌, inl, inr, List, [], ◌∷◌, ◌++◌, length, Option, Some, None, IsSome, slice_get, slice_set, refl}
use Rattle.std.proofs.Common.{sym, ap, arith, ◌∙◌, subst}
use Rattle.std.specs.Prelude.{All, unwrap_or}
use Rattle.std.specs.List.{AllByRecursion, list_any}
use Rattle.std.proofs.lemmas.Bool.{cond-false, ne_eqb}
use Rattle.std.proofs.lemmas.Bool.Decides.{nat_tests}
use Rattle.std.proofs.lemmas.List.Elements.{All-from_recursion, recursion_from_All}
use Rattle.member_slots.specs.declared.slot.Slot.{Slot}
use Rattle.member_slots.specs.declared.slot.Slot.TheVariants.{Live, Deleted}
use Rattle.member_slots.specs.Member.{MemberState, slot_at, empty_member, appended, changed}
use Rattle.member_slots.specs.Members.{Numbered, NumberedMembers, member_at, member_of, with_member, put_member, without_member}
use Rattle.file_model.specs.declared.paths.PathFormat.{PathFormat}
use Rattle.file_model.specs.declared.paths.PathSpec.{PathSpec}
use Rattle.access_path.specs.KeptEntries.{KeyOf, kept}
use Rattle.access_path.specs.Moves.{Move}
use Rattle.access_path.specs.PathBytes.{is_falling, members_of}
use Rattle.access_path.specs.Rebuilding.{member_slots}
use Rattle.path_entrants.specs.Formats.{keys_of}
use Rattle.path_set.specs.KeptPaths.{KeptPath, NumberedPaths, AreOver, entries_of}
use Rattle.path_set.specs.declared.moves.PathMove.{PathMove}
use Rattle.path_set.specs.RecordChanges.{RecordChange, reversed, move_in, moves_from, moves_of, in_path, moves_in}
use Rattle.path_set.specs.MemberChanges.{slot_with, IsSlotChange, IsRecordChange}
use Rattle.path_set.specs.MemberSteps.{image_in, slot_added, record_added, with_slot_behind, slot_replaced, AreSameBut, is_over, paths_over}
use Rattle.path_set.proofs.NumberedLemmas.{at-with_same, at-with_other, at-put_same, at-put_other, at-without_other}

-- ---- another state of a member

pub member-with_same : (number : ℕ) (member : MemberState) (members : NumberedMembers) → IsSome (member_at number members)
    → (member_of number (with_member number member members)).slots ≡ member.slots
member-with_same number member members there =
    ap (λ (o : Option MemberState). (unwrap_or o (empty_member 0)).slots) (at-with_same number member members there)

pub same-with : (number : ℕ) (member : MemberState) (members : NumberedMembers) → AreSameBut number members (with_member number member members)
same-with number member members other differs =
    ap (λ (o : Option MemberState). (unwrap_or o (empty_member 0)).slots) (at-with_other number other member members differs)

-- ---- one slot

pub record IsSplit (slots : List Slot) (i : ℕ) (old new : Slot) : Type 0 where
  pub front : List Slot
  pub back : List Slot
  pub count : length front ≡ i
  pub was : slots ≡ front ++ old ∷ back
  pub is : slice_set slots i new ≡ front ++ new ∷ back

split-at : (slots : List Slot) (i : ℕ) (old new : Slot) → slice_get slots i ≡ Some old → IsSplit slots i old new
split-at [] i old new at = absurd (let e : ◌≡◌ {A = Option Slot} None (Some old) = at in cc)
split-at (s ∷ slots) zero old new at = record {
  front = [];
  back = slots;
  count = refl;
  was = ap (λ (t : Slot). t ∷ slots) (let e : ◌≡◌ {A = Option Slot} (Some s) (Some old) = at in cc);
  is = refl;
}
split-at (s ∷ slots) (suc i) old new at =
    let rest = split-at slots i old new at in
    record {
      front = s ∷ rest.front;
      back = rest.back;
      count = ap suc rest.count;
      was = ap (λ (w : List Slot). s ∷ w) rest.was;
      is = ap (λ (w : List Slot). s ∷ w) rest.is;
    }

nonzero : (i : ℕ) → (suc i == 0) ≡ false
nonzero i = ne_eqb (suc i) 0 (λ e. absurd (omega arith))

one-less : (i : ℕ) → suc i - 1 ≡ i
one-less i = omega arith

changed-slots : (member : MemberState) (i : ℕ) (new : Slot) → (changed member (suc i) new).slots ≡ slice_set member.slots i new
changed-slots member i new =
    ap (λ (m : MemberState). m.slots) (cond-false (suc i == 0) member (record { record_length = member.record_length; slots = slice_set member.slots (suc i - 1) new }) (nonzero i))
    ∙ ap (λ (n : ℕ). slice_set member.slots n new) (one-less i)

slot-changed : (member : MemberState) (rrn : ℕ) (old new : Slot) → slot_at member rrn ≡ Some old → IsSlotChange rrn old new member.slots (changed member rrn new).slots
slot-changed member zero old new at = absurd (let e : ◌≡◌ {A = Option Slot} None (Some old) = at in cc)
slot-changed member (suc i) old new at =
    let here : slice_get member.slots i ≡ Some old =
    ap (slice_get member.slots) (sym (one-less i)) ∙ sym (cond-false (suc i == 0) None (slice_get member.slots (suc i - 1)) (nonzero i)) ∙ at in
    let split = split-at member.slots i old new here in
    record {
      front = split.front;
      back = split.back;
      number = let e = split.count in omega (arith, e);
      was = inl split.was;
      is = changed-slots member i new ∙ split.is;
    }

-- a member that has the slot is there
there-at : (number rrn : ℕ) (old : Slot) (members : NumberedMembers) → slot_at (member_of number members) rrn ≡ Some old → IsSome (member_at number members)
there-at number rrn old members at = by (member_at number members) at
  where
    none-there : (n : ℕ) → slot_at (empty_member 0) n ≡ Some old → ⊥
    none-there zero h = absurd (let e : ◌≡◌ {A = Option Slot} None (Some old) = h in cc)
    none-there (suc i) h =
        absurd (let e : ◌≡◌ {A = Option Slot} None (Some old) = sym (cond-false (suc i == 0) None None (nonzero i)) ∙ h in cc)

    by : (o : Option MemberState) → slot_at (unwrap_or o (empty_member 0)) rrn ≡ Some old → IsSome o
    by (Some member) h = refl
    by None h = absurd (none-there rrn h)

slot-image : (slot : Slot) → slot ≡ slot_with (image_in slot)
slot-image (Live image) = refl
slot-image Deleted = refl

pub replaced-changes : (number rrn : ℕ) (old new : Slot) (members : NumberedMembers) → slot_at (member_of number members) rrn ≡ Some old
    → IsRecordChange (slot_replaced number rrn old new) members (with_member number (changed (member_of number members) rrn new) members)
replaced-changes number rrn old new members at =
    let member = changed (member_of number members) rrn new in
    record {
      slots = subst (λ (w : List Slot). IsSlotChange rrn (slot_with (image_in old)) (slot_with (image_in new)) (member_of number members).slots w)
          (sym (member-with_same number member members (there-at number rrn old members at)))
          (subst (λ (s : Slot). IsSlotChange rrn s (slot_with (image_in new)) (member_of number members).slots member.slots) (slot-image old)
          (subst (λ (s : Slot). IsSlotChange rrn old s (member_of number members).slots member.slots) (slot-image new) (slot-changed (member_of number members) rrn old new at)));
      others = same-with number member members;
    }

pub slot-added-changes : (number : ℕ) (slot : Slot) (members : NumberedMembers) → IsSome (member_at number members)
    → IsRecordChange (slot_added number slot members) members (with_member number (with_slot_behind slot (member_of number members)) members)
slot-added-changes number slot members there =
    let slots = (member_of number members).slots in
    let member = with_slot_behind slot (member_of number members) in
    record {
      slots = subst (λ (w : List Slot). IsSlotChange (length slots + 1) Deleted (slot_with (image_in slot)) slots w) (sym (member-with_same number member members there))
          (subst (λ (s : Slot). IsSlotChange (length slots + 1) Deleted s slots (slots ++ slot ∷ [])) (slot-image slot) (record {
            front = slots;
            back = [];
            number = omega arith;
            was = inr (record { all = refl; none = refl; deleted = refl });
            is = refl;
          }));
      others = same-with number member members;
    }

pub added-changes : (number : ℕ) (image : List ℕ) (members : NumberedMembers) → IsSome (member_at number members)
    → IsRecordChange (record_added number image members) members (with_member number (appended (member_of number members) image) members)
added-changes number image members there = slot-added-changes number (Live image) members there

-- what was added stands at the end
pub added-there : (number : ℕ) (image : List ℕ) (members : NumberedMembers) → IsSome (member_at number members)
    → slot_at (member_of number (with_member number (appended (member_of number members) image) members)) (length (member_of number members).slots + 1) ≡ Some (Live image)
added-there number image members there =
    let slots = (member_of number members).slots in
    ap (λ (o : Option MemberState). slot_at (unwrap_or o (empty_member 0)) (length slots + 1)) (at-with_same number (appended (member_of number members) image) members there)
    ∙ ap (slot_at (appended (member_of number members) image)) (let e : length slots + 1 ≡ suc (length slots) = omega arith in e)
    ∙ cond-false (suc (length slots) == 0) None (slice_get (slots ++ Live image ∷ []) (suc (length slots) - 1)) (nonzero (length slots))
    ∙ ap (slice_get (slots ++ Live image ∷ [])) (one-less (length slots))
    ∙ last-there slots
  where
    last-there : (xs : List Slot) → slice_get (xs ++ Live image ∷ []) (length xs) ≡ Some (Live image)
    last-there [] = refl
    last-there (x ∷ xs) = last-there xs

pub added-undone : (number : ℕ) (image : List ℕ) (members : NumberedMembers) → IsSome (member_at number members)
    → (let added = with_member number (appended (member_of number members) image) members in
    IsRecordChange (reversed (record_added number image members)) added (with_member number (changed (member_of number added) (length (member_of number members).slots + 1) Deleted) added))
added-undone number image members there =
    let added = with_member number (appended (member_of number members) image) members in
    replaced-changes number (length (member_of number members).slots + 1) (Live image) Deleted added (added-there number image members there)

-- ---- a path that isn't over the member

pub apart-each : (member : ℕ) (formats : List PathFormat) → list_any (λ (f : PathFormat). f.member == member) formats ≡ false → AllByRecursion (λ (f : PathFormat). f.member ≢ member) formats
apart-each member [] none = tt
apart-each member (f ∷ formats) none = by (f.member == member) refl none (apart-each member formats)
  where
    by : (b : Bool) → (f.member == member) ≡ b → b || list_any (λ (g : PathFormat). g.member == member) formats ≡ false
        → (list_any (λ (g : PathFormat). g.member == member) formats ≡ false → AllByRecursion (λ (g : PathFormat). g.member ≢ member) formats)
        → (f.member ≢ member) × AllByRecursion (λ (g : PathFormat). g.member ≢ member) formats
    by true is h rest = absurd (let e : true ≡ false = h in cc)
    by false is h rest = ((let d : f.member ≢ member = grind (arith, nat_tests) in d), rest h)

slots-same : (before after : NumberedMembers) (formats : List PathFormat)
    → AllByRecursion (λ (f : PathFormat). (member_of f.member after).slots ≡ (member_of f.member before).slots) formats
    → member_slots (members_of formats) after ≡ member_slots (members_of formats) before
slots-same before after [] same = refl
slots-same before after (f ∷ formats) same =
    ap (λ (s : List Slot). s ∷ member_slots (members_of formats) after) same.0
    ∙ ap (λ (w : List (List Slot)). (member_of f.member before).slots ∷ w) (slots-same before after formats same.1)

entries-of : (before after : NumberedMembers) (spec : PathSpec)
    → AllByRecursion (λ (f : PathFormat). (member_of f.member after).slots ≡ (member_of f.member before).slots) spec.formats
    → entries_of spec after ≡ entries_of spec before
entries-of before after spec same = ap (kept (keys_of spec.formats) (is_falling spec.ties)) (slots-same before after spec.formats same)

each : {A : Type 0} (P Q : A → Type 0) → ((x : A) → P x → Q x) → (xs : List A) → AllByRecursion P xs → AllByRecursion Q xs
each P Q f [] all = tt
each P Q f (x ∷ xs) all = (f x all.0, each P Q f xs all.1)

every : {A : Type 0} (Q : A → Type 0) → ((x : A) → Q x) → (xs : List A) → AllByRecursion Q xs
every Q f [] = tt
every Q f (x ∷ xs) = (f x, every Q f xs)

pub entries-others : (member : ℕ) (before after : NumberedMembers) (spec : PathSpec) → AreSameBut member before after → is_over member spec ≡ false
    → entries_of spec after ≡ entries_of spec before
entries-others member before after spec same none =
    entries-of before after spec
    (each (λ (f : PathFormat). f.member ≢ member) (λ (f : PathFormat). (member_of f.member after).slots ≡ (member_of f.member before).slots) (λ f differs. same f.member differs)
    spec.formats (apart-each member spec.formats none))

no-moves : (keys : KeyOf) (c : RecordChange) (format : ℕ) (formats : List PathFormat) → AllByRecursion (λ (f : PathFormat). f.member ≢ c.member) formats
    → moves_from keys c format (members_of formats) ≡ []
no-moves keys c format [] apart = refl
no-moves keys c format (f ∷ formats) apart =
    ap (λ (w : List Move). w ++ moves_from keys c (format + 1) (members_of formats))
    (cond-false (f.member == c.member) (move_in keys c format ∷ []) [] (let differs = apart.0 in let e : (f.member == c.member) ≡ false = grind (arith, nat_tests) in e))
    ∙ no-moves keys c (format + 1) formats apart.1

pub moves-others : (c : RecordChange) (spec : PathSpec) → is_over c.member spec ≡ false → moves_of c spec ≡ []
moves-others c spec none = no-moves (keys_of spec.formats) c 0 spec.formats (apart-each c.member spec.formats none)

-- so the moves are those of the paths over the member
pub moves-over : (c : RecordChange) (paths : NumberedPaths) → moves_in c paths ≡ moves_in c (paths_over c.member paths)
moves-over c [] = refl
moves-over c (path ∷ paths) = by (is_over c.member path.item.spec) refl (moves-over c paths)
  where
    by : (b : Bool) → is_over c.member path.item.spec ≡ b → moves_in c paths ≡ moves_in c (paths_over c.member paths)
        → moves_in c (path ∷ paths) ≡ moves_in c (cond b (path ∷ paths_over c.member paths) (paths_over c.member paths))
    by true is rest = ap (λ (w : List PathMove). in_path path.number (moves_of c path.item.spec) ++ w) rest
    by false is rest = ap (λ (w : List Move). in_path path.number w ++ moves_in c paths) (moves-others c path.item.spec is) ∙ rest

pub over-others : (member : ℕ) (before after : NumberedMembers) (paths : NumberedPaths) → AreSameBut member before after
    → All (λ (path : Numbered KeptPath). is_over member path.item.spec ≡ false) paths → AreOver before paths → AreOver after paths
over-others member before after paths same none over =
    All-from_recursion (λ (path : Numbered KeptPath). path.item.entries ≡ entries_of path.item.spec after) paths
    (go paths (recursion_from_All (λ (path : Numbered KeptPath). is_over member path.item.spec ≡ false) paths none)
    (recursion_from_All (λ (path : Numbered KeptPath). path.item.entries ≡ entries_of path.item.spec before) paths over))
  where
    go : (rest : NumberedPaths) → AllByRecursion (λ (path : Numbered KeptPath). is_over member path.item.spec ≡ false) rest
        → AllByRecursion (λ (path : Numbered KeptPath). path.item.entries ≡ entries_of path.item.spec before) rest
        → AllByRecursion (λ (path : Numbered KeptPath). path.item.entries ≡ entries_of path.item.spec after) rest
    go [] none over = tt
    go (path ∷ rest) none over = (over.0 ∙ sym (entries-others member before after path.item.spec same none.0), go rest none.1 over.1)

-- where no member has other slots, no path has other entries
over-same : (before after : NumberedMembers) (paths : NumberedPaths) → ((number : ℕ) → (member_of number after).slots ≡ (member_of number before).slots)
    → AreOver before paths → AreOver after paths
over-same before after paths same over =
    All-from_recursion (λ (path : Numbered KeptPath). path.item.entries ≡ entries_of path.item.spec after) paths
    (each (λ (path : Numbered KeptPath). path.item.entries ≡ entries_of path.item.spec before) (λ (path : Numbered KeptPath). path.item.entries ≡ entries_of path.item.spec after)
    (λ path is. is ∙ sym (entries-of before after path.item.spec
    (every (λ (f : PathFormat). (member_of f.member after).slots ≡ (member_of f.member before).slots) (λ f. same f.member) path.item.spec.formats)))
    paths (recursion_from_All (λ (path : Numbered KeptPath). path.item.entries ≡ entries_of path.item.spec before) paths over))

-- ---- a member that comes or goes

abbrev slots_in : Option MemberState → List Slot
slots_in o = (unwrap_or o (empty_member 0)).slots

new-same : (number record_length : ℕ) (members : NumberedMembers) → member_at number members ≡ None → (other : ℕ)
    → (member_of other (put_member number (empty_member record_length) members)).slots ≡ (member_of other members).slots
new-same number record_length members absent other = by (other == number) refl
  where
    by : (b : Bool) → (other == number) ≡ b → (member_of other (put_member number (empty_member record_length) members)).slots ≡ (member_of other members).slots
    by true is =
        let own : other ≡ number = grind (arith, nat_tests) in
        ap (λ (n : ℕ). (member_of n (put_member number (empty_member record_length) members)).slots) own
        ∙ ap slots_in (at-put_same number (empty_member record_length) members)
        ∙ ap slots_in (sym absent)
        ∙ ap (λ (n : ℕ). (member_of n members).slots) (sym own)
    by false is =
        let differs : other ≢ number = grind (arith, nat_tests) in
        ap slots_in (at-put_other number (empty_member record_length) members other differs)

pub over-new : (number record_length : ℕ) (members : NumberedMembers) (paths : NumberedPaths) → member_at number members ≡ None → AreOver members paths
    → AreOver (put_member number (empty_member record_length) members) paths
over-new number record_length members paths absent over =
    over-same members (put_member number (empty_member record_length) members) paths (new-same number record_length members absent) over

pub same-without : (number : ℕ) (members : NumberedMembers) → AreSameBut number members (without_member number members)
same-without number members other differs = ap (λ (o : Option MemberState). (unwrap_or o (empty_member 0)).slots) (at-without_other number members other differs)
