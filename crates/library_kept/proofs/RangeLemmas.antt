-- What the journal tells of a member fits it: the slots that a range of it gives are slots that the member may have.
use Rattle.std.proofs.Common.{◌≡◌, ℕ, zero, suc, ◌+◌, ◌-◌, ◌*◌, ◌≤◌, ◌&&◌, nat_le, nat_lt, cond, Bool, true, false, Option, Some, None, IfSome, unwrap_or, Result, Ok, Err, List, [], ◌∷◌, length, reverse, refl, sym, ◌∙◌, ap, subst, arith, inl, inr}
use Rattle.std.proofs.lemmas.Bool.{and_parts, eqb-true, cases_lt}
use Rattle.std.specs.List.{AllByRecursion}
use Rattle.entry_codec.specs.declared.entries.Entry.{Entry}
use Rattle.entry_codec.specs.declared.kinds.EntryKind.{EntryKind}
use Rattle.entry_codec.specs.declared.kinds.EntryKind.TheVariants.{RecordAdded, RecordAddedAtNumber, BeforeImage, AfterImage, RecordDeleted, UndoBeforeImage, UndoAfterImage, UndoDelete, CommitCycleStarted}
use Rattle.entry_codec.specs.Placing.{place}
use Rattle.member_slots.specs.declared.member.TheConstants.{MOST_SLOTS, MOST_BYTES}
use Rattle.member_slots.specs.declared.slot.Slot.{Slot}
use Rattle.member_slots.specs.declared.slot.Slot.TheVariants.{Deleted}
use Rattle.record_fmt.specs.declared.formats.Field.{Field}
use Rattle.record_fmt.specs.Layout.{record_length}
use Rattle.journal_model.specs.Acts.{Act, Change, act, acts, act_there, act_elsewhere, change_of, entry_before, is_number, is_same_number, is_same_record, held_before, updated_from, undone_from, place_of}
use Rattle.journal_model.specs.Images.{images_of}
use Rattle.journal_model.specs.Parts.{applied_part, removed_part, removed_from}
use Rattle.journal_model.specs.Closed.{closed_prefix, closed_suffix}
use Rattle.journal_model.specs.Places.{slot_of, put_slot, is_same_slot}
use Rattle.journal_model.specs.Ranges.{RangeDone, apply_range, remove_range, first_fault, done, straddled, first_gap, first_renumbering, first_lacking, placed}
use Rattle.journal_model.specs.Replay.{before_of}
use Rattle.journal_model.specs.Walks.{RangeFault, Numbered, numbered, number_change, is_met, misfit, redo, undo, undo_to, apply, remove, ◌then◌}
use Rattle.journal_model.proofs.PlaceLemmas.{length-put_slot}
use Rattle.lawful_states.specs.Lawful.{HoldsValues}
use Rattle.journaled_entries.specs.Deposited.{is_of_record}
use Rattle.joint_state.specs.Told.{IsRecordOf, MayHavePlace, NamesPlace, TellsRecord}
use Rattle.library_kept.proofs.ListLemmas.{each-take, each-drop}

-- slots that a member with records of these fields may have
pub record Fits (fields : List Field) (slots : List Slot) : Type 0 where
  pub values : AllByRecursion (HoldsValues fields) slots
  pub few : length slots ≤ MOST_SLOTS
  pub small : length slots * record_length fields ≤ MOST_BYTES

-- a change of one slot to another at a place that such a member may have
pub record ChangeFits (fields : List Field) (c : Change) : Type 0 where
  pub before : HoldsValues fields (before_of c)
  pub after : HoldsValues fields c.after
  pub place : MayHavePlace fields (c.place + 1)

-- ---- a slot that is put

values-put : (fields : List Field) (slots : List Slot) (place : ℕ) (slot : Slot) → AllByRecursion (HoldsValues fields) slots → HoldsValues fields slot
    → AllByRecursion (HoldsValues fields) (put_slot slots place slot)
values-put fields [] zero slot all holds = (holds, tt)
values-put fields [] (suc place) slot all holds = (tt, values-put fields [] place slot tt holds)
values-put fields (other ∷ slots) zero slot all holds = (holds, all.1)
values-put fields (other ∷ slots) (suc place) slot all holds = (all.0, values-put fields slots place slot all.1 holds)

pub Fits-put : (fields : List Field) (slots : List Slot) (place : ℕ) (slot : Slot) → Fits fields slots → HoldsValues fields slot → MayHavePlace fields (place + 1)
    → Fits fields (put_slot slots place slot)
Fits-put fields slots place slot fits holds may =
    let long = length-put_slot slots place slot in
    let values = values-put fields slots place slot fits.values holds in
    elim (cases_lt (length slots) (place + 1)) [
      | inl less ↦ (
          let same : length (put_slot slots place slot) ≡ place + 1 = omega (arith, long, less) in
          record { values = values; few = subst (λ n. n ≤ MOST_SLOTS) (sym same) may.few; small = subst (λ n. n * record_length fields ≤ MOST_BYTES) (sym same) may.small })
      | inr more ↦ (
          let same : length (put_slot slots place slot) ≡ length slots = omega (arith, long, more) in
          record { values = values; few = subst (λ n. n ≤ MOST_SLOTS) (sym same) fits.few; small = subst (λ n. n * record_length fields ≤ MOST_BYTES) (sym same) fits.small })
    ]

pub HoldsValues-slot_of : (fields : List Field) (slots : List Slot) (place : ℕ) → AllByRecursion (HoldsValues fields) slots → HoldsValues fields (slot_of slots place)
HoldsValues-slot_of fields [] place all = tt
HoldsValues-slot_of fields (slot ∷ slots) zero all = all.0
HoldsValues-slot_of fields (slot ∷ slots) (suc place) all = HoldsValues-slot_of fields slots place all.1

-- ---- the changes that entries tell of

-- an entry of this member tells of records of these fields
abbrev pub TellsOf : List Field → ℕ → Entry → Type 0
TellsOf fields number e = e.member ≡ Some number → TellsRecord fields e

number-is : (o : Option ℕ) (n : ℕ) → is_number o n ≡ true → o ≡ Some n
number-is None n h = absurd cc
number-is (Some m) n h = ap (λ (k : ℕ). Some k) (eqb-true m n h)

same-number-is : (o : Option ℕ) (n : ℕ) → is_same_number o (Some n) ≡ true → o ≡ Some n
same-number-is None n h = absurd cc
same-number-is (Some m) n h = ap (λ (k : ℕ). Some k) (sym (eqb-true n m h))

names-place : (fields : List Field) (rrn : Option ℕ) → NamesPlace fields rrn → MayHavePlace fields (place_of rrn + 1)
names-place fields None names = absurd names
names-place fields (Some rrn) names = let first = names.counted in let same : rrn - 1 + 1 ≡ rrn = omega (arith, first) in subst (MayHavePlace fields) (sym same) names

updated-holds : (fields : List Field) (kind : EntryKind) → AllByRecursion (IsRecordOf fields) (images_of kind) → HoldsValues fields (unwrap_or (updated_from kind) Deleted)
updated-holds fields (BeforeImage image) told = told.0.values
updated-holds fields _ told = tt

undone-holds : (fields : List Field) (kind : EntryKind) → AllByRecursion (IsRecordOf fields) (images_of kind) → HoldsValues fields (unwrap_or (undone_from kind) Deleted)
undone-holds fields (UndoBeforeImage image) told = told.0.values
undone-holds fields _ told = tt

prior-holds : (fields : List Field) (number : ℕ) (shown : EntryKind → Option Slot)
    → ((kind : EntryKind) → AllByRecursion (IsRecordOf fields) (images_of kind) → HoldsValues fields (unwrap_or (shown kind) Deleted))
    → (prior : Option Entry) (e : Entry) → e.member ≡ Some number → IfSome prior (TellsOf fields number) → HoldsValues fields (unwrap_or (held_before shown prior e) Deleted)
prior-holds fields number shown each None e named before = tt
prior-holds fields number shown each (Some p) e named before =
    elim (is_same_record p e) as (λ b. is_same_record p e ≡ b → HoldsValues fields (unwrap_or (cond b (shown p.kind) None) Deleted)) [
      | true ↦ λ same. (
          let both = and_parts (is_same_number p.member e.member) (is_same_number p.rrn e.rrn) same in
          let its : p.member ≡ Some number = same-number-is p.member number (ap (λ (o : Option ℕ). is_same_number p.member o) (sym named) ∙ both.0) in
          each p.kind (before its).images)
      | false ↦ λ other. tt
    ] refl

there-fits : (fields : List Field) (number : ℕ) (kind : EntryKind) (prior : Option Entry) (e : Entry) → e.member ≡ Some number → IfSome prior (TellsOf fields number)
    → AllByRecursion (IsRecordOf fields) (images_of kind) → (is_of_record (place kind) ≡ true → NamesPlace fields e.rrn) → IfSome (change_of (act_there kind prior e)) (ChangeFits fields)
there-fits fields number (RecordAdded image) prior e named before told placed = record { before = tt; after = told.0.values; place = names-place fields e.rrn (placed refl) }
there-fits fields number (RecordAddedAtNumber image) prior e named before told placed = record { before = tt; after = told.0.values; place = names-place fields e.rrn (placed refl) }
there-fits fields number (AfterImage true image) prior e named before told placed =
    record { before = prior-holds fields number updated_from (updated-holds fields) prior e named before; after = told.0.values; place = names-place fields e.rrn (placed refl) }
there-fits fields number (AfterImage false image) prior e named before told placed = record { before = tt; after = told.0.values; place = names-place fields e.rrn (placed refl) }
there-fits fields number (UndoAfterImage true image) prior e named before told placed =
    record { before = prior-holds fields number undone_from (undone-holds fields) prior e named before; after = told.0.values; place = names-place fields e.rrn (placed refl) }
there-fits fields number (UndoAfterImage false image) prior e named before told placed = record { before = tt; after = told.0.values; place = names-place fields e.rrn (placed refl) }
there-fits fields number (RecordDeleted None) prior e named before told placed = record { before = tt; after = tt; place = names-place fields e.rrn (placed refl) }
there-fits fields number (RecordDeleted (Some image)) prior e named before told placed = record { before = told.0.values; after = tt; place = names-place fields e.rrn (placed refl) }
there-fits fields number (UndoDelete image) prior e named before told placed = record { before = told.0.values; after = tt; place = names-place fields e.rrn (placed refl) }
there-fits fields number _ prior e named before told placed = tt

elsewhere-fits : (fields : List Field) (kind : EntryKind) (e : Entry) → IfSome (change_of (act_elsewhere kind e)) (ChangeFits fields)
elsewhere-fits fields CommitCycleStarted e = tt
elsewhere-fits fields _ e = tt

-- what an act changes fits
abbrev pub ActFits : List Field → Act → Type 0
ActFits fields a = IfSome (change_of a) (ChangeFits fields)

act-fits : (fields : List Field) (number : ℕ) (prior : Option Entry) (e : Entry) → IfSome prior (TellsOf fields number) → TellsOf fields number e → ActFits fields (act number prior e)
act-fits fields number prior e before told =
    elim (is_number e.member number) as (λ b. is_number e.member number ≡ b → IfSome (change_of (cond b (act_there e.kind prior e) (act_elsewhere e.kind e))) (ChangeFits fields)) [
      | true ↦ λ is. let named = number-is e.member number is in let tells = told named in there-fits fields number e.kind prior e named before tells.images tells.place
      | false ↦ λ is. elsewhere-fits fields e.kind e
    ] refl

pub acts-fit : (fields : List Field) (number : ℕ) (prior : Option Entry) (entries : List Entry) → IfSome prior (TellsOf fields number) → AllByRecursion (TellsOf fields number) entries
    → AllByRecursion (ActFits fields) (acts number prior entries)
acts-fit fields number prior [] before told = tt
acts-fit fields number prior (e ∷ entries) before told = (act-fits fields number prior e before told.0, acts-fit fields number (Some e) entries told.0 told.1)

pub entry_before-tells : (fields : List Field) (number : ℕ) (prior : Option Entry) (entries : List Entry) → IfSome prior (TellsOf fields number) → AllByRecursion (TellsOf fields number) entries
    → IfSome (entry_before prior entries) (TellsOf fields number)
entry_before-tells fields number prior [] before told = before
entry_before-tells fields number prior (e ∷ entries) before told = entry_before-tells fields number (Some e) entries told.0 told.1

-- ---- the changes of a range, one after the other

abbrev pub NumberedFits : List Field → Numbered → Type 0
NumberedFits fields n = ChangeFits fields n.change

number-fits : (fields : List Field) (sequence : ℕ) (o : Option Change) (rest : List Numbered) → IfSome o (ChangeFits fields) → AllByRecursion (NumberedFits fields) rest
    → AllByRecursion (NumberedFits fields) (number_change sequence o rest)
number-fits fields sequence None rest fits all = all
number-fits fields sequence (Some c) rest fits all = (fits, all)

numbered-fit : (fields : List Field) (sequence : ℕ) (range : List Act) → AllByRecursion (ActFits fields) range → AllByRecursion (NumberedFits fields) (numbered sequence range)
numbered-fit fields sequence [] all = tt
numbered-fit fields sequence (a ∷ range) all = number-fits fields sequence (change_of a) (numbered (sequence + 1) range) all.0 (numbered-fit fields (sequence + 1) range all.1)

then-ok : (r : Result (List Slot) RangeFault) (next : List Slot → Result (List Slot) RangeFault) (after : List Slot) → (r then next) ≡ Ok after
    → (mid : List Slot) × (r ≡ Ok mid) × (next mid ≡ Ok after)
then-ok (Ok mid) next after h = (mid, refl, h)
then-ok (Err fault) next after h = absurd cc

slots-equal : (a b : List Slot) → ◌≡◌ {A = Result (List Slot) RangeFault} (Ok a) (Ok b) → a ≡ b
slots-equal a b e = cc

cond-slots : (b : Bool) (slots after : List Slot) (fault : RangeFault) → cond b (Ok slots) (Err fault) ≡ Ok after → slots ≡ after
cond-slots true slots after fault h = slots-equal slots after h
cond-slots false slots after fault h = absurd cc

redone-fits : (fields : List Field) (n : Numbered) (slots after : List Slot) → NumberedFits fields n → Fits fields slots → redo n slots ≡ Ok after → Fits fields after
redone-fits fields n slots after change fits went =
    subst (Fits fields) (cond-slots (nat_le n.change.place (length slots) && is_met n.change.before (slot_of slots n.change.place))
    (put_slot slots n.change.place n.change.after) after (misfit n) went)
    (Fits-put fields slots n.change.place n.change.after fits change.after change.place)

undone-fits : (fields : List Field) (n : Numbered) (slots after : List Slot) → NumberedFits fields n → Fits fields slots → undo n slots ≡ Ok after → Fits fields after
undone-fits fields n slots after change fits went = by n.change.before change.before went
  where
    by : (o : Option Slot) → HoldsValues fields (unwrap_or o Deleted) → undo_to o n slots ≡ Ok after → Fits fields after
    by None holds h = absurd cc
    by (Some side) holds h =
        subst (Fits fields) (cond-slots (nat_lt n.change.place (length slots) && is_same_slot n.change.after (slot_of slots n.change.place))
        (put_slot slots n.change.place side) after (misfit n) h)
        (Fits-put fields slots n.change.place side fits holds change.place)

applied-fit : (fields : List Field) (changes : List Numbered) (slots after : List Slot) → AllByRecursion (NumberedFits fields) changes → Fits fields slots → apply changes slots ≡ Ok after
    → Fits fields after
applied-fit fields [] slots after all fits went = subst (Fits fields) (slots-equal slots after went) fits
applied-fit fields (n ∷ changes) slots after all fits went =
    let first = then-ok (redo n slots) (apply changes) after went in
    applied-fit fields changes first.0 after all.1 (redone-fits fields n slots first.0 all.0 fits first.1) first.2

removed-fit : (fields : List Field) (changes : List Numbered) (slots after : List Slot) → AllByRecursion (NumberedFits fields) changes → Fits fields slots → remove changes slots ≡ Ok after
    → Fits fields after
removed-fit fields [] slots after all fits went = subst (Fits fields) (slots-equal slots after went) fits
removed-fit fields (n ∷ changes) slots after all fits went =
    let later = then-ok (remove changes slots) (undo n) after went in
    undone-fits fields n later.0 after all.0 (removed-fit fields changes slots later.0 all.1 fits later.1) later.2

first-ok : {A : Type 0} (faults : List (Option RangeFault)) (answer : Result A RangeFault) (a : A) → first_fault faults answer ≡ Ok a → answer ≡ Ok a
first-ok [] answer a h = h
first-ok (Some fault ∷ faults) answer a h = absurd cc
first-ok (None ∷ faults) answer a h = first-ok faults answer a h

-- what was done, by the slots that were given
pub record DoneFits (fields : List Field) (d : RangeDone) : Type 0 where
  pub slots : Fits fields d.slots
  pub changes : AllByRecursion (NumberedFits fields) d.changes

done-fits : (fields : List Field) (from to : ℕ) (changes : List Numbered) (answer : Result (List Slot) RangeFault) (d : RangeDone) → AllByRecursion (NumberedFits fields) changes
    → ((after : List Slot) → answer ≡ Ok after → Fits fields after) → done from to changes answer ≡ Ok d → DoneFits fields d
done-fits fields from to changes (Ok slots) d all each h =
    let same : record { first = from; last = to; changes = changes; slots = slots } ≡ d = cc in
    subst (DoneFits fields) same (record { slots = each slots refl; changes = all })
done-fits fields from to changes (Err fault) d all each h = absurd cc

pub apply_range-fits : (fields : List Field) (first : ℕ) (range : List Act) (slots : List Slot) (d : RangeDone) → AllByRecursion (ActFits fields) range → Fits fields slots
    → apply_range first range slots ≡ Ok d → DoneFits fields d
apply_range-fits fields first range slots d all fits went =
    let part = applied_part range in
    let changes = numbered first part in
    let fit = numbered-fit fields first part (each-take (ActFits fields) (closed_prefix range) range all) in
    done-fits fields first (first + length part - 1) changes (apply changes slots) d fit (λ after h. applied-fit fields changes slots after fit fits h)
    (first-ok (straddled (numbered first range) changes ∷ first_gap (placed first part) ∷ first_renumbering (placed first part) ∷ [])
    (done first (first + length part - 1) changes (apply changes slots)) d went)

pub remove_range-fits : (fields : List Field) (first : ℕ) (range : List Act) (slots : List Slot) (d : RangeDone) → AllByRecursion (ActFits fields) range → Fits fields slots
    → remove_range first range slots ≡ Ok d → DoneFits fields d
remove_range-fits fields first range slots d all fits went =
    let begins = removed_from first range in
    let part = removed_part range in
    let changes = numbered begins part in
    let fit = numbered-fit fields begins part (each-drop (ActFits fields) (length range - closed_suffix range) range all) in
    done-fits fields begins (first + length range - 1) changes (remove changes slots) d fit (λ after h. removed-fit fields changes slots after fit fits h)
    (first-ok (straddled (reverse (numbered first range)) changes ∷ first_gap (reverse (placed begins part)) ∷ first_renumbering (reverse (placed begins part)) ∷ first_lacking (reverse changes) ∷ [])
    (done begins (first + length range - 1) changes (remove changes slots)) d went)
