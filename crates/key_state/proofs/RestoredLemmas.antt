-- The slot at a place once changes are taken back, the last one first: which one it is, and whose key it has.
use Rattle.std.proofs.Common.{◌≡◌, inl, inr, ◌∙◌, ℕ, zero, suc, ◌==◌, ◌&&◌, if◌then◌else◌, Bool, true, false, List, [], ◌∷◌, take, Option, Some, None, unwrap_or, subst, refl, sym, ap}
use Rattle.std.specs.List.{list_any}
use Rattle.std.proofs.lemmas.Bool.{true≢false, and_parts, and_from, cases_Bool, eq-eqb, eqb-true, or_cases, or_left, or_parts, or_right}
use Rattle.member_slots.specs.declared.slot.Slot.{Slot}
use Rattle.member_slots.specs.declared.slot.Slot.TheVariants.{Deleted}
use Rattle.file_model.specs.declared.paths.PathFormat.{PathFormat}
use Rattle.file_model.specs.KeyOrder.{KeyValue}
use Rattle.journal_model.specs.Replay.{before_of}
use Rattle.journal_model.specs.Rollback.{MemberChange}
use Rattle.library_steps.specs.UniqueKeys.{key_of_slot, has_key, takes_key, took_from}

-- the change is of this place of the member
abbrev pub is_here : (member place : ℕ) → MemberChange → Bool
is_here member place undo = (undo.member == member) && (undo.change.place == place)

-- one of the changes is
abbrev pub touches : (member place : ℕ) → List MemberChange → Bool
touches member place undos = list_any (is_here member place) undos

-- the slot there, once these changes are taken back
abbrev pub restored : List MemberChange → (member place : ℕ) → Slot → Slot
restored [] member place slot = slot
restored (undo ∷ undos) member place slot = restored undos member place (if is_here member place undo then before_of undo.change else slot)

-- ---- tests of the last changes

pub any-take : {X : Type 0} (test : X → Bool) (count : ℕ) (xs : List X) → list_any test (take count xs) ≡ true → list_any test xs ≡ true
any-take test zero xs some = absurd (true≢false (sym some))
any-take test (suc count) [] some = absurd (true≢false (sym some))
any-take test (suc count) (x ∷ xs) some =
    elim (or_cases (test x) (list_any test (take count xs)) some) [
      | inl first ↦ or_left (test x) (list_any test xs) first
      | inr later ↦ or_right (test x) (list_any test xs) (any-take test count xs later)
    ]

pub none-take : {X : Type 0} (test : X → Bool) (count : ℕ) (xs : List X) → list_any test xs ≡ false → list_any test (take count xs) ≡ false
none-take test count xs none =
    elim (cases_Bool (list_any test (take count xs))) [
      | inl some ↦ absurd (true≢false (sym (any-take test count xs some) ∙ none))
      | inr is ↦ is
    ]

-- ---- one change

pub here-parts : (member place : ℕ) (undo : MemberChange) → is_here member place undo ≡ true → (undo.member ≡ member) × (undo.change.place ≡ place)
here-parts member place undo here =
    let parts = and_parts (undo.member == member) (undo.change.place == place) here in
    (eqb-true undo.member member parts.0, eqb-true undo.change.place place parts.1)

pub here-from : (member place : ℕ) (undo : MemberChange) → undo.member ≡ member → undo.change.place ≡ place → is_here member place undo ≡ true
here-from member place undo of at =
    and_from (undo.member == member) (undo.change.place == place) (eq-eqb undo.member member of) (eq-eqb undo.change.place place at)

took-is : (format : PathFormat) (key : List KeyValue) (before : Option Slot) → took_from format key before ≡ has_key (key_of_slot format (unwrap_or before Deleted)) key
took-is format key None = refl
took-is format key (Some before) = refl

pub takes-parts : (format : PathFormat) (key : List KeyValue) (undo : MemberChange) → takes_key format key undo ≡ true
    → (undo.member ≡ format.member) × (has_key (key_of_slot format (before_of undo.change)) key ≡ true)
takes-parts format key undo takes =
    let parts = and_parts (undo.member == format.member) (took_from format key undo.change.before) takes in
    (eqb-true undo.member format.member parts.0, sym (took-is format key undo.change.before) ∙ parts.1)

pub takes-from : (format : PathFormat) (key : List KeyValue) (undo : MemberChange) → undo.member ≡ format.member
    → has_key (key_of_slot format (before_of undo.change)) key ≡ true → takes_key format key undo ≡ true
takes-from format key undo of has =
    and_from (undo.member == format.member) (took_from format key undo.change.before) (eq-eqb undo.member format.member of)
    (took-is format key undo.change.before ∙ has)

-- ---- all of them

-- a place that none of them changed
pub restored-untouched : (undos : List MemberChange) (member place : ℕ) (slot : Slot) → touches member place undos ≡ false → restored undos member place slot ≡ slot
restored-untouched [] member place slot none = refl
restored-untouched (undo ∷ undos) member place slot none =
    let parts = or_parts (is_here member place undo) (touches member place undos) none in
    ap (λ b. restored undos member place (if b then before_of undo.change else slot)) parts.0 ∙ restored-untouched undos member place slot parts.1

-- the key that a changed place has again is one that the changes took away
pub restored-reserves : (format : PathFormat) (key : List KeyValue) (undos : List MemberChange) (place : ℕ) (slot : Slot) → touches format.member place undos ≡ true
    → has_key (key_of_slot format (restored undos format.member place slot)) key ≡ true → list_any (takes_key format key) undos ≡ true
restored-reserves format key [] place slot touched has = absurd (true≢false (sym touched))
restored-reserves format key (undo ∷ undos) place slot touched has =
    elim (cases_Bool (touches format.member place undos)) [
      | inl later ↦ or_right (takes_key format key undo) (list_any (takes_key format key) undos)
          (restored-reserves format key undos place (if is_here format.member place undo then before_of undo.change else slot) later has)
      | inr none ↦ or_left (takes_key format key undo) (list_any (takes_key format key) undos) (first none)
    ]
  where
    first : touches format.member place undos ≡ false → takes_key format key undo ≡ true
    first none =
        elim (or_cases (is_here format.member place undo) (touches format.member place undos) touched) [
          | inl here ↦
              let its = here-parts format.member place undo here in
              takes-from format key undo its.0
              (subst (λ (s : Slot). has_key (key_of_slot format s) key ≡ true)
              (restored-untouched undos format.member place (if is_here format.member place undo then before_of undo.change else slot) none
              ∙ ap (λ b. if b then before_of undo.change else slot) here) has)
          | inr more ↦ absurd (true≢false (sym more ∙ none))
        ]

-- a key that the changes took away stood at a place of theirs once some of them, the last ones, are taken back
pub record StoodBack (format : PathFormat) (key : List KeyValue) (undos : List MemberChange) : Type 0 where
  pub count : ℕ
  pub place : ℕ
  pub here : touches format.member place (take count undos) ≡ true
  pub has : (slot : Slot) → has_key (key_of_slot format (restored (take count undos) format.member place slot)) key ≡ true

pub reserved-stood : (format : PathFormat) (key : List KeyValue) (undos : List MemberChange) → list_any (takes_key format key) undos ≡ true → StoodBack format key undos
reserved-stood format key [] some = absurd (true≢false (sym some))
reserved-stood format key (undo ∷ undos) some =
    elim (or_cases (takes_key format key undo) (list_any (takes_key format key) undos) some) [
      | inl takes ↦
          let its = takes-parts format key undo takes in
          let here = here-from format.member undo.change.place undo its.0 refl in
          record {
            count = suc zero;
            place = undo.change.place;
            here = or_left (is_here format.member undo.change.place undo) false here;
            has = λ slot. subst (λ b. has_key (key_of_slot format (if b then before_of undo.change else slot)) key ≡ true) (sym here) its.1;
          }
      | inr later ↦ further (reserved-stood format key undos later)
    ]
  where
    further : StoodBack format key undos → StoodBack format key (undo ∷ undos)
    further rest = record {
      count = suc rest.count;
      place = rest.place;
      here = or_right (is_here format.member rest.place undo) (touches format.member rest.place (take rest.count undos)) rest.here;
      has = λ slot. rest.has (if is_here format.member rest.place undo then before_of undo.change else slot);
    }
