-- One format of a unique path: when no two places of its member have one key, as changes are taken back, made and noted.
use Rattle.std.proofs.Common.{◌≡◌, ◌≢◌, ◌⊎◌, inl, inr, ◌∙◌, ℕ, zero, suc, ◌==◌, if◌then◌else◌, true, false, List, [], ◌∷◌, length, take, subst, refl, sym, ap}
use Rattle.std.specs.List.{list_any}
use Rattle.std.proofs.Math.Seq.{take-length}
use Rattle.std.proofs.lemmas.Bool.{true≢false, and_left, and_right, cases_Bool, cases_eq, false_from_ne_true, ne_eqb, or_cases}
use Rattle.member_slots.specs.declared.slot.Slot.{Slot}
use Rattle.file_model.specs.declared.paths.PathFormat.{PathFormat}
use Rattle.file_model.specs.KeyOrder.{KeyValue}
use Rattle.journal_model.specs.Replay.{before_of}
use Rattle.journal_model.specs.Rollback.{MemberChange}
use Rattle.library_steps.specs.UniqueKeys.{key_of_slot, has_key, takes_key}
use Rattle.key_state.proofs.RestoredLemmas.{is_here, touches, restored, any-take, none-take, here-from, takes-parts, restored-untouched, restored-reserves, reserved-stood}

-- the slot has the key in the format
abbrev pub Shows : PathFormat → List KeyValue → Slot → Type 0
Shows format key slot = has_key (key_of_slot format slot) key ≡ true

-- two places that show one key are one
abbrev pub IsUnique : PathFormat → (ℕ → Slot) → Type 0
IsUnique format slots = (key : List KeyValue) (place other : ℕ) → Shows format key (slots place) → Shows format key (slots other) → place ≡ other

-- the slots of the format's member once changes are taken back
abbrev pub back_slots : PathFormat → List MemberChange → (ℕ → Slot) → ℕ → Slot
back_slots format undos slots place = restored undos format.member place (slots place)

-- however many of the changes are taken back
abbrev pub StaysUnique : PathFormat → List MemberChange → (ℕ → Slot) → Type 0
StaysUnique format undos slots = (count : ℕ) → IsUnique format (back_slots format (take count undos) slots)

pub unique-same : (format : PathFormat) (slots later : ℕ → Slot) → ((place : ℕ) → later place ≡ slots place) → IsUnique format slots → IsUnique format later
unique-same format slots later same unique key place other first second =
    unique key place other (subst (Shows format key) (same place) first) (subst (Shows format key) (same other) second)

pub stays-same : (format : PathFormat) (undos : List MemberChange) (slots later : ℕ → Slot) → ((place : ℕ) → later place ≡ slots place) → StaysUnique format undos slots
    → StaysUnique format undos later
stays-same format undos slots later same back count =
    unique-same format (back_slots format (take count undos) slots) (back_slots format (take count undos) later)
    (λ place. ap (restored (take count undos) format.member place) (same place)) (back count)

-- slots that no change touched
pub stays-untouched : (format : PathFormat) (undos : List MemberChange) (slots : ℕ → Slot) → ((place : ℕ) → touches format.member place undos ≡ false) → IsUnique format slots
    → StaysUnique format undos slots
stays-untouched format undos slots none unique count =
    unique-same format slots (back_slots format (take count undos) slots)
    (λ place. restored-untouched (take count undos) format.member place (slots place) (none-take (is_here format.member place) count undos (none place))) unique

-- all of them taken back
pub all-back : (format : PathFormat) (undos : List MemberChange) (slots : ℕ → Slot) → StaysUnique format undos slots → IsUnique format (back_slots format undos slots)
all-back format undos slots back = subst (λ (us : List MemberChange). IsUnique format (back_slots format us slots)) (take-length undos) (back (length undos))

-- a key that changes took away stands only at places that they changed
pub reserved-stands : (format : PathFormat) (undos : List MemberChange) (slots : ℕ → Slot) (key : List KeyValue) (place : ℕ) → StaysUnique format undos slots
    → list_any (takes_key format key) undos ≡ true → Shows format key (slots place) → touches format.member place undos ≡ true
reserved-stands format undos slots key place back reserved shows =
    let stood = reserved-stood format key undos reserved in
    by stood.count stood.place stood.here stood.has
  where
    by : (count at : ℕ) → touches format.member at (take count undos) ≡ true → ((slot : Slot) → Shows format key (restored (take count undos) format.member at slot))
        → touches format.member place undos ≡ true
    by count at here has =
        elim (cases_Bool (touches format.member place (take count undos))) [
          | inl touched ↦ any-take (is_here format.member place) count undos touched
          | inr none ↦
              let same = back count key place at (subst (Shows format key) (sym (restored-untouched (take count undos) format.member place (slots place) none)) shows) (has (slots at)) in
              any-take (is_here format.member place) count undos (subst (λ (p : ℕ). touches format.member p (take count undos) ≡ true) (sym same) here)
        ]

-- ---- the changes of one commit cycle taken back, and then some of another's

module _ (format : PathFormat) (undos others : List MemberChange) (slots : ℕ → Slot) (back : StaysUnique format undos slots) (back_others : StaysUnique format others slots)
    (once : (key : List KeyValue) → list_any (takes_key format key) undos ≡ true → list_any (takes_key format key) others ≡ true → ⊥)
    (apart : (place : ℕ) → touches format.member place undos ≡ true → touches format.member place others ≡ true → ⊥) where
  -- some of the other's after all of the first
  abbrev both : (count place : ℕ) → Slot
  both count place = restored (take count others) format.member place (restored undos format.member place (slots place))

  taken : (count place : ℕ) → touches format.member place undos ≡ true → both count place ≡ restored undos format.member place (slots place)
  taken count place touched =
      restored-untouched (take count others) format.member place (restored undos format.member place (slots place))
      (none-take (is_here format.member place) count others (false_from_ne_true (touches format.member place others) (apart place touched)))

  left : (count place : ℕ) → touches format.member place undos ≡ false → both count place ≡ restored (take count others) format.member place (slots place)
  left count place none = ap (restored (take count others) format.member place) (restored-untouched undos format.member place (slots place) none)

  -- one place that the first changed, and one that it didn't
  mixed : (count : ℕ) (key : List KeyValue) (place other : ℕ) → touches format.member place undos ≡ true → touches format.member other undos ≡ false
      → Shows format key (both count place) → Shows format key (both count other) → place ≡ other
  mixed count key place other touched none first second =
      let here : Shows format key (restored undos format.member place (slots place)) = subst (Shows format key) (taken count place touched) first in
      let there : Shows format key (restored (take count others) format.member other (slots other)) = subst (Shows format key) (left count other none) second in
      elim (cases_Bool (touches format.member other (take count others))) [
        | inl its ↦ absurd (once key (restored-reserves format key undos place (slots place) touched here)
            (any-take (takes_key format key) count others (restored-reserves format key (take count others) other (slots other) its there)))
        | inr not ↦ all-back format undos slots back key place other here
            (subst (Shows format key) (restored-untouched (take count others) format.member other (slots other) not
            ∙ sym (restored-untouched undos format.member other (slots other) none)) there)
      ]

  pub stays-back : StaysUnique format others (back_slots format undos slots)
  stays-back count key place other first second =
      elim (cases_Bool (touches format.member place undos)) [
        | inl here ↦ elim (cases_Bool (touches format.member other undos)) [
          | inl there ↦ all-back format undos slots back key place other (subst (Shows format key) (taken count place here) first) (subst (Shows format key) (taken count other there) second)
          | inr not ↦ mixed count key place other here not first second
        ]
        | inr none ↦ elim (cases_Bool (touches format.member other undos)) [
          | inl there ↦ sym (mixed count key other place there none second first)
          | inr not ↦ back_others count key place other (subst (Shows format key) (left count place none) first) (subst (Shows format key) (left count other not) second)
        ]
      ]

-- ---- a slot that gets another content

-- each key of the new slot is one that the old slot has, or one that no other place has and that the changes haven't taken away
abbrev pub MayShow : PathFormat → (place : ℕ) → Slot → (ℕ → Slot) → List MemberChange → Type 0
MayShow format place new slots undos =
    (key : List KeyValue) → Shows format key new
    → Shows format key (slots place) ⊎ (((other : ℕ) → other ≢ place → Shows format key (slots other) → ⊥) × (list_any (takes_key format key) undos ≡ true → ⊥))

module _ (format : PathFormat) (place : ℕ) (new : Slot) (slots later : ℕ → Slot) (here : later place ≡ new) (elsewhere : (other : ℕ) → other ≢ place → later other ≡ slots other) where
  -- the changes that were made before and stand
  one : (undos : List MemberChange) (key : List KeyValue) (other : ℕ) → touches format.member place undos ≡ false → IsUnique format (back_slots format undos slots)
      → MayShow format place new slots undos → other ≢ place → Shows format key new → Shows format key (restored undos format.member other (slots other)) → ⊥
  one undos key other none unique may differ shows its =
      elim (may key shows) [
        | inl same ↦ differ (sym (unique key place other (subst (Shows format key) (sym (restored-untouched undos format.member place (slots place) none)) same) its))
        | inr free ↦ elim (cases_Bool (touches format.member other undos)) [
          | inl touched ↦ free.1 (restored-reserves format key undos other (slots other) touched its)
          | inr not ↦ free.0 other differ (subst (Shows format key) (restored-untouched undos format.member other (slots other) not) its)
        ]
      ]

  put-unique : (undos : List MemberChange) → touches format.member place undos ≡ false → IsUnique format (back_slots format undos slots) → MayShow format place new slots undos
      → IsUnique format (back_slots format undos later)
  put-unique undos none unique may key first second shows also =
      elim (cases_eq first place) [
        | inl same ↦ elim (cases_eq second place) [
          | inl too ↦ same ∙ sym too
          | inr differ ↦ absurd (one undos key second none unique may differ (at first same shows) (besides second differ also))
        ]
        | inr differ ↦ elim (cases_eq second place) [
          | inl too ↦ absurd (one undos key first none unique may differ (at second too also) (besides first differ shows))
          | inr apart ↦ unique key first second (besides first differ shows) (besides second apart also)
        ]
      ]
    where
      at : (p : ℕ) → p ≡ place → Shows format key (restored undos format.member p (later p)) → Shows format key new
      at p same its = subst (Shows format key) (ap (λ (q : ℕ). restored undos format.member q (later q)) same ∙ restored-untouched undos format.member place (later place) none ∙ here) its

      besides : (p : ℕ) → p ≢ place → Shows format key (restored undos format.member p (later p)) → Shows format key (restored undos format.member p (slots p))
      besides p differ its = subst (Shows format key) (ap (restored undos format.member p) (elsewhere p differ)) its

  may-take : (undos : List MemberChange) (count : ℕ) → MayShow format place new slots undos → MayShow format place new slots (take count undos)
  may-take undos count may key shows =
      elim (may key shows) [
        | inl same ↦ inl same
        | inr free ↦ inr (free.0, λ some. free.1 (any-take (takes_key format key) count undos some))
      ]

  pub stays-put : (undos : List MemberChange) → touches format.member place undos ≡ false → StaysUnique format undos slots → MayShow format place new slots undos
      → StaysUnique format undos later
  stays-put undos none back may count =
      put-unique (take count undos) (none-take (is_here format.member place) count undos none) (back count) (may-take undos count may)

  -- the change noted as the last of those changes
  pub stays-noted : (undo : MemberChange) (undos : List MemberChange) → undo.member ≡ format.member → undo.change.place ≡ place → before_of undo.change ≡ slots place
      → StaysUnique format undos slots → MayShow format place new slots [] → StaysUnique format (undo ∷ undos) later
  stays-noted undo undos of at before back may zero = put-unique [] refl (back zero) may
  stays-noted undo undos of at before back may (suc count) =
      unique-same format (back_slots format (take count undos) slots) (back_slots format (take (suc count) (undo ∷ undos)) later)
      (λ p. ap (restored (take count undos) format.member p) (as_was p)) (back count)
    where
      as_was : (p : ℕ) → (if is_here format.member p undo then before_of undo.change else later p) ≡ slots p
      as_was p =
          elim (cases_eq p place) [
            | inl same ↦ ap (λ b. if b then before_of undo.change else later p) (here-from format.member p undo of (at ∙ sym same)) ∙ before ∙ ap slots (sym same)
            | inr differ ↦ ap (λ b. if b then before_of undo.change else later p)
                (and_right (undo.member == format.member) (undo.change.place == p) (ne_eqb undo.change.place p (λ e. differ (sym e ∙ at)))) ∙ elsewhere p differ
          ]

-- a change of another member noted
pub stays-other : (format : PathFormat) (undo : MemberChange) (undos : List MemberChange) (slots : ℕ → Slot) → undo.member ≢ format.member → StaysUnique format undos slots
    → StaysUnique format (undo ∷ undos) slots
stays-other format undo undos slots differ back zero = back zero
stays-other format undo undos slots differ back (suc count) =
    unique-same format (back_slots format (take count undos) slots) (back_slots format (take (suc count) (undo ∷ undos)) slots)
    (λ p. ap (λ b. restored (take count undos) format.member p (if b then before_of undo.change else slots p))
    (and_left (undo.member == format.member) (undo.change.place == p) (ne_eqb undo.member format.member differ))) (back count)

-- the key that a change took away is no other job's: it stood at a place that the other hasn't changed
pub once-noted : (format : PathFormat) (undo : MemberChange) (undos others : List MemberChange) (slots : ℕ → Slot) (key : List KeyValue)
    → (undo.member ≡ format.member → (before_of undo.change ≡ slots undo.change.place) × (touches format.member undo.change.place others ≡ false)) → StaysUnique format others slots
    → (list_any (takes_key format key) undos ≡ true → list_any (takes_key format key) others ≡ true → ⊥)
    → list_any (takes_key format key) (undo ∷ undos) ≡ true → list_any (takes_key format key) others ≡ true → ⊥
once-noted format undo undos others slots key its back once mine theirs =
    elim (or_cases (takes_key format key undo) (list_any (takes_key format key) undos) mine) [
      | inl takes ↦
          let parts = takes-parts format key undo takes in
          let was = its parts.0 in
          true≢false (sym (reserved-stands format others slots key undo.change.place back theirs (subst (Shows format key) was.0 parts.1)) ∙ was.1)
      | inr later ↦ once later theirs
    ]
