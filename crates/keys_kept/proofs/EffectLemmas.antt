-- What keeps the keys of a library: members and commit cycles that stay or end, one slot changed, and one commit cycle taken back.
use Rattle.std.proofs.Common.{◌≡◌, ◌≢◌, ◌⊎◌, inl, inr, ◌∙◌, ℕ, if◌then◌else◌, Bool, true, false, List, [], ◌∷◌, subst, refl, sym, ap}
use Rattle.std.specs.List.{list_any}
use Rattle.std.proofs.lemmas.Bool.{true≢false, cases_eq}
use Rattle.member_slots.specs.declared.slot.Slot.{Slot}
use Rattle.file_model.specs.declared.paths.PathFormat.{PathFormat}
use Rattle.file_model.specs.KeyOrder.{KeyValue}
use Rattle.journal_model.specs.Replay.{before_of}
use Rattle.journal_model.specs.Rollback.{MemberChange}
use Rattle.library_steps.specs.State.{Memory}
use Rattle.library_steps.specs.UniqueKeys.{takes_key}
use Rattle.key_state.specs.Keys.{KeysStand, changes_by}
use Rattle.key_state.proofs.FormatLemmas.{IsOver}
use Rattle.keys_kept.proofs.FreeLemmas.{Stands}
use Rattle.key_state.proofs.RestoredLemmas.{StoodBack, is_here, touches, restored, any-take, reserved-stood}
use Rattle.keys_kept.proofs.StateLemmas.{HasPlaces, keys-back, keys-once, keys-stand, slot_in}
use Rattle.key_state.proofs.UniqueLemmas.{IsUnique, MayShow, StaysUnique, all-back, once-noted, stays-back, stays-noted, stays-other, stays-put, stays-same, stays-untouched, unique-same}

-- the slots of a format's member
abbrev pub slots_for : Memory → PathFormat → ℕ → Slot
slots_for m format place = slot_in m.members format.member place

-- a key is taken away at a place
reserved-touches : (format : PathFormat) (key : List KeyValue) (undos : List MemberChange) → ((place : ℕ) → touches format.member place undos ≡ false)
    → list_any (takes_key format key) undos ≡ true → ⊥
reserved-touches format key undos none reserved =
    let stood : StoodBack format key undos = reserved-stood format key undos reserved in
    true≢false (sym (any-take (is_here format.member stood.place) stood.count undos stood.here) ∙ none stood.place)

-- ---- commit cycles stand or have ended, and members stand or are nobody's

-- a format whose slots are as they were; or one over a member that no open commit cycle has changed, and that has no equal keys
abbrev pub FormatStays : Memory → Memory → PathFormat → Type 0
FormatStays m new format =
    (IsOver m.files format × ((place : ℕ) → slots_for new format place ≡ slots_for m format place))
    ⊎ (((job place : ℕ) → touches format.member place (changes_by job new) ≡ false) × IsUnique format (slots_for new format))

pub record IsQuiet (m new : Memory) : Type 0 where
  pub changes : (job : ℕ) → (changes_by job new ≡ changes_by job m) ⊎ (changes_by job new ≡ [])
  pub formats : (format : PathFormat) → IsOver new.files format → FormatStays m new format

module _ (m new : Memory) (has : HasPlaces m) (places : HasPlaces new) (stand : KeysStand m) (quiet : IsQuiet m new) where
  quiet-back : (format : PathFormat) → IsOver new.files format → (job : ℕ) → StaysUnique format (changes_by job new) (slots_for new format)
  quiet-back format over job =
      elim (quiet.formats format over) [
        | inl same ↦ elim (quiet.changes job) [
          | inl kept ↦ subst (λ (us : List MemberChange). StaysUnique format us (slots_for new format)) (sym kept)
              (stays-same format (changes_by job m) (slots_for m format) (slots_for new format) same.1 (keys-back m has stand format same.0 job))
          | inr ended ↦ subst (λ (us : List MemberChange). StaysUnique format us (slots_for new format)) (sym ended)
              (stays-untouched format [] (slots_for new format) (λ place. refl)
              (unique-same format (slots_for m format) (slots_for new format) same.1 (keys-back m has stand format same.0 job 0)))
        ]
        | inr nobody ↦ stays-untouched format (changes_by job new) (slots_for new format) (nobody.0 job) nobody.1
      ]

  was-reserved : (format : PathFormat) (key : List KeyValue) (job : ℕ) → list_any (takes_key format key) (changes_by job new) ≡ true → list_any (takes_key format key) (changes_by job m) ≡ true
  was-reserved format key job reserved =
      elim (quiet.changes job) [
        | inl kept ↦ subst (λ (us : List MemberChange). list_any (takes_key format key) us ≡ true) kept reserved
        | inr ended ↦ absurd (true≢false (sym (subst (λ (us : List MemberChange). list_any (takes_key format key) us ≡ true) ended reserved)))
      ]

  pub quiet-stands : KeysStand new
  quiet-stands =
      keys-stand new places quiet-back
      (λ format over key job other differ first second.
      elim (quiet.formats format over) [
        | inl same ↦ keys-once m stand format same.0 key job other differ (was-reserved format key job first) (was-reserved format key other second)
        | inr nobody ↦ reserved-touches format key (changes_by job new) (nobody.0 job) first
      ])

-- ---- one slot changed

-- a job gives a place of a member another slot, and notes it in its commit cycle or doesn't
pub record IsPutting (m new : Memory) (job member place : ℕ) (slot : Slot) (commit : Bool) (undo : MemberChange) : Type 0 where
  pub files : (format : PathFormat) → IsOver new.files format → IsOver m.files format
  pub here : slot_in new.members member place ≡ slot
  pub elsewhere : (other at : ℕ) → (other ≡ member → at ≡ place → ⊥) → slot_in new.members other at ≡ slot_in m.members other at
  pub others : (other : ℕ) → other ≢ job → changes_by other new ≡ changes_by other m
  pub own : changes_by job new ≡ (if commit then undo ∷ changes_by job m else changes_by job m)
  pub of : undo.member ≡ member
  pub at : undo.change.place ≡ place
  pub before : before_of undo.change ≡ slot_in m.members member place
  -- the commit cycles that stand have not changed the place, and keep none of the new keys to themselves
  pub alone : (other : ℕ) → Stands job commit other → touches member place (changes_by other m) ≡ false
  pub free : (format : PathFormat) → IsOver m.files format → format.member ≡ member → (other : ℕ) → Stands job commit other
      → MayShow format place slot (slots_for m format) (changes_by other m)
  -- no other record has one
  pub unlike : (format : PathFormat) → IsOver m.files format → format.member ≡ member → MayShow format place slot (slots_for m format) []

module _ (m new : Memory) (job member place : ℕ) (slot : Slot) (undo : MemberChange) (has : HasPlaces m) (places : HasPlaces new) (stand : KeysStand m) where
  -- the slots of a format over the member, and of one over another
  there : (commit : Bool) → IsPutting m new job member place slot commit undo → (format : PathFormat) → format.member ≡ member → slots_for new format place ≡ slot
  there commit puts format is = ap (λ (n : ℕ). slot_in new.members n place) is ∙ puts.here

  around : (commit : Bool) → IsPutting m new job member place slot commit undo → (format : PathFormat) (other : ℕ) → other ≢ place → slots_for new format other ≡ slots_for m format other
  around commit puts format other differ = puts.elsewhere format.member other (λ of at. differ at)

  outside : (commit : Bool) → IsPutting m new job member place slot commit undo → (format : PathFormat) → format.member ≢ member → (other : ℕ) → slots_for new format other ≡ slots_for m format other
  outside commit puts format differ other = puts.elsewhere format.member other (λ of at. differ of)

  -- a commit cycle that stands
  standing : (commit : Bool) → IsPutting m new job member place slot commit undo → (format : PathFormat) → IsOver m.files format → (other : ℕ) → Stands job commit other
      → StaysUnique format (changes_by other m) (slots_for new format)
  standing commit puts format over other stands =
      elim (cases_eq format.member member) [
        | inl is ↦ stays-put format place slot (slots_for m format) (slots_for new format) (there commit puts format is) (around commit puts format) (changes_by other m)
            (ap (λ (n : ℕ). touches n place (changes_by other m)) is ∙ puts.alone other stands) (keys-back m has stand format over other) (puts.free format over is other stands)
        | inr differ ↦ stays-same format (changes_by other m) (slots_for m format) (slots_for new format) (outside commit puts format differ) (keys-back m has stand format over other)
      ]

  -- the one that has a change more
  noted-there : IsPutting m new job member place slot true undo → (format : PathFormat) → IsOver m.files format → StaysUnique format (undo ∷ changes_by job m) (slots_for new format)
  noted-there puts format over =
      elim (cases_eq format.member member) [
        | inl is ↦ stays-noted format place slot (slots_for m format) (slots_for new format) (there true puts format is) (around true puts format) undo (changes_by job m)
            (puts.of ∙ sym is) puts.at (puts.before ∙ ap (λ (n : ℕ). slot_in m.members n place) (sym is)) (keys-back m has stand format over job) (puts.unlike format over is)
        | inr differ ↦ stays-other format undo (changes_by job m) (slots_for new format) (λ is. differ (sym is ∙ puts.of))
            (stays-same format (changes_by job m) (slots_for m format) (slots_for new format) (outside true puts format differ) (keys-back m has stand format over job))
      ]

  put-back : (commit : Bool) → IsPutting m new job member place slot commit undo → (format : PathFormat) → IsOver m.files format → (other : ℕ)
      → StaysUnique format (changes_by other new) (slots_for new format)
  put-back commit puts format over other =
      elim (cases_eq other job) [
        | inl same ↦ subst (λ (n : ℕ). StaysUnique format (changes_by n new) (slots_for new format)) (sym same) (own commit puts)
        | inr differ ↦ subst (λ (us : List MemberChange). StaysUnique format us (slots_for new format)) (sym (puts.others other differ)) (standing commit puts format over other (inl differ))
      ]
    where
      own : (c : Bool) → IsPutting m new job member place slot c undo → StaysUnique format (changes_by job new) (slots_for new format)
      own true p = subst (λ (us : List MemberChange). StaysUnique format us (slots_for new format)) (sym p.own) (noted-there p format over)
      own false p = subst (λ (us : List MemberChange). StaysUnique format us (slots_for new format)) (sym p.own) (standing false p format over job (inr (refl, refl)))

  -- a key that the job keeps now, beside another job
  put-own : (commit : Bool) → IsPutting m new job member place slot commit undo → (format : PathFormat) → IsOver m.files format → (key : List KeyValue) (other : ℕ) → other ≢ job
      → list_any (takes_key format key) (changes_by job new) ≡ true → list_any (takes_key format key) (changes_by other m) ≡ true → ⊥
  put-own true puts format over key other differ first second =
      once-noted format undo (changes_by job m) (changes_by other m) (slots_for m format) key
      (λ is.
      let of : format.member ≡ member = sym is ∙ puts.of in
      let moved : slot_in m.members format.member undo.change.place ≡ slot_in m.members member place = λ i. slot_in m.members (of i) (puts.at i) in
      let same : touches format.member undo.change.place (changes_by other m) ≡ touches member place (changes_by other m) = λ i. touches (of i) (puts.at i) (changes_by other m) in
      (puts.before ∙ sym moved, same ∙ puts.alone other (inl differ)))
      (keys-back m has stand format over other) (keys-once m stand format over key job other differ)
      (subst (λ (us : List MemberChange). list_any (takes_key format key) us ≡ true) puts.own first) second
  put-own false puts format over key other differ first second =
      keys-once m stand format over key job other differ (subst (λ (us : List MemberChange). list_any (takes_key format key) us ≡ true) puts.own first) second

  put-once : (commit : Bool) → IsPutting m new job member place slot commit undo → (format : PathFormat) → IsOver m.files format → (key : List KeyValue) (one other : ℕ) → other ≢ one
      → list_any (takes_key format key) (changes_by one new) ≡ true → list_any (takes_key format key) (changes_by other new) ≡ true → ⊥
  put-once commit puts format over key one other differ first second =
      elim (cases_eq one job) [
        | inl mine ↦
            let apart : other ≢ job = λ same. differ (same ∙ sym mine) in
            put-own commit puts format over key other apart (subst (λ (n : ℕ). list_any (takes_key format key) (changes_by n new) ≡ true) mine first) (old other apart second)
        | inr theirs ↦ elim (cases_eq other job) [
          | inl mine ↦ put-own commit puts format over key one theirs (subst (λ (n : ℕ). list_any (takes_key format key) (changes_by n new) ≡ true) mine second) (old one theirs first)
          | inr also ↦ keys-once m stand format over key one other differ (old one theirs first) (old other also second)
        ]
      ]
    where
      old : (number : ℕ) → number ≢ job → list_any (takes_key format key) (changes_by number new) ≡ true → list_any (takes_key format key) (changes_by number m) ≡ true
      old number apart = subst (λ (us : List MemberChange). list_any (takes_key format key) us ≡ true) (puts.others number apart)

  pub put-stands : (commit : Bool) → IsPutting m new job member place slot commit undo → KeysStand new
  put-stands commit puts =
      keys-stand new places (λ format over other. put-back commit puts format (puts.files format over) other)
      (λ format over key one other. put-once commit puts format (puts.files format over) key one other)

-- ---- one commit cycle taken back

pub record IsTakingBack (m new : Memory) (job : ℕ) : Type 0 where
  pub files : (format : PathFormat) → IsOver new.files format → IsOver m.files format
  pub slots : (member place : ℕ) → slot_in new.members member place ≡ restored (changes_by job m) member place (slot_in m.members member place)
  pub own : changes_by job new ≡ []
  pub others : (other : ℕ) → other ≢ job → changes_by other new ≡ changes_by other m
  pub apart : (other member place : ℕ) → other ≢ job → touches member place (changes_by job m) ≡ true → touches member place (changes_by other m) ≡ true → ⊥

module _ (m new : Memory) (job : ℕ) (has : HasPlaces m) (places : HasPlaces new) (stand : KeysStand m) (takes : IsTakingBack m new job) where
  taken-back : (format : PathFormat) → IsOver m.files format → (other : ℕ) → StaysUnique format (changes_by other new) (slots_for new format)
  taken-back format over other =
      elim (cases_eq other job) [
        | inl same ↦ subst (λ (us : List MemberChange). StaysUnique format us (slots_for new format)) (sym (ap (λ (n : ℕ). changes_by n new) same ∙ takes.own))
            (stays-untouched format [] (slots_for new format) (λ place. refl)
            (unique-same format (λ place. restored (changes_by job m) format.member place (slots_for m format place)) (slots_for new format) (takes.slots format.member)
            (all-back format (changes_by job m) (slots_for m format) (keys-back m has stand format over job))))
        | inr differ ↦ subst (λ (us : List MemberChange). StaysUnique format us (slots_for new format)) (sym (takes.others other differ))
            (stays-same format (changes_by other m) (λ place. restored (changes_by job m) format.member place (slots_for m format place)) (slots_for new format) (takes.slots format.member)
            (stays-back format (changes_by job m) (changes_by other m) (slots_for m format) (keys-back m has stand format over job) (keys-back m has stand format over other)
            (λ key. keys-once m stand format over key job other differ) (λ place. takes.apart other format.member place differ)))
      ]

  was-taken : (format : PathFormat) (key : List KeyValue) (number : ℕ) → list_any (takes_key format key) (changes_by number new) ≡ true → list_any (takes_key format key) (changes_by number m) ≡ true
  was-taken format key number reserved =
      elim (cases_eq number job) [
        | inl same ↦ absurd (true≢false (sym (subst (λ (us : List MemberChange). list_any (takes_key format key) us ≡ true) (ap (λ (n : ℕ). changes_by n new) same ∙ takes.own) reserved)))
        | inr differ ↦ subst (λ (us : List MemberChange). list_any (takes_key format key) us ≡ true) (takes.others number differ) reserved
      ]

  pub back-stands : KeysStand new
  back-stands =
      keys-stand new places (λ format over other. taken-back format (takes.files format over) other)
      (λ format over key one other differ first second.
      keys-once m stand format (takes.files format over) key one other differ (was-taken format key one first) (was-taken format key other second))
