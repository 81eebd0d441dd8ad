-- The kept entries of a file are its access path in bytes.
use Rattle.std.proofs.Common.{◌≡◌, ℕ, suc, ◌+◌, ◌<◌, ◌≤◌, Bool, true, false, cond, Some, None, List, [], ◌∷◌, ◌++◌, length, map, get_or, refl, sym, ◌∙◌, ap, subst, arith, inl, inr}
use Rattle.std.specs.Prelude.{filter, AllPairs}
use Rattle.std.specs.List.{AllByRecursion}
use Rattle.std.specs.declared.cmp.Ordering.{Ordering}
use Rattle.std.specs.Ordering.{nat_cmp, ordering_then, is_lt}
use Rattle.std.proofs.lemmas.Bool.{cases_order, cond_both, cond-true, cond-false}
use Rattle.std.proofs.lemmas.List.{length-map, map-append}
use Rattle.std.proofs.lemmas.List.Elements.{recursion_from_All}
use Rattle.key_spec.specs.declared.KeyPart.{KeyPart}
use Rattle.key_spec.specs.declared.Ties.{Ties}
use Rattle.key_spec.specs.declared.Ties.TheVariants.{Rising, Falling}
use Rattle.key_order.below.key_pages.specs.declared.entries.Entry.{Entry}
use Rattle.key_order.specs.Order.{entry_cmp, tie_cmp}
use Rattle.member_slots.specs.declared.slot.Slot.{Slot}
use Rattle.member_slots.specs.declared.slot.Slot.TheVariants.{Live, Deleted}
use Rattle.member_slots.specs.Member.{records_from}
use Rattle.member_slots.specs.Members.{NumberedMembers, member_of}
use Rattle.key_order.below.file_model.specs.declared.paths.PathFormat.{PathFormat}
use Rattle.key_order.below.file_model.specs.declared.paths.PathSpec.{PathSpec}
use Rattle.key_order.specs.KeyOrder.{compare_keys, key_of}
use Rattle.key_order.specs.Selection.{selects}
use Rattle.key_order.specs.Views.{view_of}
use Rattle.key_order.specs.Sorting.{put_in_order, in_order}
use Rattle.key_order.specs.Paths as model
use Rattle.key_order.specs.Paths.{PathEntry, compare_ties, compare_entries, entry_of, selected_of, path}
use Rattle.key_order.proofs.PathLemmas.{weaker, all-map, all-append}
use Rattle.key_order.specs.KeyBytes.{key_bytes}
use Rattle.key_order.specs.KeyFields.{AreBytes, Matches}
use Rattle.key_order.proofs.KeyLemmas.{AreFit, keys-cmp, image-fits, Matches-itself, Matches-back}
use Rattle.access_path.specs.KeptEntries.{KeyOf, entry_with, entries_at, entries_in, entries_from, kept}
use Rattle.access_path.specs.PathBytes.{is_falling, format_key, AreKeysFrom, members_of, parts_of, in_bytes, ShowsBytes, IsInBytes}
use Rattle.access_path.specs.Rebuilding.{member_slots}
use Rattle.access_path.proofs.OrderedLemmas.{all-in_order}

-- the slots of each format's member
abbrev slots_of : List PathFormat → NumberedMembers → List (List Slot)
slots_of formats members = map (λ format. (member_of format.member members).slots) formats

slots-members : (formats : List PathFormat) (members : NumberedMembers) → member_slots (members_of formats) members ≡ slots_of formats members
slots-members [] members = refl
slots-members (format ∷ formats) members = ap (λ w. (member_of format.member members).slots ∷ w) (slots-members formats members)

-- ---- a list in order, mapped

map-put : {A B : Type 0} (c : A → A → Ordering) (d : B → B → Ordering) (f : A → B) (x : A) (xs : List A) → AllByRecursion (λ y. d (f x) (f y) ≡ c x y) xs
    → map f (put_in_order c x xs) ≡ put_in_order d (f x) (map f xs)
map-put c d f x [] same = refl
map-put c d f x (y ∷ xs) same =
    rw same.0
    (cond_both (is_lt (c x y)) (x ∷ y ∷ xs) (y ∷ put_in_order c x xs) (λ w. map f w ≡ cond (is_lt (c x y)) (f x ∷ f y ∷ map f xs) (f y ∷ put_in_order d (f x) (map f xs)))
    (λ h. sym (cond-true (is_lt (c x y)) (f x ∷ f y ∷ map f xs) (f y ∷ put_in_order d (f x) (map f xs)) h))
    (λ h. ap (λ w. f y ∷ w) (map-put c d f x xs same.1) ∙ sym (cond-false (is_lt (c x y)) (f x ∷ f y ∷ map f xs) (f y ∷ put_in_order d (f x) (map f xs)) h)))

pub map-in_order : {A B : Type 0} (c : A → A → Ordering) (d : B → B → Ordering) (f : A → B) (P : A → Type 0) (xs : List A)
    → ((x y : A) → P x → P y → d (f x) (f y) ≡ c x y) → AllByRecursion P xs → map f (in_order c xs) ≡ in_order d (map f xs)
map-in_order c d f P [] same all = refl
map-in_order c d f P (x ∷ xs) same all =
    map-put c d f x (in_order c xs) (weaker P (λ y. d (f x) (f y) ≡ c x y) (λ y here. same x y all.0 here) (in_order c xs) (all-in_order c P xs all.1))
    ∙ ap (put_in_order d (f x)) (map-in_order c d f P xs same all.1)

-- ---- the positions of the formats

abbrev AreParts : (ℕ → List KeyPart) → ℕ → List PathFormat → Type 0
AreParts parts number [] = Unit {0}
AreParts parts number (format ∷ formats) = (parts number ≡ format.key) × AreParts parts (number + 1) formats

parts-from : (parts : ℕ → List KeyPart) (number : ℕ) (formats : List PathFormat) → ((k : ℕ) → parts (number + k) ≡ get_or (map (λ format. format.key) formats) k []) → AreParts parts number formats
parts-from parts number [] given = tt
parts-from parts number (format ∷ formats) given = (
  ap parts (let e : number ≡ number + 0 = omega arith in e) ∙ given 0,
  parts-from parts (number + 1) formats (λ k. ap parts (let e : number + 1 + k ≡ number + suc k = omega arith in e) ∙ given (suc k)),
)

module _ (parts : ℕ → List KeyPart) (members : NumberedMembers) where
  to_bytes : PathEntry → Entry
  to_bytes entry = record { key = key_bytes (parts entry.format) entry.key; format = entry.format; rrn = entry.rrn }

  -- an entry whose key is one of its format
  abbrev IsGood : ℕ → PathEntry → Type 0
  IsGood count entry = (entry.format < count) × AreFit (parts entry.format) entry.key

  module _ (keys : KeyOf) where
    in-bytes : (number rrn : ℕ) (format : PathFormat) (slots : List Slot) → parts number ≡ format.key → ((image : List ℕ) → keys number image ≡ format_key format image)
        → map to_bytes (map (entry_of number format) (filter (λ pair. selects format.rules pair.1) (records_from rrn slots))) ≡ entries_in keys number rrn slots
    unfolding to_bytes
    in-bytes number rrn format [] own given = refl
    in-bytes number rrn format (Deleted ∷ slots) own given = in-bytes number (rrn + 1) format slots own given
    in-bytes number rrn format (Live image ∷ slots) own given = by (selects format.rules image) refl (in-bytes number (rrn + 1) format slots own given)
      where
        rest : List (ℕ × List ℕ)
        rest = filter (λ pair. selects format.rules pair.1) (records_from (rrn + 1) slots)

        by : (b : Bool) → selects format.rules image ≡ b → map to_bytes (map (entry_of number format) rest) ≡ entries_in keys number (rrn + 1) slots
            → map to_bytes (map (entry_of number format) (filter (λ pair. selects format.rules pair.1) ((rrn, image) ∷ records_from (rrn + 1) slots)))
            ≡ entries_at number rrn (keys number image) ++ entries_in keys number (rrn + 1) slots
        by true h behind =
            ap (λ w. map to_bytes (map (entry_of number format) w)) (cond-true (selects format.rules image) ((rrn, image) ∷ rest) rest h)
            ∙ ap (λ p. entry_with number rrn (key_bytes p (key_of format.key (view_of format.fields image))) ∷ map to_bytes (map (entry_of number format) rest)) own
            ∙ ap (λ w. entry_with number rrn (key_bytes format.key (key_of format.key (view_of format.fields image))) ∷ w) behind
            ∙ sym (ap (λ o. entries_at number rrn o ++ entries_in keys number (rrn + 1) slots)
            (given image ∙ cond-true (selects format.rules image) (Some (key_bytes format.key (key_of format.key (view_of format.fields image)))) None h))
        by false h behind =
            ap (λ w. map to_bytes (map (entry_of number format) w)) (cond-false (selects format.rules image) ((rrn, image) ∷ rest) rest h)
            ∙ behind
            ∙ sym (ap (λ o. entries_at number rrn o ++ entries_in keys number (rrn + 1) slots)
            (given image ∙ cond-false (selects format.rules image) (Some (key_bytes format.key (key_of format.key (view_of format.fields image)))) None h))

    from-bytes : (number : ℕ) (formats : List PathFormat) → AreParts parts number formats → AreKeysFrom keys number formats
        → map to_bytes (model.entries_from number formats members) ≡ entries_from keys number (slots_of formats members)
    from-bytes number [] own given = refl
    from-bytes number (format ∷ formats) own given =
        map-append to_bytes (model.entries_of number format members) (model.entries_from (number + 1) formats members)
        ∙ ap (λ w. w ++ map to_bytes (model.entries_from (number + 1) formats members)) (in-bytes number 1 format (member_of format.member members).slots own.0 given.0)
        ∙ ap (λ w. entries_in keys number 1 (member_of format.member members).slots ++ w) (from-bytes (number + 1) formats own.1 given.1)

  -- ---- good entries

  of-good : (count number : ℕ) (format : PathFormat) → number < count → parts number ≡ format.key → ShowsBytes members format → AllByRecursion (IsGood count) (model.entries_of number format members)
  of-good count number format low own shown =
      all-map (IsGood count) (entry_of number format) (selected_of format (member_of format.member members).slots)
      (weaker (λ pair. AreBytes (view_of format.fields pair.1)) (λ pair. IsGood count (entry_of number format pair))
      (λ pair bytes. (
        low,
        subst (λ p. AreFit p (key_of format.key (view_of format.fields pair.1))) (sym own)
            (image-fits format.key (view_of format.fields pair.1) (recursion_from_All (λ b. b < 256) (view_of format.fields pair.1) bytes)),
      ))
      (selected_of format (member_of format.member members).slots)
      (recursion_from_All (λ pair. AreBytes (view_of format.fields pair.1)) (selected_of format (member_of format.member members).slots) shown))

  from-good : (count number : ℕ) (formats : List PathFormat) → number + length formats ≤ count → AreParts parts number formats → AllByRecursion (ShowsBytes members) formats
      → AllByRecursion (IsGood count) (model.entries_from number formats members)
  from-good count number [] low own shown = tt
  from-good count number (format ∷ formats) low own shown =
      all-append (IsGood count) (model.entries_of number format members) (model.entries_from (number + 1) formats members)
      (of-good count number format (omega arith) own.0 shown.0)
      (from-good count (number + 1) formats (omega arith) own.1 shown.1)

  -- ---- the order

  ties-same : (ties : Ties) (a b : ℕ) → tie_cmp (is_falling ties) a b ≡ compare_ties ties a b
  ties-same Rising a b = refl
  ties-same Falling a b = refl

  bytes-cmp : (ties : Ties) (count : ℕ) → ((i j : ℕ) → i < count → j < count → Matches (parts i) (parts j)) → (a b : PathEntry) → IsGood count a → IsGood count b
      → entry_cmp (is_falling ties) (to_bytes a) (to_bytes b) ≡ compare_entries ties a b
  unfolding to_bytes
  bytes-cmp ties count match a b first second =
      ap (λ o. ordering_then o (ordering_then (nat_cmp a.format b.format) (tie_cmp (is_falling ties) a.rrn b.rrn)))
      (keys-cmp (parts a.format) (parts b.format) a.key b.key (match a.format b.format first.0 second.0) first.1 second.1)
      ∙ ap (λ o. ordering_then (compare_keys a.key b.key) (ordering_then (nat_cmp a.format b.format) o)) (ties-same ties a.rrn b.rrn)

any-match : (lists : List (List KeyPart)) → AllPairs Matches lists → (i j : ℕ) → i < length lists → j < length lists → Matches (get_or lists i []) (get_or lists j [])
any-match lists pairs i j low high =
    elim (cases_order i j) [
      | inl same ↦ subst (λ (k : ℕ). Matches (get_or lists i []) (get_or lists k [])) same (Matches-itself (get_or lists i []))
      | inr (inl below) ↦ pairs i j [] below high
      | inr (inr above) ↦ Matches-back (get_or lists j []) (get_or lists i []) (pairs j i [] above low)
    ]

pub kept-path : (spec : PathSpec) (members : NumberedMembers) (keys : KeyOf) → IsInBytes spec members → AreKeysFrom keys 0 spec.formats
    → kept keys (is_falling spec.ties) (member_slots (members_of spec.formats) members) ≡ map (in_bytes spec.formats) (path spec members)
unfolding to_bytes
kept-path spec members keys fits given =
    let parts : ℕ → List KeyPart = parts_of spec.formats in
    let own : AreParts parts 0 spec.formats = parts-from parts 0 spec.formats (λ k. ap parts (let e : 0 + k ≡ k = omega arith in e)) in
    let long : length (map (λ (format : PathFormat). format.key) spec.formats) ≡ length spec.formats = length-map spec.formats (λ (format : PathFormat). format.key) in
    let match : (i j : ℕ) → i < length spec.formats → j < length spec.formats → Matches (parts i) (parts j) =
    λ i j low high. any-match (map (λ format. format.key) spec.formats) fits.match i j (omega (arith, long)) (omega (arith, long)) in
    ap (kept keys (is_falling spec.ties)) (slots-members spec.formats members)
    ∙ ap (in_order (entry_cmp (is_falling spec.ties))) (sym (from-bytes parts members keys 0 spec.formats own given))
    ∙ sym (map-in_order (compare_entries spec.ties) (entry_cmp (is_falling spec.ties)) (to_bytes parts members) (IsGood parts members (length spec.formats)) (model.entries_from 0 spec.formats members)
    (bytes-cmp parts members spec.ties (length spec.formats) match)
    (from-good parts members (length spec.formats) 0 spec.formats (omega arith) own (recursion_from_All (ShowsBytes members) spec.formats fits.shown)))
