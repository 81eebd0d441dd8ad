-- The entries of an access path are such as records of bytes have, and stand in bytes to a position as they do in values.
use Rattle.std.proofs.Common.{◌≡◌, ℕ, suc, ◌+◌, ◌<◌, ◌≤◌, List, [], ◌∷◌, length, map, get_or, refl, sym, ◌∙◌, ap, subst, arith, inl, inr}
use Rattle.std.specs.Prelude.{AllPairs, All}
use Rattle.std.specs.List.{AllByRecursion}
use Rattle.std.specs.declared.cmp.Ordering.TheVariants.{Less, Greater}
use Rattle.std.specs.Ordering.{nat_cmp, ordering_then, is_eq}
use Rattle.std.proofs.lemmas.Bool.{cases_order}
use Rattle.std.proofs.lemmas.List.{length-map}
use Rattle.std.proofs.lemmas.List.Elements.{recursion_from_All}
use Rattle.field_types.specs.declared.values.Value.{Value}
use Rattle.key_spec.specs.declared.KeyPart.{KeyPart}
use Rattle.key_spec.specs.declared.Ties.{Ties}
use Rattle.key_spec.specs.declared.Ties.TheVariants.{Rising, Falling}
use Rattle.key_pages.specs.Order.{entry_cmp, tie_cmp}
use Rattle.member_slots.specs.Members.{NumberedMembers, member_of}
use Rattle.file_model.specs.declared.paths.PathFormat.{PathFormat}
use Rattle.file_model.specs.declared.paths.PathSpec.{PathSpec}
use Rattle.file_model.specs.KeyOrder as keys
use Rattle.file_model.specs.KeyOrder.{KeyValue, compare_keys, compare_with, key_of}
use Rattle.file_model.specs.Views.{view_of}
use Rattle.file_model.specs.Paths as paths
use Rattle.file_model.specs.Paths.{PathEntry, compare_ties, compare_entries, entry_of, selected_of, path}
use Rattle.file_model.specs.Positions as model
use Rattle.file_model.proofs.PathLemmas.{weaker, all-map, all-append}
use Rattle.access_path.specs.KeyBytes.{key_bytes}
use Rattle.access_path.specs.KeyFields.{AreBytes, Matches}
use Rattle.access_path.specs.GivenValues.{IsOfBytes}
use Rattle.access_path.proofs.KeyLemmas.{AreFit, keys-cmp, keys-cut, image-fits, given-fits, none-at-fault, of-bytes, Matches-itself, Matches-back}
use Rattle.access_path.proofs.FitLemmas.{OfBytes}
use Rattle.access_path.specs.PathBytes.{is_falling, parts_of, in_bytes, ShowsBytes, IsInBytes}
use Rattle.access_path.proofs.OrderedLemmas.{all-in_order}
use Rattle.file_cursor.specs.Finding.{compare_part, compare_bound, side_of, begins_with}
use Rattle.file_cursor.specs.PositionBytes.{IsEntryOf, AreGiven, IsBoundOf, IsPositionOf, bound_in_bytes, position_in_bytes}

module _ (formats : List PathFormat) (members : NumberedMembers) where
  abbrev pub AreParts : ℕ → List PathFormat → Type 0
  AreParts number [] = Unit {0}
  AreParts number (format ∷ others) = (parts_of formats number ≡ format.key) × AreParts (number + 1) others

  pub parts-from : (number : ℕ) (others : List PathFormat) → ((k : ℕ) → parts_of formats (number + k) ≡ get_or (map (λ format. format.key) others) k []) → AreParts number others
  parts-from number [] given = tt
  parts-from number (format ∷ others) given = (
    ap (parts_of formats) (let e : number ≡ number + 0 = omega arith in e) ∙ given 0,
    parts-from (number + 1) others (λ k. ap (parts_of formats) (let e : number + 1 + k ≡ number + suc k = omega arith in e) ∙ given (suc k)),
  )

  of-format : (number : ℕ) (format : PathFormat) → number < length formats → parts_of formats number ≡ format.key → ShowsBytes members format
      → AllByRecursion (IsEntryOf formats) (paths.entries_of number format members)
  of-format number format low own shown =
      all-map (IsEntryOf formats) (entry_of number format) (selected_of format (member_of format.member members).slots)
      (weaker (λ pair. AreBytes (view_of format.fields pair.1)) (λ pair. IsEntryOf formats (entry_of number format pair))
      (λ pair bytes. record {
        format = low;
        key = (view_of format.fields pair.1, bytes, ap (λ p. key_of p (view_of format.fields pair.1)) (sym own));
      })
      (selected_of format (member_of format.member members).slots)
      (recursion_from_All (λ pair. AreBytes (view_of format.fields pair.1)) (selected_of format (member_of format.member members).slots) shown))

  of-formats : (number : ℕ) (others : List PathFormat) → number + length others ≤ length formats → AreParts number others → AllByRecursion (ShowsBytes members) others
      → AllByRecursion (IsEntryOf formats) (paths.entries_from number others members)
  of-formats number [] low own shown = tt
  of-formats number (format ∷ others) low own shown =
      all-append (IsEntryOf formats) (paths.entries_of number format members) (paths.entries_from (number + 1) others members)
      (of-format number format (omega arith) own.0 shown.0)
      (of-formats (number + 1) others (omega arith) own.1 shown.1)

pub path-entries : (spec : PathSpec) (members : NumberedMembers) → IsInBytes spec members → AllByRecursion (IsEntryOf spec.formats) (path spec members)
path-entries spec members fits =
    all-in_order (compare_entries spec.ties) (IsEntryOf spec.formats) (paths.entries_from 0 spec.formats members)
    (of-formats spec.formats members 0 spec.formats (omega arith)
    (parts-from spec.formats members 0 spec.formats (λ k. ap (parts_of spec.formats) (let e : 0 + k ≡ k = omega arith in e)))
    (recursion_from_All (ShowsBytes members) spec.formats fits.shown))

ties-same : (ties : Ties) (a b : ℕ) → tie_cmp (is_falling ties) a b ≡ compare_ties ties a b
ties-same Rising a b = refl
ties-same Falling a b = refl

any-match : (lists : List (List KeyPart)) → AllPairs Matches lists → (i j : ℕ) → i < length lists → j < length lists → Matches (get_or lists i []) (get_or lists j [])
any-match lists pairs i j low high =
    elim (cases_order i j) [
      | inl same ↦ subst (λ (k : ℕ). Matches (get_or lists i []) (get_or lists k [])) same (Matches-itself (get_or lists i []))
      | inr (inl below) ↦ pairs i j [] below high
      | inr (inr above) ↦ Matches-back (get_or lists j []) (get_or lists i []) (pairs j i [] above low)
    ]

all-of-bytes : (values : List Value) → AllByRecursion IsOfBytes values → AllByRecursion OfBytes values
all-of-bytes [] bytes = tt
all-of-bytes (v ∷ values) bytes = (of-bytes v bytes.0, all-of-bytes values bytes.1)

given-fit : (parts : List KeyPart) (values : List KeyValue) → AreGiven parts values → AreFit parts values
given-fit parts values is =
    subst (AreFit parts) (sym is.given.3)
    (given-fits 1 parts is.given.0 (none-at-fault parts is.given.0 is.given.1) (all-of-bytes is.given.0 (recursion_from_All IsOfBytes is.given.0 is.given.2)))

module _ (formats : List PathFormat) where
  fit : (e : PathEntry) → IsEntryOf formats e → AreFit (parts_of formats e.format) e.key
  fit e is =
      subst (AreFit (parts_of formats e.format)) (sym is.key.2)
      (image-fits (parts_of formats e.format) is.key.0 (recursion_from_All (λ b. b < 256) is.key.0 is.key.1))

  long : length (map (λ (format : PathFormat). format.key) formats) ≡ length formats
  long = length-map formats (λ (format : PathFormat). format.key)

  entries-cmp : (ties : Ties) → AllPairs Matches (map (λ format. format.key) formats) → (a b : PathEntry) → IsEntryOf formats a → IsEntryOf formats b
      → entry_cmp (is_falling ties) (in_bytes formats a) (in_bytes formats b) ≡ compare_entries ties a b
  entries-cmp ties match a b first second =
      let low = first.format in
      let high = second.format in
      ap (λ o. ordering_then o (ordering_then (nat_cmp a.format b.format) (tie_cmp (is_falling ties) a.rrn b.rrn)))
      (keys-cmp (parts_of formats a.format) (parts_of formats b.format) a.key b.key
      (any-match (map (λ format. format.key) formats) match a.format b.format (omega (arith, long, low)) (omega (arith, long, high)))
      (fit a first) (fit b second))
      ∙ ap (λ o. ordering_then (compare_keys a.key b.key) (ordering_then (nat_cmp a.format b.format) o)) (ties-same ties a.rrn b.rrn)

  module _ (parts : List KeyPart) (given : All (λ key. Matches key parts) (map (λ format. format.key) formats)) where
    part-cmp : (values : List KeyValue) → AreGiven parts values → (e : PathEntry) → IsEntryOf formats e
        → compare_part (key_bytes parts values) (key_bytes (parts_of formats e.format) e.key) ≡ compare_with values e.key
    part-cmp values are e is =
        let low = is.format in
        keys-cut (parts_of formats e.format) parts e.key values (given e.format [] (omega (arith, long, low))) (fit e is) (given-fit parts values are)

    pub begins-same : (values : List KeyValue) → AreGiven parts values → (e : PathEntry) → IsEntryOf formats e
        → begins_with (key_bytes parts values) (in_bytes formats e) ≡ keys.begins_with values e.key
    begins-same values are e is = ap is_eq (part-cmp values are e is)

    bound-cmp : (bound : model.Bound) → IsBoundOf parts bound → (e : PathEntry) → IsEntryOf formats e
        → compare_bound (bound_in_bytes parts bound) (in_bytes formats e) ≡ model.compare_bound bound e
    bound-cmp (model.KeyBound values) are e is = part-cmp values are e is
    bound-cmp (model.NumberBound n) are e is = refl

    pub side-same : (ties : Ties) (entries : List PathEntry) → AllPairs Matches (map (λ format. format.key) formats) → (position : model.Position PathEntry) → IsPositionOf formats parts position
        → (e : PathEntry) → IsEntryOf formats e
        → side_of (is_falling ties) (position_in_bytes formats parts position) (in_bytes formats e) ≡ model.side_of (model.path_reading ties entries) position e
    side-same ties entries match model.Start stands e is = refl
    side-same ties entries match model.End stands e is = refl
    side-same ties entries match (model.On other) stands e is = entries-cmp ties match e other is stands
    side-same ties entries match (model.Before bound) stands e is = ap (λ o. ordering_then o Greater) (bound-cmp bound stands e is)
    side-same ties entries match (model.Past bound) stands e is = ap (λ o. ordering_then o Less) (bound-cmp bound stands e is)
