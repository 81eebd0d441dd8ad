-- What is found in bytes is what is found in values.
use Rattle.std.proofs.Common.{◌≡◌, Bool, true, false, cond, Option, Some, None, List, [], ◌∷◌, map, reverse, refl, sym, ◌∙◌, ap, subst}
use Rattle.std.specs.Prelude.{find, All}
use Rattle.std.specs.Option.{option_map}
use Rattle.std.specs.List.{AllByRecursion}
use Rattle.std.specs.Ordering.{is_lt, is_gt}
use Rattle.std.proofs.lemmas.Bool.{cond-true, cond-false}
use Rattle.key_spec.specs.declared.KeyPart.{KeyPart}
use Rattle.member_slots.specs.Members.{NumberedMembers}
use Rattle.file_model.specs.declared.paths.PathSpec.{PathSpec}
use Rattle.file_model.specs.KeyOrder as keys
use Rattle.file_model.specs.KeyOrder.{KeyValue}
use Rattle.file_model.specs.Paths.{PathEntry, path}
use Rattle.file_model.specs.Positions as model
use Rattle.file_model.proofs.PathLemmas.{all-append}
use Rattle.access_path.specs.KeyBytes.{key_bytes}
use Rattle.access_path.specs.KeyFields.{Matches}
use Rattle.access_path.specs.PathBytes.{is_falling, in_bytes, IsInBytes}
use Rattle.file_cursor.specs.Finding.{is_after, is_before, next_from, prior_from, begins_with, where_equal, next_equal, prior_equal, chain_key}
use Rattle.file_cursor.specs.PositionBytes.{IsEntryOf, AreGiven, IsPositionOf, position_in_bytes}
use Rattle.file_cursor.proofs.ListLemmas.{reverse-cons, map-reverse}
use Rattle.file_cursor.proofs.EntryLemmas.{path-entries, begins-same, side-same}

module _ {A B : Type 0} (P : A → Type 0) (f : A → B) where
  all-reverse : (xs : List A) → AllByRecursion P xs → AllByRecursion P (reverse xs)
  all-reverse [] all = tt
  all-reverse (x ∷ xs) all = subst (AllByRecursion P) (sym (reverse-cons x xs)) (all-append P (reverse xs) (x ∷ []) (all-reverse xs all.1) (all.0, tt))

  module _ (p : B → Bool) (q : A → Bool) (same : (x : A) → P x → p (f x) ≡ q x) where
    pub find-mapped : (xs : List A) → AllByRecursion P xs → find p (map f xs) ≡ option_map f (find q xs)
    find-mapped [] all = refl
    find-mapped (x ∷ xs) all = by (q x) refl (find-mapped xs all.1)
      where
        by : (b : Bool) → q x ≡ b → find p (map f xs) ≡ option_map f (find q xs) → find p (f x ∷ map f xs) ≡ option_map f (find q (x ∷ xs))
        by true is rest =
            cond-true (p (f x)) (Some (f x)) (find p (map f xs)) (same x all.0 ∙ is)
            ∙ sym (ap (option_map f) (cond-true (q x) (Some x) (find q xs) is))
        by false is rest =
            cond-false (p (f x)) (Some (f x)) (find p (map f xs)) (same x all.0 ∙ is)
            ∙ rest
            ∙ sym (ap (option_map f) (cond-false (q x) (Some x) (find q xs) is))

    pub find-reversed : (xs : List A) → AllByRecursion P xs → find p (reverse (map f xs)) ≡ option_map f (find q (reverse xs))
    find-reversed xs all = ap (find p) (map-reverse f xs) ∙ find-mapped (reverse xs) (all-reverse xs all)

  abbrev Holds : Option A → Type 0
  Holds None = Unit {0}
  Holds (Some x) = P x

  find-holds : (q : A → Bool) (xs : List A) → AllByRecursion P xs → Holds (find q xs)
  find-holds q [] all = tt
  find-holds q (x ∷ xs) all = by (q x) refl (find-holds q xs all.1)
    where
      by : (b : Bool) → q x ≡ b → Holds (find q xs) → Holds (find q (x ∷ xs))
      by true is rest = subst Holds (sym (cond-true (q x) (Some x) (find q xs) is)) all.0
      by false is rest = subst Holds (sym (cond-false (q x) (Some x) (find q xs) is)) rest

  kept-where : (b : Bool) (x : A) → cond b (Some (f x)) None ≡ option_map f (cond b (Some x) None)
  kept-where true x = refl
  kept-where false x = refl

module _ (spec : PathSpec) (members : NumberedMembers) (parts : List KeyPart) (fits : IsInBytes spec members) (given : All (λ key. Matches key parts) (map (λ format. format.key) spec.formats)) where
  module _ (position : model.Position PathEntry) (stands : IsPositionOf spec.formats parts position) where
    pub next-in-bytes : next_from (is_falling spec.ties) (map (in_bytes spec.formats) (path spec members)) (position_in_bytes spec.formats parts position)
        ≡ option_map (in_bytes spec.formats) (model.next_from (model.path_reading spec.ties (path spec members)) position)
    next-in-bytes =
        find-mapped (IsEntryOf spec.formats) (in_bytes spec.formats) (is_after (is_falling spec.ties) (position_in_bytes spec.formats parts position))
        (λ e. is_gt (model.side_of (model.path_reading spec.ties (path spec members)) position e))
        (λ e is. ap is_gt (side-same spec.formats parts given spec.ties (path spec members) fits.match position stands e is))
        (path spec members) (path-entries spec members fits)

    pub prior-in-bytes : prior_from (is_falling spec.ties) (map (in_bytes spec.formats) (path spec members)) (position_in_bytes spec.formats parts position)
        ≡ option_map (in_bytes spec.formats) (model.prior_from (model.path_reading spec.ties (path spec members)) position)
    prior-in-bytes =
        find-reversed (IsEntryOf spec.formats) (in_bytes spec.formats) (is_before (is_falling spec.ties) (position_in_bytes spec.formats parts position))
        (λ e. is_lt (model.side_of (model.path_reading spec.ties (path spec members)) position e))
        (λ e is. ap is_lt (side-same spec.formats parts given spec.ties (path spec members) fits.match position stands e is))
        (path spec members) (path-entries spec members fits)

  module _ (values : List KeyValue) (are : AreGiven parts values) where
    equal-in-bytes : (o : Option PathEntry) → Holds (IsEntryOf spec.formats) (in_bytes spec.formats) o
        → where_equal (key_bytes parts values) (option_map (in_bytes spec.formats) o)
        ≡ option_map (in_bytes spec.formats) (model.where_equal (model.path_reading spec.ties (path spec members)) values o)
    equal-in-bytes None holds = refl
    equal-in-bytes (Some e) holds =
        ap (λ (b : Bool). cond b (Some (in_bytes spec.formats e)) None) (begins-same spec.formats parts given values are e holds)
        ∙ kept-where (IsEntryOf spec.formats) (in_bytes spec.formats) (keys.begins_with values e.key) e

    pub chain-in-bytes : chain_key (key_bytes parts values) (map (in_bytes spec.formats) (path spec members))
        ≡ option_map (in_bytes spec.formats) (model.chain_key (model.path_reading spec.ties (path spec members)) values)
    chain-in-bytes =
        find-mapped (IsEntryOf spec.formats) (in_bytes spec.formats) (begins_with (key_bytes parts values)) (λ e. keys.begins_with values e.key)
        (λ e is. begins-same spec.formats parts given values are e is) (path spec members) (path-entries spec members fits)

    module _ (position : model.Position PathEntry) (stands : IsPositionOf spec.formats parts position) where
      pub next-equal-in-bytes : next_equal (is_falling spec.ties) (map (in_bytes spec.formats) (path spec members)) (key_bytes parts values) (position_in_bytes spec.formats parts position)
          ≡ option_map (in_bytes spec.formats) (model.next_equal (model.path_reading spec.ties (path spec members)) values position)
      next-equal-in-bytes =
          ap (where_equal (key_bytes parts values)) (next-in-bytes position stands)
          ∙ equal-in-bytes (model.next_from (model.path_reading spec.ties (path spec members)) position)
          (find-holds (IsEntryOf spec.formats) (in_bytes spec.formats) (λ e. is_gt (model.side_of (model.path_reading spec.ties (path spec members)) position e))
          (path spec members) (path-entries spec members fits))

      pub prior-equal-in-bytes : prior_equal (is_falling spec.ties) (map (in_bytes spec.formats) (path spec members)) (key_bytes parts values) (position_in_bytes spec.formats parts position)
          ≡ option_map (in_bytes spec.formats) (model.prior_equal (model.path_reading spec.ties (path spec members)) values position)
      prior-equal-in-bytes =
          ap (where_equal (key_bytes parts values)) (prior-in-bytes position stands)
          ∙ equal-in-bytes (model.prior_from (model.path_reading spec.ties (path spec members)) position)
          (find-holds (IsEntryOf spec.formats) (in_bytes spec.formats) (λ e. is_lt (model.side_of (model.path_reading spec.ties (path spec members)) position e))
          (reverse (path spec members)) (all-reverse (IsEntryOf spec.formats) (in_bytes spec.formats) (path spec members) (path-entries spec members fits)))
