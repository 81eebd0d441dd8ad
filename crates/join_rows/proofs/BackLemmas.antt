-- The last match before a place, and those before it; and where the records of a file stand in its path.
use Rattle.std.proofs.Common.{◌≡◌, ℕ, Bool, true, false, ◌&&◌, Some, List, [], ◌∷◌, refl, sym, ◌∙◌, ap, subst}
use Rattle.std.specs.Prelude.{find, filter, reverse, All}
use Rattle.std.specs.List.{AllByRecursion}
use Rattle.std.specs.List.Sorted.{IsStrictlySortedBy}
use Rattle.std.specs.declared.cmp.Ordering.{Ordering}
use Rattle.std.specs.declared.cmp.Ordering.TheVariants.{Less, Equal, Greater}
use Rattle.std.specs.Ordering.{ordering_reverse, is_lt}
use Rattle.std.proofs.lemmas.Bool.{cond-true, cond-false}
use Rattle.std.proofs.lemmas.Cmp.{tied_itself}
use Rattle.std.proofs.lemmas.List.Elements.{recursion_from_All}
use Rattle.key_pages.specs.declared.entries.Entry.{Entry}
use Rattle.key_pages.specs.EntryList.{EntryList}
use Rattle.key_pages.specs.Order.{entry_cmp, IsInOrder}
use Rattle.key_pages.proofs.OrderLemmas.{entry_total}
use Rattle.key_spec.specs.declared.Ties.TheVariants.{Rising}
use Rattle.member_slots.specs.Member.{records}
use Rattle.member_slots.specs.Members.{NumberedMembers, member_of}
use Rattle.file_model.specs.declared.joins.Secondary.{Secondary}
use Rattle.file_model.specs.Joins.{secondary_path}
use Rattle.file_model.specs.Paths.{compare_entries, entry_of}
use Rattle.file_model.proofs.PathLemmas.{weaker, all-map}
use Rattle.access_path.specs.KeptEntries.{entry_with}
use Rattle.access_path.proofs.OrderedLemmas.{Pairwise, all-in_order}
use Rattle.join_rows.specs.Matches.{format_of, records_in_path}
use Rattle.join_rows.specs.Numbers.{image_at, entry_in_path}
use Rattle.join_rows.specs.Places.{IsPathOf, AreJoinable}
use Rattle.join_rows.specs.Search.{begins_with, is_match_before}
use Rattle.join_rows.proofs.OptionLemmas.{true-false, none-some, some-same}
use Rattle.join_rows.proofs.WalkLemmas.{all-reverse, pair-reverse, walked}
use Rattle.join_rows.proofs.PlaceLemmas.{IsRecord}
use Rattle.join_rows.proofs.JoinedLemmas.{both-all, path-kept, entries-of-path}

pub sorted-pairs : (falling : Bool) (entries : List Entry) → IsInOrder falling entries → Pairwise (λ a b. entry_cmp falling a b ≡ Less) entries
unfolding IsStrictlySortedBy
sorted-pairs falling [] sorted = tt
sorted-pairs falling (a ∷ entries) sorted = (sorted.0, sorted-pairs falling entries sorted.1)

pub find-good : {A : Type 0} (P : A → Type 0) (test : A → Bool) (xs : List A) (x : A) → AllByRecursion P xs → find test xs ≡ Some x → P x × (test x ≡ true)
find-good P test [] x all h = none-some x h
find-good {A = A} P test (y ∷ ys) x all h = by (test y) refl (find-good P test ys x all.1)
  where
    by : (b : Bool) → test y ≡ b → (find test ys ≡ Some x → P x × (test x ≡ true)) → P x × (test x ≡ true)
    by true is rest =
        subst (λ (z : A). P z × (test z ≡ true)) (some-same y x (sym (cond-true (test y) (Some y) (find test ys) is) ∙ h)) (all.0, is)
    by false is rest = rest (sym (cond-false (test y) (Some y) (find test ys) is) ∙ h)

pub both-true : (s t : Bool) → (s && t) ≡ true → (s ≡ true) × (t ≡ true)
both-true true t h = (refl, h)
both-true false t h = true-false (sym h)

and-true : (t : Bool) → (t && true) ≡ t
and-true true = refl
and-true false = refl

and-false : (t : Bool) → (t && false) ≡ false
and-false true = refl
and-false false = refl

-- ---- the last match, and those before it

abbrev pub IsFirst : Entry → Type 0
IsFirst entry = entry.format ≡ 0

at-place : (x : Entry) → IsFirst x → entry_with 0 x.rrn x.key ≡ x
at-place x is = ap (λ n. entry_with n x.rrn x.key) (sym is)

module _ (falling : Bool) (part : List ℕ) where
  abbrev Later : Entry → Entry → Type 0
  Later a b = entry_cmp falling b a ≡ Less

  before-place : (a b : Entry) → IsFirst a → Later a b → is_match_before falling part a.key a.rrn b ≡ begins_with part b
  before-place a b here less =
      ap (λ (t : Bool). begins_with part b && t) (ap (λ e. is_lt (entry_cmp falling b e)) (at-place a here) ∙ ap is_lt less) ∙ and-true (begins_with part b)

  module _ (test : Entry → Bool) (lower : (a b : Entry) → Later a b → test a ≡ true → test b ≡ begins_with part b) where
    pub matches-back : (entries : List Entry) (x : Entry) → IsInOrder falling entries → AllByRecursion IsFirst entries → find test (reverse entries) ≡ Some x
        → filter test (reverse entries) ≡ x ∷ filter (is_match_before falling part x.key x.rrn) (reverse entries)
    matches-back entries x sorted first h =
        walked IsFirst Later test (λ a b. is_match_before falling part a.key a.rrn b)
        (λ a b here less is. lower a b less is ∙ sym (before-place a b here less))
        (λ a here. ap (λ (t : Bool). begins_with part a && t)
        (ap (λ e. is_lt (entry_cmp falling a e)) (at-place a here) ∙ ap is_lt (tied_itself (entry_total falling) a)) ∙ and-false (begins_with part a))
        (λ a b there less. ap (λ (t : Bool). begins_with part a && t) (ap (λ e. is_lt (entry_cmp falling a e)) (at-place b there) ∙ ap is_lt (turned a b less)) ∙ and-false (begins_with part a))
        (reverse entries) x (all-reverse IsFirst entries first) (pair-reverse (λ a b. entry_cmp falling a b ≡ Less) entries (sorted-pairs falling entries sorted)) h
      where
        turned : (a b : Entry) → Later a b → entry_cmp falling a b ≡ Greater
        turned a b less = (entry_total falling).antisymm a b ∙ ap ordering_reverse less

  -- before an entry that comes before a place each comes before it
  pub still-before : (key : List ℕ) (rrn : ℕ) (a b : Entry) → Later a b → is_match_before falling part key rrn a ≡ true → is_match_before falling part key rrn b ≡ begins_with part b
  still-before key rrn a b less is =
      let at : Entry = entry_with 0 rrn key in
      let first : entry_cmp falling a at ≡ Less = less-of (entry_cmp falling a at) (both-true (begins_with part a) (is_lt (entry_cmp falling a at)) is).1 in
      ap (λ (t : Bool). begins_with part b && t) (ap is_lt ((entry_total falling).trans b a at less first)) ∙ and-true (begins_with part b)
    where
      less-of : (o : Ordering) → is_lt o ≡ true → o ≡ Less
      less-of Less h = refl
      less-of Equal h = true-false (sym h)
      less-of Greater h = true-false (sym h)

-- ---- the entries of a secondary file's path

-- the entry of a record that is good for something
pub record IsOwn (file : Secondary) (members : NumberedMembers) (Q : List ℕ → Type 0) (entry : Entry) : Type 0 where
  pub pair : ℕ × List ℕ
  pub is_record : IsRecord file pair
  pub image : image_at (member_of file.member members) pair.0 ≡ pair.1
  pub good : Q pair.1
  pub is : entry ≡ entry_in_path file pair

pub entries-own : (file : Secondary) (members : NumberedMembers) (Q : List ℕ → Type 0) (list : EntryList) → IsPathOf list (secondary_path file) members → AreJoinable file members
    → All (λ pair. Q pair.1) (records (member_of file.member members)) → AllByRecursion (IsOwn file members Q) list.entries
entries-own file members Q list is good all =
    subst (AllByRecursion (IsOwn file members Q)) (sym (entries-of-path file members list is))
    (all-map (IsOwn file members Q) (entry_in_path file) (records_in_path file members)
    (both-all (λ pair. IsRecord file pair × (image_at (member_of file.member members) pair.0 ≡ pair.1)) (λ pair. Q pair.1) (λ pair. IsOwn file members Q (entry_in_path file pair))
    (λ pair kept also. record { pair = pair; is_record = kept.0; image = kept.1; good = also; is = refl })
    (records_in_path file members) (path-kept file members good)
    (all-in_order (λ a b. compare_entries Rising (entry_of 0 (format_of file) a) (entry_of 0 (format_of file) b)) (λ pair. Q pair.1) (records (member_of file.member members))
    (recursion_from_All (λ pair. Q pair.1) (records (member_of file.member members)) all))))

pub entries-first : (file : Secondary) (members : NumberedMembers) (Q : List ℕ → Type 0) (entries : List Entry) → AllByRecursion (IsOwn file members Q) entries → AllByRecursion IsFirst entries
entries-first file members Q entries own = weaker (IsOwn file members Q) IsFirst (λ entry is. ap (λ (e : Entry). e.format) is.is) entries own
