-- The leaves of a tree whose levels are in order are in order, and so are the rows of a join file.
use Rattle.std.proofs.Common.{◌≡◌, ℕ, ◌+◌, ◌≤◌, ◌<◌, Bool, true, false, List, [], ◌∷◌, ◌++◌, map, refl, sym, ◌∙◌, ap, subst, arith, append_assoc, append-nil}
use Rattle.std.specs.Prelude.{filter, flat_map, ◌≢◌}
use Rattle.std.specs.List.{list_all, AllByRecursion}
use Rattle.std.specs.List.Sorted.{IsStrictlySortedBy}
use Rattle.std.specs.FinMap.{nat_cmp-IsAntisymmetric}
use Rattle.std.specs.declared.cmp.Ordering.{Ordering}
use Rattle.std.specs.declared.cmp.Ordering.TheVariants.{Less, Equal, Greater}
use Rattle.std.specs.Ordering.{nat_cmp, ordering_then}
use Rattle.std.specs.Cmp.{IsTotalOrder, on_total}
use Rattle.std.specs.Cmp.Lexicographic.{slice_cmp}
use Rattle.std.proofs.lemmas.Bool.{cond-true, cond-false}
use Rattle.std.proofs.lemmas.Cmp.{tied_itself}
use Rattle.key_spec.specs.declared.Ties.{Ties}
use Rattle.member_slots.specs.declared.slot.Slot.{Slot}
use Rattle.member_slots.specs.declared.slot.Slot.TheVariants.{Live, Deleted}
use Rattle.member_slots.specs.Member.{records, records_from}
use Rattle.member_slots.specs.Members.{NumberedMembers, member_of}
use Rattle.file_model.specs.declared.joins.Secondary.{Secondary}
use Rattle.file_model.specs.declared.joins.JoinSpec.{JoinSpec}
use Rattle.file_model.specs.KeyOrder.{KeyValue, compare_key_values, key_value}
use Rattle.file_model.specs.Joins.{Match, Matched, JoinRow, image_in, is_joined, matched, compare_matches, compare_matched, compare_places, matches_of, or_missing, row_with, joined_rows, rows_of}
use Rattle.file_model.specs.Paths.{PathEntry, compare_entries, path}
use Rattle.file_model.proofs.OrderLemmas.{compare_entries-total, compare_matches-total, less-equal, greater-equal}
use Rattle.file_model.proofs.PathLemmas.{weaker, all-append, all-map, all-filter, path-strict}
use Rattle.access_path.proofs.OrderedLemmas.{Pairwise, pairwise-append, in_order-strict}
use Rattle.join_rows.specs.Levels.{leaves}
use Rattle.join_rows.specs.NextRow.{levels_of, match_of, row_of_entry}
use Rattle.join_rows.proofs.NextLemmas.{rows-leaves}

-- ---- pieces one after another

pair-map : {A B : Type 0} (R : B → B → Type 0) (f : A → B) (xs : List A) → Pairwise (λ x y. R (f x) (f y)) xs → Pairwise R (map f xs)
pair-map R f [] pairs = tt
pair-map R f (x ∷ xs) pairs = (all-map (R (f x)) f xs pairs.0, pair-map R f xs pairs.1)

pair-filter : {A : Type 0} (R : A → A → Type 0) (keeps : A → Bool) (xs : List A) → Pairwise R xs → Pairwise R (filter keeps xs)
pair-filter R keeps [] pairs = tt
pair-filter R keeps (x ∷ xs) pairs = by (keeps x) refl (pair-filter R keeps xs pairs.1)
  where
    by : (b : Bool) → keeps x ≡ b → Pairwise R (filter keeps xs) → Pairwise R (filter keeps (x ∷ xs))
    by true is rest = subst (Pairwise R) (sym (cond-true (keeps x) (x ∷ filter keeps xs) (filter keeps xs) is)) (all-filter (R x) keeps xs pairs.0, rest)
    by false is rest = subst (Pairwise R) (sym (cond-false (keeps x) (x ∷ filter keeps xs) (filter keeps xs) is)) rest

pair-weaker : {A : Type 0} (P : A → Type 0) (R S : A → A → Type 0) → ((x y : A) → P x → P y → R x y → S x y) → (xs : List A) → AllByRecursion P xs → Pairwise R xs → Pairwise S xs
pair-weaker P R S so [] all pairs = tt
pair-weaker {A = A} P R S so (x ∷ xs) all pairs = (each xs all.1 pairs.0, pair-weaker P R S so xs all.1 pairs.1)
  where
    each : (ys : List A) → AllByRecursion P ys → AllByRecursion (R x) ys → AllByRecursion (S x) ys
    each [] also rest = tt
    each (y ∷ ys) also rest = (so x y all.0 also.0 rest.0, each ys also.1 rest.1)

-- pieces of items in order, each in order
module _ {A B : Type 0} (f : A → List B) (Before : A → A → Type 0) (Under : A → B → Type 0) (R : B → B → Type 0)
    (across : (x y : A) (a b : B) → Before x y → Under x a → Under y b → R a b) (under : (x : A) → AllByRecursion (Under x) (f x)) (inside : (x : A) → Pairwise R (f x)) where
  later-pieces : (x : A) (xs : List A) (a : B) → AllByRecursion (Before x) xs → Under x a → AllByRecursion (R a) (flat_map f xs)
  later-pieces x [] a before is = tt
  later-pieces x (y ∷ xs) a before is =
      all-append (R a) (f y) (flat_map f xs) (weaker (Under y) (R a) (λ b there. across x y a b before.0 is there) (f y) (under y)) (later-pieces x xs a before.1 is)

  pub pair-flat : (xs : List A) → Pairwise Before xs → Pairwise R (flat_map f xs)
  pair-flat [] pairs = tt
  pair-flat (x ∷ xs) pairs =
      pairwise-append R (f x) (flat_map f xs) (inside x) (pair-flat xs pairs.1)
      (weaker (Under x) (λ a. AllByRecursion (R a) (flat_map f xs)) (λ a is. later-pieces x xs a pairs.0 is) (f x) (under x))

all-flat : {A B : Type 0} (P : B → Type 0) (f : A → List B) → ((x : A) → AllByRecursion P (f x)) → (xs : List A) → AllByRecursion P (flat_map f xs)
all-flat P f each [] = tt
all-flat P f each (x ∷ xs) = all-append P (f x) (flat_map f xs) (each x) (all-flat P f each xs)

-- ---- a tree

module _ {R S M K : Type 0} (extend : R → M → R) (key : M → K) (compare : K → K → Ordering) (total : IsTotalOrder compare)
    (root : R → S) (keys : R → List K) (stays : (row : R) (m : M) → root (extend row m) ≡ root row) (extends : (row : R) (m : M) → keys (extend row m) ≡ keys row ++ key m ∷ []) where
  -- a leaf goes on from a row
  pub record GoesOn (row leaf : R) : Type 0 where
    pub same_root : root leaf ≡ root row
    pub more : List K
    pub goes : keys leaf ≡ keys row ++ more

  pub goes-on : (levels : List (R → List M)) (row : R) → AllByRecursion (GoesOn row) (leaves extend levels row)
  goes-on [] row = (record { same_root = refl; more = []; goes = sym (append-nil (keys row)) }, tt)
  goes-on (level ∷ levels) row =
      all-flat (GoesOn row) (λ m. leaves extend levels (extend row m))
      (λ m. weaker (GoesOn (extend row m)) (GoesOn row)
      (λ leaf is. record {
        same_root = is.same_root ∙ stays row m;
        more = key m ∷ is.more;
        goes = is.goes ∙ ap (λ w. w ++ is.more) (extends row m) ∙ append_assoc (keys row) (key m ∷ []) is.more;
      })
      (leaves extend levels (extend row m)) (goes-on levels (extend row m)))
      (level row)

  behind-equal : (front a b : List K) → slice_cmp compare (front ++ a) (front ++ b) ≡ slice_cmp compare a b
  behind-equal [] a b = refl
  behind-equal (k ∷ front) a b =
      ap (λ o. ordering_then o (slice_cmp compare (front ++ a) (front ++ b))) (tied_itself total k) ∙ behind-equal front a b

  abbrev Sorted : (R → List M) → Type 0
  Sorted level = (row : R) → Pairwise (λ a b. compare (key a) (key b) ≡ Less) (level row)

  abbrev Rises : R → R → Type 0
  Rises a b = slice_cmp compare (keys a) (keys b) ≡ Less

  pub leaves-rise : (levels : List (R → List M)) → AllByRecursion Sorted levels → (row : R) → Pairwise Rises (leaves extend levels row)
  leaves-rise [] sorted row = (tt, tt)
  leaves-rise (level ∷ levels) sorted row =
      pair-flat (λ m. leaves extend levels (extend row m)) (λ a b. compare (key a) (key b) ≡ Less) (λ m leaf. GoesOn (extend row m) leaf) Rises
      (λ x y a b less one two.
      ap (λ w. slice_cmp compare w (keys b)) (one.goes ∙ ap (λ w. w ++ one.more) (extends row x) ∙ append_assoc (keys row) (key x ∷ []) one.more)
      ∙ ap (slice_cmp compare (keys row ++ key x ∷ one.more)) (two.goes ∙ ap (λ w. w ++ two.more) (extends row y) ∙ append_assoc (keys row) (key y ∷ []) two.more)
      ∙ behind-equal (keys row) (key x ∷ one.more) (key y ∷ two.more)
      ∙ ap (λ o. ordering_then o (slice_cmp compare one.more two.more)) less)
      (λ m. goes-on levels (extend row m)) (λ m. leaves-rise levels sorted.1 (extend row m)) (level row) (sorted.0 row)

-- ---- the records of a secondary file

records-low : (rrn : ℕ) (slots : List Slot) → AllByRecursion (λ p. rrn ≤ p.0) (records_from rrn slots)
records-low rrn [] = tt
records-low rrn (Live image ∷ slots) =
    (omega arith, weaker (λ p. rrn + 1 ≤ p.0) (λ p. rrn ≤ p.0) (λ p h. omega (arith, h)) (records_from (rrn + 1) slots) (records-low (rrn + 1) slots))
records-low rrn (Deleted ∷ slots) =
    weaker (λ p. rrn + 1 ≤ p.0) (λ p. rrn ≤ p.0) (λ p h. omega (arith, h)) (records_from (rrn + 1) slots) (records-low (rrn + 1) slots)

records-rise : (rrn : ℕ) (slots : List Slot) → Pairwise (λ p q. p.0 < q.0) (records_from rrn slots)
records-rise rrn [] = tt
records-rise rrn (Live image ∷ slots) =
    (weaker (λ p. rrn + 1 ≤ p.0) (λ p. rrn < p.0) (λ p h. omega (arith, h)) (records_from (rrn + 1) slots) (records-low (rrn + 1) slots), records-rise (rrn + 1) slots)
records-rise rrn (Deleted ∷ slots) = records-rise (rrn + 1) slots

second-equal : (a b : Ordering) → ordering_then a b ≡ Equal → b ≡ Equal
second-equal Less b h = less-equal h
second-equal Equal b h = h
second-equal Greater b h = greater-equal h

sorted-pairs : {A : Type 0} (compare : A → A → Ordering) (xs : List A) → IsStrictlySortedBy compare xs → Pairwise (λ a b. compare a b ≡ Less) xs
unfolding IsStrictlySortedBy
sorted-pairs compare [] sorted = tt
sorted-pairs compare (x ∷ xs) sorted = (sorted.0, sorted-pairs compare xs sorted.1)

pairs-sorted : {A : Type 0} (compare : A → A → Ordering) (xs : List A) → Pairwise (λ a b. compare a b ≡ Less) xs → IsStrictlySortedBy compare xs
unfolding IsStrictlySortedBy
pairs-sorted compare [] pairs = tt
pairs-sorted compare (x ∷ xs) pairs = (pairs.0, pairs-sorted compare xs pairs.1)

always : (xs : List (ℕ × List ℕ)) → AllByRecursion (λ p. Unit {0}) xs
always [] = tt
always (x ∷ xs) = (tt, always xs)

differ : (v w : KeyValue) (i j : ℕ) → i < j → ordering_then (compare_key_values v w) (nat_cmp i j) ≢ Equal
differ v w i j less same =
    let e : i ≡ j = nat_cmp-IsAntisymmetric i j (second-equal (compare_key_values v w) (nat_cmp i j) same) in
    omega (arith, e, less)

abbrev Apart : Matched → Matched → Type 0
Apart a b = compare_matched a b ≢ Equal

matches-rise : (file : Secondary) (members : NumberedMembers) (row : JoinRow) → Pairwise (λ a b. compare_matched a b ≡ Less) (matches_of file members row)
matches-rise file members row =
    let all : List (ℕ × List ℕ) = records (member_of file.member members) in
    let joins : ℕ × List ℕ → Bool = λ pair. list_all (is_joined (image_in file.from row.images) pair.1) file.pairs in
    sorted-pairs compare_matched (matches_of file members row)
    (in_order-strict compare_matched (on_total match_of compare_matches-total) (map (matched file) (filter joins all))
    (pair-map Apart (matched file) (filter joins all)
    (pair-weaker (λ p. Unit {0}) (λ p q. p.0 < q.0) (λ p q. Apart (matched file p) (matched file q))
    (λ p q one two less. differ (key_value file.sequence p.1) (key_value file.sequence q.1) p.0 q.0 less)
    (filter joins all) (always (filter joins all)) (pair-filter (λ p q. p.0 < q.0) joins all (records-rise 1 (member_of file.member members).slots)))))

or_missing-rises : (keeps_missing : Bool) (file : Secondary) (found : List Matched) → Pairwise (λ a b. compare_matches (match_of a) (match_of b) ≡ Less) found
    → Pairwise (λ a b. compare_matches (match_of a) (match_of b) ≡ Less) (or_missing keeps_missing file found)
or_missing-rises keeps_missing file (m ∷ found) pairs = pairs
or_missing-rises true file [] pairs = (tt, tt)
or_missing-rises false file [] pairs = tt

abbrev roots : JoinRow → PathEntry
roots row = row.place.primary

abbrev keys_of : JoinRow → List Match
keys_of row = row.place.matches

levels-sorted : (keeps_missing : Bool) (members : NumberedMembers) (files : List Secondary)
    → AllByRecursion (λ (level : JoinRow → List Matched). (row : JoinRow) → Pairwise (λ a b. compare_matches (match_of a) (match_of b) ≡ Less) (level row)) (levels_of keeps_missing members files)
levels-sorted keeps_missing members [] = tt
levels-sorted keeps_missing members (file ∷ files) =
    ((λ row. or_missing-rises keeps_missing file (matches_of file members row) (matches-rise file members row)), levels-sorted keeps_missing members files)

-- ---- the rows

module _ (spec : JoinSpec) (members : NumberedMembers) where
  abbrev ties : Ties
  ties = spec.primary.ties

  abbrev rows_below : PathEntry → List JoinRow
  rows_below entry = joined_rows spec.keeps_missing spec.secondaries members (row_of_entry spec members entry)

  abbrev tree : PathEntry → List JoinRow
  tree entry = leaves row_with (levels_of spec.keeps_missing members spec.secondaries) (row_of_entry spec members entry)

  abbrev IsBelow : PathEntry → JoinRow → Type 0
  IsBelow entry row = row.place.primary ≡ entry

  abbrev Precedes : JoinRow → JoinRow → Type 0
  Precedes a b = compare_places ties a.place b.place ≡ Less

  tree-below : (entry : PathEntry) → AllByRecursion (IsBelow entry) (tree entry)
  tree-below entry =
      weaker (GoesOn row_with match_of compare_matches compare_matches-total roots keys_of (λ row m. refl) (λ row m. refl) (row_of_entry spec members entry)) (IsBelow entry)
      (λ row is. is.same_root) (tree entry)
      (goes-on row_with match_of compare_matches compare_matches-total roots keys_of (λ row m. refl) (λ row m. refl) (levels_of spec.keeps_missing members spec.secondaries) (row_of_entry spec members entry))

  tree-rises : (entry : PathEntry) → Pairwise Precedes (tree entry)
  tree-rises entry =
      pair-weaker (IsBelow entry) (λ a b. slice_cmp compare_matches a.place.matches b.place.matches ≡ Less) Precedes
      (λ a b one two less.
      ap (λ e. ordering_then (compare_entries ties e b.place.primary) (slice_cmp compare_matches a.place.matches b.place.matches)) one
      ∙ ap (λ e. ordering_then (compare_entries ties entry e) (slice_cmp compare_matches a.place.matches b.place.matches)) two
      ∙ ap (λ o. ordering_then o (slice_cmp compare_matches a.place.matches b.place.matches)) (tied_itself (compare_entries-total ties) entry)
      ∙ less)
      (tree entry) (tree-below entry)
      (leaves-rise row_with match_of compare_matches compare_matches-total roots keys_of (λ row m. refl) (λ row m. refl) (levels_of spec.keeps_missing members spec.secondaries)
      (levels-sorted spec.keeps_missing members spec.secondaries) (row_of_entry spec members entry))

  same-tree : (entry : PathEntry) → tree entry ≡ rows_below entry
  same-tree entry = sym (rows-leaves spec.keeps_missing spec.secondaries members (row_of_entry spec members entry))

  pub rows-rise : IsStrictlySortedBy (compare_places ties) (map (λ row. row.place) (rows_of spec members))
  rows-rise =
      pairs-sorted (compare_places ties) (map (λ row. row.place) (rows_of spec members))
      (pair-map (λ a b. compare_places ties a b ≡ Less) (λ (row : JoinRow). row.place) (rows_of spec members)
      (pair-flat rows_below (λ a b. compare_entries ties a b ≡ Less) IsBelow Precedes
      (λ x y a b less one two.
      ap (λ e. ordering_then (compare_entries ties e b.place.primary) (slice_cmp compare_matches a.place.matches b.place.matches)) one
      ∙ ap (λ e. ordering_then (compare_entries ties x e) (slice_cmp compare_matches a.place.matches b.place.matches)) two
      ∙ ap (λ o. ordering_then o (slice_cmp compare_matches a.place.matches b.place.matches)) less)
      (λ entry. subst (AllByRecursion (IsBelow entry)) (same-tree entry) (tree-below entry))
      (λ entry. subst (Pairwise Precedes) (same-tree entry) (tree-rises entry))
      (path spec.primary members) (sorted-pairs (compare_entries ties) (path spec.primary members) (path-strict spec.primary members))))
