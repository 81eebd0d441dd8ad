-- Why the entries of a path are strictly in order: no two are of one record of one format.
use Rattle.std.specs.Prelude.{◌≡◌, ◌≢◌, ◌≤◌, ◌<◌, ℕ, ◌+◌, List, [], ◌∷◌, ◌++◌, Bool, ⊤, filter, map}
use mathlib.Core.Path.{refl, sym, ◌∙◌, ap, subst}
use Rattle.std.proofs.Common.{arith}
use Rattle.std.proofs.lemmas.Bool.{cond_both}
use Rattle.std.specs.List.{AllByRecursion}
use Rattle.std.specs.List.Sorted.{IsStrictlySortedBy}
use Rattle.std.specs.declared.cmp.Ordering.{Ordering}
use Rattle.std.specs.declared.cmp.Ordering.TheVariants.{Less, Equal, Greater}
use Rattle.std.specs.Ordering.{nat_cmp, ordering_reverse, ordering_then, is_lt}
use Rattle.std.specs.Cmp.{IsTotalOrder}
use Rattle.std.specs.FinMap.{nat_cmp-IsAntisymmetric}
use Rattle.key_spec.specs.declared.Ties.{Ties}
use Rattle.key_spec.specs.declared.Ties.TheVariants.{Rising, Falling}
use Rattle.member_slots.specs.declared.slot.Slot.{Slot}
use Rattle.member_slots.specs.declared.slot.Slot.TheVariants.{Live, Deleted}
use Rattle.member_slots.specs.Member.{records_from, records}
use Rattle.member_slots.specs.Members.{NumberedMembers, member_of}
use Rattle.file_model.specs.declared.paths.PathFormat.{PathFormat}
use Rattle.file_model.specs.declared.paths.PathSpec.{PathSpec}
use Rattle.file_model.specs.KeyOrder.{compare_keys}
use Rattle.file_model.specs.Paths.{PathEntry, compare_ties, compare_entries, entry_of, selected_of, entries_of, entries_from, path}
use Rattle.file_model.specs.Selection.{selects}
use Rattle.file_model.specs.Sorting.{put_in_order, in_order}
use Rattle.file_model.proofs.OrderLemmas.{compare_entries-total, less-equal, greater-equal}
use Rattle.file_model.proofs.SortLemmas.{put-before, put-behind}

-- R holds of each item and each later one
abbrev Pairwise : {A : Type 0} → (A → A → Type 0) → List A → Type 0
Pairwise R [] = ⊤
Pairwise R (x ∷ xs) = AllByRecursion (R x) xs × Pairwise R xs

-- ---- what holds of each item

pub weaker : {A : Type 0} (P Q : A → Type 0) → ((x : A) → P x → Q x) → (xs : List A) → AllByRecursion P xs → AllByRecursion Q xs
weaker P Q so [] all = tt
weaker P Q so (x ∷ xs) all = (so x all.0, weaker P Q so xs all.1)

always : {A : Type 0} (P : A → Type 0) → ((x : A) → P x) → (xs : List A) → AllByRecursion P xs
always P so [] = tt
always P so (x ∷ xs) = (so x, always P so xs)

pub all-filter : {A : Type 0} (P : A → Type 0) (test : A → Bool) (xs : List A) → AllByRecursion P xs → AllByRecursion P (filter test xs)
all-filter P test [] all = tt
all-filter P test (x ∷ xs) all =
    let rest = all-filter P test xs all.1 in
    cond_both (test x) (x ∷ filter test xs) (filter test xs) (AllByRecursion P) (λ _. (all.0, rest)) (λ _. rest)

pub all-map : {A B : Type 0} (P : B → Type 0) (f : A → B) (xs : List A) → AllByRecursion (λ x. P (f x)) xs → AllByRecursion P (map f xs)
all-map P f [] all = tt
all-map P f (x ∷ xs) all = (all.0, all-map P f xs all.1)

pub all-append : {A : Type 0} (P : A → Type 0) (xs ys : List A) → AllByRecursion P xs → AllByRecursion P ys → AllByRecursion P (xs ++ ys)
all-append P [] ys all more = more
all-append P (x ∷ xs) ys all more = (all.0, all-append P xs ys all.1 more)

-- ---- what holds of pairs

pairwise-weaker : {A : Type 0} (R S : A → A → Type 0) → ((x y : A) → R x y → S x y) → (xs : List A) → Pairwise R xs → Pairwise S xs
pairwise-weaker R S so [] all = tt
pairwise-weaker R S so (x ∷ xs) all = (weaker (R x) (S x) (so x) xs all.0, pairwise-weaker R S so xs all.1)

pairwise-filter : {A : Type 0} (R : A → A → Type 0) (test : A → Bool) (xs : List A) → Pairwise R xs → Pairwise R (filter test xs)
pairwise-filter R test [] all = tt
pairwise-filter R test (x ∷ xs) all =
    let rest = pairwise-filter R test xs all.1 in
    cond_both (test x) (x ∷ filter test xs) (filter test xs) (Pairwise R) (λ _. (all-filter (R x) test xs all.0, rest)) (λ _. rest)

pairwise-map : {A B : Type 0} (R : B → B → Type 0) (f : A → B) (xs : List A) → Pairwise (λ x y. R (f x) (f y)) xs → Pairwise R (map f xs)
pairwise-map R f [] all = tt
pairwise-map R f (x ∷ xs) all = (all-map (R (f x)) f xs all.0, pairwise-map R f xs all.1)

pairwise-append : {A : Type 0} (R : A → A → Type 0) (xs ys : List A) → Pairwise R xs → Pairwise R ys → AllByRecursion (λ x. AllByRecursion (R x) ys) xs → Pairwise R (xs ++ ys)
pairwise-append R [] ys all more across = more
pairwise-append R (x ∷ xs) ys all more across = (all-append (R x) xs ys all.0 across.0, pairwise-append R xs ys all.1 more across.1)

-- ---- lists in order

all-put : {A : Type 0} (compare : A → A → Ordering) (P : A → Type 0) (x : A) (xs : List A) → P x → AllByRecursion P xs → AllByRecursion P (put_in_order compare x xs)
all-put compare P x [] here all = (here, tt)
all-put compare P x (z ∷ xs) here all =
    let rest = all-put compare P x xs here all.1 in
    cond_both (is_lt (compare x z)) (x ∷ z ∷ xs) (z ∷ put_in_order compare x xs) (AllByRecursion P) (λ _. (here, all)) (λ _. (all.0, rest))

all-in_order : {A : Type 0} (compare : A → A → Ordering) (P : A → Type 0) (xs : List A) → AllByRecursion P xs → AllByRecursion P (in_order compare xs)
all-in_order compare P [] all = tt
all-in_order compare P (x ∷ xs) all = all-put compare P x (in_order compare xs) all.0 (all-in_order compare P xs all.1)

put-strict : {A : Type 0} (compare : A → A → Ordering) → IsTotalOrder compare → (x : A) (xs : List A)
    → AllByRecursion (λ y. compare x y ≢ Equal) xs → IsStrictlySortedBy compare xs → IsStrictlySortedBy compare (put_in_order compare x xs)
unfolding IsStrictlySortedBy
put-strict compare o x [] differ sorted = (tt, tt)
put-strict compare o x (z ∷ xs) differ sorted = by (compare x z) refl (put-strict compare o x xs differ.1 sorted.1)
  where
    by : (order : Ordering) → compare x z ≡ order → IsStrictlySortedBy compare (put_in_order compare x xs) → IsStrictlySortedBy compare (put_in_order compare x (z ∷ xs))
    by Less h rest =
        subst (IsStrictlySortedBy compare) (sym (put-before compare x z xs (ap is_lt h)))
        ((h, weaker (λ y. compare z y ≡ Less) (λ y. compare x y ≡ Less) (λ y. o.trans x z y h) xs sorted.0), sorted)
    by Equal h rest = absurd (differ.0 h)
    by Greater h rest =
        subst (IsStrictlySortedBy compare) (sym (put-behind compare x z xs (ap is_lt h)))
        (all-put compare (λ y. compare z y ≡ Less) x xs (o.antisymm z x ∙ ap ordering_reverse h) sorted.0, rest)

in_order-strict : {A : Type 0} (compare : A → A → Ordering) → IsTotalOrder compare → (xs : List A)
    → Pairwise (λ x y. compare x y ≢ Equal) xs → IsStrictlySortedBy compare (in_order compare xs)
unfolding IsStrictlySortedBy
in_order-strict compare o [] apart = tt
in_order-strict compare o (x ∷ xs) apart =
    put-strict compare o x (in_order compare xs) (all-in_order compare (λ y. compare x y ≢ Equal) xs apart.0) (in_order-strict compare o xs apart.1)

-- ---- records

records-low : (rrn : ℕ) (slots : List Slot) → AllByRecursion (λ p. rrn ≤ p.0) (records_from rrn slots)
records-low rrn [] = tt
records-low rrn (Live image ∷ slots) =
    (omega arith, weaker (λ p. rrn + 1 ≤ p.0) (λ p. rrn ≤ p.0) (λ p h. omega (arith, h)) (records_from (rrn + 1) slots) (records-low (rrn + 1) slots))
records-low rrn (Deleted ∷ slots) =
    weaker (λ p. rrn + 1 ≤ p.0) (λ p. rrn ≤ p.0) (λ p h. omega (arith, h)) (records_from (rrn + 1) slots) (records-low (rrn + 1) slots)

records-rise : (rrn : ℕ) (slots : List Slot) → Pairwise (λ p q. p.0 < q.0) (records_from rrn slots)
records-rise rrn [] = tt
records-rise rrn (Live image ∷ slots) =
    (weaker (λ p. rrn + 1 ≤ p.0) (λ p. rrn < p.0) (λ p h. omega (arith, h)) (records_from (rrn + 1) slots) (records-low (rrn + 1) slots), records-rise (rrn + 1) slots)
records-rise rrn (Deleted ∷ slots) = records-rise (rrn + 1) slots

-- ---- entries

-- not both of one format and of one record
abbrev pub Apart : PathEntry → PathEntry → Type 0
Apart a b = a.format ≡ b.format → a.rrn ≡ b.rrn → ⊥

entries_of-apart : (number : ℕ) (format : PathFormat) (members : NumberedMembers) → Pairwise Apart (entries_of number format members)
entries_of-apart number format members =
    pairwise-map Apart (entry_of number format) (selected_of format (member_of format.member members).slots)
    (pairwise-weaker (λ p q. p.0 < q.0) (λ p q. number ≡ number → p.0 ≡ q.0 → ⊥) (λ p q h _ same. omega (arith, h, same)) (selected_of format (member_of format.member members).slots)
    (pairwise-filter (λ p q. p.0 < q.0) (λ pair. selects format.rules pair.1) (records (member_of format.member members)) (records-rise 1 (member_of format.member members).slots)))

entries_of-format : (number : ℕ) (format : PathFormat) (members : NumberedMembers) → AllByRecursion (λ e. e.format ≡ number) (entries_of number format members)
entries_of-format number format members =
    all-map (λ e. e.format ≡ number) (entry_of number format) (selected_of format (member_of format.member members).slots) (always (λ p. number ≡ number) (λ p. refl) (selected_of format (member_of format.member members).slots))

entries_from-format : (number : ℕ) (formats : List PathFormat) (members : NumberedMembers) → AllByRecursion (λ e. number ≤ e.format) (entries_from number formats members)
entries_from-format number [] members = tt
entries_from-format number (format ∷ formats) members =
    all-append (λ e. number ≤ e.format) (entries_of number format members) (entries_from (number + 1) formats members)
    (weaker (λ e. e.format ≡ number) (λ e. number ≤ e.format) (λ e h. omega (arith, h)) (entries_of number format members) (entries_of-format number format members))
    (weaker (λ e. number + 1 ≤ e.format) (λ e. number ≤ e.format) (λ e h. omega (arith, h)) (entries_from (number + 1) formats members) (entries_from-format (number + 1) formats members))

entries_from-apart : (number : ℕ) (formats : List PathFormat) (members : NumberedMembers) → Pairwise Apart (entries_from number formats members)
entries_from-apart number [] members = tt
entries_from-apart number (format ∷ formats) members =
    pairwise-append Apart (entries_of number format members) (entries_from (number + 1) formats members)
    (entries_of-apart number format members) (entries_from-apart (number + 1) formats members)
    (weaker (λ a. a.format ≡ number) (λ a. AllByRecursion (Apart a) (entries_from (number + 1) formats members))
    (λ a here. weaker (λ b. number + 1 ≤ b.format) (Apart a) (λ b h same _. omega (arith, here, h, same)) (entries_from (number + 1) formats members) (entries_from-format (number + 1) formats members))
    (entries_of number format members) (entries_of-format number format members))

-- ---- the path

second-equal : (a b : Ordering) → ordering_then a b ≡ Equal → b ≡ Equal
second-equal Less b h = less-equal h
second-equal Equal b h = h
second-equal Greater b h = greater-equal h

first-equal : (a b : Ordering) → ordering_then a b ≡ Equal → a ≡ Equal
first-equal Less b h = h
first-equal Equal b h = refl
first-equal Greater b h = h

ties-equal : (ties : Ties) (a b : ℕ) → compare_ties ties a b ≡ Equal → a ≡ b
ties-equal Rising a b h = nat_cmp-IsAntisymmetric a b h
ties-equal Falling a b h = sym (nat_cmp-IsAntisymmetric b a h)

pub apart-differ : (ties : Ties) (a b : PathEntry) → Apart a b → compare_entries ties a b ≢ Equal
apart-differ ties a b apart same =
    let behind = second-equal (compare_keys a.key b.key) (ordering_then (nat_cmp a.format b.format) (compare_ties ties a.rrn b.rrn)) same in
    apart (nat_cmp-IsAntisymmetric a.format b.format (first-equal (nat_cmp a.format b.format) (compare_ties ties a.rrn b.rrn) behind))
    (ties-equal ties a.rrn b.rrn (second-equal (nat_cmp a.format b.format) (compare_ties ties a.rrn b.rrn) behind))

pub path-strict : (spec : PathSpec) (members : NumberedMembers) → IsStrictlySortedBy (compare_entries spec.ties) (path spec members)
path-strict spec members =
    in_order-strict (compare_entries spec.ties) (compare_entries-total spec.ties) (entries_from 0 spec.formats members)
    (pairwise-weaker Apart (λ a b. compare_entries spec.ties a b ≢ Equal) (apart-differ spec.ties) (entries_from 0 spec.formats members) (entries_from-apart 0 spec.formats members))
