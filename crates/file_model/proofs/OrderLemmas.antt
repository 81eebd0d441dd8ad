-- The orders of values, keys, entries and rows are total.
use Rattle.std.specs.Prelude.{◌≡◌, ℕ}
use mathlib.Core.Path.{refl, sym, ◌∙◌, ap}
use mathlib.Core.Bool.{true≢false}
use Rattle.std.specs.declared.cmp.Ordering.{Ordering}
use Rattle.std.specs.declared.cmp.Ordering.TheVariants.{Less, Equal, Greater}
use Rattle.std.specs.Ordering.{nat_cmp, ordering_reverse, is_lt, is_gt, on, then_cmp}
use Rattle.std.specs.Cmp.{IsTotalOrder, nat_cmp_total, on_total, back_total, then_total}
use Rattle.std.specs.Cmp.Lexicographic.{lists_total, nat_list_cmp_total}
use Rattle.decimal_order.proofs.OrderLemmas.{compare_numbers-total}
use Rattle.decimal_order.below.field_types.specs.declared.values.Value.{Value}
use Rattle.decimal_order.below.field_types.specs.declared.values.Value.TheVariants.{Chars, Number}
use Rattle.key_spec.specs.declared.Ties.{Ties}
use Rattle.key_spec.specs.declared.Ties.TheVariants.{Rising, Falling}
use Rattle.file_model.specs.KeyOrder.{KeyValue, Missing, Ascending, Descending, compare_values, compare_key_values, compare_keys}
use Rattle.file_model.specs.Paths.{PathEntry, compare_ties, compare_entries}
use Rattle.file_model.specs.Joins.{Match, NoRecord, RecordAt, RowPlace, compare_matches, compare_places}

greater-less : {A : Type 0} → Greater ≡ Less → A
greater-less h = absurd (true≢false (ap is_gt h))

pub less-equal : {A : Type 0} → Less ≡ Equal → A
less-equal h = absurd (true≢false (ap is_lt h))

pub greater-equal : {A : Type 0} → Greater ≡ Equal → A
greater-equal h = absurd (true≢false (ap is_gt h))

-- ---- values

values-antisymm : (x y : Value) → compare_values x y ≡ ordering_reverse (compare_values y x)
values-antisymm (Chars a) (Chars b) = nat_list_cmp_total.antisymm a b
values-antisymm (Chars a) (Number b) = refl
values-antisymm (Number a) (Chars b) = refl
values-antisymm (Number a) (Number b) = compare_numbers-total.antisymm a b

values-trans : (x y z : Value) → compare_values x y ≡ Less → compare_values y z ≡ Less → compare_values x z ≡ Less
values-trans (Chars a) (Chars b) (Chars c) less more = nat_list_cmp_total.trans a b c less more
values-trans (Chars a) (Chars b) (Number c) less more = refl
values-trans (Chars a) (Number b) (Chars c) less more = greater-less more
values-trans (Chars a) (Number b) (Number c) less more = refl
values-trans (Number a) (Chars b) z less more = greater-less less
values-trans (Number a) (Number b) (Chars c) less more = greater-less more
values-trans (Number a) (Number b) (Number c) less more = compare_numbers-total.trans a b c less more

values-congr : (x y z : Value) → compare_values x y ≡ Equal → compare_values x z ≡ compare_values y z
values-congr (Chars a) (Chars b) (Chars c) same = nat_list_cmp_total.congr a b c same
values-congr (Chars a) (Chars b) (Number c) same = refl
values-congr (Chars a) (Number b) z same = less-equal same
values-congr (Number a) (Chars b) z same = greater-equal same
values-congr (Number a) (Number b) (Chars c) same = refl
values-congr (Number a) (Number b) (Number c) same = compare_numbers-total.congr a b c same

pub compare_values-total : IsTotalOrder compare_values
compare_values-total = record { antisymm = values-antisymm; trans = values-trans; congr = values-congr }

values-back : IsTotalOrder (λ x y. ordering_reverse (compare_values x y))
values-back = record {
  antisymm = λ x y. ap ordering_reverse (values-antisymm x y);
  trans = λ x y z less more. sym (values-antisymm z x) ∙ values-trans z y x (values-antisymm z y ∙ more) (values-antisymm y x ∙ less);
  congr = λ x y z same. ap ordering_reverse (values-congr x y z (reversed-equal (compare_values x y) same));
}
  where
    reversed-equal : (o : Ordering) → ordering_reverse o ≡ Equal → o ≡ Equal
    reversed-equal Less h = greater-equal h
    reversed-equal Equal h = h
    reversed-equal Greater h = less-equal h

-- ---- keys

key_values-antisymm : (x y : KeyValue) → compare_key_values x y ≡ ordering_reverse (compare_key_values y x)
key_values-antisymm Missing Missing = refl
key_values-antisymm Missing (Ascending b) = refl
key_values-antisymm Missing (Descending b) = refl
key_values-antisymm (Ascending a) Missing = refl
key_values-antisymm (Ascending a) (Ascending b) = compare_values-total.antisymm a b
key_values-antisymm (Ascending a) (Descending b) = refl
key_values-antisymm (Descending a) Missing = refl
key_values-antisymm (Descending a) (Ascending b) = refl
key_values-antisymm (Descending a) (Descending b) = values-back.antisymm a b

key_values-trans : (x y z : KeyValue) → compare_key_values x y ≡ Less → compare_key_values y z ≡ Less → compare_key_values x z ≡ Less
key_values-trans Missing Missing z less more = more
key_values-trans Missing (Ascending b) Missing less more = greater-less more
key_values-trans Missing (Ascending b) (Ascending c) less more = refl
key_values-trans Missing (Ascending b) (Descending c) less more = refl
key_values-trans Missing (Descending b) Missing less more = greater-less more
key_values-trans Missing (Descending b) (Ascending c) less more = refl
key_values-trans Missing (Descending b) (Descending c) less more = refl
key_values-trans (Ascending a) Missing z less more = greater-less less
key_values-trans (Ascending a) (Ascending b) Missing less more = greater-less more
key_values-trans (Ascending a) (Ascending b) (Ascending c) less more = compare_values-total.trans a b c less more
key_values-trans (Ascending a) (Ascending b) (Descending c) less more = refl
key_values-trans (Ascending a) (Descending b) Missing less more = greater-less more
key_values-trans (Ascending a) (Descending b) (Ascending c) less more = greater-less more
key_values-trans (Ascending a) (Descending b) (Descending c) less more = refl
key_values-trans (Descending a) Missing z less more = greater-less less
key_values-trans (Descending a) (Ascending b) z less more = greater-less less
key_values-trans (Descending a) (Descending b) Missing less more = greater-less more
key_values-trans (Descending a) (Descending b) (Ascending c) less more = greater-less more
key_values-trans (Descending a) (Descending b) (Descending c) less more = values-back.trans a b c less more

key_values-congr : (x y z : KeyValue) → compare_key_values x y ≡ Equal → compare_key_values x z ≡ compare_key_values y z
key_values-congr Missing Missing z same = refl
key_values-congr Missing (Ascending b) z same = less-equal same
key_values-congr Missing (Descending b) z same = less-equal same
key_values-congr (Ascending a) Missing z same = greater-equal same
key_values-congr (Ascending a) (Ascending b) Missing same = refl
key_values-congr (Ascending a) (Ascending b) (Ascending c) same = compare_values-total.congr a b c same
key_values-congr (Ascending a) (Ascending b) (Descending c) same = refl
key_values-congr (Ascending a) (Descending b) z same = less-equal same
key_values-congr (Descending a) Missing z same = greater-equal same
key_values-congr (Descending a) (Ascending b) z same = greater-equal same
key_values-congr (Descending a) (Descending b) Missing same = refl
key_values-congr (Descending a) (Descending b) (Ascending c) same = refl
key_values-congr (Descending a) (Descending b) (Descending c) same = values-back.congr a b c same

pub compare_key_values-total : IsTotalOrder compare_key_values
compare_key_values-total = record { antisymm = key_values-antisymm; trans = key_values-trans; congr = key_values-congr }

pub compare_keys-total : IsTotalOrder compare_keys
compare_keys-total = lists_total compare_key_values-total

-- ---- entries

ties-total : (ties : Ties) → IsTotalOrder (compare_ties ties)
ties-total Rising = nat_cmp_total
ties-total Falling = back_total nat_cmp_total

pub compare_entries-total : (ties : Ties) → IsTotalOrder (compare_entries ties)
compare_entries-total ties =
    then_total (on_total (λ (e : PathEntry). e.key) compare_keys-total)
    (then_total (on_total (λ (e : PathEntry). e.format) nat_cmp_total) (on_total (λ (e : PathEntry). e.rrn) (ties-total ties)))

-- ---- rows

found-total : IsTotalOrder (then_cmp (on (λ (p : KeyValue × ℕ). p.0) compare_key_values) (on (λ (p : KeyValue × ℕ). p.1) nat_cmp))
found-total = then_total (on_total (λ (p : KeyValue × ℕ). p.0) compare_key_values-total) (on_total (λ (p : KeyValue × ℕ). p.1) nat_cmp_total)

matches-antisymm : (x y : Match) → compare_matches x y ≡ ordering_reverse (compare_matches y x)
matches-antisymm NoRecord NoRecord = refl
matches-antisymm NoRecord (RecordAt b j) = refl
matches-antisymm (RecordAt a i) NoRecord = refl
matches-antisymm (RecordAt a i) (RecordAt b j) = found-total.antisymm (a, i) (b, j)

matches-trans : (x y z : Match) → compare_matches x y ≡ Less → compare_matches y z ≡ Less → compare_matches x z ≡ Less
matches-trans NoRecord NoRecord z less more = more
matches-trans NoRecord (RecordAt b j) NoRecord less more = greater-less more
matches-trans NoRecord (RecordAt b j) (RecordAt c k) less more = refl
matches-trans (RecordAt a i) NoRecord z less more = greater-less less
matches-trans (RecordAt a i) (RecordAt b j) NoRecord less more = greater-less more
matches-trans (RecordAt a i) (RecordAt b j) (RecordAt c k) less more = found-total.trans (a, i) (b, j) (c, k) less more

matches-congr : (x y z : Match) → compare_matches x y ≡ Equal → compare_matches x z ≡ compare_matches y z
matches-congr NoRecord NoRecord z same = refl
matches-congr NoRecord (RecordAt b j) z same = less-equal same
matches-congr (RecordAt a i) NoRecord z same = greater-equal same
matches-congr (RecordAt a i) (RecordAt b j) NoRecord same = refl
matches-congr (RecordAt a i) (RecordAt b j) (RecordAt c k) same = found-total.congr (a, i) (b, j) (c, k) same

pub compare_matches-total : IsTotalOrder compare_matches
compare_matches-total = record { antisymm = matches-antisymm; trans = matches-trans; congr = matches-congr }

pub compare_places-total : (ties : Ties) → IsTotalOrder (compare_places ties)
compare_places-total ties =
    then_total (on_total (λ (p : RowPlace). p.primary) (compare_entries-total ties)) (on_total (λ (p : RowPlace). p.matches) (lists_total compare_matches-total))
