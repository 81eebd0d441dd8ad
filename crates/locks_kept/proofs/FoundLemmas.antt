-- What a read finds is a record that stands in the member of its entry's format.
use Rattle.std.proofs.Common.{◌≡◌, ℕ, zero, suc, ◌+◌, ◌-◌, ◌≤◌, ◌==◌, Bool, true, false, cond, if◌then◌else◌, List, [], ◌∷◌, ◌++◌, reverse, Option, Some, None, IsSome, IfSome, slice_get, Contains, refl, sym, subst, arith}
use Rattle.std.specs.List.{AllByRecursion, find}
use Rattle.std.specs.Ordering.{is_gt, is_lt}
use Rattle.std.specs.declared.cmp.Ordering.{Ordering}
use Rattle.std.proofs.lemmas.Bool.Decides.{nat_tests}
use Rattle.std.proofs.lemmas.List.{reverse-append}
use Rattle.std.proofs.lemmas.List.Elements.{All-contains_itself}
use Rattle.member_slots.specs.declared.slot.Slot.{Slot}
use Rattle.member_slots.specs.declared.slot.Slot.TheVariants.{Live, Deleted}
use Rattle.member_slots.specs.Member.{MemberState, records_from, slot_at}
use Rattle.member_slots.specs.Members.{member_of}
use Rattle.dds_physical.specs.declared.physical_files.PhysicalSpec.{PhysicalSpec}
use Rattle.dds_logical.specs.declared.views.LogicalSpec.{LogicalSpec}
use Rattle.dds_logical.specs.declared.views.LogicalSpec.TheVariants.{Join}
use Rattle.dds_logical.specs.declared.join_views.JoinView.{JoinView}
use Rattle.file_model.specs.declared.paths.PathFormat.{PathFormat}
use Rattle.file_model.specs.KeyOrder.{KeyValue, begins_with}
use Rattle.file_model.specs.Joins.{RowPlace}
use Rattle.file_model.specs.Paths.{PathEntry, compare_entries, entry_of, entries_of, selected_of}
use Rattle.file_model.specs.FilePaths.{every_record, own_fields, path_format}
use Rattle.file_model.specs.Selection.{selects}
use Rattle.file_model.specs.Sorting.{put_in_order, in_order}
use Rattle.file_model.specs.Positions.{Reading, Position, arrival_entry, side_of, next_from, prior_from, next_equal, prior_equal, where_equal, chain_key, chain_number}
use Rattle.logical_model.specs.Bases.{Bases, base_members}
use Rattle.logical_model.specs.Readings.{physical_reading, logical_reading, rows_reading}
use Rattle.joint_state.specs.Found.{StandsIn}
use Rattle.joint_state.proofs.FoundLemmas.{entry-stands, row-stands}
use Rattle.library_steps.specs.State.{Memory}
use Rattle.library_steps.specs.Records.{live_record, record_in}
use Rattle.locks_kept.proofs.ListLemmas.{all-append, all-filter, all-from, all-map, all-weaker}

-- ---- the records of a list of slots

-- the slot of this number, where the first has that one
abbrev StandsFrom : ℕ → List Slot → ℕ → Type 0
StandsFrom first slots rrn = (first ≤ rrn) × IsSome (record_in (slice_get slots (rrn - first)))

stands-behind : (first rrn : ℕ) (slot : Slot) (slots : List Slot) → StandsFrom (first + 1) slots rrn → StandsFrom first (slot ∷ slots) rrn
stands-behind first rrn slot slots stands =
    let above : first + 1 ≤ rrn = stands.0 in
    let place : (rrn - first) ≡ suc (rrn - (first + 1)) = omega (arith, above) in
    (omega (arith, above), subst (λ n. IsSome (record_in (slice_get (slot ∷ slots) n))) (sym place) stands.1)

records-stand : (first : ℕ) (slots : List Slot) → AllByRecursion (λ pair. StandsFrom first slots pair.0) (records_from first slots)
records-stand first [] = tt
records-stand first (Live image ∷ slots) =
    let here : (first - first) ≡ 0 = omega arith in (
      (omega arith, subst (λ n. IsSome (record_in (slice_get (Live image ∷ slots) n))) (sym here) refl),
      all-weaker (λ (pair : ℕ × List ℕ). StandsFrom (first + 1) slots pair.0) (λ pair. StandsFrom first (Live image ∷ slots) pair.0) (records_from (first + 1) slots)
          (λ pair stands. stands-behind first pair.0 (Live image) slots stands) (records-stand (first + 1) slots),
    )
records-stand first (Deleted ∷ slots) =
    all-weaker (λ (pair : ℕ × List ℕ). StandsFrom (first + 1) slots pair.0) (λ pair. StandsFrom first (Deleted ∷ slots) pair.0) (records_from (first + 1) slots)
    (λ pair stands. stands-behind first pair.0 Deleted slots stands) (records-stand (first + 1) slots)

-- ---- records that stand there

abbrev pub Stands : ℕ → Memory → ℕ → Type 0
Stands member m rrn = IsSome (live_record member rrn m)

stands-at : (member : MemberState) (rrn : ℕ) → StandsFrom 1 member.slots rrn → IsSome (record_in (slot_at member rrn))
stands-at member rrn stands =
    let first : 1 ≤ rrn = stands.0 in
    let some : (rrn == 0) ≡ false = grind (arith, nat_tests, first) in
    rw some stands.1

records-live : (member : ℕ) (m : Memory) → AllByRecursion (λ pair. Stands member m pair.0) (records_from 1 (member_of member m.members).slots)
records-live member m =
    all-weaker (λ (pair : ℕ × List ℕ). StandsFrom 1 (member_of member m.members).slots pair.0) (λ pair. Stands member m pair.0) (records_from 1 (member_of member m.members).slots)
    (λ pair stands. stands-at (member_of member m.members) pair.0 stands) (records-stand 1 (member_of member m.members).slots)

all-put : {A : Type 0} (P : A → Type 0) (compare : A → A → Ordering) (item : A) (xs : List A) → P item → AllByRecursion P xs → AllByRecursion P (put_in_order compare item xs)
all-put P compare item [] here all = (here, tt)
all-put P compare item (x ∷ xs) here all =
    elim (is_lt (compare item x)) as (λ b. AllByRecursion P (if b then item ∷ x ∷ xs else x ∷ put_in_order compare item xs)) [
      | true ↦ (here, all)
      | false ↦ (all.0, all-put P compare item xs here all.1)
    ]

all-in_order : {A : Type 0} (P : A → Type 0) (compare : A → A → Ordering) (xs : List A) → AllByRecursion P xs → AllByRecursion P (in_order compare xs)
all-in_order P compare [] all = tt
all-in_order P compare (x ∷ xs) all = all-put P compare x (in_order compare xs) all.0 (all-in_order P compare xs all.1)

-- ---- the entries of paths

-- a record stands there, in the member of the entry's format, where these are the members of the formats
pub record IsIn (base : List ℕ) (m : Memory) (entry : PathEntry) : Type 0 where
  pub member : ℕ
  pub at : slice_get base entry.format ≡ Some member
  pub stands : Stands member m entry.rrn

selected-live : (format : PathFormat) (m : Memory) → AllByRecursion (λ pair. Stands format.member m pair.0) (selected_of format (member_of format.member m.members).slots)
selected-live format m =
    all-filter (λ (pair : ℕ × List ℕ). Stands format.member m pair.0) (λ pair. Stands format.member m pair.0) (λ pair. selects format.rules pair.1)
    (records_from 1 (member_of format.member m.members).slots) (λ pair passed stands. stands) (records-live format.member m)

-- ---- what an open reads

pub physical-stands : (keyed : Bool) (spec : PhysicalSpec) (member : ℕ) (m : Memory) → AllByRecursion (IsIn (member ∷ []) m) (physical_reading keyed spec member m.members).items
physical-stands true spec member m =
    let format : PathFormat = path_format member every_record (own_fields spec.format.fields) spec.keys.parts in
    all-in_order (IsIn (member ∷ []) m) (compare_entries spec.keys.ties) (entries_of 0 format m.members ++ [])
    (all-append (IsIn (member ∷ []) m) (entries_of 0 format m.members) []
    (all-map (λ (pair : ℕ × List ℕ). Stands member m pair.0) (IsIn (member ∷ []) m) (entry_of 0 format) (selected_of format (member_of member m.members).slots)
    (λ pair stands. record { member = member; at = refl; stands = stands }) (selected-live format m)) tt)
physical-stands false spec member m =
    all-map (λ (pair : ℕ × List ℕ). Stands member m pair.0) (IsIn (member ∷ []) m) arrival_entry (records_from 1 (member_of member m.members).slots)
    (λ pair stands. record { member = member; at = refl; stands = stands }) (records-live member m)

-- what holds of each item that a list has holds of all
all-contained : {A : Type 0} (P : A → Type 0) (xs : List A) → ((x : A) → Contains xs x → P x) → AllByRecursion P xs
all-contained P xs each = all-weaker (Contains xs) P xs each (all-from (Contains xs) xs (All-contains_itself xs))

in-standing : (base : List ℕ) (m : Memory) (entry : PathEntry) → StandsIn base m.members entry → IsIn base m entry
in-standing base m entry is = record { member = is.member; at = is.is; stands = subst (λ slot. IsSome (record_in slot)) (sym is.live) refl }

pub logical-stands : (bases : Bases) (spec : LogicalSpec) (m : Memory) → AllByRecursion (IsIn (base_members bases spec) m) (logical_reading bases spec m.members).items
logical-stands bases spec m =
    all-contained (IsIn (base_members bases spec) m) (logical_reading bases spec m.members).items
    (λ entry among. in-standing (base_members bases spec) m entry (entry-stands bases spec m.members entry among))

-- the first of the members, where there are more
in-more : (member : ℕ) (others : List ℕ) (m : Memory) (entry : PathEntry) → IsIn (member ∷ []) m entry → IsIn (member ∷ others) m entry
in-more member others m entry is = record { member = is.member; at = by entry.format is.at; stands = is.stands }
  where
    by : (n : ℕ) → slice_get (member ∷ []) n ≡ Some is.member → slice_get (member ∷ others) n ≡ Some is.member
    by zero at = at
    by (suc n) at = absurd cc

pub rows-stand : (bases : Bases) (view : JoinView) (m : Memory) → AllByRecursion (λ row. IsIn (base_members bases (Join view)) m row.primary) (rows_reading bases view m.members).items
rows-stand bases view m =
    all-contained (λ (row : RowPlace). IsIn (base_members bases (Join view)) m row.primary) (rows_reading bases view m.members).items
    (λ row among. in-more (bases view.primary).member _ m row.primary
    (in-standing ((bases view.primary).member ∷ []) m row.primary (row-stands bases view m.members row among)))

-- ---- what is found among items that are all so, is so

module _ {A : Type 0} (P : A → Type 0) where
  find-holds : (test : A → Bool) (xs : List A) → AllByRecursion P xs → IfSome (find test xs) P
  find-holds test [] all = tt
  find-holds test (x ∷ xs) all =
      elim (test x) as (λ b. IfSome (cond b (Some x) (find test xs)) P) [
        | true ↦ all.0
        | false ↦ find-holds test xs all.1
      ]

  all-reverse : (xs : List A) → AllByRecursion P xs → AllByRecursion P (reverse xs)
  all-reverse [] all = tt
  all-reverse (x ∷ xs) all = subst (AllByRecursion P) (sym (reverse-append (x ∷ []) xs)) (all-append P (reverse xs) (x ∷ []) (all-reverse xs all.1) (all.0, tt))

  equal-holds : (reading : Reading A) (values : List KeyValue) (item : Option A) → IfSome item P → IfSome (where_equal reading values item) P
  equal-holds reading values None holds = tt
  equal-holds reading values (Some item) holds =
      elim (begins_with values (reading.entry item).key) as (λ b. IfSome (if b then Some item else None) P) [ true ↦ holds | false ↦ tt ]

  pub next_from-holds : (reading : Reading A) (position : Position A) → AllByRecursion P reading.items → IfSome (next_from reading position) P
  next_from-holds reading position all = find-holds (λ item. is_gt (side_of reading position item)) reading.items all

  pub prior_from-holds : (reading : Reading A) (position : Position A) → AllByRecursion P reading.items → IfSome (prior_from reading position) P
  prior_from-holds reading position all = find-holds (λ item. is_lt (side_of reading position item)) (reverse reading.items) (all-reverse reading.items all)

  pub next_equal-holds : (reading : Reading A) (values : List KeyValue) (position : Position A) → AllByRecursion P reading.items → IfSome (next_equal reading values position) P
  next_equal-holds reading values position all = equal-holds reading values (next_from reading position) (next_from-holds reading position all)

  pub prior_equal-holds : (reading : Reading A) (values : List KeyValue) (position : Position A) → AllByRecursion P reading.items → IfSome (prior_equal reading values position) P
  prior_equal-holds reading values position all = equal-holds reading values (prior_from reading position) (prior_from-holds reading position all)

  pub chain_key-holds : (reading : Reading A) (values : List KeyValue) → AllByRecursion P reading.items → IfSome (chain_key reading values) P
  chain_key-holds reading values all = find-holds (λ item. begins_with values (reading.entry item).key) reading.items all

  pub chain_number-holds : (reading : Reading A) (number : ℕ) → AllByRecursion P reading.items → IfSome (chain_number reading number) P
  chain_number-holds reading number all = find-holds (λ item. (reading.entry item).rrn == number) reading.items all
