-- Entries that are put in one after another, in arrival order, are the path.
use Rattle.std.proofs.Common.{◌≡◌, ◌==◌, false, ℕ, zero, suc, ◌+◌, ◌-◌, ◌<◌, Bool, Option, Some, None, List, [], ◌∷◌, ◌++◌, length, drop, get_or, refl, sym, ◌∙◌, ap, subst, arith, append_assoc}
use Rattle.std.specs.Prelude.{◌≢◌, Contains, All, filter}
use Rattle.std.specs.List.{AllByRecursion, slice_get}
use Rattle.std.specs.Ordering.{is_lt, is_gt}
use Rattle.std.specs.declared.cmp.Ordering.TheVariants.{Equal}
use Rattle.std.proofs.lemmas.List.{append-nil}
use Rattle.std.proofs.lemmas.List.Elements.{All-from_recursion, recursion_from_All, All-contains}
use Rattle.key_order.below.key_pages.specs.declared.entries.Entry.{Entry}
use Rattle.key_order.specs.Order.{entry_cmp, IsInOrder}
use Rattle.key_order.specs.EntryList.{with_entry}
use Rattle.key_order.proofs.KeyPagesOrderLemmas.{entry_total}
use Rattle.member_slots.specs.declared.slot.Slot.{Slot}
use Rattle.key_order.specs.Sorting.{put_in_order, in_order}
use Rattle.key_order.proofs.SortLemmas.{in_order-middle}
use Rattle.key_order.proofs.PathLemmas.{weaker, all-append, all-filter}
use Rattle.access_path.specs.KeptEntries.{KeyOf, slot_key, entries_at, entries_in, entries_from, kept}
use Rattle.member_slots.specs.Member.{MemberState, slot_at}
use Rattle.member_slots.specs.Members.{NumberedMembers, member_of}
use Rattle.std.proofs.lemmas.Bool.{ne_eqb, cond-false}
use Rattle.access_path.specs.Rebuilding.{member_slots, TakesSlot, TakesAll, added, IsBefore}
use Rattle.access_path.proofs.OrderedLemmas.{Pairwise, in_order-strict, parted-put, all-in_order}
use Rattle.access_path.proofs.EntryLemmas.{Apart, apart-differ, from-apart, differing}

-- ---- one entry more

pub absent-before : (entry : Entry) (entries : List Entry) → All (IsBefore entry.format entry.rrn) entries → ¬ Contains entries entry
absent-before entry entries before there =
    let is : IsBefore entry.format entry.rrn entry = All-contains (IsBefore entry.format entry.rrn) entries entry before there in
    (let lt : entry.rrn < entry.rrn = is.records (omega arith) in absurd (omega arith))

pub before-next : (format rrn : ℕ) (entries : List Entry) → All (IsBefore format rrn) entries → All (IsBefore format (rrn + 1)) entries
before-next format rrn entries all k d lt =
    let is = all k d lt in record { formats = is.formats; records = λ same. (let less = is.records same in omega arith) }

pub before-format : (format rrn : ℕ) (entries : List Entry) → All (IsBefore format rrn) entries → All (IsBefore (format + 1) 1) entries
before-format format rrn entries all k d lt =
    let is = all k d lt in record { formats = (let le = is.formats in omega arith); records = λ same. (let le = is.formats in absurd (omega arith)) }

pub before-with : (falling : Bool) (entry : Entry) (entries : List Entry) → All (IsBefore entry.format entry.rrn) entries
    → All (IsBefore entry.format (entry.rrn + 1)) (with_entry falling entry entries)
before-with falling entry entries all =
    let P : Entry → Type 0 = IsBefore entry.format (entry.rrn + 1) in
    let each : AllByRecursion P entries = recursion_from_All P entries (before-next entry.format entry.rrn entries all) in
    let own : P entry = record { formats = omega arith; records = λ same. omega arith } in
    All-from_recursion P (with_entry falling entry entries)
    (all-append P (filter (λ other. is_lt (entry_cmp falling other entry)) entries) (entry ∷ filter (λ other. is_gt (entry_cmp falling other entry)) entries)
    (all-filter P (λ other. is_lt (entry_cmp falling other entry)) entries each)
    (own, all-filter P (λ other. is_gt (entry_cmp falling other entry)) entries each))

-- ---- all of them

pub added-append : (falling : Bool) (first second entries : List Entry) → added falling (first ++ second) entries ≡ added falling second (added falling first entries)
added-append falling [] second entries = refl
added-append falling (e ∷ first) second entries = added-append falling first second (with_entry falling e entries)

put-last : (falling : Bool) (front : List Entry) (e : Entry) → Pairwise Apart front → AllByRecursion (λ x. Apart x e) front
    → with_entry falling e (in_order (entry_cmp falling) front) ≡ in_order (entry_cmp falling) (front ++ e ∷ [])
put-last falling front e apart across =
    let differ : AllByRecursion (λ x. entry_cmp falling x e ≢ Equal) front = weaker (λ x. Apart x e) (λ x. entry_cmp falling x e ≢ Equal) (λ x. apart-differ falling x e) front across in
    let sorted : IsInOrder falling (in_order (entry_cmp falling) front) = in_order-strict (entry_cmp falling) (entry_total falling) front (differing falling front apart) in
    parted-put (entry_cmp falling) (entry_total falling) e (in_order (entry_cmp falling) front) sorted (all-in_order (entry_cmp falling) (λ x. entry_cmp falling x e ≢ Equal) front differ)
    ∙ ap (λ (t : List Entry). put_in_order (entry_cmp falling) e (in_order (entry_cmp falling) t)) (sym (append-nil front))
    ∙ sym (in_order-middle (entry_cmp falling) (entry_total falling) front e [] (All-from_recursion (λ x. entry_cmp falling x e ≢ Equal) front differ))

-- the first list with the first item of the second
moved-apart : (front : List Entry) (e : Entry) → Pairwise Apart front → AllByRecursion (λ x. Apart x e) front → Pairwise Apart (front ++ e ∷ [])
moved-apart [] e apart across = (tt, tt)
moved-apart (x ∷ front) e apart across = (all-append (Apart x) front (e ∷ []) apart.0 (across.0, tt), moved-apart front e apart.1 across.1)

heads : (e : Entry) (more front : List Entry) → AllByRecursion (λ x. AllByRecursion (Apart x) (e ∷ more)) front → AllByRecursion (λ x. Apart x e) front
heads e more front across = weaker (λ x. AllByRecursion (Apart x) (e ∷ more)) (λ x. Apart x e) (λ x all. all.0) front across

tails : (e : Entry) (more front : List Entry) → AllByRecursion (λ x. AllByRecursion (Apart x) (e ∷ more)) front → AllByRecursion (λ x. AllByRecursion (Apart x) more) front
tails e more front across = weaker (λ x. AllByRecursion (Apart x) (e ∷ more)) (λ x. AllByRecursion (Apart x) more) (λ x all. all.1) front across

added-ordered : (falling : Bool) (more front : List Entry) → Pairwise Apart front → Pairwise Apart more → AllByRecursion (λ x. AllByRecursion (Apart x) more) front
    → added falling more (in_order (entry_cmp falling) front) ≡ in_order (entry_cmp falling) (front ++ more)
added-ordered falling [] front apart own across = ap (in_order (entry_cmp falling)) (sym (append-nil front))
added-ordered falling (e ∷ more) front apart own across =
    let one = heads e more front across in
    ap (added falling more) (put-last falling front e apart one)
    ∙ added-ordered falling more (front ++ e ∷ []) (moved-apart front e apart one) own.1 (all-append (λ x. AllByRecursion (Apart x) more) front (e ∷ []) (tails e more front across) (own.0, tt))
    ∙ ap (in_order (entry_cmp falling)) (append_assoc front (e ∷ []) more)

pub added-kept : (keys : KeyOf) (falling : Bool) (slots : List (List Slot)) → added falling (entries_from keys 0 slots) [] ≡ kept keys falling slots
added-kept keys falling slots = added-ordered falling (entries_from keys 0 slots) [] tt (from-apart keys 0 slots) tt

-- ---- the loops

drop-found : {A : Type 0} (xs : List A) (i : ℕ) (x : A) → slice_get xs i ≡ Some x → drop i xs ≡ x ∷ drop (i + 1) xs
drop-found {A = A} [] i x h = absurd (let e : ◌≡◌ {A = Option A} None (Some x) = h in cc)
drop-found {A = A} (y ∷ xs) zero x h = ap (λ (t : A). t ∷ xs) (let e : ◌≡◌ {A = Option A} (Some y) (Some x) = h in cc)
drop-found {A = A} (y ∷ xs) (suc i) x h = drop-found xs i x h ∙ ap (λ (n : ℕ). x ∷ drop n (y ∷ xs)) (let e : suc (i + 1) ≡ suc i + 1 = omega arith in e)

slot-here : (m : MemberState) (i : ℕ) (slot : Slot) → slot_at m (i + 1) ≡ Some slot → slice_get m.slots i ≡ Some slot
slot-here m i slot h =
    let some : ((i + 1) == 0) ≡ false = ne_eqb (i + 1) 0 (λ e. absurd (omega arith)) in
    sym (cond-false ((i + 1) == 0) None (slice_get m.slots (i + 1 - 1)) some ∙ ap (slice_get m.slots) (let e : i + 1 - 1 ≡ i = omega arith in e)) ∙ h

pub slots-step : (falling : Bool) (keys : KeyOf) (format i : ℕ) (m : MemberState) (slot : Slot) (entries : List Entry) → slot_at m (i + 1) ≡ Some slot
    → added falling (entries_in keys format (i + 1) (drop i m.slots)) entries
    ≡ added falling (entries_in keys format (i + 1 + 1) (drop (i + 1) m.slots)) (added falling (entries_at format (i + 1) (slot_key (keys format) slot)) entries)
slots-step falling keys format i m slot entries h =
    ap (λ (w : List Slot). added falling (entries_in keys format (i + 1) w) entries) (drop-found m.slots i slot (slot-here m i slot h))
    ∙ added-append falling (entries_at format (i + 1) (slot_key (keys format) slot)) (entries_in keys format (i + 1 + 1) (drop (i + 1) m.slots)) entries

drop-mapped : (members : NumberedMembers) (numbers : List ℕ) (i : ℕ) → i < length numbers
    → drop i (member_slots numbers members) ≡ (member_of (get_or numbers i 0) members).slots ∷ drop (i + 1) (member_slots numbers members)
drop-mapped members [] i lt = absurd (omega arith)
drop-mapped members (n ∷ numbers) zero lt = refl
drop-mapped members (n ∷ numbers) (suc i) lt =
    drop-mapped members numbers i (omega arith)
    ∙ ap (λ (k : ℕ). (member_of (get_or numbers i 0) members).slots ∷ drop k (member_slots (n ∷ numbers) members)) (let e : suc (i + 1) ≡ suc i + 1 = omega arith in e)

pub formats-step : (falling : Bool) (keys : KeyOf) (members : NumberedMembers) (numbers : List ℕ) (format : ℕ) (entries : List Entry) → format < length numbers
    → added falling (entries_from keys format (drop format (member_slots numbers members))) entries
    ≡ added falling (entries_from keys (format + 1) (drop (format + 1) (member_slots numbers members)))
    (added falling (entries_in keys format 1 (member_of (get_or numbers format 0) members).slots) entries)
formats-step falling keys members numbers format entries lt =
    ap (λ (w : List (List Slot)). added falling (entries_from keys format w) entries) (drop-mapped members numbers format lt)
    ∙ added-append falling (entries_in keys format 1 (member_of (get_or numbers format 0) members).slots) (entries_from keys (format + 1) (drop (format + 1) (member_slots numbers members))) entries

pub formats-taken : (takes : ℕ → List ℕ → Type 0) (members : NumberedMembers) (numbers : List ℕ) (format : ℕ) → format < length numbers
    → TakesAll takes format (drop format (member_slots numbers members))
    → All (TakesSlot (takes format)) (member_of (get_or numbers format 0) members).slots × TakesAll takes (format + 1) (drop (format + 1) (member_slots numbers members))
formats-taken takes members numbers format lt all = subst (TakesAll takes format) (drop-mapped members numbers format lt) all
