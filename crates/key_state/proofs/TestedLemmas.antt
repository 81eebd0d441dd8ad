-- The test for equal keys that requests make finds none exactly where no unique path has two records with one key.
use Rattle.std.proofs.Common.{◌≡◌, inl, inr, ◌∙◌, ℕ, zero, suc, ◌+◌, cond, if◌then◌else◌, true, false, List, [], ◌∷◌, map, Option, Some, None, Ok, subst, refl, sym, ap, arith}
use Rattle.std.specs.List.{AllByRecursion, list_any}
use Rattle.std.specs.declared.cmp.Ordering.{Ordering}
use Rattle.std.specs.declared.cmp.Ordering.TheVariants.{Less, Equal, Greater}
use Rattle.std.specs.Ordering.{is_eq, is_gt, is_lt, ordering_reverse}
use Rattle.std.proofs.lemmas.Bool.{true≢false, false_from_ne_true, or_cases}
use Rattle.std.proofs.lemmas.List.{append-nil}
use Rattle.member_slots.specs.declared.slot.Slot.{Slot}
use Rattle.member_slots.specs.declared.slot.Slot.TheVariants.{Live, Deleted}
use Rattle.member_slots.specs.Members.{member_of}
use Rattle.file_model.specs.declared.paths.PathFormat.{PathFormat}
use Rattle.file_model.specs.KeyOrder.{KeyValue, compare_keys}
use Rattle.file_model.specs.Paths.{entries_from, entry_of, first_repeated, has_equal_key, path_key, repeated_in}
use Rattle.file_model.specs.Selection.{selects}
use Rattle.file_model.proofs.OrderLemmas.{compare_keys-total}
use Rattle.journal_model.specs.Places.{slot_of}
use Rattle.library_model.specs.declared.replies.Reply.TheVariants.{DuplicateKey}
use Rattle.library_steps.specs.State.{Memory}
use Rattle.library_steps.specs.Refusals.{◌>>=◌, refuse_with}
use Rattle.library_steps.specs.UniqueKeys.{UniquePath, all_apart, has_key, unique_paths}
use Rattle.key_state.specs.Keys.{AreUnique, HasOwnKeys}
use Rattle.key_state.proofs.FormatLemmas.{IsOver, each-over, each-path, over-each, path-over}
use Rattle.key_state.proofs.ListLemmas.{IsIn, all-in}
use Rattle.key_state.proofs.KeyLemmas.{selected, shown, unrepeated-unique}
use Rattle.key_state.proofs.UniqueLemmas.{IsUnique, Shows}

-- ---- one format

equal-itself : (k : List KeyValue) → is_eq (compare_keys k k) ≡ true
equal-itself k = by (compare_keys k k) (compare_keys-total.antisymm k k)
  where
    by : (o : Ordering) → o ≡ ordering_reverse o → is_eq o ≡ true
    by Less h = absurd (true≢false (ap is_lt h))
    by Equal h = refl
    by Greater h = absurd (true≢false (ap is_gt h))

-- an entry with the key is of a place that shows it
any-listed : (format : PathFormat) (key : List KeyValue) (slots : List Slot) (first : ℕ) → list_any (has_equal_key key) (shown format first slots) ≡ true
    → (place : ℕ) × Shows format key (slot_of slots place)
any-listed format key [] first some = absurd (true≢false (sym some))
any-listed format key (Deleted ∷ slots) first some = let rest = any-listed format key slots (first + 1) some in (suc rest.0, rest.1)
any-listed format key (Live image ∷ slots) first some =
    elim (selects format.rules image) as
    (λ b. selects format.rules image ≡ b
    → list_any (has_equal_key key) (map (entry_of 0 format) (cond b ((first, image) ∷ selected format (first + 1) slots) (selected format (first + 1) slots))) ≡ true
    → (place : ℕ) × Shows format key (slot_of (Live image ∷ slots) place)) [
      | true ↦ λ e h. elim (or_cases (has_equal_key key (entry_of 0 format (first, image))) (list_any (has_equal_key key) (shown format (first + 1) slots)) h) [
        | inl here ↦ (zero, ap (λ b. has_key (cond b (Some (path_key format image)) None) key) e ∙ here)
        | inr later ↦ let rest = any-listed format key slots (first + 1) later in (suc rest.0, rest.1)
      ]
      | false ↦ λ e h. let rest = any-listed format key slots (first + 1) h in (suc rest.0, rest.1)
    ] refl some

unique-tail : (format : PathFormat) (slot : Slot) (slots : List Slot) → IsUnique format (λ place. slot_of (slot ∷ slots) place) → IsUnique format (λ place. slot_of slots place)
unique-tail format slot slots unique key place other first second = let same = unique key (suc place) (suc other) first second in omega (arith, same)

unique-unrepeated : (format : PathFormat) (slots : List Slot) (first : ℕ) → IsUnique format (λ place. slot_of slots place) → first_repeated (shown format first slots) ≡ None
unique-unrepeated format [] first unique = refl
unique-unrepeated format (Deleted ∷ slots) first unique = unique-unrepeated format slots (first + 1) (unique-tail format Deleted slots unique)
unique-unrepeated format (Live image ∷ slots) first unique =
    elim (selects format.rules image) as
    (λ b. selects format.rules image ≡ b
    → first_repeated (map (entry_of 0 format) (cond b ((first, image) ∷ selected format (first + 1) slots) (selected format (first + 1) slots))) ≡ None) [
      | true ↦ λ e. ap (λ b. cond b (Some first) (first_repeated (shown format (first + 1) slots))) (none e)
          ∙ unique-unrepeated format slots (first + 1) (unique-tail format (Live image) slots unique)
      | false ↦ λ e. unique-unrepeated format slots (first + 1) (unique-tail format (Live image) slots unique)
    ] refl
  where
    none : selects format.rules image ≡ true → list_any (has_equal_key (path_key format image)) (shown format (first + 1) slots) ≡ false
    none e =
        false_from_ne_true (list_any (has_equal_key (path_key format image)) (shown format (first + 1) slots))
        (λ some.
        let its = any-listed format (path_key format image) slots (first + 1) some in
        let same = unique (path_key format image) zero (suc its.0)
        (ap (λ b. has_key (cond b (Some (path_key format image)) None) (path_key format image)) e ∙ equal-itself (path_key format image)) its.1 in
        absurd (omega (arith, same)))

-- ---- all unique paths

apart-ok : (paths : List UniquePath) (m : Memory) → AllByRecursion (λ unique. repeated_in unique.path m.members ≡ None) paths → all_apart paths m ≡ Ok true
apart-ok [] m all = refl
apart-ok (unique ∷ paths) m all =
    ap (λ (o : Option ℕ). refuse_with (λ (rrn : ℕ). DuplicateKey unique.file rrn) o >>= (λ ok. all_apart paths m)) all.0 ∙ apart-ok paths m all.1

ok-apart : (paths : List UniquePath) (m : Memory) → all_apart paths m ≡ Ok true → AllByRecursion (λ unique. repeated_in unique.path m.members ≡ None) paths
ok-apart [] m ok = tt
ok-apart (unique ∷ paths) m ok =
    elim (repeated_in unique.path m.members) as
    (λ o. (refuse_with (λ (rrn : ℕ). DuplicateKey unique.file rrn) o >>= (λ done. all_apart paths m)) ≡ Ok true
    → (o ≡ None) × AllByRecursion (λ (u : UniquePath). repeated_in u.path m.members ≡ None) paths) [
      | None ↦ λ h. (refl, ok-apart paths m h)
      | Some rrn ↦ λ h. absurd cc
    ] ok

-- of a path of one format
module _ (m : Memory) (unique : UniquePath) (format : PathFormat) (alone : unique.path.formats ≡ format ∷ []) (is : unique.path.unique ≡ true) where
  one-repeated : repeated_in unique.path m.members ≡ first_repeated (shown format 1 (member_of format.member m.members).slots)
  one-repeated =
      ap (λ b. if b then first_repeated (entries_from 0 unique.path.formats m.members) else None) is
      ∙ ap (λ (formats : List PathFormat). first_repeated (entries_from 0 formats m.members)) alone
      ∙ ap first_repeated (append-nil (shown format 1 (member_of format.member m.members).slots))

  pub path-unrepeated : IsUnique format (λ place. slot_of (member_of format.member m.members).slots place) → repeated_in unique.path m.members ≡ None
  path-unrepeated own = one-repeated ∙ unique-unrepeated format (member_of format.member m.members).slots 1 own

  pub path-unique : repeated_in unique.path m.members ≡ None → IsUnique format (λ place. slot_of (member_of format.member m.members).slots place)
  path-unique none = unrepeated-unique format (member_of format.member m.members).slots (sym one-repeated ∙ none)

pub unique-tested : (m : Memory) → AreUnique m m.members → (member : ℕ) → all_apart (unique_paths member m) m ≡ Ok true
unique-tested m unique member =
    apart-ok (unique_paths member m) m
    (each-path m (λ (u : UniquePath). repeated_in u.path m.members ≡ None) member
    (λ u format alone is over. path-unrepeated m u format alone is (each-over m (HasOwnKeys m.members) unique format over)))

-- where the paths over a member passed the test
pub apart-own : (m n : Memory) (number : ℕ) → AllByRecursion (λ unique. repeated_in unique.path n.members ≡ None) (unique_paths number m) → (format : PathFormat) → IsOver m.files format
    → format.member ≡ number → IsUnique format (λ place. slot_of (member_of format.member n.members).slots place)
apart-own m n number apart format over is =
    let its = path-over m format over in
    path-unique n its.unique format its.alone its.is
    (all-in (λ (u : UniquePath). repeated_in u.path n.members ≡ None) its.unique (unique_paths number m) apart
    (subst (λ (k : ℕ). IsIn its.unique (unique_paths k m)) is its.among))

pub tested-unique : (m : Memory) → ((member : ℕ) → all_apart (unique_paths member m) m ≡ Ok true) → AreUnique m m.members
tested-unique m tested =
    over-each m (HasOwnKeys m.members)
    (λ format over. apart-own m m format.member (ok-apart (unique_paths format.member m) m (tested format.member)) format over refl)
