-- The least other record with a key, told by the bytes of the keys, is that of the definition.
use Rattle.std.proofs.Common.{◌≡◌, ℕ, zero, ◌<◌, Bool, true, false, not, cond, ◌&&◌, ◌==◌, Option, Some, None, List, [], ◌∷◌, ◌++◌, map, min, refl, ◌∙◌, ap, subst, arith}
use Rattle.std.specs.Prelude.{All}
use Rattle.std.specs.List.{AllByRecursion, find}
use Rattle.std.specs.Cmp.Lexicographic.{slice_cmp}
use Rattle.std.specs.Option.{option_map}
use Rattle.std.specs.declared.cmp.Ordering.{Ordering}
use Rattle.std.specs.Ordering.{is_eq, is_lt, nat_cmp}
use Rattle.std.proofs.lemmas.List.Elements.{recursion_from_All}
use Rattle.key_spec.specs.declared.KeyPart.{KeyPart}
use Rattle.key_spec.specs.declared.Ties.{Ties}
use Rattle.member_slots.specs.Members.{NumberedMembers, member_of}
use Rattle.file_model.specs.declared.paths.PathFormat.{PathFormat}
use Rattle.file_model.specs.KeyOrder.{KeyValue}
use Rattle.file_model.specs.Selection.{selects}
use Rattle.file_model.specs.Sorting.{put_in_order, in_order}
use Rattle.file_model.specs.Views.{view_of}
use Rattle.file_model.specs.Paths.{PathEntry, compare_entries, path_key, entries_of, entries_from, has_equal_key, other_with_key, clash}
use Rattle.access_path.specs.KeyBytes.{key_bytes}
use Rattle.access_path.specs.KeyFields.{AreBytes}
use Rattle.access_path.proofs.KeyLemmas.{AreFit, keys-cmp, image-fits, Matches-itself}
use Rattle.access_path.specs.Clash.{lesser, least_other}
use Rattle.access_path.specs.PathBytes.{in_bytes, parts_of, ShowsBytes, IsInBytes}
use Rattle.access_path.proofs.OrderedLemmas.{all-in_order}
use Rattle.path_entrants.proofs.RepeatedLemmas.{lesser-swap, IsGood, Rises, rises-from, good-from}
use Rattle.path_set.specs.KeptPaths as kept_paths
use Rattle.path_entrants.specs.Formats.{keys_of}
use Rattle.path_set.specs.EqualKeys.{other_with, clash_in}
use Rattle.path_set.proofs.ShareLemmas.{entries-path}

-- ---- entries with values for keys

-- another record has the key
abbrev is_other : (key : List KeyValue) → (rrn : ℕ) → PathEntry → Bool
is_other key rrn e = has_equal_key key e && not (e.rrn == rrn)

abbrev least_with : (key : List KeyValue) → (rrn : ℕ) → List PathEntry → Option ℕ
least_with key rrn [] = None
least_with key rrn (e ∷ es) = lesser (cond (is_other key rrn e) (Some e.rrn) None) (least_with key rrn es)

-- bytes tell the same
least-bytes : (formats : List PathFormat) (parts : List KeyPart) (own : parts_of formats 0 ≡ parts) (key : List KeyValue) (rrn : ℕ) (es : List PathEntry) → AreFit parts key
    → AllByRecursion (IsGood formats parts own) es → least_other (key_bytes parts key) rrn (map (in_bytes formats) es) ≡ least_with key rrn es
least-bytes formats parts own key rrn [] fit good = refl
least-bytes formats parts own key rrn (e ∷ es) fit good =
    let here : parts_of formats e.format ≡ parts = ap (parts_of formats) good.0.0 ∙ own in
    ap (λ (ps : List KeyPart). lesser (cond (is_eq (slice_cmp nat_cmp (key_bytes ps e.key) (key_bytes parts key)) && not (e.rrn == rrn)) (Some e.rrn) None)
    (least_other (key_bytes parts key) rrn (map (in_bytes formats) es))) here
    ∙ ap (λ (o : Ordering). lesser (cond (is_eq o && not (e.rrn == rrn)) (Some e.rrn) None) (least_other (key_bytes parts key) rrn (map (in_bytes formats) es)))
    (keys-cmp parts parts e.key key (Matches-itself parts) good.0.1 fit)
    ∙ ap (lesser (cond (is_other key rrn e) (Some e.rrn) None)) (least-bytes formats parts own key rrn es fit good.1)

-- ---- the order doesn't matter

least-put : (compare : PathEntry → PathEntry → Ordering) (key : List KeyValue) (rrn : ℕ) (x : PathEntry) (xs : List PathEntry)
    → least_with key rrn (put_in_order compare x xs) ≡ lesser (cond (is_other key rrn x) (Some x.rrn) None) (least_with key rrn xs)
least-put compare key rrn x [] = refl
least-put compare key rrn x (y ∷ xs) = by (is_lt (compare x y)) (least-put compare key rrn x xs)
  where
    by : (b : Bool) → least_with key rrn (put_in_order compare x xs) ≡ lesser (cond (is_other key rrn x) (Some x.rrn) None) (least_with key rrn xs)
        → least_with key rrn (cond b (x ∷ y ∷ xs) (y ∷ put_in_order compare x xs))
        ≡ lesser (cond (is_other key rrn x) (Some x.rrn) None) (lesser (cond (is_other key rrn y) (Some y.rrn) None) (least_with key rrn xs))
    by true rest = refl
    by false rest =
        ap (lesser (cond (is_other key rrn y) (Some y.rrn) None)) rest
        ∙ lesser-swap (cond (is_other key rrn y) (Some y.rrn) None) (cond (is_other key rrn x) (Some x.rrn) None) (least_with key rrn xs)

least-order : (compare : PathEntry → PathEntry → Ordering) (key : List KeyValue) (rrn : ℕ) (xs : List PathEntry) → least_with key rrn (in_order compare xs) ≡ least_with key rrn xs
least-order compare key rrn [] = refl
least-order compare key rrn (x ∷ xs) = least-put compare key rrn x (in_order compare xs) ∙ ap (lesser (cond (is_other key rrn x) (Some x.rrn) None)) (least-order compare key rrn xs)

-- ---- arrival order

first-least : (key : List KeyValue) (rrn n : ℕ) (xs : List PathEntry) → AllByRecursion (λ y. n < y.rrn) xs → lesser (Some n) (least_with key rrn xs) ≡ Some n
first-least key rrn n [] later = refl
first-least key rrn n (x ∷ xs) later = by (is_other key rrn x) (least_with key rrn xs) (first-least key rrn n xs later.1)
  where
    by : (b : Bool) (rest : Option ℕ) → lesser (Some n) rest ≡ Some n → lesser (Some n) (lesser (cond b (Some x.rrn) None) rest) ≡ Some n
    by false rest h = h
    by true None h = ap (λ (i : ℕ). Some i) (let lt = later.0 in let e : min n x.rrn ≡ n = omega arith in e)
    by true (Some m) h =
        ap (λ (i : ℕ). Some i) (let lt = later.0 in let k : min n m ≡ n = (let s : ◌≡◌ {A = Option ℕ} (Some (min n m)) (Some n) = h in cc) in let e : min n (min x.rrn m) ≡ n = omega arith in e)

found-first : (key : List KeyValue) (rrn : ℕ) (xs : List PathEntry) → Rises xs → least_with key rrn xs ≡ other_with_key key rrn xs
found-first key rrn [] rises = refl
found-first key rrn (x ∷ xs) rises = by (is_other key rrn x) (first-least key rrn x.rrn xs rises.0) (found-first key rrn xs rises.1)
  where
    by : (b : Bool) → lesser (Some x.rrn) (least_with key rrn xs) ≡ Some x.rrn → least_with key rrn xs ≡ other_with_key key rrn xs
        → lesser (cond b (Some x.rrn) None) (least_with key rrn xs) ≡ option_map (λ (e : PathEntry). e.rrn) (cond b (Some x) (find (is_other key rrn) xs))
    by true first rest = first
    by false first rest = rest

-- ---- the law

told-key : (format : PathFormat) (ties : Ties) (members : NumberedMembers) (image : List ℕ) (rrn : ℕ) → ShowsBytes members format → AreBytes (view_of format.fields image)
    → least_other (key_bytes format.key (path_key format image)) rrn (map (in_bytes (format ∷ [])) (in_order (compare_entries ties) (entries_of 0 format members)))
    ≡ other_with_key (path_key format image) rrn (entries_of 0 format members)
told-key format ties members image rrn shown bytes =
    let arrived = entries_of 0 format members in
    let good : AllByRecursion (IsGood (format ∷ []) format.key refl) arrived = good-from (format ∷ []) format refl members shown in
    let sorted : AllByRecursion (IsGood (format ∷ []) format.key refl) (in_order (compare_entries ties) arrived) =
    all-in_order (compare_entries ties) (IsGood (format ∷ []) format.key refl) arrived good in
    least-bytes (format ∷ []) format.key refl (path_key format image) rrn (in_order (compare_entries ties) arrived)
    (image-fits format.key (view_of format.fields image) (recursion_from_All (λ b. b < 256) (view_of format.fields image) bytes)) sorted
    ∙ least-order (compare_entries ties) (path_key format image) rrn arrived
    ∙ found-first (path_key format image) rrn arrived (rises-from 0 format 1 (member_of format.member members).slots)

told-clash : (format : PathFormat) (ties : Ties) (members : NumberedMembers) (image : List ℕ) (rrn : ℕ) → ShowsBytes members format → AreBytes (view_of format.fields image)
    → other_with (cond (selects format.rules image) (Some (key_bytes format.key (path_key format image))) None) rrn
    (map (in_bytes (format ∷ [])) (in_order (compare_entries ties) (entries_from 0 (format ∷ []) members))) ≡ clash format members image rrn
told-clash format ties members image rrn shown bytes = by (selects format.rules image)
  where
    append-none : (xs : List PathEntry) → xs ++ [] ≡ xs
    append-none [] = refl
    append-none (x ∷ xs) = ap (λ (w : List PathEntry). x ∷ w) (append-none xs)

    by : (b : Bool) → other_with (cond b (Some (key_bytes format.key (path_key format image))) None) rrn
        (map (in_bytes (format ∷ [])) (in_order (compare_entries ties) (entries_from 0 (format ∷ []) members)))
        ≡ cond b (other_with_key (path_key format image) rrn (entries_of 0 format members)) None
    by false = refl
    by true =
        ap (λ (w : List PathEntry). least_other (key_bytes format.key (path_key format image)) rrn (map (in_bytes (format ∷ [])) (in_order (compare_entries ties) w)))
        (append-none (entries_of 0 format members))
        ∙ told-key format ties members image rrn shown bytes

pub clash-told : (format : PathFormat) (members : NumberedMembers) (image : List ℕ) (rrn : ℕ) (path : kept_paths.KeptPath) → path.spec.formats ≡ format ∷ []
    → path.entries ≡ kept_paths.entries_of path.spec members → IsInBytes path.spec members → AreBytes (view_of format.fields image) → clash_in 0 image rrn path ≡ clash format members image rrn
clash-told format members image rrn path one is bytes shown =
    let only : All (ShowsBytes members) (format ∷ []) = subst (All (ShowsBytes members)) one bytes.shown in
    ap (other_with (keys_of path.spec.formats 0 image) rrn) (is ∙ entries-path path.spec members bytes)
    ∙ ap (λ (fs : List PathFormat). other_with (keys_of fs 0 image) rrn (map (in_bytes fs) (in_order (compare_entries path.spec.ties) (entries_from 0 fs members)))) one
    ∙ told-clash format path.spec.ties members image rrn (only zero format (omega arith)) shown
