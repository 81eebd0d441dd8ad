-- A path is shared, put under the least free number, and given up.
use Rattle.std.proofs.Common.{ℕ, zero, suc, ◌+◌, ◌<◌, ◌≤◌, ◌≡◌, ◌≢◌, Bool, true, false, cond, List, [], ◌∷◌, length, map, set, get_or, Option, Some, None, IsSome, refl, sym, ap, arith}
use Rattle.std.proofs.Common.{◌∙◌, subst}
use Rattle.std.specs.Prelude.{All, HoldsAt, nat_lt, ◌==◌, unwrap_or, option_map}
use Rattle.std.specs.List.{insert}
use Rattle.std.proofs.lemmas.Bool.Decides.{nat_tests}
use Rattle.std.proofs.lemmas.Bool.{cond-true, cond-false}
use Rattle.std.proofs.lemmas.List.Elements.{All-map}
use Rattle.file_model.specs.declared.paths.PathSpec.{PathSpec}
use Rattle.file_model.specs.Paths.{path, repeated_in}
use Rattle.key_pages.specs.declared.entries.Entry.{Entry}
use Rattle.member_slots.specs.Members.{Numbered, NumberedMembers, item_at, with_item, put_item, without_item}
use Rattle.access_path.specs.PathBytes.{in_bytes, IsInBytes}
use Rattle.access_path.proofs.BytesLemmas.{kept-path}
use Rattle.path_entrants.specs.Formats.{keys_of}
use Rattle.path_entrants.specs.Repeated.{least_repeated, TellsRepeated}
use Rattle.path_entrants.proofs.FormatLemmas.{keys-formats}
use Rattle.path_entrants.proofs.RepeatedLemmas.{told}
use Rattle.path_set.specs.declared.kept.Kept.{Kept}
use Rattle.path_set.specs.declared.kept.TheConstants.{MOST_PATHS}
use Rattle.path_set.specs.KeptPaths.{KeptPath, PathRoom, KeptPaths, NumberedPaths, entries_of, spare_of}
use Rattle.path_set.specs.Sharing.{IsNew, IsLeastFree, one_fewer, IsShared, detached}
use Rattle.path_set.specs.Entries.{AreKept, IsKept, IsPlace, IsGap, IsFirstFree, paths_of, numbered, path_of, room_of, with_files}
use Rattle.path_set.proofs.NumberedLemmas.{at-put_same, at-put_other, at-without_same, at-without_other}
use Rattle.path_set.proofs.PlaceLemmas.{item_at-place, item_at-gap, put_item-gap}
use Rattle.path_set.proofs.OrderLemmas.{AreKept-insert, IsGap-free}
use Rattle.path_set.proofs.FoundLemmas.{IsFound, found, IsPlace-at}

-- ---- one file more

pub new-paths : (spec : PathSpec) (items : List Kept) → All (λ path. path.by ≢ spec) items → IsNew spec (map (numbered path_of) items)
new-paths spec items absent = All-map (λ (path : Numbered KeptPath). path.item.spec ≢ spec) (numbered path_of) items absent

pub record IsCounted (spec : PathSpec) (items : List Kept) (value : KeptPaths) (place : ℕ) (kept : Kept) : Type 0 where
  pub shared : (new : Kept) → new ≡ with_files kept (kept.files + 1) → IsShared spec kept.id value.paths (map (numbered path_of) (set items place new))
  pub rooms : (new : Kept) → new ≡ with_files kept (kept.files + 1) → map (numbered room_of) (set items place new) ≡ value.rooms
  pub ordered : (new : Kept) → new ≡ with_files kept (kept.files + 1) → AreKept (set items place new)

pub counted : (spec : PathSpec) (items slice : List Kept) (value : KeptPaths) (place : ℕ) (kept : Kept) → paths_of items ≡ value → AreKept items → slice ≡ items
    → (place < length slice) × HoldsAt (λ path. path.by ≡ spec) slice place → kept ≡ get_or items place kept → IsCounted spec items value place kept
counted spec items slice value place kept view h shown is read = record {
  shared = λ new same. subst (λ (k : Kept). IsShared spec kept.id value.paths (map (numbered path_of) (set items place k))) (sym same) (record {
    path = path_of kept;
    there = entry.present;
    same = ap (λ (k : Kept). k.by) read ∙ at.1 kept;
    counted = entry.paths_after (with_files kept (kept.files + 1)) refl;
  });
  rooms = λ new same.
      subst (λ (k : Kept). map (numbered room_of) (set items place k) ≡ value.rooms) (sym same) (entry.rooms_after (with_files kept (kept.files + 1)) refl ∙ entry.same_rooms);
  ordered = λ new same.
      subst (λ (k : Kept). AreKept (set items place k)) (sym same)
      (entry.ordered (with_files kept (kept.files + 1)) refl refl (record { falling = entry.is.falling; attached = omega arith }));
}
  where
    at : (place < length items) × HoldsAt (λ path. path.by ≡ spec) items place
    at = subst (λ (w : List Kept). (place < length w) × HoldsAt (λ path. path.by ≡ spec) w place) shown is

    entry : IsFound items value kept.id place kept
    entry = found items items value kept.id place kept view h refl (IsPlace-at items place kept h at.0 read) read

-- ---- a path more

pub record IsAdded (items : List Kept) (value : KeptPaths) (place : ℕ) (new : Kept) : Type 0 where
  pub number : IsLeastFree place value.paths
  pub paths : map (numbered path_of) (insert items place new) ≡ put_item place (path_of new) value.paths
  pub room : spare_of place (paths_of (insert items place new)) ≡ new.path.spare
  pub rooms : (id : ℕ) → spare_of id value ≤ spare_of id (paths_of (insert items place new))
  pub ordered : All (λ path. path.item.spec ≢ new.by) value.paths → IsKept new → length items < MOST_PATHS → AreKept (insert items place new)

pub added : (items slice : List Kept) (value : KeptPaths) (place : ℕ) (new : Kept) → paths_of items ≡ value → AreKept items → slice ≡ items → IsFirstFree slice place → new.id ≡ place
    → IsAdded items value place new
added items slice value place new view h shown at_slice same =
    rw (← view) (record {
      number = record { free = item_at-gap path_of place items place gap; least = λ other lt. least items h free other lt };
      paths = sym (put_item-gap path_of place items place new gap same);
      room = unwrapped place (map (numbered room_of) (insert items place new)) (room_of new)
          (ap (item_at place) (sym (put_item-gap room_of place items place new gap same)) ∙ at-put_same place (room_of new) (map (numbered room_of) items));
      rooms = λ id. kept_room id;
      ordered = λ absent is few. AreKept-insert items place place new h gap same (λ k d low. apart items absent k d low) is few;
    })
  where
    free : IsFirstFree items place
    free = subst (λ (w : List Kept). IsFirstFree w place) shown at_slice

    gap : IsGap items place place
    gap = IsGap-free items place h free

    unwrapped : (n : ℕ) (rooms : List (Numbered PathRoom)) (r : PathRoom) → item_at n rooms ≡ Some r → unwrap_or (option_map (λ (x : PathRoom). x.spare) (item_at n rooms)) 0 ≡ r.spare
    unwrapped n rooms r at = ap (λ (o : Option PathRoom). unwrap_or (option_map (λ (x : PathRoom). x.spare) o) 0) at

    spare_in : Option PathRoom → ℕ
    spare_in o = unwrap_or (option_map (λ (x : PathRoom). x.spare) o) 0

    kept_room : (id : ℕ) → spare_of id (paths_of items) ≤ spare_of id (paths_of (insert items place new))
    kept_room id = by (id == place) refl
      where
        by : (b : Bool) → (id == place) ≡ b → spare_of id (paths_of items) ≤ spare_of id (paths_of (insert items place new))
        by true is =
            let own : id ≡ place = grind (arith, nat_tests) in
            let none : spare_of id (paths_of items) ≡ 0 = ap spare_in (ap (λ (n : ℕ). item_at n (map (numbered room_of) items)) own ∙ item_at-gap room_of place items place gap) in
            omega (arith, none)
        by false is =
            let other : id ≢ place = grind (arith, nat_tests) in
            let same_room : spare_of id (paths_of (insert items place new)) ≡ spare_of id (paths_of items) =
            ap spare_in (ap (item_at id) (sym (put_item-gap room_of place items place new gap same)) ∙ at-put_other place (room_of new) (map (numbered room_of) items) id other) in
            omega (arith, same_room)

    get-same : (xs : List Kept) (i : ℕ) (a d : Kept) → i < length xs → get_or xs i a ≡ get_or xs i d
    get-same [] i a d low = absurd (omega arith)
    get-same (x ∷ xs) zero a d low = refl
    get-same (x ∷ xs) (suc i) a d low = get-same xs i a d (omega arith)

    least : (xs : List Kept) → AreKept xs → IsFirstFree xs place → (other : ℕ) → other < place → IsSome (item_at other (map (numbered path_of) xs))
    least [] g f other lt = absurd (let r = f.in_range in omega (arith, r))
    least (x ∷ xs) g f other lt =
        let low : other < length (x ∷ xs) = let r = f.in_range in omega (arith, r) in
        let kept = get_or (x ∷ xs) other x in
        let named : kept.id ≡ other = f.before other x lt in
        let at : IsPlace (x ∷ xs) other other = subst (λ n. IsPlace (x ∷ xs) n other) named (IsPlace-at (x ∷ xs) other kept g low (get-same (x ∷ xs) other x kept low)) in
        rw (item_at-place path_of other (x ∷ xs) other at x) refl

    apart : (xs : List Kept) → All (λ (path : Numbered KeptPath). path.item.spec ≢ new.by) (map (numbered path_of) xs) → All (λ (path : Kept). path.by ≢ new.by) xs
    apart [] absent k d low = absurd (omega arith)
    apart (x ∷ xs) absent zero d low = absent zero (numbered path_of x) (omega arith)
    apart (x ∷ xs) absent (suc k) d low = apart xs (λ i e lt. absent (suc i) e (omega arith)) k d (omega arith)

-- ---- its entries

pub entries-path : (spec : PathSpec) (members : NumberedMembers) → IsInBytes spec members → entries_of spec members ≡ map (in_bytes spec.formats) (path spec members)
entries-path spec members bytes = kept-path spec members (keys_of spec.formats) bytes (keys-formats spec.formats)

pub judged : (spec : PathSpec) (members : NumberedMembers) (entries : List Entry) → entries ≡ entries_of spec members → TellsRepeated spec members
    → cond spec.unique (least_repeated entries entries) None ≡ repeated_in spec members
judged spec members entries is tells =
    ap (λ (w : List Entry). cond spec.unique (least_repeated w w) None) (is ∙ entries-path spec members tells.bytes) ∙ told spec members tells

-- ---- one file fewer

pub detached-none : (id : ℕ) (paths : NumberedPaths) → item_at id paths ≡ None → paths ≡ detached id paths
detached-none id paths none = rw none refl

pub detached-fewer : (id : ℕ) (path : KeptPath) (paths : NumberedPaths) → item_at id paths ≡ Some path → 1 < path.files → with_item id (one_fewer path) paths ≡ detached id paths
detached-fewer id path paths at more =
    rw at (sym (cond-true (nat_lt 1 path.files) (with_item id (one_fewer path) paths) (without_item id paths) (let e : nat_lt 1 path.files ≡ true = grind (arith, nat_tests) in e)))

pub detached-last : (id : ℕ) (path : KeptPath) (paths : NumberedPaths) → item_at id paths ≡ Some path → path.files ≤ 1 → without_item id paths ≡ detached id paths
detached-last id path paths at few =
    rw at (sym (cond-false (nat_lt 1 path.files) (with_item id (one_fewer path) paths) (without_item id paths) (let e : nat_lt 1 path.files ≡ false = grind (arith, nat_tests) in e)))

pub spare-same : (id : ℕ) (v w : KeptPaths) → v.rooms ≡ w.rooms → spare_of id v ≡ spare_of id w
spare-same id v w same = ap (λ (r : List (Numbered PathRoom)). unwrap_or (option_map (λ (x : PathRoom). x.spare) (item_at id r)) 0) same

-- the paths that are left have their room
pub detached-rooms : (id : ℕ) (items : List Kept) (value : KeptPaths) → map (numbered path_of) items ≡ without_item id value.paths → map (numbered room_of) items ≡ without_item id value.rooms
    → (other : ℕ) → IsSome (item_at other (map (numbered path_of) items)) → spare_of other (paths_of items) ≡ spare_of other value
detached-rooms id items value paths rooms other there = by (other == id) refl
  where
    spare_in : Option PathRoom → ℕ
    spare_in o = unwrap_or (option_map (λ (x : PathRoom). x.spare) o) 0

    by : (b : Bool) → (other == id) ≡ b → spare_of other (paths_of items) ≡ spare_of other value
    by true is =
        let own : other ≡ id = grind (arith, nat_tests) in
        let none : item_at other (map (numbered path_of) items) ≡ None =
        ap (item_at other) paths ∙ ap (λ (n : ℕ). item_at n (without_item id value.paths)) own ∙ at-without_same id value.paths in
        absurd (let e = rw none at there in cc)
    by false is =
        let differs : other ≢ id = grind (arith, nat_tests) in
        ap spare_in (ap (item_at other) rooms ∙ at-without_other id value.rooms other differs)

pub new-at : (spec : PathSpec) (items slice : List Kept) (value : KeptPaths) → paths_of items ≡ value → slice ≡ items → All (λ path. path.by ≢ spec) slice → IsNew spec value.paths
new-at spec items slice value view shown absent =
    subst (λ (v : KeptPaths). IsNew spec v.paths) view (new-paths spec items (subst (λ (w : List Kept). All (λ path. path.by ≢ spec) w) shown absent))
