-- What a call by number learns of the path that it has found, and of its change.
use Rattle.std.proofs.Common.{ℕ, zero, suc, ◌<◌, ◌≡◌, ◌≢◌, List, [], ◌∷◌, length, map, set, get_or, Some, None, sym, ap, arith, refl, ◌∙◌, subst}
use Rattle.std.specs.List.{remove, All}
use Rattle.std.proofs.lemmas.Bool.Decides.{nat_tests}
use Rattle.std.proofs.lemmas.List.{set-get_or, length-set, get_or-map, length-map, get_or-set_same, get_or-set_other}
use Rattle.path_set.specs.declared.kept.Kept.{Kept}
use Rattle.member_slots.specs.Members.{Numbered, item_at, with_item, without_item}
use Rattle.path_set.specs.KeptPaths.{KeptPath, PathRoom, KeptPaths, spare_of}
use Rattle.path_set.specs.Entries.{AreKept, IsKept, IsPlace, IsGap, paths_of, numbered, path_of, room_of}
use Rattle.path_set.proofs.PlaceLemmas.{item_at-place, item_at-gap, with_item-place, without_item-place}
use Rattle.path_set.proofs.OrderLemmas.{AreKept-set}

-- another item of another number
pub item_at-set_other : {A : Type 0} (part : Kept → A) (paths : List Kept) (place number : ℕ) (new : Kept) → ((d : Kept) → (get_or paths place d).id ≢ number) → new.id ≢ number
    → item_at number (map (numbered part) (set paths place new)) ≡ item_at number (map (numbered part) paths)
item_at-set_other part [] place number new old other = refl
item_at-set_other part (kept ∷ paths) zero number new old other = grind (arith, nat_tests, old kept)
item_at-set_other part (kept ∷ paths) (suc place) number new old other = grind (arith, nat_tests, item_at-set_other part paths place number new (λ d. old d) other)

-- the path at the number's place
pub record IsFound (paths : List Kept) (value : KeptPaths) (number place : ℕ) (kept : Kept) : Type 0 where
  pub at : IsPlace paths number place
  pub reads : (d : Kept) → kept ≡ get_or paths place d
  pub named : kept.id ≡ number
  pub is : IsKept kept
  pub present : item_at number value.paths ≡ Some (path_of kept)
  pub room : item_at number value.rooms ≡ Some (room_of kept)
  pub spare : spare_of number value ≡ kept.path.spare
  pub paths_after : (new : Kept) → new.id ≡ number → map (numbered path_of) (set paths place new) ≡ with_item number (path_of new) value.paths
  pub rooms_after : (new : Kept) → new.id ≡ number → map (numbered room_of) (set paths place new) ≡ with_item number (room_of new) value.rooms
  pub same_paths : with_item number (path_of kept) value.paths ≡ value.paths
  pub same_rooms : with_item number (room_of kept) value.rooms ≡ value.rooms
  pub spare_after : (new : Kept) → new.id ≡ number → spare_of number (paths_of (set paths place new)) ≡ new.path.spare
  pub others_after : (new : Kept) (other : ℕ) → new.id ≡ number → other ≢ number → spare_of other (paths_of (set paths place new)) ≡ spare_of other value
  pub ordered : (new : Kept) → new.id ≡ kept.id → new.by ≡ kept.by → IsKept new → AreKept (set paths place new)
  pub gone_paths : map (numbered path_of) (remove paths place) ≡ without_item number value.paths
  pub gone_rooms : map (numbered room_of) (remove paths place) ≡ without_item number value.rooms

IsPlace-set : (paths : List Kept) (number place : ℕ) (new : Kept) → IsPlace paths number place → new.id ≡ number → IsPlace (set paths place new) number place
IsPlace-set paths number place new h same = record {
  in_range = rw length-set h.in_range;
  here = λ d. rw (get_or-set_same paths place new d h.in_range) same;
  before = λ k d lt. let other : k ≢ place = omega arith in rw (get_or-set_other paths place k new d other) (h.before k d lt);
  after = λ k d lt within. let other : k ≢ place = omega arith in rw (get_or-set_other paths place k new d other) (h.after k d lt (rw length-set at within));
}

pub found : (paths slice : List Kept) (value : KeptPaths) (number place : ℕ) (kept : Kept) → paths_of paths ≡ value → AreKept paths →
    slice ≡ paths → IsPlace slice number place → kept ≡ get_or paths place kept → IsFound paths value number place kept
found paths slice value number place kept view invariant shown at_slice read =
    let at : IsPlace paths number place = rw (← shown) at_slice in
    let named : kept.id ≡ number = ap (λ (k : Kept). k.id) read ∙ at.here kept in
    let back : set paths place kept ≡ paths = rw read (set-get_or paths place kept) in
    let reads : (d : Kept) → kept ≡ get_or paths place d = λ d. read ∙ get-same paths place kept d at.in_range in
    rw (← view) (record {
      at = at;
      reads = reads;
      named = named;
      is = subst IsKept (sym read) (invariant.each place kept at.in_range);
      present = item_at-place path_of number paths place at kept ∙ ap (λ (k : Kept). Some (path_of k)) (sym read);
      room = item_at-place room_of number paths place at kept ∙ ap (λ (k : Kept). Some (room_of k)) (sym read);
      spare = spare-room number (paths_of paths) (room_of kept) (item_at-place room_of number paths place at kept ∙ ap (λ (k : Kept). Some (room_of k)) (sym read));
      paths_after = λ new same. sym (with_item-place path_of number paths place new at same);
      rooms_after = λ new same. sym (with_item-place room_of number paths place new at same);
      same_paths = with_item-place path_of number paths place kept at named ∙ ap (map (numbered path_of)) back;
      same_rooms = with_item-place room_of number paths place kept at named ∙ ap (map (numbered room_of)) back;
      spare_after = λ new same.
          let there = IsPlace-set paths number place new at same in
          spare-room number (paths_of (set paths place new)) (room_of new)
          (item_at-place room_of number (set paths place new) place there kept ∙ ap (λ (k : Kept). Some (room_of k)) (get_or-set_same paths place new kept at.in_range));
      others_after = λ new other same differs.
          spare-same other (paths_of (set paths place new)) (paths_of paths)
          (item_at-set_other room_of paths place other new (λ d equal. differs (sym equal ∙ at.here d)) (λ equal. differs (sym equal ∙ same)));
      ordered = λ new same_id same_by is.
          AreKept-set paths place new at.in_range (λ d. same_id ∙ ap (λ (k : Kept). k.id) (reads d)) (λ d. same_by ∙ ap (λ (k : Kept). k.by) (reads d)) is invariant;
      gone_paths = sym (without_item-place path_of number paths place at);
      gone_rooms = sym (without_item-place room_of number paths place at);
    })
  where
    get-same : (xs : List Kept) (i : ℕ) (a d : Kept) → i < length xs → get_or xs i a ≡ get_or xs i d
    get-same [] i a d low = absurd (omega arith)
    get-same (x ∷ xs) zero a d low = refl
    get-same (x ∷ xs) (suc i) a d low = get-same xs i a d (omega arith)

    spare-room : (n : ℕ) (v : KeptPaths) (room : PathRoom) → item_at n v.rooms ≡ Some room → spare_of n v ≡ room.spare
    spare-room n v room at = rw at refl

    spare-same : (n : ℕ) (v w : KeptPaths) → item_at n v.rooms ≡ item_at n w.rooms → spare_of n v ≡ spare_of n w
    spare-same n v w at = rw at refl

-- the place of a path is that of its number
pub IsPlace-at : (paths : List Kept) (place : ℕ) (kept : Kept) → AreKept paths → place < length paths → kept ≡ get_or paths place kept → IsPlace paths kept.id place
IsPlace-at paths place kept h low read = record {
  in_range = low;
  here = λ d. ap (λ (k : Kept). k.id) (get-same paths place d kept low ∙ sym read);
  before = λ k d lt. let e = h.ascend k place d lt low in let s = ap (λ (x : Kept). x.id) (get-same paths place d kept low ∙ sym read) in omega (arith, e, s);
  after = λ k d lt within. let e = h.ascend place k d lt within in let s = ap (λ (x : Kept). x.id) (get-same paths place d kept low ∙ sym read) in omega (arith, e, s);
}
  where
    get-same : (xs : List Kept) (i : ℕ) (a d : Kept) → i < length xs → get_or xs i a ≡ get_or xs i d
    get-same [] i a d low = absurd (omega arith)
    get-same (x ∷ xs) zero a d low = refl
    get-same (x ∷ xs) (suc i) a d low = get-same xs i a d (omega arith)

-- a fact of all paths, at the one that was found
pub found-each : (P : Numbered KeptPath → Type 0) (paths : List Kept) (place : ℕ) (kept : Kept) → place < length paths → kept ≡ get_or paths place kept → All P (map (numbered path_of) paths)
    → P (numbered path_of kept)
found-each P paths place kept low read all =
    let at = get_or-map (numbered path_of) paths place kept (numbered path_of kept) low in
    subst P (at ∙ ap (numbered path_of) (sym read)) (all place (numbered path_of kept) (rw length-map low))

-- no path has the number
pub record IsMissing (value : KeptPaths) (number : ℕ) : Type 0 where
  pub paths : item_at number value.paths ≡ None
  pub rooms : item_at number value.rooms ≡ None

pub missing : (items slice : List Kept) (value : KeptPaths) (number place : ℕ) → paths_of items ≡ value → slice ≡ items → IsGap slice number place → IsMissing value number
missing items slice value number place view shown in_slice =
    let gap : IsGap items number place = rw (← shown) in_slice in
    rw (← view) (record { paths = item_at-gap path_of number items place gap; rooms = item_at-gap room_of number items place gap })
