-- Paths made anew, and what they make of the kept paths.
use Rattle.std.proofs.Common.{ℕ, zero, suc, ◌+◌, ◌*◌, ◌<◌, ◌≤◌, ◌≡◌, ◌≢◌, ◌==◌, Bool, true, false, cond, ◌||◌, List, [], ◌∷◌, ◌++◌, length, map, drop, set, get_or, Option, Some, None, IsSome, IfSome, refl}
use Rattle.std.proofs.Common.{sym, ap, arith, ◌∙◌, subst, append_assoc, ◌⊎◌, inl, inr}
use Rattle.std.specs.Prelude.{Any, unwrap_or, option_map}
use Rattle.std.specs.List.{AllByRecursion, list_any}
use Rattle.std.proofs.lemmas.Bool.{cond-true, cond-false}
use Rattle.std.proofs.lemmas.Bool.Decides.{nat_tests}
use Rattle.std.proofs.lemmas.List.Elements.{All-map, All-from_recursion, recursion_from_All}
use Rattle.key_pages.specs.declared.entries.Entry.{Entry}
use Rattle.key_pages.specs.EntryList.{EntryList}
use Rattle.member_slots.specs.Members.{Numbered, NumberedMembers, item_at}
use Rattle.file_model.specs.declared.paths.PathFormat.{PathFormat}
use Rattle.file_model.specs.declared.paths.PathSpec.{PathSpec}
use Rattle.access_path.specs.PathBytes.{is_falling}
use Rattle.path_set.specs.declared.kept.Kept.{Kept}
use Rattle.path_set.specs.KeptPaths.{KeptPath, PathRoom, KeptPaths, NumberedPaths, AreShared, AreOver, entries_of, spare_of}
use Rattle.path_set.specs.RecordChanges.{HaveRoom}
use Rattle.path_set.specs.Sharing.{CanBeKept}
use Rattle.path_set.specs.MemberSteps.{AreSameBut, is_over, paths_over}
use Rattle.path_set.specs.RebuiltPaths.{CanBeRebuilt, IsRebuilt, AreRebuilt, HaveRooms, HaveTies, entries_or, room_or, path_with, room_with, kept_with, IsAdded}
use Rattle.path_set.specs.Entries.{IsPlace, IsGap, paths_of, numbered, path_of, room_of}
use Rattle.path_set.proofs.FoundLemmas.{IsFound, found-each}
use Rattle.path_set.proofs.PlaceLemmas.{IsPlace-tail}
use Rattle.path_set.proofs.RecordLemmas.{Ascend, ascend-from, each-apart}
use Rattle.path_set.proofs.ManyLemmas.{pairs-map}
use Rattle.path_set.proofs.MemberStepLemmas.{entries-others}

-- ---- one path after another is made

-- those at this turn and after it are still to be made
pub record IsMaking (members : NumberedMembers) (number held : ℕ) (paths : NumberedPaths) (turn : ℕ) (rebuilt : List (Numbered EntryList)) : Type 0 where
  pub rest : (more : List (Numbered EntryList)) → AreRebuilt members held (drop turn (paths_over number paths)) more → AreRebuilt members held (paths_over number paths) (rebuilt ++ more)

pub making-first : (members : NumberedMembers) (number held : ℕ) (paths : NumberedPaths) (rebuilt : List (Numbered EntryList)) → rebuilt ≡ [] → IsMaking members number held paths 0 rebuilt
making-first members number held paths rebuilt none = record {
  rest = λ more made. subst (λ (w : List (Numbered EntryList)). AreRebuilt members held (paths_over number paths) (w ++ more)) (sym none) made;
}

pub making-next : (members : NumberedMembers) (number held : ℕ) (paths : NumberedPaths) (turn : ℕ) (path : Numbered KeptPath) (rebuilt more : List (Numbered EntryList))
    → IsMaking members number held paths turn rebuilt → drop turn (paths_over number paths) ≡ path ∷ drop (turn + 1) (paths_over number paths)
    → IsAdded members held path rebuilt more → IsMaking members number held paths (turn + 1) more
making-next members number held paths turn path rebuilt more making split (item, added, new) = record {
  rest = λ others made.
      subst (λ (w : List (Numbered EntryList)). AreRebuilt members held (paths_over number paths) (w ++ others)) (sym added)
      (subst (λ (w : List (Numbered EntryList)). AreRebuilt members held (paths_over number paths) w) (sym (append_assoc rebuilt (item ∷ []) others))
      (making.rest (item ∷ others) (subst (λ (w : NumberedPaths). AreRebuilt members held w (item ∷ others)) (sym split) (new, made))));
}

append-none : (xs : List (Numbered EntryList)) → xs ++ [] ≡ xs
append-none [] = refl
append-none (x ∷ xs) = ap (λ (w : List (Numbered EntryList)). x ∷ w) (append-none xs)

pub making-end : (members : NumberedMembers) (number held : ℕ) (paths : NumberedPaths) (turn : ℕ) (rebuilt : List (Numbered EntryList)) → IsMaking members number held paths turn rebuilt
    → drop turn (paths_over number paths) ≡ [] → AreRebuilt members held (paths_over number paths) rebuilt
making-end members number held paths turn rebuilt making none =
    subst (AreRebuilt members held (paths_over number paths)) (append-none rebuilt) (making.rest [] (subst (λ (w : NumberedPaths). AreRebuilt members held w []) (sym none) tt))

-- each path that is over the member can be made
pub making-can : (members : NumberedMembers) (number : ℕ) (value : KeptPaths) (items : List Kept) (place : ℕ) (kept : Kept) → paths_of items ≡ value → place < length items
    → kept ≡ get_or items place kept → CanBeRebuilt number members value.paths → is_over number kept.by ≡ true → CanBeKept kept.by members
making-can members number value items place kept view low read can =
    found-each (λ (path : Numbered KeptPath). is_over number path.item.spec ≡ true → CanBeKept path.item.spec members) items place kept low read
    (subst (λ (v : KeptPaths). CanBeRebuilt number members v.paths) (sym view) can)

-- ---- one path is put

one-other : (x : Numbered EntryList) (number : ℕ) → number ≢ x.number → item_at number (x ∷ []) ≡ None
one-other x number differs = cond-false (x.number == number) (Some x.item) None (let e : (x.number == number) ≡ false = grind (arith, nat_tests) in e)

one-here : (x : Numbered EntryList) (number : ℕ) → number ≡ x.number → item_at number (x ∷ []) ≡ Some x.item
one-here x number same = cond-true (x.number == number) (Some x.item) None (let e : (x.number == number) ≡ true = grind (arith, nat_tests) in e)

path-other : (x : Numbered EntryList) (path : Numbered KeptPath) → path.number ≢ x.number → path ≡ path_with (x ∷ []) path
path-other x path differs =
    ap (λ (o : Option EntryList). record { number = path.number; item = record { spec = path.item.spec; files = path.item.files; entries = entries_or o path.item.entries } })
    (sym (one-other x path.number differs))

room-other : (x : Numbered EntryList) (room : Numbered PathRoom) → room.number ≢ x.number → room ≡ room_with (x ∷ []) room
room-other x room differs = ap (λ (o : Option EntryList). record { number = room.number; item = room_or o room.item }) (sym (one-other x room.number differs))

-- a change that leaves what has another number is that of the place
module _ {A : Type 0} (part : Kept → A) (f : Numbered A → Numbered A) (id : ℕ) (others : (a : Numbered A) → a.number ≢ id → a ≡ f a) where
  same-above : (paths : List Kept) → ((k : ℕ) (d : Kept) → k < length paths → (get_or paths k d).id ≢ id) → map (numbered part) paths ≡ map f (map (numbered part) paths)
  same-above [] apart = refl
  same-above (kept ∷ paths) apart =
      ap (λ (a : Numbered A). a ∷ map (numbered part) paths) (others (numbered part kept) (apart zero kept (omega arith)))
      ∙ ap (λ (w : List (Numbered A)). f (numbered part kept) ∷ w) (same-above paths (λ k d low. apart (suc k) d (omega arith)))

  put-place : (paths : List Kept) (place : ℕ) (new : Kept) → IsPlace paths id place → ((d : Kept) → numbered part new ≡ f (numbered part (get_or paths place d)))
      → map (numbered part) (set paths place new) ≡ map f (map (numbered part) paths)
  put-place [] place new at is = absurd (let lt = at.in_range in omega (arith, lt))
  put-place (kept ∷ paths) zero new at is =
      ap (λ (a : Numbered A). a ∷ map (numbered part) paths) (is kept)
      ∙ ap (λ (w : List (Numbered A)). f (numbered part kept) ∷ w)
      (same-above paths (λ k d low same. let lt = at.after (suc k) d (omega arith) (omega arith) in omega (arith, lt, same)))
  put-place (kept ∷ paths) (suc place) new at is =
      ap (λ (a : Numbered A). a ∷ map (numbered part) (set paths place new)) (others (numbered part kept) (λ same. let lt = at.before zero kept (omega arith) in omega (arith, lt, same)))
      ∙ ap (λ (w : List (Numbered A)). f (numbered part kept) ∷ w) (put-place paths place new (IsPlace-tail kept paths id place at) is)

gap-apart : (items : List Kept) (id place : ℕ) → IsGap items id place → (k : ℕ) (d : Kept) → k < length items → (get_or items k d).id ≢ id
gap-apart items id place gap k d low same = by (below k place)
  where
    below : (a b : ℕ) → (a < b) ⊎ (b ≤ a)
    below a b = grind arith

    by : (k < place) ⊎ (place ≤ k) → ⊥
    by (inl lt) = absurd (let e = gap.before k d lt in omega (arith, e, same))
    by (inr le) = absurd (let e = gap.after k d le low in omega (arith, e, same))

pub missing-put : (items slice : List Kept) (value : KeptPaths) (x : Numbered EntryList) (place : ℕ) → paths_of items ≡ value → slice ≡ items → IsGap slice x.number place
    → value ≡ kept_with (x ∷ []) value
missing-put items slice value x place view shown at =
    subst (λ (v : KeptPaths). v ≡ kept_with (x ∷ []) v) view
    (ap (λ (w : NumberedPaths). record { paths = w; rooms = map (numbered room_of) items }) (same-above path_of (path_with (x ∷ [])) x.number (path-other x) items apart)
    ∙ ap (λ (w : List (Numbered PathRoom)). record { paths = map (path_with (x ∷ [])) (map (numbered path_of) items); rooms = w })
    (same-above room_of (room_with (x ∷ [])) x.number (room-other x) items apart))
  where
    apart : (k : ℕ) (d : Kept) → k < length items → (get_or items k d).id ≢ x.number
    apart = gap-apart items x.number place (subst (λ (w : List Kept). IsGap w x.number place) shown at)

-- the path at its place has the pages of the one made anew
pub record IsReplaced (kept new : Kept) (list : EntryList) : Type 0 where
  pub id : new.id ≡ kept.id
  pub by : new.by ≡ kept.by
  pub files : new.files ≡ kept.files
  pub pages : new.path ≡ list

pub found-put : (items : List Kept) (value : KeptPaths) (x : Numbered EntryList) (place : ℕ) (kept new : Kept) → paths_of items ≡ value → IsFound items value x.number place kept
    → IsReplaced kept new x.item → paths_of (set items place new) ≡ kept_with (x ∷ []) value
found-put items value x place kept new view entry is =
    subst (λ (v : KeptPaths). paths_of (set items place new) ≡ kept_with (x ∷ []) v) view
    (ap (λ (w : NumberedPaths). record { paths = w; rooms = map (numbered room_of) (set items place new) })
    (put-place path_of (path_with (x ∷ [])) x.number (path-other x) items place new entry.at (λ d. subst (λ (k : Kept). numbered path_of new ≡ path_with (x ∷ []) (numbered path_of k)) (entry.reads d) path-here))
    ∙ ap (λ (w : List (Numbered PathRoom)). record { paths = map (path_with (x ∷ [])) (map (numbered path_of) items); rooms = w })
    (put-place room_of (room_with (x ∷ [])) x.number (room-other x) items place new entry.at (λ d. subst (λ (k : Kept). numbered room_of new ≡ room_with (x ∷ []) (numbered room_of k)) (entry.reads d) room-here)))
  where
    here : item_at kept.id (x ∷ []) ≡ Some x.item
    here = one-here x kept.id entry.named

    path-here : numbered path_of new ≡ path_with (x ∷ []) (numbered path_of kept)
    path-here =
        ap (λ (n : ℕ). record { number = n; item = path_of new }) is.id
        ∙ ap (λ (s : PathSpec). record { number = kept.id; item = record { spec = s; files = new.files; entries = new.path.entries } }) is.by
        ∙ ap (λ (n : ℕ). record { number = kept.id; item = record { spec = kept.by; files = n; entries = new.path.entries } }) is.files
        ∙ ap (λ (l : EntryList). record { number = kept.id; item = record { spec = kept.by; files = kept.files; entries = l.entries } }) is.pages
        ∙ ap (λ (o : Option EntryList). record { number = kept.id; item = record { spec = kept.by; files = kept.files; entries = entries_or o kept.path.entries } }) (sym here)

    room-here : numbered room_of new ≡ room_with (x ∷ []) (numbered room_of kept)
    room-here =
        ap (λ (n : ℕ). record { number = n; item = room_of new }) is.id
        ∙ ap (λ (l : EntryList). record { number = kept.id; item = record { spare = l.spare; pages = l.pages } }) is.pages
        ∙ ap (λ (o : Option EntryList). record { number = kept.id; item = room_or o (room_of kept) }) (sym here)

-- its ties go the right way
pub found-ties : (items : List Kept) (value : KeptPaths) (x : Numbered EntryList) (place : ℕ) (kept : Kept) → IsFound items value x.number place kept → HaveTies (x ∷ []) value.paths
    → x.item.falling ≡ is_falling kept.by.ties
found-ties items value x place kept entry ties =
    let one : IfSome (item_at x.number value.paths) (λ path. x.item.falling ≡ is_falling path.spec.ties) = ties zero x (omega arith) in
    subst (λ (o : Option KeptPath). IfSome o (λ path. x.item.falling ≡ is_falling path.spec.ties)) entry.present one

-- ---- all are put

entries-append : (number : ℕ) (front : List (Numbered EntryList)) (x : Numbered EntryList) (entries : List Entry)
    → entries_or (item_at number (front ++ x ∷ [])) entries ≡ entries_or (item_at number front) (entries_or (item_at number (x ∷ [])) entries)
entries-append number [] x entries = refl
entries-append number (f ∷ front) x entries = by (f.number == number) (entries-append number front x entries)
  where
    by : (b : Bool) → entries_or (item_at number (front ++ x ∷ [])) entries ≡ entries_or (item_at number front) (entries_or (item_at number (x ∷ [])) entries)
        → entries_or (cond b (Some f.item) (item_at number (front ++ x ∷ []))) entries ≡ entries_or (cond b (Some f.item) (item_at number front)) (entries_or (item_at number (x ∷ [])) entries)
    by true rest = refl
    by false rest = rest

room-append : (number : ℕ) (front : List (Numbered EntryList)) (x : Numbered EntryList) (room : PathRoom)
    → room_or (item_at number (front ++ x ∷ [])) room ≡ room_or (item_at number front) (room_or (item_at number (x ∷ [])) room)
room-append number [] x room = refl
room-append number (f ∷ front) x room = by (f.number == number) (room-append number front x room)
  where
    by : (b : Bool) → room_or (item_at number (front ++ x ∷ [])) room ≡ room_or (item_at number front) (room_or (item_at number (x ∷ [])) room)
        → room_or (cond b (Some f.item) (item_at number (front ++ x ∷ []))) room ≡ room_or (cond b (Some f.item) (item_at number front)) (room_or (item_at number (x ∷ [])) room)
    by true rest = refl
    by false rest = rest

kept-append : (front : List (Numbered EntryList)) (x : Numbered EntryList) (kept : KeptPaths) → kept_with (front ++ x ∷ []) kept ≡ kept_with front (kept_with (x ∷ []) kept)
kept-append front x kept =
    ap (λ (w : NumberedPaths). record { paths = w; rooms = map (room_with (front ++ x ∷ [])) kept.rooms }) (paths kept.paths)
    ∙ ap (λ (w : List (Numbered PathRoom)). record { paths = map (path_with front) (map (path_with (x ∷ [])) kept.paths); rooms = w }) (rooms kept.rooms)
  where
    paths : (rest : NumberedPaths) → map (path_with (front ++ x ∷ [])) rest ≡ map (path_with front) (map (path_with (x ∷ [])) rest)
    paths [] = refl
    paths (path ∷ rest) =
        ap (λ (w : List Entry). record { number = path.number; item = record { spec = path.item.spec; files = path.item.files; entries = w } } ∷ map (path_with (front ++ x ∷ [])) rest)
        (entries-append path.number front x path.item.entries)
        ∙ ap (λ (w : NumberedPaths). path_with front (path_with (x ∷ []) path) ∷ w) (paths rest)

    rooms : (rest : List (Numbered PathRoom)) → map (room_with (front ++ x ∷ [])) rest ≡ map (room_with front) (map (room_with (x ∷ [])) rest)
    rooms [] = refl
    rooms (room ∷ rest) =
        ap (λ (r : PathRoom). record { number = room.number; item = r } ∷ map (room_with (front ++ x ∷ [])) rest) (room-append room.number front x room.item)
        ∙ ap (λ (w : List (Numbered PathRoom)). room_with front (room_with (x ∷ []) room) ∷ w) (rooms rest)

kept-none : (kept : KeptPaths) → kept_with [] kept ≡ kept
kept-none kept =
    ap (λ (w : NumberedPaths). record { paths = w; rooms = map (room_with []) kept.rooms }) (paths kept.paths)
    ∙ ap (λ (w : List (Numbered PathRoom)). record { paths = kept.paths; rooms = w }) (rooms kept.rooms)
  where
    paths : (rest : NumberedPaths) → map (path_with []) rest ≡ rest
    paths [] = refl
    paths (path ∷ rest) = ap (λ (w : NumberedPaths). path ∷ w) (paths rest)

    rooms : (rest : List (Numbered PathRoom)) → map (room_with []) rest ≡ rest
    rooms [] = refl
    rooms (room ∷ rest) = ap (λ (w : List (Numbered PathRoom)). room ∷ w) (rooms rest)

ties-after : (rebuilt : List (Numbered EntryList)) (new : Numbered EntryList) (paths : NumberedPaths) → IfSome (item_at new.number paths) (λ path. new.item.falling ≡ is_falling path.spec.ties)
    → IfSome (item_at new.number (map (path_with rebuilt) paths)) (λ path. new.item.falling ≡ is_falling path.spec.ties)
ties-after rebuilt new [] ties = tt
ties-after rebuilt new (path ∷ paths) ties = by (path.number == new.number) ties (ties-after rebuilt new paths)
  where
    by : (b : Bool) → IfSome (cond b (Some path.item) (item_at new.number paths)) (λ p. new.item.falling ≡ is_falling p.spec.ties)
        → (IfSome (item_at new.number paths) (λ p. new.item.falling ≡ is_falling p.spec.ties) → IfSome (item_at new.number (map (path_with rebuilt) paths)) (λ p. new.item.falling ≡ is_falling p.spec.ties))
        → IfSome (cond b (Some (path_with rebuilt path).item) (item_at new.number (map (path_with rebuilt) paths))) (λ p. new.item.falling ≡ is_falling p.spec.ties)
    by true here rest = here
    by false here rest = rest here

-- what is left to be put makes of the paths now what all made of those at the start
pub record IsPutting (rebuilt : List (Numbered EntryList)) (start : KeptPaths) (items : List (Numbered EntryList)) (now : KeptPaths) : Type 0 where
  pub same : kept_with items now ≡ kept_with rebuilt start
  pub ties : HaveTies items now.paths

pub putting-first : (rebuilt items : List (Numbered EntryList)) (start : KeptPaths) → HaveTies rebuilt start.paths → items ≡ rebuilt → IsPutting rebuilt start items start
putting-first rebuilt items start ties is = record {
  same = ap (λ (w : List (Numbered EntryList)). kept_with w start) is;
  ties = subst (λ (w : List (Numbered EntryList)). HaveTies w start.paths) (sym is) ties;
}

pub record IsLast (rebuilt : List (Numbered EntryList)) (start : KeptPaths) (x : Numbered EntryList) (rest : List (Numbered EntryList)) (now : KeptPaths) : Type 0 where
  pub ties : HaveTies (x ∷ []) now.paths
  pub after : (then : KeptPaths) → then ≡ kept_with (x ∷ []) now → IsPutting rebuilt start rest then

pub putting-next : (rebuilt items rest : List (Numbered EntryList)) (start now : KeptPaths) (x : Numbered EntryList) → IsPutting rebuilt start items now → items ≡ rest ++ x ∷ []
    → IsLast rebuilt start x rest now
putting-next rebuilt items rest start now x putting list = record {
  ties = All-from_recursion (λ (new : Numbered EntryList). IfSome (item_at new.number now.paths) (λ path. new.item.falling ≡ is_falling path.spec.ties)) (x ∷ []) (last rest all, tt);
  after = λ then done.
      subst (IsPutting rebuilt start rest) (sym done) (record {
        same = sym (kept-append rest x now) ∙ ap (λ (w : List (Numbered EntryList)). kept_with w now) (sym list) ∙ putting.same;
        ties = All-from_recursion (λ (new : Numbered EntryList). IfSome (item_at new.number (map (path_with (x ∷ [])) now.paths)) (λ path. new.item.falling ≡ is_falling path.spec.ties)) rest (others rest all);
      });
}
  where
    all : AllByRecursion (λ (new : Numbered EntryList). IfSome (item_at new.number now.paths) (λ path. new.item.falling ≡ is_falling path.spec.ties)) (rest ++ x ∷ [])
    all =
        recursion_from_All (λ (new : Numbered EntryList). IfSome (item_at new.number now.paths) (λ path. new.item.falling ≡ is_falling path.spec.ties)) (rest ++ x ∷ [])
        (subst (λ (w : List (Numbered EntryList)). HaveTies w now.paths) list putting.ties)

    last : (front : List (Numbered EntryList)) → AllByRecursion (λ (new : Numbered EntryList). IfSome (item_at new.number now.paths) (λ path. new.item.falling ≡ is_falling path.spec.ties)) (front ++ x ∷ [])
        → IfSome (item_at x.number now.paths) (λ path. x.item.falling ≡ is_falling path.spec.ties)
    last [] h = h.0
    last (f ∷ front) h = last front h.1

    others : (front : List (Numbered EntryList)) → AllByRecursion (λ (new : Numbered EntryList). IfSome (item_at new.number now.paths) (λ path. new.item.falling ≡ is_falling path.spec.ties)) (front ++ x ∷ [])
        → AllByRecursion (λ (new : Numbered EntryList). IfSome (item_at new.number (map (path_with (x ∷ [])) now.paths)) (λ path. new.item.falling ≡ is_falling path.spec.ties)) front
    others [] h = tt
    others (f ∷ front) h = (ties-after (x ∷ []) f now.paths h.0, others front h.1)

pub putting-end : (rebuilt items : List (Numbered EntryList)) (start now : KeptPaths) → IsPutting rebuilt start items now → items ≡ [] → now ≡ kept_with rebuilt start
putting-end rebuilt items start now putting none = sym (kept-none now) ∙ ap (λ (w : List (Numbered EntryList)). kept_with w now) (sym none) ∙ putting.same

-- ---- what the number of a path finds among those made anew

-- the one made anew for the path, or none where it isn't over the member
abbrev pub IsChosen : NumberedMembers → (held : ℕ) → Bool → Numbered KeptPath → Option EntryList → Type 0
IsChosen members held false path found = found ≡ None
IsChosen members held true path found = (list : EntryList) × (found ≡ Some list) × IsRebuilt members held path (record { number = path.number; item = list })

module _ (members : NumberedMembers) (member held : ℕ) where
  -- none is of a number before those of the paths
  absent : (n : ℕ) (paths : NumberedPaths) (rebuilt : List (Numbered EntryList)) → AllByRecursion (λ (later : Numbered KeptPath). n < later.number) paths
      → AreRebuilt members held (paths_over member paths) rebuilt → item_at n rebuilt ≡ None
  absent n [] [] below made = refl
  absent n [] (new ∷ rebuilt) below made = absurd made
  absent n (path ∷ paths) rebuilt below made = by (is_over member path.item.spec) rebuilt made (λ list others. absent n paths list below.1 others)
    where
      by : (b : Bool) (list : List (Numbered EntryList)) → AreRebuilt members held (cond b (path ∷ paths_over member paths) (paths_over member paths)) list
          → ((more : List (Numbered EntryList)) → AreRebuilt members held (paths_over member paths) more → item_at n more ≡ None) → item_at n list ≡ None
      by false list made rest = rest list made
      by true [] made rest = absurd made
      by true (new ∷ list) made rest =
          cond-false (new.number == n) (Some new.item) (item_at n list)
          (let lt = below.0 in let same = made.0.number in let e : (new.number == n) ≡ false = grind (arith, nat_tests) in e)
          ∙ rest list made.1

  skipped : (new : Numbered EntryList) (rebuilt : List (Numbered EntryList)) (n : ℕ) → new.number < n → item_at n (new ∷ rebuilt) ≡ item_at n rebuilt
  skipped new rebuilt n lt = cond-false (new.number == n) (Some new.item) (item_at n rebuilt) (let e : (new.number == n) ≡ false = grind (arith, nat_tests) in e)

  chosen-later : (new : Numbered EntryList) (rebuilt : List (Numbered EntryList)) (rest : NumberedPaths) → AllByRecursion (λ (later : Numbered KeptPath). new.number < later.number) rest
      → AllByRecursion (λ (path : Numbered KeptPath). IsChosen members held (is_over member path.item.spec) path (item_at path.number rebuilt)) rest
      → AllByRecursion (λ (path : Numbered KeptPath). IsChosen members held (is_over member path.item.spec) path (item_at path.number (new ∷ rebuilt))) rest
  chosen-later new rebuilt [] below chosen = tt
  chosen-later new rebuilt (path ∷ rest) below chosen = (
    subst (IsChosen members held (is_over member path.item.spec) path) (sym (skipped new rebuilt path.number below.0)) chosen.0,
    chosen-later new rebuilt rest below.1 chosen.1,
  )

  below-same : (a b : ℕ) (rest : NumberedPaths) → a ≡ b → AllByRecursion (λ (later : Numbered KeptPath). b < later.number) rest → AllByRecursion (λ (later : Numbered KeptPath). a < later.number) rest
  below-same a b rest same below = subst (λ (n : ℕ). AllByRecursion (λ (later : Numbered KeptPath). n < later.number) rest) (sym same) below

  pub all-chosen : (paths : NumberedPaths) (rebuilt : List (Numbered EntryList)) → Ascend paths → AreRebuilt members held (paths_over member paths) rebuilt
      → AllByRecursion (λ (path : Numbered KeptPath). IsChosen members held (is_over member path.item.spec) path (item_at path.number rebuilt)) paths
  all-chosen [] rebuilt ascend made = tt
  all-chosen (path ∷ paths) rebuilt ascend made = by (is_over member path.item.spec) refl rebuilt made (λ list others. all-chosen paths list ascend.1 others)
    where
      by : (b : Bool) → is_over member path.item.spec ≡ b → (list : List (Numbered EntryList)) → AreRebuilt members held (cond b (path ∷ paths_over member paths) (paths_over member paths)) list
          → ((more : List (Numbered EntryList)) → AreRebuilt members held (paths_over member paths) more
          → AllByRecursion (λ (other : Numbered KeptPath). IsChosen members held (is_over member other.item.spec) other (item_at other.number more)) paths)
          → IsChosen members held (is_over member path.item.spec) path (item_at path.number list)
          × AllByRecursion (λ (other : Numbered KeptPath). IsChosen members held (is_over member other.item.spec) other (item_at other.number list)) paths
      by false is list made rest = (
        subst (λ (t : Bool). IsChosen members held t path (item_at path.number list)) (sym is) (absent path.number paths list ascend.0 made),
        rest list made,
      )
      by true is [] made rest = absurd made
      by true is (new ∷ list) made rest = (
        subst (λ (t : Bool). IsChosen members held t path (item_at path.number (new ∷ list))) (sym is) (
          new.item,
          cond-true (new.number == path.number) (Some new.item) (item_at path.number list)
              (let same = made.0.number in let e : (new.number == path.number) ≡ true = grind (arith, nat_tests) in e),
          record { number = refl; entries = made.0.entries; falling = made.0.falling; room = made.0.room },
        ),
        chosen-later new list paths (below-same new.number path.number paths made.0.number ascend.0) (rest list made.1),
      )

-- ---- the laws

pub rebuilt-over : (member held : ℕ) (before after : NumberedMembers) (paths : NumberedPaths) (rebuilt : List (Numbered EntryList)) → AreSameBut member before after → AreShared paths
    → AreOver before paths → AreRebuilt after held (paths_over member paths) rebuilt → AreOver after (map (path_with rebuilt) paths)
rebuilt-over member held before after paths rebuilt same shared over made =
    All-map (λ (path : Numbered KeptPath). path.item.entries ≡ entries_of path.item.spec after) (path_with rebuilt) paths
    (All-from_recursion (λ (path : Numbered KeptPath). entries_or (item_at path.number rebuilt) path.item.entries ≡ entries_of path.item.spec after) paths
    (go paths (all-chosen after member held paths rebuilt (ascend-from paths shared.ascend) made)
    (recursion_from_All (λ (path : Numbered KeptPath). path.item.entries ≡ entries_of path.item.spec before) paths over)))
  where
    one : (path : Numbered KeptPath) (b : Bool) → is_over member path.item.spec ≡ b → IsChosen after held b path (item_at path.number rebuilt)
        → path.item.entries ≡ entries_of path.item.spec before → entries_or (item_at path.number rebuilt) path.item.entries ≡ entries_of path.item.spec after
    one path true is (list, found, new) was = ap (λ (o : Option EntryList). entries_or o path.item.entries) found ∙ new.entries
    one path false is none was =
        ap (λ (o : Option EntryList). entries_or o path.item.entries) none ∙ was ∙ sym (entries-others member before after path.item.spec same is)

    go : (rest : NumberedPaths) → AllByRecursion (λ (path : Numbered KeptPath). IsChosen after held (is_over member path.item.spec) path (item_at path.number rebuilt)) rest
        → AllByRecursion (λ (path : Numbered KeptPath). path.item.entries ≡ entries_of path.item.spec before) rest
        → AllByRecursion (λ (path : Numbered KeptPath). entries_or (item_at path.number rebuilt) path.item.entries ≡ entries_of path.item.spec after) rest
    go [] chosen was = tt
    go (path ∷ rest) chosen was = (one path (is_over member path.item.spec) refl chosen.0 was.0, go rest chosen.1 was.1)

pub rebuilt-shared : (rebuilt : List (Numbered EntryList)) (paths : NumberedPaths) → AreShared paths → AreShared (map (path_with rebuilt) paths)
rebuilt-shared rebuilt paths shared = record {
  ascend = pairs-map (λ (former later : Numbered KeptPath). former.number < later.number) (path_with rebuilt) (λ a b lt. lt) paths shared.ascend;
  once = pairs-map (λ (former later : Numbered KeptPath). former.item.spec ≢ later.item.spec) (path_with rebuilt) (λ a b differs. differs) paths shared.once;
  attached = All-map (λ (path : Numbered KeptPath). 1 ≤ path.item.files) (path_with rebuilt) paths shared.attached;
}

-- ---- ties of those made anew

pub own-there : (whole : NumberedPaths) → Ascend whole → AllByRecursion (λ (path : Numbered KeptPath). item_at path.number whole ≡ Some path.item) whole
own-there whole ascend =
    each-apart (λ (path : Numbered KeptPath). item_at path.number whole ≡ Some path.item) whole
    (λ front path back is first second. ap (item_at path.number) is ∙ past path back front first) ascend
  where
    past : (path : Numbered KeptPath) (back front : NumberedPaths) → AllByRecursion (λ (other : Numbered KeptPath). other.number ≢ path.number) front
        → item_at path.number (front ++ path ∷ back) ≡ Some path.item
    past path back [] apart = cond-true (path.number == path.number) (Some path.item) (item_at path.number back) (let e : (path.number == path.number) ≡ true = grind (arith, nat_tests) in e)
    past path back (first ∷ front) apart =
        cond-false (first.number == path.number) (Some first.item) (item_at path.number (front ++ path ∷ back))
        (let differs = apart.0 in let e : (first.number == path.number) ≡ false = grind (arith, nat_tests) in e)
        ∙ past path back front apart.1

pub rebuilt-ties : (member held : ℕ) (members : NumberedMembers) (paths : NumberedPaths) (rebuilt : List (Numbered EntryList)) → AreShared paths
    → AreRebuilt members held (paths_over member paths) rebuilt → HaveTies rebuilt paths
rebuilt-ties member held members paths rebuilt shared made =
    All-from_recursion (λ (new : Numbered EntryList). IfSome (item_at new.number paths) (λ path. new.item.falling ≡ is_falling path.spec.ties)) rebuilt
    (go paths rebuilt (own-there paths (ascend-from paths shared.ascend)) made)
  where
    one : (path : Numbered KeptPath) (new : Numbered EntryList) → item_at path.number paths ≡ Some path.item → IsRebuilt members held path new
        → IfSome (item_at new.number paths) (λ p. new.item.falling ≡ is_falling p.spec.ties)
    one path new there is =
        subst (λ (n : ℕ). IfSome (item_at n paths) (λ p. new.item.falling ≡ is_falling p.spec.ties)) (sym is.number)
        (subst (λ (o : Option KeptPath). IfSome o (λ p. new.item.falling ≡ is_falling p.spec.ties)) (sym there) is.falling)

    go : (rest : NumberedPaths) (list : List (Numbered EntryList)) → AllByRecursion (λ (path : Numbered KeptPath). item_at path.number paths ≡ Some path.item) rest
        → AreRebuilt members held (paths_over member rest) list
        → AllByRecursion (λ (new : Numbered EntryList). IfSome (item_at new.number paths) (λ p. new.item.falling ≡ is_falling p.spec.ties)) list
    go [] [] there made = tt
    go [] (new ∷ list) there made = absurd made
    go (path ∷ rest) list there made = by (is_over member path.item.spec) list made (λ more others. go rest more there.1 others)
      where
        by : (b : Bool) (more : List (Numbered EntryList)) → AreRebuilt members held (cond b (path ∷ paths_over member rest) (paths_over member rest)) more
            → ((later : List (Numbered EntryList)) → AreRebuilt members held (paths_over member rest) later
            → AllByRecursion (λ (new : Numbered EntryList). IfSome (item_at new.number paths) (λ p. new.item.falling ≡ is_falling p.spec.ties)) later)
            → AllByRecursion (λ (new : Numbered EntryList). IfSome (item_at new.number paths) (λ p. new.item.falling ≡ is_falling p.spec.ties)) more
        by false more made done = done more made
        by true [] made done = absurd made
        by true (new ∷ more) made done = (one path new there.0 made.0, done more made.1)

-- ---- room

pub over-any : (member : ℕ) (formats : List PathFormat) → Any (λ (f : PathFormat). f.member ≡ member) formats → list_any (λ (f : PathFormat). f.member == member) formats ≡ true
over-any member [] (k, x, low, at, is) = absurd (omega (arith, low))
over-any member (f ∷ formats) (zero, x, low, at, is) =
    ap (λ (b : Bool). b || list_any (λ (g : PathFormat). g.member == member) formats)
    (let own : f.member ≡ member = ap (λ (g : PathFormat). g.member) at ∙ is in let e : (f.member == member) ≡ true = grind (arith, nat_tests) in e)
over-any member (f ∷ formats) (suc k, x, low, at, is) = by (f.member == member) (over-any member formats (k, x, (omega (arith, low)), at, is))
  where
    by : (b : Bool) → list_any (λ (g : PathFormat). g.member == member) formats ≡ true → b || list_any (λ (g : PathFormat). g.member == member) formats ≡ true
    by true rest = refl
    by false rest = rest

abbrev spare_in : Option PathRoom → ℕ
spare_in o = unwrap_or (option_map (λ (room : PathRoom). room.spare) o) 0

room-at : (rebuilt : List (Numbered EntryList)) (list : EntryList) (n : ℕ) → item_at n rebuilt ≡ Some list → (rooms : List (Numbered PathRoom)) → IsSome (item_at n rooms)
    → spare_in (item_at n (map (room_with rebuilt) rooms)) ≡ list.spare
room-at rebuilt list n found [] there = absurd cc
room-at rebuilt list n found (room ∷ rooms) there = by (room.number == n) refl there (room-at rebuilt list n found rooms)
  where
    by : (b : Bool) → (room.number == n) ≡ b → IsSome (cond b (Some room.item) (item_at n rooms))
        → (IsSome (item_at n rooms) → spare_in (item_at n (map (room_with rebuilt) rooms)) ≡ list.spare)
        → spare_in (cond b (Some (room_or (item_at room.number rebuilt) room.item)) (item_at n (map (room_with rebuilt) rooms))) ≡ list.spare
    by true is h rest =
        let own : room.number ≡ n = grind (arith, nat_tests) in
        ap (λ (o : Option EntryList). (room_or o room.item).spare) (ap (λ (k : ℕ). item_at k rebuilt) own ∙ found)
    by false is h rest = rest h

module _ (kept : KeptPaths) (rebuilt : List (Numbered EntryList)) (number held : ℕ) (members : NumberedMembers) where
  abbrev HasRoom : Numbered KeptPath → Type 0
  HasRoom path = Any (λ (f : PathFormat). f.member ≡ number) path.item.spec.formats → held * length path.item.spec.formats ≤ spare_of path.number (kept_with rebuilt kept)

  one-room : (path : Numbered KeptPath) (b : Bool) → is_over number path.item.spec ≡ b → IsChosen members held b path (item_at path.number rebuilt) → IsSome (item_at path.number kept.rooms)
      → HasRoom path
  one-room path false not_over none there any = absurd (let e : true ≡ false = sym (over-any number path.item.spec.formats any) ∙ not_over in cc)
  one-room path true is_one (list, found, made_anew) there any =
      let spare : spare_of path.number (kept_with rebuilt kept) ≡ list.spare = room-at rebuilt list path.number found kept.rooms there in
      let room = made_anew.room in
      omega (arith, spare, room)

  all-room : (rest : NumberedPaths) → AllByRecursion (λ (path : Numbered KeptPath). IsChosen members held (is_over number path.item.spec) path (item_at path.number rebuilt)) rest
      → AllByRecursion (λ (path : Numbered KeptPath). IsSome (item_at path.number kept.rooms)) rest
      → AllByRecursion (λ (path : Numbered KeptPath). HasRoom (path_with rebuilt path)) rest
  all-room [] chosen there = tt
  all-room (path ∷ rest) chosen there = (one-room path (is_over number path.item.spec) refl chosen.0 there.0, all-room rest chosen.1 there.1)

pub rebuilt-room : (old new : KeptPaths) (rebuilt : List (Numbered EntryList)) → AreShared old.paths → HaveRooms old → new ≡ kept_with rebuilt old
    → (number held : ℕ) (members : NumberedMembers) → AreRebuilt members held (paths_over number old.paths) rebuilt → HaveRoom number held new
rebuilt-room old new rebuilt shared rooms is number held members made =
    subst (HaveRoom number held) (sym is)
    (All-map (HasRoom old rebuilt number held members) (path_with rebuilt) old.paths
    (All-from_recursion (λ (path : Numbered KeptPath). HasRoom old rebuilt number held members (path_with rebuilt path)) old.paths
    (all-room old rebuilt number held members old.paths (all-chosen members number held old.paths rebuilt (ascend-from old.paths shared.ascend) made)
    (recursion_from_All (λ (path : Numbered KeptPath). IsSome (item_at path.number old.rooms)) old.paths rooms))))
