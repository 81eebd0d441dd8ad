-- Each kept path has its room.
use Rattle.std.proofs.Common.{◌≡◌, ◌==◌, Bool, true, false, cond, List, [], ◌∷◌, ◌++◌, map, Some, IsSome, refl, sym, ◌∙◌, subst, arith, append_assoc}
use Rattle.std.specs.List.{AllByRecursion}
use Rattle.std.proofs.lemmas.Bool.{cond-true}
use Rattle.std.proofs.lemmas.Bool.Decides.{nat_tests}
use Rattle.std.proofs.lemmas.List.Elements.{All-from_recursion}
use Rattle.member_slots.specs.Members.{Numbered, item_at}
use Rattle.path_set.specs.declared.kept.Kept.{Kept}
use Rattle.path_set.specs.KeptPaths.{KeptPath}
use Rattle.path_set.specs.RebuiltPaths.{HaveRooms}
use Rattle.path_set.specs.Entries.{paths_of, numbered, path_of, room_of}

-- what has the number of a path among the rooms
room-there : (front : List Kept) (kept : Kept) (rest : List Kept) → IsSome (item_at kept.id (map (numbered room_of) (front ++ kept ∷ rest)))
room-there [] kept rest =
    rw (let e : cond (kept.id == kept.id) (Some (room_of kept)) (item_at kept.id (map (numbered room_of) rest))
    ≡ Some (room_of kept) = cond-true (kept.id == kept.id) (Some (room_of kept)) (item_at kept.id (map (numbered room_of) rest))
    (let t : (kept.id == kept.id) ≡ true = grind (arith, nat_tests) in t) in e) refl
room-there (first ∷ front) kept rest = by (first.id == kept.id) (room-there front kept rest)
  where
    by : (b : Bool) → IsSome (item_at kept.id (map (numbered room_of) (front ++ kept ∷ rest)))
        → IsSome (cond b (Some (room_of first)) (item_at kept.id (map (numbered room_of) (front ++ kept ∷ rest))))
    by true found = refl
    by false found = found

pub HaveRooms-paths : (paths : List Kept) → HaveRooms (paths_of paths)
HaveRooms-paths paths =
    All-from_recursion (λ (path : Numbered KeptPath). IsSome (item_at path.number (map (numbered room_of) paths))) (map (numbered path_of) paths) (go [] paths refl)
  where
    go : (front rest : List Kept) → paths ≡ front ++ rest → AllByRecursion (λ (path : Numbered KeptPath). IsSome (item_at path.number (map (numbered room_of) paths))) (map (numbered path_of) rest)
    go front [] is = tt
    go front (kept ∷ rest) is = (
      subst (λ (w : List Kept). IsSome (item_at kept.id (map (numbered room_of) w))) (sym is) (room-there front kept rest),
      go (front ++ kept ∷ []) rest (is ∙ sym (append_assoc front (kept ∷ []) rest)),
    )
