-- Changes that are prepared in one format after another, and in one path after another.
use Rattle.std.proofs.Common.{ℕ, zero, suc, ◌+◌, ◌*◌, ◌<◌, ◌≤◌, ◌≡◌, ◌≢◌, ◌==◌, Bool, true, false, cond, ◌||◌, List, [], ◌∷◌, ◌++◌, length, map, drop, set, get_or, Option, Some, None, IfSome, refl}
use Rattle.std.proofs.Common.{sym, ap, arith, ◌∙◌, subst, append_assoc, eqb-true}
use Rattle.std.specs.Prelude.{All, Any, slice_get}
use Rattle.std.specs.List.{AllByRecursion, list_any}
use Rattle.std.proofs.lemmas.Bool.Decides.{nat_tests}
use Rattle.std.proofs.lemmas.List.{map-append, length-map}
use Rattle.std.proofs.lemmas.List.Elements.{All-from_recursion, recursion_from_All}
use Rattle.file_model.specs.declared.paths.PathFormat.{PathFormat}
use Rattle.file_model.specs.declared.paths.PathSpec.{PathSpec}
use Rattle.key_pages.specs.declared.entries.Entry.{Entry}
use Rattle.member_slots.specs.Members.{Numbered, with_item}
use Rattle.access_path.specs.KeptEntries.{KeyOf}
use Rattle.access_path.specs.Moves.{Move}
use Rattle.access_path.specs.PathBytes.{is_falling, members_of}
use Rattle.path_entrants.specs.Formats.{IsAskable, CanBeAsked, keys_of}
use Rattle.path_set.specs.declared.kept.Kept.{Kept}
use Rattle.path_set.specs.declared.moves.PathMove.{PathMove}
use Rattle.path_set.specs.KeptPaths.{KeptPath, KeptPaths, NumberedPaths, spare_of}
use Rattle.path_set.specs.RecordChanges.{RecordChange, TakesImage, TakeImage, in_path, moves_at, moves_from, moves_of, moves_in, HaveRoom}
use Rattle.path_set.specs.Entries.{AreKept, HasMoreRoom, paths_of, numbered, path_of}
use Rattle.path_set.specs.declared.by_member.PathOver.{PathOver}
use Rattle.path_set.specs.MemberSteps.{is_over, paths_over}
use Rattle.path_set.specs.ByMember.{AreNumbers}
use Rattle.path_set.proofs.FoundLemmas.{IsFound, found, found-each, IsPlace-at}
use Rattle.path_set.proofs.MemberStepLemmas.{moves-over}
use Rattle.path_set.proofs.RebuildLemmas.{over-any}
use Rattle.path_set.proofs.TurnLemmas.{IsOver, IsTurn, over-length, turns-end}

-- ---- the formats of a path

pub more-room-same : (kept : Kept) → HasMoreRoom kept kept
more-room-same kept = record { id = refl; by = refl; files = refl; entries = refl; falling = refl; spare = omega arith }

pub more-room-then : (a b c : Kept) → HasMoreRoom a b → HasMoreRoom b c → HasMoreRoom a c
more-room-then a b c h k = record {
  id = k.id ∙ h.id;
  by = k.by ∙ h.by;
  files = k.files ∙ h.files;
  entries = k.entries ∙ h.entries;
  falling = k.falling ∙ h.falling;
  spare = let x = h.spare in let y = k.spare in omega (arith, x, y);
}

drop-first : {A : Type 0} (xs : List A) (i : ℕ) (d : A) → i < length xs → drop i xs ≡ get_or xs i d ∷ drop (i + 1) xs
drop-first [] i d low = absurd (omega arith)
drop-first (x ∷ xs) zero d low = refl
drop-first (x ∷ xs) (suc i) d low = drop-first xs i d (omega arith) ∙ ap (λ (n : ℕ). get_or xs i d ∷ drop n (x ∷ xs)) (let e : suc (i + 1) ≡ suc i + 1 = omega arith in e)

-- the moves of a format, and of those after it
pub moves-step : (keys : KeyOf) (c : RecordChange) (id format : ℕ) (members : List ℕ) → format < length members
    → in_path id (moves_at keys c format (get_or members format 0)) ++ in_path id (moves_from keys c (format + 1) (drop (format + 1) members))
    ≡ in_path id (moves_from keys c format (drop format members))
moves-step keys c id format members low =
    sym (map-append (λ (m : Move). record { id = id; change = m }) (moves_at keys c format (get_or members format 0)) (moves_from keys c (format + 1) (drop (format + 1) members)))
    ∙ ap (λ (w : List ℕ). in_path id (moves_from keys c format w)) (sym (drop-first members format 0 low))

-- a format over the member can be asked
pub asked-at : (member : ℕ) (image : Option (List ℕ)) (spec : PathSpec) (format : ℕ) → TakesImage member image spec → get_or (members_of spec.formats) format 0 ≡ member
    → format < length (members_of spec.formats) → IfSome image (λ i. CanBeAsked spec.formats format i)
asked-at member None spec format takes same low = tt
asked-at member (Some image) spec format takes same low = by spec.formats format takes same low
  where
    by : (formats : List PathFormat) (k : ℕ) → All (λ (f : PathFormat). f.member ≡ member → IsAskable f image) formats → get_or (members_of formats) k 0 ≡ member
        → k < length (members_of formats) → IfSome (slice_get formats k) (λ f. IsAskable f image)
    by [] k takes same low = absurd (omega arith)
    by (f ∷ formats) zero takes same low = takes zero f (omega arith) same
    by (f ∷ formats) (suc k) takes same low = by formats k (λ i d within. takes (suc i) d (omega arith)) same (omega arith)

equal-or-not : (P : Type 0) (a b : ℕ) → (a ≡ b → P) → (a ≢ b → P) → P
equal-or-not P a b equal other = by (a == b) refl
  where
    by : (t : Bool) → (a == b) ≡ t → P
    by true is = equal (grind (arith, nat_tests))
    by false is = other (grind (arith, nat_tests))

-- what is prepared in the formats before this one
pub record IsPreparing (start : Kept) (c : RecordChange) (changes : ℕ) (begun : List PathMove) (format : ℕ) (moves : List PathMove) (now : Kept) : Type 0 where
  pub moves_left : moves ++ in_path start.id (moves_from (keys_of start.by.formats) c format (drop format (members_of start.by.formats))) ≡ begun ++ in_path start.id (moves_of c start.by)
  pub same : HasMoreRoom start now
  pub room : (k : ℕ) → k < format → get_or (members_of start.by.formats) k 0 ≡ c.member → changes * length (members_of start.by.formats) ≤ now.path.spare

pub preparing-first : (start : Kept) (c : RecordChange) (changes : ℕ) (begun : List PathMove) → IsPreparing start c changes begun 0 begun start
preparing-first start c changes begun = record { moves_left = refl; same = more-room-same start; room = λ k low same. absurd (omega arith) }

pub preparing-next : (start : Kept) (c : RecordChange) (changes : ℕ) (begun : List PathMove) (format : ℕ) (moves more : List PathMove) (now next : Kept)
    → IsPreparing start c changes begun format moves now → format < length (members_of start.by.formats) → HasMoreRoom now next
    → more ≡ moves ++ in_path now.id (moves_at (keys_of now.by.formats) c format (get_or (members_of now.by.formats) format 0))
    → (get_or (members_of now.by.formats) format 0 ≡ c.member → changes * length (members_of now.by.formats) ≤ next.path.spare)
    → IsPreparing start c changes begun (format + 1) more next
preparing-next start c changes begun format moves more now next p low wider new room =
    let own : more ≡ moves ++ in_path start.id (moves_at (keys_of start.by.formats) c format (get_or (members_of start.by.formats) format 0)) =
    new ∙ ap (λ (n : ℕ). moves ++ in_path n (moves_at (keys_of now.by.formats) c format (get_or (members_of now.by.formats) format 0))) p.same.id
    ∙ ap (λ (s : PathSpec). moves ++ in_path start.id (moves_at (keys_of s.formats) c format (get_or (members_of s.formats) format 0))) p.same.by in
    let rest = in_path start.id (moves_from (keys_of start.by.formats) c (format + 1) (drop (format + 1) (members_of start.by.formats))) in
    record {
      moves_left = ap (λ (w : List PathMove). w ++ rest) own
          ∙ append_assoc moves (in_path start.id (moves_at (keys_of start.by.formats) c format (get_or (members_of start.by.formats) format 0))) rest
          ∙ ap (λ (w : List PathMove). moves ++ w) (moves-step (keys_of start.by.formats) c start.id format (members_of start.by.formats) low)
          ∙ p.moves_left;
      same = more-room-then start now next p.same wider;
      room = λ k below same.
          equal-or-not (changes * length (members_of start.by.formats) ≤ next.path.spare) k format
          (λ here.
          subst (λ (s : PathSpec). changes * length (members_of s.formats) ≤ next.path.spare) p.same.by
          (room (subst (λ (s : PathSpec). get_or (members_of s.formats) format 0 ≡ c.member) (sym p.same.by) (subst (λ n. get_or (members_of start.by.formats) n 0 ≡ c.member) here same))))
          (λ other. let e = p.room k (omega arith) same in let w = wider.spare in omega (arith, e, w));
    }

drop-all : {A : Type 0} (xs : List A) (i : ℕ) → length xs ≤ i → drop i xs ≡ []
drop-all [] zero high = refl
drop-all [] (suc i) high = refl
drop-all (x ∷ xs) zero high = absurd (omega arith)
drop-all (x ∷ xs) (suc i) high = drop-all xs i (omega arith)

append-none : (xs : List PathMove) → xs ++ [] ≡ xs
append-none [] = refl
append-none (x ∷ xs) = ap (λ (w : List PathMove). x ∷ w) (append-none xs)

pub preparing-end : (start : Kept) (c : RecordChange) (changes : ℕ) (begun : List PathMove) (format : ℕ) (moves : List PathMove) (now : Kept) → IsPreparing start c changes begun format moves now
    → length (members_of start.by.formats) ≤ format → moves ≡ begun ++ in_path start.id (moves_of c start.by)
preparing-end start c changes begun format moves now p high =
    sym (append-none moves)
    ∙ ap (λ (w : List ℕ). moves ++ in_path start.id (moves_from (keys_of start.by.formats) c format w)) (sym (drop-all (members_of start.by.formats) format high))
    ∙ p.moves_left

-- ---- one path after another

path-same : (kept new : Kept) → HasMoreRoom kept new → path_of new ≡ path_of kept
path-same kept new more =
    ap (λ (s : PathSpec). record { spec = s; files = new.files; entries = new.path.entries }) more.by
    ∙ ap (λ (n : ℕ). record { spec = kept.by; files = n; entries = new.path.entries }) more.files
    ∙ ap (λ (w : List Entry). record { spec = kept.by; files = kept.files; entries = w }) more.entries

-- the path at a place has more room
pub record IsStepped (items : List Kept) (place : ℕ) (kept new : Kept) : Type 0 where
  pub kept_after : AreKept (set items place new)
  pub same : map (numbered path_of) (set items place new) ≡ map (numbered path_of) items
  pub rooms : (id : ℕ) → spare_of id (paths_of items) ≤ spare_of id (paths_of (set items place new))
  pub here : spare_of kept.id (paths_of (set items place new)) ≡ new.path.spare

prepare-step : (items : List Kept) (place : ℕ) (kept new : Kept) → AreKept items → place < length items → kept ≡ get_or items place kept → HasMoreRoom kept new → IsStepped items place kept new
prepare-step items place kept new h low read wider = record {
  kept_after = entry.ordered new wider.id wider.by (record {
    falling = wider.falling ∙ entry.is.falling ∙ ap (λ (s : PathSpec). is_falling s.ties) (sym wider.by);
    attached = let e = wider.files in let a = entry.is.attached in omega (arith, e, a);
  });
  same = entry.paths_after new wider.id ∙ ap (λ (p : KeptPath). with_item kept.id p (map (numbered path_of) items)) (path-same kept new wider) ∙ entry.same_paths;
  rooms = λ id.
      equal-or-not (spare_of id (paths_of items) ≤ spare_of id (paths_of (set items place new))) id kept.id
      (λ own. subst (λ n. spare_of n (paths_of items) ≤ spare_of n (paths_of (set items place new))) (sym own)
      (let b = entry.spare in let e = entry.spare_after new wider.id in let w = wider.spare in omega (arith, b, e, w)))
      (λ other. let e = entry.others_after new id wider.id other in omega (arith, e));
  here = entry.spare_after new wider.id;
}
  where
    entry : IsFound items (paths_of items) kept.id place kept
    entry = found items items (paths_of items) kept.id place kept refl h refl (IsPlace-at items place kept h low read) read

-- a path has memory for the moves of so many changes
abbrev pub HasRoomIn : (changes : ℕ) → List Kept → Numbered KeptPath → Type 0
HasRoomIn changes items path = changes * length path.item.spec.formats ≤ spare_of path.number (paths_of items)

-- what is prepared in the paths before this turn
pub record IsGathering (start : KeptPaths) (begun : List PathMove) (c : RecordChange) (changes turn : ℕ) (moves : List PathMove) (items : List Kept) : Type 0 where
  pub kept : AreKept items
  pub same : map (numbered path_of) items ≡ start.paths
  pub moves_left : moves ++ moves_in c (drop turn (paths_over c.member start.paths)) ≡ begun ++ moves_in c start.paths
  pub rooms : (id : ℕ) → spare_of id start ≤ spare_of id (paths_of items)
  pub room : (k : ℕ) (d : Numbered KeptPath) → k < turn → HasRoomIn changes items (get_or (paths_over c.member start.paths) k d)

pub gathering-first : (begun : List PathMove) (c : RecordChange) (changes : ℕ) (items : List Kept) → AreKept items → IsGathering (paths_of items) begun c changes 0 begun items
gathering-first begun c changes items h = record {
  kept = h;
  same = refl;
  moves_left = ap (λ (w : List PathMove). begun ++ w) (sym (moves-over c (map (numbered path_of) items)));
  rooms = λ id. omega arith;
  room = λ k d low. absurd (omega arith);
}

pub gathering-over : (start : KeptPaths) (begun : List PathMove) (c : RecordChange) (changes turn : ℕ) (moves : List PathMove) (items : List Kept) (over : List PathOver)
    → IsGathering start begun c changes turn moves items → AreNumbers c.member over start.paths → IsOver items start.paths c.member over
gathering-over start begun c changes turn moves items over g numbers = record { kept = g.kept; same = g.same; numbers = numbers }

module _ (start : KeptPaths) (begun : List PathMove) (c : RecordChange) (changes turn : ℕ) (moves : List PathMove) (items : List Kept) (g : IsGathering start begun c changes turn moves items)
    (number place : ℕ) (kept : Kept) (here : IsTurn items start.paths c.member turn number place kept) where
  pub gathering-takes : (image : Option (List ℕ)) → TakeImage c.member image start.paths → TakesImage c.member image kept.by
  gathering-takes image takes =
      found-each (λ (path : Numbered KeptPath). TakesImage c.member image path.item.spec) items place kept here.low here.read
      (subst (λ (w : NumberedPaths). TakeImage c.member image w) (sym g.same) takes)

  -- the path at this turn has more room
  pub gathering-wider : (new : Kept) → HasMoreRoom kept new → IsStepped items place kept new
  gathering-wider new wider = prepare-step items place kept new g.kept here.low here.read wider

  pub gathering-rooms : (new : Kept) → HasMoreRoom kept new → (id : ℕ) → spare_of id start ≤ spare_of id (paths_of (set items place new))
  gathering-rooms new wider id = let a = g.rooms id in let b = (gathering-wider new wider).rooms id in omega (arith, a, b)

  -- one of its formats is over the member
  format-there : (formats : List PathFormat) → list_any (λ (f : PathFormat). f.member == c.member) formats ≡ true
      → (k : ℕ) × (k < length (members_of formats)) × (get_or (members_of formats) k 0 ≡ c.member)
  format-there [] is = absurd (let e : false ≡ true = is in cc)
  format-there (f ∷ formats) is = by (f.member == c.member) refl is (format-there formats)
    where
      by : (b : Bool) → (f.member == c.member) ≡ b → b || list_any (λ (x : PathFormat). x.member == c.member) formats ≡ true
          → (list_any (λ (x : PathFormat). x.member == c.member) formats ≡ true → (k : ℕ) × (k < length (members_of formats)) × (get_or (members_of formats) k 0 ≡ c.member))
          → (k : ℕ) × (k < length (members_of (f ∷ formats))) × (get_or (members_of (f ∷ formats)) k 0 ≡ c.member)
      by true own is rest = (zero, (let e : zero < length (members_of (f ∷ formats)) = omega arith in e), eqb-true f.member c.member own)
      by false own is rest = let found = rest is in (suc found.0, (let low = found.1 in omega (arith, low)), found.2)

  has-room : (spare : ℕ) → ((k : ℕ) → k < length (members_of kept.by.formats) → get_or (members_of kept.by.formats) k 0 ≡ c.member → changes * length (members_of kept.by.formats) ≤ spare)
      → changes * length kept.by.formats ≤ spare
  has-room spare room =
      let there = format-there kept.by.formats here.is in
      subst (λ (n : ℕ). changes * n ≤ spare) (length-map kept.by.formats (λ (f : PathFormat). f.member)) (room there.0 there.1 there.2)

  pub gathering-next : (more : List PathMove) (new : Kept) → HasMoreRoom kept new → more ≡ moves ++ in_path kept.id (moves_of c kept.by)
      → ((k : ℕ) → k < length (members_of kept.by.formats) → get_or (members_of kept.by.formats) k 0 ≡ c.member → changes * length (members_of kept.by.formats) ≤ new.path.spare)
      → IsGathering start begun c changes (turn + 1) more (set items place new)
  gathering-next more new wider is room =
      let step = gathering-wider new wider in
      record {
        kept = step.kept_after;
        same = step.same ∙ g.same;
        moves_left = ap (λ (w : List PathMove). w ++ moves_in c (drop (turn + 1) (paths_over c.member start.paths))) is
            ∙ append_assoc moves (in_path kept.id (moves_of c kept.by)) (moves_in c (drop (turn + 1) (paths_over c.member start.paths)))
            ∙ ap (λ (w : NumberedPaths). moves ++ moves_in c w) (sym here.split)
            ∙ g.moves_left;
        rooms = gathering-rooms new wider;
        room = λ k d below.
            equal-or-not (HasRoomIn changes (set items place new) (get_or (paths_over c.member start.paths) k d)) k turn
            (λ own. subst (λ n. HasRoomIn changes (set items place new) (get_or (paths_over c.member start.paths) n d)) (sym own)
            (subst (HasRoomIn changes (set items place new)) (sym (here.at d))
            (let enough = has-room new.path.spare room in let spare = step.here in omega (arith, enough, spare))))
            (λ other.
            let path = get_or (paths_over c.member start.paths) k d in
            let before = g.room k d (omega arith) in
            let wide = step.rooms path.number in
            omega (arith, before, wide));
      }

pub gathering-end : (start : KeptPaths) (begun : List PathMove) (c : RecordChange) (changes turn : ℕ) (moves : List PathMove) (items : List Kept) (over : List PathOver)
    → IsGathering start begun c changes turn moves items → AreNumbers c.member over start.paths → length over ≤ turn → moves ≡ begun ++ moves_in c start.paths
gathering-end start begun c changes turn moves items over g numbers high =
    sym (append-none moves) ∙ ap (λ (w : NumberedPaths). moves ++ moves_in c w) (sym (turns-end c.member over start.paths turn numbers high)) ∙ g.moves_left

abbrev HasRoomWhere : (member changes : ℕ) → List Kept → Numbered KeptPath → Type 0
HasRoomWhere member changes items path = Any (λ (f : PathFormat). f.member ≡ member) path.item.spec.formats → HasRoomIn changes items path

-- so each path of the member has room
pub gathering-room : (start : KeptPaths) (begun : List PathMove) (c : RecordChange) (changes turn : ℕ) (moves : List PathMove) (items : List Kept) (over : List PathOver)
    → IsGathering start begun c changes turn moves items → AreNumbers c.member over start.paths → length over ≤ turn → HaveRoom c.member changes (paths_of items)
gathering-room start begun c changes turn moves items over g numbers high =
    subst (λ (w : NumberedPaths). All (HasRoomWhere c.member changes items) w) (sym g.same)
    (All-from_recursion (HasRoomWhere c.member changes items) start.paths (all start.paths (recursion_from_All (HasRoomIn changes items) (paths_over c.member start.paths)
    (λ k d low. g.room k d (let same = over-length c.member over start.paths numbers in omega (arith, low, same, high))))))
  where
    all : (rest : NumberedPaths) → AllByRecursion (HasRoomIn changes items) (paths_over c.member rest) → AllByRecursion (HasRoomWhere c.member changes items) rest
    all [] room = tt
    all (path ∷ rest) room = by (is_over c.member path.item.spec) refl room (all rest)
      where
        by : (b : Bool) → is_over c.member path.item.spec ≡ b → AllByRecursion (HasRoomIn changes items) (cond b (path ∷ paths_over c.member rest) (paths_over c.member rest))
            → (AllByRecursion (HasRoomIn changes items) (paths_over c.member rest) → AllByRecursion (HasRoomWhere c.member changes items) rest) → AllByRecursion (HasRoomWhere c.member changes items) (path ∷ rest)
        by true is has more = (λ any. has.0, more has.1)
        by false is has more = (λ any. absurd (let e : true ≡ false = sym (over-any c.member path.item.spec.formats any) ∙ is in cc), more has)

pub view-length : (items : List Kept) (value : KeptPaths) → paths_of items ≡ value → length value.paths ≡ length items
view-length items value view = ap (λ (v : KeptPaths). length v.paths) (sym view) ∙ length-map items (numbered path_of)
