-- The moves of several changes lead the paths to the members after the last one.
use Rattle.std.proofs.Common.{ℕ, zero, suc, ◌*◌, ◌<◌, ◌≤◌, ◌≡◌, ◌≢◌, ◌==◌, Bool, true, false, cond, ◌||◌, List, [], ◌∷◌, ◌++◌, length, map, get_or, IsSome, refl}
use Rattle.std.proofs.Common.{sym, ap, arith, ◌∙◌, subst}
use Rattle.std.specs.Prelude.{All, Any, AllPairs}
use Rattle.std.specs.List.{AllByRecursion, list_any}
use Rattle.std.proofs.Math.Nat.{suc-mul, mul_comm, mul_assoc, mul-le-mul_right}
use Rattle.std.proofs.lemmas.Bool.Decides.{nat_tests}
use Rattle.std.proofs.lemmas.List.{get_or-map, length-map}
use Rattle.std.proofs.lemmas.List.Elements.{All-map, All-from_recursion, recursion_from_All}
use Rattle.key_pages.specs.declared.entries.Entry.{Entry}
use Rattle.member_slots.specs.Members.{Numbered, NumberedMembers, item_at}
use Rattle.file_model.specs.declared.paths.PathFormat.{PathFormat}
use Rattle.access_path.specs.PathBytes.{is_falling}
use Rattle.path_set.specs.declared.moves.ImageChange.{ImageChange}
use Rattle.path_set.specs.declared.moves.PathMove.{PathMove}
use Rattle.path_set.specs.KeptPaths.{KeptPath, KeptPaths, NumberedPaths, AreShared, AreOver, spare_of}
use Rattle.path_set.specs.RecordChanges.{RecordChange, moves_of, in_path, moves_in, path_after, paths_after, FitEntries, CanBeMade, count_in, HaveRoom}
use Rattle.path_set.specs.ManyChanges.{change_in, moves_of_all, LeadTo}
use Rattle.path_set.specs.MemberSteps.{is_over}
use Rattle.path_set.proofs.MoveLemmas.{paths_after-none}
use Rattle.path_set.proofs.RecordLemmas.{Ascend, ascend-from, after-append, fit-append, both-moves, paths-there, paths-fit, paths-over, moves-later, count-append, count-other}
use Rattle.path_set.proofs.RoomLemmas.{own-few, others-counted, later-apart}

-- ---- one list of moves after another

pub paths_after-append : (xs ys : List PathMove) (paths : NumberedPaths) → paths_after (xs ++ ys) paths ≡ paths_after ys (paths_after xs paths)
paths_after-append xs ys [] = refl
paths_after-append xs ys (path ∷ paths) =
    ap (λ (w : List Entry). record { number = path.number; item = record { spec = path.item.spec; files = path.item.files; entries = w } } ∷ paths_after (xs ++ ys) paths)
    (after-append (is_falling path.item.spec.ties) path.number xs ys path.item.entries)
    ∙ ap (λ (w : NumberedPaths). path_after ys (path_after xs path) ∷ w) (paths_after-append xs ys paths)

-- what holds of two paths also holds where neither has another number, specification or count
pub pairs-map : (R : Numbered KeptPath → Numbered KeptPath → Type 0) (f : Numbered KeptPath → Numbered KeptPath) → ((a b : Numbered KeptPath) → R a b → R (f a) (f b)) → (paths : NumberedPaths)
    → AllPairs R paths → AllPairs R (map f paths)
pairs-map R f keeps paths h i j d lt within =
    let high : j < length paths = omega (arith, within, length-map paths f) in
    let low : i < length paths = omega (arith, high, lt) in
    rw (get_or-map f paths i d d low, get_or-map f paths j d d high) (keeps (get_or paths i d) (get_or paths j d) (h i j d lt high))

pub shared-after : (moves : List PathMove) (paths : NumberedPaths) → AreShared paths → AreShared (paths_after moves paths)
shared-after moves paths shared = record {
  ascend = pairs-map (λ (former later : Numbered KeptPath). former.number < later.number) (path_after moves) (λ a b lt. lt) paths shared.ascend;
  once = pairs-map (λ (former later : Numbered KeptPath). former.item.spec ≢ later.item.spec) (path_after moves) (λ a b differs. differs) paths shared.once;
  attached = All-map (λ (path : Numbered KeptPath). 1 ≤ path.item.files) (path_after moves) paths shared.attached;
}

all-later : (changes : List RecordChange) (moves : List PathMove) (paths : NumberedPaths) → moves_of_all changes (paths_after moves paths) ≡ moves_of_all changes paths
all-later [] moves paths = refl
all-later (c ∷ changes) moves paths =
    ap (λ (w : List PathMove). w ++ moves_of_all changes (paths_after moves paths)) (moves-later c moves paths)
    ∙ ap (λ (w : List PathMove). moves_in c paths ++ w) (all-later changes moves paths)

-- ---- the entries

pub many-over : (changes : List RecordChange) (before after : NumberedMembers) (paths : NumberedPaths) → LeadTo changes before after → AreShared paths → AreOver before paths
    → AreOver after (paths_after (moves_of_all changes paths) paths)
many-over [] before after paths lead shared over =
    subst (λ (m : NumberedMembers). AreOver m (paths_after [] paths)) lead (subst (λ (w : NumberedPaths). AreOver before w) (sym (paths_after-none paths)) over)
many-over (c ∷ changes) before after paths lead shared over =
    let first = moves_in c paths in
    let next = paths_after (moves_in c paths) paths in
    subst (λ (w : NumberedPaths). AreOver after w)
    (ap (λ (w : List PathMove). paths_after w (paths_after (moves_in c paths) paths)) (all-later changes first paths) ∙ sym (paths_after-append first (moves_of_all changes paths) paths))
    (many-over changes lead.0 after next lead.2 (shared-after first paths shared) (paths-over c before lead.0 paths lead.1 shared over))

-- ---- they fit

join-fit : (first later : List PathMove) (rest : NumberedPaths)
    → AllByRecursion (λ (path : Numbered KeptPath). FitEntries (is_falling path.item.spec.ties) path.number first path.item.entries) rest
    → AllByRecursion (λ (path : Numbered KeptPath). FitEntries (is_falling path.item.spec.ties) path.number later path.item.entries) (paths_after first rest)
    → AllByRecursion (λ (path : Numbered KeptPath). FitEntries (is_falling path.item.spec.ties) path.number (first ++ later) path.item.entries) rest
join-fit first later [] fits thens = tt
join-fit first later (path ∷ rest) fits thens = (
  fit-append (is_falling path.item.spec.ties) path.number first later path.item.entries fits.0 thens.0,
  join-fit first later rest fits.1 thens.1,
)

none-fit : (rest : NumberedPaths) → AllByRecursion (λ (path : Numbered KeptPath). FitEntries (is_falling path.item.spec.ties) path.number [] path.item.entries) rest
none-fit [] = tt
none-fit (path ∷ rest) = (tt, none-fit rest)

many-fit : (changes : List RecordChange) (before after : NumberedMembers) (paths : NumberedPaths) → LeadTo changes before after → AreShared paths → AreOver before paths
    → AllByRecursion (λ (path : Numbered KeptPath). FitEntries (is_falling path.item.spec.ties) path.number (moves_of_all changes paths) path.item.entries) paths
many-fit [] before after paths lead shared over = none-fit paths
many-fit (c ∷ changes) before after paths lead shared over =
    let first = moves_in c paths in
    let next = paths_after (moves_in c paths) paths in
    join-fit first (moves_of_all changes paths) paths (paths-fit c before lead.0 paths lead.1 shared over)
    (subst (λ (w : List PathMove). AllByRecursion (λ (path : Numbered KeptPath). FitEntries (is_falling path.item.spec.ties) path.number w path.item.entries) (paths_after (moves_in c paths) paths))
    (all-later changes first paths)
    (many-fit changes lead.0 after next lead.2 (shared-after first paths shared) (paths-over c before lead.0 paths lead.1 shared over)))

many-there : (changes : List RecordChange) (paths : NumberedPaths) → AreShared paths → AllByRecursion (λ (m : PathMove). IsSome (item_at m.id paths)) (moves_of_all changes paths)
many-there [] paths shared = tt
many-there (c ∷ changes) paths shared =
    both-moves (λ (m : PathMove). IsSome (item_at m.id paths)) (moves_in c paths) (moves_of_all changes paths) (paths-there c paths shared) (many-there changes paths shared)

-- ---- room

any-over : (member : ℕ) (formats : List PathFormat) → list_any (λ (f : PathFormat). f.member == member) formats ≡ true → Any (λ (f : PathFormat). f.member ≡ member) formats
any-over member [] is = absurd (let e : false ≡ true = is in cc)
any-over member (f ∷ formats) is = by (f.member == member) refl is (any-over member formats)
  where
    later : Any (λ (g : PathFormat). g.member ≡ member) formats → Any (λ (g : PathFormat). g.member ≡ member) (f ∷ formats)
    later (k, x, low, at, same) = (suc k, x, (omega arith), at, same)

    by : (b : Bool) → (f.member == member) ≡ b → b || list_any (λ (g : PathFormat). g.member == member) formats ≡ true
        → (list_any (λ (g : PathFormat). g.member == member) formats ≡ true → Any (λ (g : PathFormat). g.member ≡ member) formats)
        → Any (λ (g : PathFormat). g.member ≡ member) (f ∷ formats)
    by true same h rest = (zero, f, (omega arith), refl, (let e : f.member ≡ member = grind (arith, nat_tests) in e))
    by false same h rest = later (rest h)

-- each change of the member has at most so many moves under the number, and so many changes have room
pub record IsBound (member most id spare : ℕ) (paths : NumberedPaths) : Type 0 where
  pub bound : ℕ
  pub fits : most * bound ≤ spare
  pub counts : (c : RecordChange) → c.member ≡ member → count_in id (moves_in c paths) ≤ bound

bounded : (member most id spare : ℕ) (paths : NumberedPaths) → Ascend paths
    → AllByRecursion (λ (path : Numbered KeptPath). path.number ≡ id → Any (λ (f : PathFormat). f.member ≡ member) path.item.spec.formats → most * length path.item.spec.formats ≤ spare) paths
    → IsBound member most id spare paths
bounded member most id spare [] ascend room = record { bound = 0; fits = omega arith; counts = λ c same. omega arith }
bounded member most id spare (path ∷ paths) ascend room = by (path.number == id) refl (bounded member most id spare paths ascend.1 room.1)
  where
    own : path.number ≡ id → (b : Bool) → is_over member path.item.spec ≡ b → most * cond b (length path.item.spec.formats) 0 ≤ spare
    own same true is = room.0 same (any-over member path.item.spec.formats is)
    own same false is = omega arith

    by : (b : Bool) → (path.number == id) ≡ b → IsBound member most id spare paths → IsBound member most id spare (path ∷ paths)
    by true is rest =
        let here : path.number ≡ id = grind (arith, nat_tests) in
        record {
          bound = cond (is_over member path.item.spec) (length path.item.spec.formats) 0;
          fits = own here (is_over member path.item.spec) refl;
          counts = λ c same.
              subst (λ (n : ℕ). count_in n (moves_in c (path ∷ paths)) ≤ cond (is_over member path.item.spec) (length path.item.spec.formats) 0) here
              (subst (λ (n : ℕ). count_in path.number (moves_in c (path ∷ paths)) ≤ cond (is_over n path.item.spec) (length path.item.spec.formats) 0) same
              (let e = count-append path.number (in_path path.number (moves_of c path.item.spec)) (moves_in c paths) in
              let few = own-few c path.number path.item.spec in
              let none = others-counted c path.number paths (later-apart path paths ascend.0) in
              omega (arith, e, few, none)));
        }
    by false is rest =
        let other : path.number ≢ id = grind (arith, nat_tests) in
        record {
          bound = rest.bound;
          fits = rest.fits;
          counts = λ c same.
              let e = count-append id (in_path path.number (moves_of c path.item.spec)) (moves_in c paths) in
              let none = count-other id path.number (moves_of c path.item.spec) other in
              let few = rest.counts c same in
              omega (arith, e, none, few);
        }

many-counted : (member id bound : ℕ) (paths : NumberedPaths) → ((c : RecordChange) → c.member ≡ member → count_in id (moves_in c paths) ≤ bound) → (changes : List RecordChange)
    → AllByRecursion (λ (c : RecordChange). c.member ≡ member) changes → count_in id (moves_of_all changes paths) ≤ length changes * bound
many-counted member id bound paths counts [] own = omega arith
many-counted member id bound paths counts (c ∷ changes) own =
    let e = count-append id (moves_in c paths) (moves_of_all changes paths) in
    let first = counts c own.0 in
    let rest = many-counted member id bound paths counts changes own.1 in
    let more = suc-mul (length changes) bound in
    omega (arith, e, first, rest, more)

each-room : (member most id : ℕ) (kept : KeptPaths) (rest : NumberedPaths)
    → AllByRecursion (λ (path : Numbered KeptPath). Any (λ (f : PathFormat). f.member ≡ member) path.item.spec.formats → most * length path.item.spec.formats ≤ spare_of path.number kept) rest
    → AllByRecursion (λ (path : Numbered KeptPath). path.number ≡ id → Any (λ (f : PathFormat). f.member ≡ member) path.item.spec.formats → most * length path.item.spec.formats ≤ spare_of id kept) rest
each-room member most id kept [] room = tt
each-room member most id kept (path ∷ rest) room = (
  λ same any. subst (λ (n : ℕ). most * length path.item.spec.formats ≤ spare_of n kept) same (room.0 any),
  each-room member most id kept rest room.1,
)

pub many-few : (member times most : ℕ) (changes : List RecordChange) (kept : KeptPaths) → All (λ (c : RecordChange). c.member ≡ member) changes → AreShared kept.paths → times * length changes ≤ most
    → HaveRoom member most kept → (id : ℕ) → times * count_in id (moves_of_all changes kept.paths) ≤ spare_of id kept
many-few member times most changes kept own shared enough room id =
    let bound = bounded member most id (spare_of id kept) kept.paths (ascend-from kept.paths shared.ascend)
    (each-room member most id kept kept.paths (recursion_from_All (λ (path : Numbered KeptPath). Any (λ (f : PathFormat). f.member ≡ member) path.item.spec.formats
    → most * length path.item.spec.formats ≤ spare_of path.number kept) kept.paths room)) in
    let counted = many-counted member id bound.bound kept.paths bound.counts changes (recursion_from_All (λ (c : RecordChange). c.member ≡ member) changes own) in
    let all : count_in id (moves_of_all changes kept.paths) * times ≤ length changes * bound.bound * times = mul-le-mul_right times counted in
    let turned : times * count_in id (moves_of_all changes kept.paths) ≡ count_in id (moves_of_all changes kept.paths) * times = mul_comm times (count_in id (moves_of_all changes kept.paths)) in
    let grouped : length changes * bound.bound * times ≡ times * length changes * bound.bound =
    mul_comm (length changes * bound.bound) times ∙ sym (mul_assoc times (length changes) bound.bound) in
    let most_of : times * length changes * bound.bound ≤ most * bound.bound = mul-le-mul_right bound.bound enough in
    let fits = bound.fits in
    omega (arith, all, turned, grouped, most_of, fits)

-- ---- the moves can be made

pub many-made : (member : ℕ) (changes : List RecordChange) (before after : NumberedMembers) (kept : KeptPaths) → All (λ (c : RecordChange). c.member ≡ member) changes
    → LeadTo changes before after → AreShared kept.paths → AreOver before kept.paths → HaveRoom member (length changes) kept → CanBeMade (moves_of_all changes kept.paths) kept
many-made member changes before after kept own lead shared over room = record {
  there = All-from_recursion (λ (m : PathMove). IsSome (item_at m.id kept.paths)) (moves_of_all changes kept.paths) (many-there changes kept.paths shared);
  fit = All-from_recursion (λ (path : Numbered KeptPath). FitEntries (is_falling path.item.spec.ties) path.number (moves_of_all changes kept.paths) path.item.entries) kept.paths
      (many-fit changes before after kept.paths lead shared over);
  room = λ id. let e = many-few member 1 (length changes) changes kept own shared (omega arith) room id in omega (arith, e);
}

-- the changes of a member's records are of the member
pub all-of-member : (member : ℕ) (changes : List ImageChange) → All (λ (c : RecordChange). c.member ≡ member) (map (change_in member) changes)
all-of-member member changes = All-from_recursion (λ (c : RecordChange). c.member ≡ member) (map (change_in member) changes) (go changes)
  where
    go : (rest : List ImageChange) → AllByRecursion (λ (c : RecordChange). c.member ≡ member) (map (change_in member) rest)
    go [] = tt
    go (change ∷ rest) = (refl, go rest)
