-- How many moves a change has in a path, and what room is left after it.
use Rattle.std.proofs.Common.{ℕ, suc, ◌+◌, ◌*◌, ◌<◌, ◌≤◌, ◌≡◌, ◌≢◌, Bool, true, false, cond, List, [], ◌∷◌, length, refl, sym, ap, arith, ◌∙◌, subst}
use Rattle.std.specs.Prelude.{All, Any}
use Rattle.std.specs.List.{AllByRecursion}
use Rattle.std.proofs.Math.Nat.{suc-mul}
use Rattle.std.proofs.lemmas.List.Elements.{All-map, All-from_recursion, recursion_from_All}
use Rattle.member_slots.specs.Members.{Numbered}
use Rattle.file_model.specs.declared.paths.PathFormat.{PathFormat}
use Rattle.file_model.specs.declared.paths.PathSpec.{PathSpec}
use Rattle.access_path.specs.Moves.{Move}
use Rattle.path_entrants.specs.Formats.{keys_of}
use Rattle.path_set.specs.KeptPaths.{KeptPath, KeptPaths, NumberedPaths, AreShared, spare_of}
use Rattle.path_set.specs.RecordChanges.{RecordChange, moves_of, in_path, moves_in, path_after, paths_after, count_in, HaveRoom}
use Rattle.path_set.specs.MemberSteps.{is_over}
use Rattle.path_set.proofs.RecordLemmas.{Ascend, ascend-from, weaken, are-few, count-few, count-append, count-other}
use Rattle.path_set.proofs.MemberStepLemmas.{moves-others}

-- at most so many moves of a change are of a path
abbrev pub most_in : RecordChange → PathSpec → ℕ
most_in c spec = cond (is_over c.member spec) (length spec.formats) 0

pub own-few : (c : RecordChange) (id : ℕ) (spec : PathSpec) → count_in id (in_path id (moves_of c spec)) ≤ most_in c spec
own-few c id spec = by (is_over c.member spec) refl
  where
    by : (b : Bool) → is_over c.member spec ≡ b → count_in id (in_path id (moves_of c spec)) ≤ cond b (length spec.formats) 0
    by true is = let most = count-few id id (moves_of c spec) in let all = (are-few (keys_of spec.formats) c 0 spec.formats).few in omega (arith, most, all)
    by false is = let none = ap (λ (w : List Move). count_in id (in_path id w)) (moves-others c spec is) in omega (arith, none)

-- none is of a number that no path has
pub others-counted : (c : RecordChange) (id : ℕ) (paths : NumberedPaths) → AllByRecursion (λ (path : Numbered KeptPath). path.number ≢ id) paths → count_in id (moves_in c paths) ≡ 0
others-counted c id [] apart = refl
others-counted c id (path ∷ paths) apart =
    let e = count-append id (in_path path.number (moves_of c path.item.spec)) (moves_in c paths) in
    let z = count-other id path.number (moves_of c path.item.spec) apart.0 in
    let r = others-counted c id paths apart.1 in
    omega (arith, e, z, r)

pub later-apart : (path : Numbered KeptPath) (paths : NumberedPaths) → AllByRecursion (λ (later : Numbered KeptPath). path.number < later.number) paths
    → AllByRecursion (λ (other : Numbered KeptPath). other.number ≢ path.number) paths
later-apart path paths below =
    weaken (λ (later : Numbered KeptPath). path.number < later.number) (λ (other : Numbered KeptPath). other.number ≢ path.number) (λ later lt equal. omega (arith, lt, equal)) paths below

-- before the paths there may be others of lesser numbers
few-from : (c : RecordChange) (paths : NumberedPaths) → Ascend paths → AllByRecursion (λ (path : Numbered KeptPath). count_in path.number (moves_in c paths) ≤ most_in c path.item.spec) paths
few-from c [] ascend = tt
few-from c (path ∷ paths) ascend = (
  (let e = count-append path.number (in_path path.number (moves_of c path.item.spec)) (moves_in c paths) in
      let own = own-few c path.number path.item.spec in
      let rest = others-counted c path.number paths (later-apart path paths ascend.0) in
      omega (arith, e, own, rest)),
  later paths ascend.0 (few-from c paths ascend.1),
)
  where
    later : (rest : NumberedPaths) → AllByRecursion (λ (other : Numbered KeptPath). path.number < other.number) rest
        → AllByRecursion (λ (other : Numbered KeptPath). count_in other.number (moves_in c paths) ≤ most_in c other.item.spec) rest
        → AllByRecursion (λ (other : Numbered KeptPath). count_in other.number (moves_in c (path ∷ paths)) ≤ most_in c other.item.spec) rest
    later [] below few = tt
    later (other ∷ rest) below few = (
      (let e = count-append other.number (in_path path.number (moves_of c path.item.spec)) (moves_in c paths) in
          let lt = below.0 in
          let z = count-other other.number path.number (moves_of c path.item.spec) (λ same. omega (arith, lt, same)) in
          let f = few.0 in
          omega (arith, e, z, f)),
      later rest below.1 few.1,
    )

pub moves-few : (c : RecordChange) (paths : NumberedPaths) → AreShared paths → All (λ (path : Numbered KeptPath). count_in path.number (moves_in c paths) ≤ most_in c path.item.spec) paths
moves-few c paths shared =
    All-from_recursion (λ (path : Numbered KeptPath). count_in path.number (moves_in c paths) ≤ most_in c path.item.spec) paths (few-from c paths (ascend-from paths shared.ascend))

pub most-formats : (c : RecordChange) (spec : PathSpec) → most_in c spec ≤ length spec.formats
most-formats c spec = by (is_over c.member spec)
  where
    by : (b : Bool) → cond b (length spec.formats) 0 ≤ length spec.formats
    by true = omega arith
    by false = omega arith

-- a path over the member has memory for the moves of so many changes
abbrev HasRoomFor : (member changes : ℕ) → KeptPaths → Numbered KeptPath → Type 0
HasRoomFor member changes kept path = Any (λ (format : PathFormat). format.member ≡ member) path.item.spec.formats → changes * length path.item.spec.formats ≤ spare_of path.number kept

one-more : (n k : ℕ) → (n + 1) * k ≡ n * k + k
one-more n k = ap (λ (i : ℕ). i * k) (let e : n + 1 ≡ suc n = omega arith in e) ∙ suc-mul n k

room-left : (c : RecordChange) (member changes : ℕ) (old new : KeptPaths) → ((id : ℕ) → spare_of id old ≤ spare_of id new + count_in id (moves_in c old.paths)) → (rest : NumberedPaths)
    → AllByRecursion (HasRoomFor member (changes + 1) old) rest → AllByRecursion (λ (path : Numbered KeptPath). count_in path.number (moves_in c old.paths) ≤ most_in c path.item.spec) rest
    → AllByRecursion (λ (path : Numbered KeptPath). HasRoomFor member changes new (path_after (moves_in c old.paths) path)) rest
room-left c member changes old new spare [] had few = tt
room-left c member changes old new spare (path ∷ rest) had few = (
  λ any.
      let h = had.0 any in
      let m = one-more changes (length path.item.spec.formats) in
      let f = few.0 in
      let b = most-formats c path.item.spec in
      let s = spare path.number in
      omega (arith, h, m, f, b, s),
  room-left c member changes old new spare rest had.1 few.1,
)

pub room-falls : (c : RecordChange) (member changes : ℕ) (old new : KeptPaths) → AreShared old.paths → HaveRoom member (changes + 1) old
    → new.paths ≡ paths_after (moves_in c old.paths) old.paths → ((id : ℕ) → spare_of id old ≤ spare_of id new + count_in id (moves_in c old.paths)) → HaveRoom member changes new
room-falls c member changes old new shared room is spare =
    subst (λ (w : NumberedPaths). All (HasRoomFor member changes new) w) (sym is)
    (All-map (HasRoomFor member changes new) (path_after (moves_in c old.paths)) old.paths
    (All-from_recursion (λ (path : Numbered KeptPath). HasRoomFor member changes new (path_after (moves_in c old.paths) path)) old.paths
    (room-left c member changes old new spare old.paths (recursion_from_All (HasRoomFor member (changes + 1) old) old.paths room)
    (recursion_from_All (λ (path : Numbered KeptPath). count_in path.number (moves_in c old.paths) ≤ most_in c path.item.spec) old.paths (moves-few c old.paths shared)))))
