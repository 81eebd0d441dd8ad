-- Changes that are prepared one after another, and moves that are made from the last one to the first.
use Rattle.std.proofs.Common.{ℕ, zero, suc, ◌+◌, ◌<◌, ◌≤◌, ◌≡◌, List, [], ◌∷◌, ◌++◌, length, map, drop, get_or, Option, Some, None, refl, sym, ap, arith, ◌∙◌, subst, append_assoc}
use Rattle.std.specs.Prelude.{All, reverse, option_to_list}
use Rattle.std.proofs.lemmas.List.{map-append, reverse-append, reverse-reverse, length-reverse}
use Rattle.access_path.specs.Moves.{Move, opposite}
use Rattle.path_set.specs.declared.moves.ImageChange.{ImageChange}
use Rattle.path_set.specs.declared.moves.PathMove.{PathMove}
use Rattle.path_set.specs.KeptPaths.{KeptPaths, NumberedPaths, spare_of}
use Rattle.path_set.specs.RecordChanges.{moves_in, opposites, paths_after, HaveRoom, CanBeMade, count_in}
use Rattle.path_set.specs.ManyChanges.{change_in, TakeImages, moves_of_all}
use Rattle.path_set.proofs.MoveLemmas.{IsUnderway, IsMade, IsNext, underway-first, underway-length, underway-next, underway-end}
use Rattle.path_set.proofs.UndoLemmas.{count-reverse}

-- ---- one change after another is prepared

-- what is prepared of the changes before this one
pub record IsPreparingAll (start : KeptPaths) (member most : ℕ) (changes : List ImageChange) (turn : ℕ) (moves : List PathMove) (now : KeptPaths) : Type 0 where
  pub paths : now.paths ≡ start.paths
  pub moves_left : moves ++ moves_of_all (map (change_in member) (drop turn changes)) start.paths ≡ moves_of_all (map (change_in member) changes) start.paths
  pub rooms : (id : ℕ) → spare_of id start ≤ spare_of id now
  pub room : 1 ≤ turn → HaveRoom member most now

pub all-first : (start : KeptPaths) (member most : ℕ) (changes : List ImageChange) (moves : List PathMove) → moves ≡ [] → IsPreparingAll start member most changes 0 moves start
all-first start member most changes moves none = record {
  paths = refl;
  moves_left = ap (λ (w : List PathMove). w ++ moves_of_all (map (change_in member) changes) start.paths) none;
  rooms = λ id. omega arith;
  room = λ some. absurd (omega arith);
}

-- the images of the change at this place can be asked about
pub all-takes : (start : KeptPaths) (member most : ℕ) (changes : List ImageChange) (turn : ℕ) (moves : List PathMove) (now : KeptPaths) (change : ImageChange)
    → IsPreparingAll start member most changes turn moves now → turn < length changes → change ≡ get_or changes turn change → All (TakeImages member start.paths) changes
    → TakeImages member now.paths change
all-takes start member most changes turn moves now change p low read takes =
    subst (λ (w : NumberedPaths). TakeImages member w change) (sym p.paths) (subst (TakeImages member start.paths) (sym read) (takes turn change low))

get-same : (xs : List ImageChange) (i : ℕ) (a d : ImageChange) → i < length xs → get_or xs i a ≡ get_or xs i d
get-same [] i a d low = absurd (omega arith)
get-same (x ∷ xs) zero a d low = refl
get-same (x ∷ xs) (suc i) a d low = get-same xs i a d (omega arith)

-- the same, read with any default
pub all-takes-at : (start : KeptPaths) (member most : ℕ) (changes : List ImageChange) (turn : ℕ) (moves : List PathMove) (now : KeptPaths) (d : ImageChange)
    → IsPreparingAll start member most changes turn moves now → turn < length changes → All (TakeImages member start.paths) changes → TakeImages member now.paths (get_or changes turn d)
all-takes-at start member most changes turn moves now d p low takes =
    all-takes start member most changes turn moves now (get_or changes turn d) p low (get-same changes turn d (get_or changes turn d) low) takes

drop-first : (xs : List ImageChange) (i : ℕ) (d : ImageChange) → i < length xs → drop i xs ≡ get_or xs i d ∷ drop (i + 1) xs
drop-first [] i d low = absurd (omega arith)
drop-first (x ∷ xs) zero d low = refl
drop-first (x ∷ xs) (suc i) d low = drop-first xs i d (omega arith) ∙ ap (λ (n : ℕ). get_or xs i d ∷ drop n (x ∷ xs)) (let e : suc (i + 1) ≡ suc i + 1 = omega arith in e)

pub all-next : (start : KeptPaths) (member most : ℕ) (changes : List ImageChange) (turn : ℕ) (moves more : List PathMove) (now then : KeptPaths) (change : ImageChange)
    → IsPreparingAll start member most changes turn moves now → turn < length changes → change ≡ get_or changes turn change
    → more ≡ moves ++ moves_in (change_in member change) now.paths → then.paths ≡ now.paths → ((id : ℕ) → spare_of id now ≤ spare_of id then) → HaveRoom member most then
    → IsPreparingAll start member most changes (turn + 1) more then
all-next start member most changes turn moves more now then change p low read is same spare room =
    let rest = moves_of_all (map (change_in member) (drop (turn + 1) changes)) start.paths in
    let one = moves_in (change_in member change) start.paths in
    record {
      paths = same ∙ p.paths;
      moves_left = ap (λ (w : List PathMove). w ++ rest) (is ∙ ap (λ (w : NumberedPaths). moves ++ moves_in (change_in member change) w) p.paths)
          ∙ append_assoc moves one rest
          ∙ ap (λ (w : List ImageChange). moves ++ moves_of_all (map (change_in member) w) start.paths)
          (ap (λ (x : ImageChange). x ∷ drop (turn + 1) changes) read ∙ sym (drop-first changes turn change low))
          ∙ p.moves_left;
      rooms = λ id. let a = p.rooms id in let b = spare id in omega (arith, a, b);
      room = λ some. room;
    }

pub all-next-at : (start : KeptPaths) (member most : ℕ) (changes : List ImageChange) (turn : ℕ) (moves more : List PathMove) (now then : KeptPaths) (d : ImageChange)
    → IsPreparingAll start member most changes turn moves now → turn < length changes → more ≡ moves ++ moves_in (change_in member (get_or changes turn d)) now.paths
    → then.paths ≡ now.paths → ((id : ℕ) → spare_of id now ≤ spare_of id then) → HaveRoom member most then → IsPreparingAll start member most changes (turn + 1) more then
all-next-at start member most changes turn moves more now then d p low is same spare room =
    all-next start member most changes turn moves more now then (get_or changes turn d) p low (get-same changes turn d (get_or changes turn d) low) is same spare room

-- memory may run out in the midst of a change
pub all-wider : (start : KeptPaths) (member most : ℕ) (changes : List ImageChange) (turn : ℕ) (moves : List PathMove) (now then : KeptPaths) → IsPreparingAll start member most changes turn moves now
    → ((id : ℕ) → spare_of id now ≤ spare_of id then) → (id : ℕ) → spare_of id start ≤ spare_of id then
all-wider start member most changes turn moves now then p spare id = let a = p.rooms id in let b = spare id in omega (arith, a, b)

drop-all : (xs : List ImageChange) (i : ℕ) → length xs ≤ i → drop i xs ≡ []
drop-all [] zero high = refl
drop-all [] (suc i) high = refl
drop-all (x ∷ xs) zero high = absurd (omega arith)
drop-all (x ∷ xs) (suc i) high = drop-all xs i (omega arith)

append-none : (xs : List PathMove) → xs ++ [] ≡ xs
append-none [] = refl
append-none (x ∷ xs) = ap (λ (w : List PathMove). x ∷ w) (append-none xs)

pub all-end : (start : KeptPaths) (member most : ℕ) (changes : List ImageChange) (turn : ℕ) (moves : List PathMove) (now : KeptPaths) → IsPreparingAll start member most changes turn moves now
    → length changes ≤ turn → moves ≡ moves_of_all (map (change_in member) changes) start.paths
all-end start member most changes turn moves now p high =
    sym (append-none moves) ∙ ap (λ (w : List ImageChange). moves ++ moves_of_all (map (change_in member) w) start.paths) (sym (drop-all changes turn high)) ∙ p.moves_left

-- ---- from the last to the first

reverse-first : (x : PathMove) (xs : List PathMove) → reverse (x ∷ xs) ≡ reverse xs ++ x ∷ []
reverse-first x xs = reverse-append (x ∷ []) xs

reverse-last : (rest : List PathMove) (o : Option PathMove) → reverse (rest ++ option_to_list o) ≡ option_to_list o ++ reverse rest
reverse-last rest o = reverse-append rest (option_to_list o) ∙ ap (λ (w : List PathMove). w ++ reverse rest) (one o)
  where
    one : (p : Option PathMove) → reverse (option_to_list p) ≡ option_to_list p
    one None = refl
    one (Some m) = refl

-- the moves turned round are under way
pub record IsBacking (moves : List PathMove) (start : KeptPaths) (items : List PathMove) (now : KeptPaths) (turn : ℕ) : Type 0 where
  pub underway : IsUnderway (reverse moves) start (reverse items) now turn

pub backing-first : (moves items : List PathMove) (start : KeptPaths) → CanBeMade (reverse moves) start → items ≡ moves → IsBacking moves start items start 0
backing-first moves items start can is = record {
  underway = subst (λ (w : List PathMove). IsUnderway (reverse moves) start (reverse w) start 0) (sym is) (underway-first (reverse moves) start can);
}

pub backing-length : (moves : List PathMove) (start : KeptPaths) (items : List PathMove) (now : KeptPaths) (turn : ℕ) → IsBacking moves start items now turn → length items ≡ length moves
backing-length moves start items now turn u =
    sym (length-reverse items) ∙ underway-length (reverse moves) start (reverse items) now turn u.underway ∙ length-reverse moves

-- the last of those that are left
pub record IsLastLeft (moves : List PathMove) (start : KeptPaths) (now : KeptPaths) (turn : ℕ) (m : PathMove) (rest : List PathMove) : Type 0 where
  pub can : CanBeMade (m ∷ []) now
  pub after : (back : Move) (then : KeptPaths) (final : List PathMove) → back ≡ opposite m.change → then.paths ≡ paths_after (m ∷ []) now.paths
      → ((id : ℕ) → spare_of id now ≤ spare_of id then + count_in id (m ∷ [])) → final ≡ record { id = m.id; change = back } ∷ rest → IsBacking moves start final then (turn + 1)

pub backing-next : (moves : List PathMove) (start : KeptPaths) (items : List PathMove) (now : KeptPaths) (turn : ℕ) (m : PathMove) (rest : List PathMove) (o : Option PathMove)
    → IsBacking moves start items now turn → turn < length moves → items ≡ rest ++ option_to_list o → o ≡ Some m → IsLastLeft moves start now turn m rest
backing-next moves start items now turn m rest o u low popped is =
    let next : IsNext (reverse moves) start (reverse items) now turn m (reverse rest) =
    underway-next (reverse moves) start (reverse items) now turn m (reverse rest) o u.underway (let e = length-reverse moves in omega (arith, low, e)) (ap reverse popped ∙ reverse-last rest o) is in
    record {
      can = next.can;
      after = λ back then final is_back made spare is_final. record {
        underway = next.after back then (reverse final) is_back made spare (ap reverse is_final ∙ reverse-first (record { id = m.id; change = back }) rest);
      };
    }

opposites-reverse : (xs : List PathMove) → opposites (reverse xs) ≡ reverse (opposites xs)
opposites-reverse [] = refl
opposites-reverse (x ∷ xs) =
    ap opposites (reverse-first x xs)
    ∙ map-append (λ (m : PathMove). record { id = m.id; change = opposite m.change }) (reverse xs) (x ∷ [])
    ∙ ap (λ (w : List PathMove). w ++ record { id = x.id; change = opposite x.change } ∷ []) (opposites-reverse xs)
    ∙ sym (reverse-first (record { id = x.id; change = opposite x.change }) (opposites xs))

pub record AreBack (moves : List PathMove) (start : KeptPaths) (items : List PathMove) (now : KeptPaths) : Type 0 where
  pub paths : now.paths ≡ paths_after (reverse moves) start.paths
  pub opposite : items ≡ opposites moves
  pub rooms : (id : ℕ) → spare_of id start ≤ spare_of id now + count_in id moves

pub backing-end : (moves : List PathMove) (start : KeptPaths) (items : List PathMove) (now : KeptPaths) (turn : ℕ) → IsBacking moves start items now turn → length moves ≤ turn
    → AreBack moves start items now
backing-end moves start items now turn u high =
    let made : IsMade (reverse moves) start (reverse items) now = underway-end (reverse moves) start (reverse items) now turn u.underway (let e = length-reverse moves in omega (arith, high, e)) in
    record {
      paths = made.paths;
      opposite = sym (reverse-reverse items) ∙ ap reverse (made.opposite ∙ opposites-reverse moves) ∙ reverse-reverse (opposites moves);
      rooms = λ id. let r = made.rooms id in let e = count-reverse id moves in omega (arith, r, e);
    }
