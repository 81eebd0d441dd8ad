-- The opposites of moves, the last one first, take the moves back.
use Rattle.std.proofs.Common.{ℕ, suc, ◌≤◌, ◌≡◌, ◌==◌, Bool, true, false, cond, List, [], ◌∷◌, ◌++◌, length, Option, Some, None, IsSome, refl, sym, ap, arith, ◌∙◌, subst}
use Rattle.std.specs.Prelude.{filter, reverse}
use Rattle.std.specs.List.{AllByRecursion}
use Rattle.std.proofs.lemmas.Bool.{cond-true}
use Rattle.std.proofs.lemmas.Bool.Decides.{nat_tests}
use Rattle.std.proofs.lemmas.List.{reverse-append}
use Rattle.std.proofs.lemmas.List.Elements.{All-from_recursion, recursion_from_All}
use Rattle.key_pages.specs.declared.entries.Entry.{Entry}
use Rattle.key_pages.specs.Order.{IsInOrder}
use Rattle.key_pages.proofs.OrderLemmas.{IsInOrder-with_entry, IsInOrder-without_entry}
use Rattle.member_slots.specs.Members.{Numbered, NumberedMembers, item_at}
use Rattle.access_path.specs.KeptEntries.{entry_with}
use Rattle.access_path.specs.Moves.{Move, opposite, without_key, with_key, taken, moved, FitsIn}
use Rattle.access_path.specs.PathBytes.{is_falling, members_of}
use Rattle.access_path.specs.Rebuilding.{member_slots}
use Rattle.access_path.proofs.EntryLemmas.{kept-strict}
use Rattle.access_path.proofs.MoveLemmas.{move-undone, opposite-fits}
use Rattle.path_entrants.specs.Formats.{keys_of}
use Rattle.path_set.specs.declared.moves.PathMove.{PathMove}
use Rattle.path_set.specs.KeptPaths.{KeptPath, KeptPaths, NumberedPaths, AreOver, entries_of, spare_of}
use Rattle.path_set.specs.RecordChanges.{opposites, entries_after, paths_after, FitEntries, count_in, CanBeMade}
use Rattle.path_set.specs.ManyChanges.{AreInOrder}
use Rattle.path_set.proofs.MoveLemmas.{some-after}
use Rattle.path_set.proofs.RecordLemmas.{after-append, fit-append, both-moves, count-append}

-- ---- lists turned round

reverse-first : {A : Type 0} (x : A) (xs : List A) → reverse (x ∷ xs) ≡ reverse xs ++ x ∷ []
reverse-first x xs = reverse-append (x ∷ []) xs

all-reverse : (P : PathMove → Type 0) (xs : List PathMove) → AllByRecursion P xs → AllByRecursion P (reverse xs)
all-reverse P [] all = tt
all-reverse P (x ∷ xs) all = subst (AllByRecursion P) (sym (reverse-first x xs)) (both-moves P (reverse xs) (x ∷ []) (all-reverse P xs all.1) (all.0, tt))

pub count-reverse : (id : ℕ) (xs : List PathMove) → count_in id (reverse xs) ≡ count_in id xs
count-reverse id [] = refl
count-reverse id (x ∷ xs) =
    let first = ap (count_in id) (reverse-first x xs) in
    let parts = count-append id (reverse xs) (x ∷ []) in
    let rest = count-reverse id xs in
    let whole = count-append id (x ∷ []) xs in
    omega (arith, first, parts, rest, whole)

count-opposites : (id : ℕ) (xs : List PathMove) → count_in id (opposites xs) ≡ count_in id xs
count-opposites id [] = refl
count-opposites id (x ∷ xs) = by (x.id == id) (count-opposites id xs)
  where
    by : (b : Bool) → count_in id (opposites xs) ≡ count_in id xs
        → length (cond b (record { id = x.id; change = opposite x.change } ∷ filter (λ (m : PathMove). m.id == id) (opposites xs)) (filter (λ (m : PathMove). m.id == id) (opposites xs)))
        ≡ length (cond b (x ∷ filter (λ (m : PathMove). m.id == id) xs) (filter (λ (m : PathMove). m.id == id) xs))
    by true rest = ap suc rest
    by false rest = rest

-- ---- one path

module _ (falling : Bool) (id : ℕ) where
  order-moved : (m : Move) (entries : List Entry) → IsInOrder falling entries → IsInOrder falling (moved falling m entries)
  order-moved m entries sorted = put m.new (taken falling m entries) (take m.old)
    where
      take : (old : Option (List ℕ)) → IsInOrder falling (without_key falling m.format m.rrn old entries)
      take None = sorted
      take (Some key) = IsInOrder-without_entry falling (entry_with m.format m.rrn key) entries sorted

      put : (new : Option (List ℕ)) (others : List Entry) → IsInOrder falling others → IsInOrder falling (with_key falling m.format m.rrn new others)
      put None others h = h
      put (Some key) others h = IsInOrder-with_entry falling (entry_with m.format m.rrn key) others h

  -- the entries after a move that may be of another path
  abbrev stepped : PathMove → List Entry → List Entry
  stepped m entries = cond (m.id == id) (moved falling m.change entries) entries

  order-stepped : (m : PathMove) (entries : List Entry) → IsInOrder falling entries → IsInOrder falling (stepped m entries)
  order-stepped m entries sorted = by (m.id == id)
    where
      by : (b : Bool) → IsInOrder falling (cond b (moved falling m.change entries) entries)
      by true = order-moved m.change entries sorted
      by false = sorted

  abbrev back_of : PathMove → PathMove
  back_of m = record { id = m.id; change = opposite m.change }

  one-back : (m : PathMove) (entries : List Entry) → IsInOrder falling entries → (m.id ≡ id → FitsIn falling m.change entries) → stepped (back_of m) (stepped m entries) ≡ entries
  one-back m entries sorted fits = by (m.id == id) refl
    where
      by : (b : Bool) → (m.id == id) ≡ b → cond b (moved falling (opposite m.change) (cond b (moved falling m.change entries) entries)) (cond b (moved falling m.change entries) entries) ≡ entries
      by true is = move-undone falling m.change entries sorted (fits (let e : m.id ≡ id = grind (arith, nat_tests) in e))
      by false is = refl

  back-fits : (m : PathMove) (entries : List Entry) → IsInOrder falling entries → (m.id ≡ id → FitsIn falling m.change entries) → m.id ≡ id → FitsIn falling (opposite m.change) (stepped m entries)
  back-fits m entries sorted fits own =
      subst (FitsIn falling (opposite m.change)) (sym (cond-true (m.id == id) (moved falling m.change entries) entries (let e : (m.id == id) ≡ true = grind (arith, nat_tests) in e)))
      (opposite-fits falling m.change entries sorted (fits own))

  pub record IsTaken (moves : List PathMove) (entries : List Entry) : Type 0 where
    pub undone : entries_after falling id (reverse (opposites moves)) (entries_after falling id moves entries) ≡ entries
    pub fits : FitEntries falling id (reverse (opposites moves)) (entries_after falling id moves entries)

  pub taken-back : (moves : List PathMove) (entries : List Entry) → IsInOrder falling entries → FitEntries falling id moves entries → IsTaken moves entries
  taken-back [] entries sorted fit = record { undone = refl; fits = tt }
  taken-back (m ∷ moves) entries sorted fit =
      let rest = taken-back moves (stepped m entries) (order-stepped m entries sorted) fit.1 in
      let last = entries_after falling id moves (stepped m entries) in
      let list : reverse (opposites (m ∷ moves)) ≡ reverse (opposites moves) ++ back_of m ∷ [] = reverse-first (back_of m) (opposites moves) in
      record {
        undone = ap (λ (w : List PathMove). entries_after falling id w (entries_after falling id moves (stepped m entries))) list
            ∙ after-append falling id (reverse (opposites moves)) (back_of m ∷ []) last
            ∙ ap (stepped (back_of m)) rest.undone
            ∙ one-back m entries sorted fit.0;
        fits = subst (λ (w : List PathMove). FitEntries falling id w (entries_after falling id moves (stepped m entries))) (sym list)
            (fit-append falling id (reverse (opposites moves)) (back_of m ∷ []) last rest.fits
            (subst (FitEntries falling id (back_of m ∷ [])) (sym rest.undone) (back-fits m entries sorted fit.0, tt)));
      }

-- ---- all paths

pub over-ordered : (members : NumberedMembers) (paths : NumberedPaths) → AreOver members paths → AreInOrder paths
over-ordered members paths over =
    All-from_recursion (λ (path : Numbered KeptPath). IsInOrder (is_falling path.item.spec.ties) path.item.entries) paths
    (go paths (recursion_from_All (λ (path : Numbered KeptPath). path.item.entries ≡ entries_of path.item.spec members) paths over))
  where
    go : (rest : NumberedPaths) → AllByRecursion (λ (path : Numbered KeptPath). path.item.entries ≡ entries_of path.item.spec members) rest
        → AllByRecursion (λ (path : Numbered KeptPath). IsInOrder (is_falling path.item.spec.ties) path.item.entries) rest
    go [] all = tt
    go (path ∷ rest) all = (
      subst (IsInOrder (is_falling path.item.spec.ties)) (sym all.0)
          (kept-strict (keys_of path.item.spec.formats) (is_falling path.item.spec.ties) (member_slots (members_of path.item.spec.formats) members)),
      go rest all.1,
    )

-- each path after the moves
pub record AreTaken (moves : List PathMove) (paths : NumberedPaths) : Type 0 where
  pub undone : paths_after (reverse (opposites moves)) (paths_after moves paths) ≡ paths
  pub fits : AllByRecursion (λ (path : Numbered KeptPath). FitEntries (is_falling path.item.spec.ties) path.number (reverse (opposites moves)) path.item.entries) (paths_after moves paths)

all-taken : (moves : List PathMove) (paths : NumberedPaths)
    → AllByRecursion (λ (path : Numbered KeptPath). FitEntries (is_falling path.item.spec.ties) path.number moves path.item.entries) paths
    → AllByRecursion (λ (path : Numbered KeptPath). IsInOrder (is_falling path.item.spec.ties) path.item.entries) paths → AreTaken moves paths
all-taken moves [] fit sorted = record { undone = refl; fits = tt }
all-taken moves (path ∷ paths) fit sorted =
    let one = taken-back (is_falling path.item.spec.ties) path.number moves path.item.entries sorted.0 fit.0 in
    let rest = all-taken moves paths fit.1 sorted.1 in
    record {
      undone = ap (λ (w : List Entry). record { number = path.number; item = record { spec = path.item.spec; files = path.item.files; entries = w } }
          ∷ paths_after (reverse (opposites moves)) (paths_after moves paths)) one.undone
          ∙ ap (λ (w : NumberedPaths). path ∷ w) rest.undone;
      fits = (one.fits, rest.fits);
    }

taken-of : (moves : List PathMove) (kept : KeptPaths) → CanBeMade moves kept → AreInOrder kept.paths → AreTaken moves kept.paths
taken-of moves kept can sorted =
    all-taken moves kept.paths
    (recursion_from_All (λ (path : Numbered KeptPath). FitEntries (is_falling path.item.spec.ties) path.number moves path.item.entries) kept.paths can.fit)
    (recursion_from_All (λ (path : Numbered KeptPath). IsInOrder (is_falling path.item.spec.ties) path.item.entries) kept.paths sorted)

pub moves-undone : (moves : List PathMove) (kept : KeptPaths) → CanBeMade moves kept → AreInOrder kept.paths
    → paths_after (reverse (opposites moves)) (paths_after moves kept.paths) ≡ kept.paths
moves-undone moves kept can sorted = (taken-of moves kept can sorted).undone

pub undo-made : (moves : List PathMove) (kept now : KeptPaths) → CanBeMade moves kept → AreInOrder kept.paths → now.paths ≡ paths_after moves kept.paths
    → ((id : ℕ) → count_in id moves ≤ spare_of id now) → CanBeMade (reverse (opposites moves)) now
undo-made moves kept now can sorted is room = record {
  there = All-from_recursion (λ (m : PathMove). IsSome (item_at m.id now.paths)) (reverse (opposites moves))
      (all-reverse (λ (m : PathMove). IsSome (item_at m.id now.paths)) (opposites moves)
      (subst (λ (w : NumberedPaths). AllByRecursion (λ (m : PathMove). IsSome (item_at m.id w)) (opposites moves)) (sym is)
      (there-opposites moves (recursion_from_All (λ (m : PathMove). IsSome (item_at m.id kept.paths)) moves can.there))));
  fit = All-from_recursion (λ (path : Numbered KeptPath). FitEntries (is_falling path.item.spec.ties) path.number (reverse (opposites moves)) path.item.entries) now.paths
      (subst (λ (w : NumberedPaths). AllByRecursion (λ (path : Numbered KeptPath). FitEntries (is_falling path.item.spec.ties) path.number (reverse (opposites moves)) path.item.entries) w) (sym is)
      (taken-of moves kept can sorted).fits);
  room = λ id. let r = room id in let a = count-reverse id (opposites moves) in let b = count-opposites id moves in omega (arith, r, a, b);
}
  where
    there-opposites : (rest : List PathMove) → AllByRecursion (λ (m : PathMove). IsSome (item_at m.id kept.paths)) rest
        → AllByRecursion (λ (m : PathMove). IsSome (item_at m.id (paths_after moves kept.paths))) (opposites rest)
    there-opposites [] there = tt
    there-opposites (m ∷ rest) there = (some-after m.id moves kept.paths there.0, there-opposites rest there.1)
