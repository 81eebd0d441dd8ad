-- Moves that are made one after another.
use Rattle.std.proofs.Common.{ℕ, zero, suc, ◌+◌, ◌<◌, ◌≤◌, ◌≡◌, ◌≢◌, ◌==◌, Bool, true, false, cond, List, [], ◌∷◌, ◌++◌, length, map, set, get_or, Option, Some, IsSome, IfSome, refl, sym}
use Rattle.std.proofs.Common.{ap, arith, ◌∙◌, subst, append_assoc}
use Rattle.std.specs.Prelude.{filter, option_to_list}
use Rattle.std.specs.List.{AllByRecursion}
use Rattle.std.proofs.lemmas.Bool.{cond-true, cond-false}
use Rattle.std.proofs.lemmas.Bool.Decides.{nat_tests}
use Rattle.std.proofs.lemmas.List.{map-append}
use Rattle.std.proofs.lemmas.List.Elements.{All-map, All-from_recursion, recursion_from_All}
use Rattle.key_pages.specs.declared.entries.Entry.{Entry}
use Rattle.file_model.specs.declared.paths.PathSpec.{PathSpec}
use Rattle.member_slots.specs.Members.{Numbered, item_at}
use Rattle.access_path.specs.Moves.{Move, opposite, moved, FitsIn}
use Rattle.access_path.specs.PathBytes.{is_falling}
use Rattle.path_set.specs.declared.kept.Kept.{Kept}
use Rattle.path_set.specs.declared.moves.PathMove.{PathMove}
use Rattle.path_set.specs.KeptPaths.{KeptPath, KeptPaths, NumberedPaths, spare_of}
use Rattle.path_set.specs.RecordChanges.{opposites, path_after, paths_after, FitEntries, count_in, CanBeMade}
use Rattle.path_set.specs.Entries.{IsPlace, numbered, path_of, paths_of}
use Rattle.path_set.proofs.PlaceLemmas.{IsPlace-tail}
use Rattle.path_set.proofs.FoundLemmas.{IsFound}

-- ---- counts

pub count-one : (id : ℕ) (m : PathMove) → m.id ≡ id → count_in id (m ∷ []) ≡ 1
count-one id m same = grind (arith, nat_tests)

pub count-cons : (id : ℕ) (m : PathMove) (moves : List PathMove) → count_in id (m ∷ moves) ≡ count_in id (m ∷ []) + count_in id moves
count-cons id m moves = by (m.id == id)
  where
    by : (b : Bool) → length (cond b (m ∷ filter (λ (x : PathMove). x.id == id) moves) (filter (λ (x : PathMove). x.id == id) moves))
        ≡ length (cond b (m ∷ []) []) + length (filter (λ (x : PathMove). x.id == id) moves)
    by true = omega arith
    by false = omega arith

-- ---- one move after another

pub paths_after-none : (paths : NumberedPaths) → paths_after [] paths ≡ paths
paths_after-none [] = refl
paths_after-none (path ∷ paths) = ap (λ (w : NumberedPaths). path ∷ w) (paths_after-none paths)

pub paths_after-cons : (m : PathMove) (moves : List PathMove) (paths : NumberedPaths) → paths_after moves (paths_after (m ∷ []) paths) ≡ paths_after (m ∷ moves) paths
paths_after-cons m moves [] = refl
paths_after-cons m moves (path ∷ paths) = ap (λ (w : NumberedPaths). path_after (m ∷ moves) path ∷ w) (paths_after-cons m moves paths)

pub some-after : (id : ℕ) (moves : List PathMove) (paths : NumberedPaths) → IsSome (item_at id paths) → IsSome (item_at id (paths_after moves paths))
some-after id moves [] there = there
some-after id moves (path ∷ paths) there = by (path.number == id) there (some-after id moves paths)
  where
    by : (b : Bool) → IsSome (cond b (Some path.item) (item_at id paths)) → (IsSome (item_at id paths) → IsSome (item_at id (paths_after moves paths)))
        → IsSome (cond b (Some (path_after moves path).item) (item_at id (paths_after moves paths)))
    by true found rest = grind arith
    by false found rest = rest found

pub made-first : (m : PathMove) (moves : List PathMove) (kept : KeptPaths) → CanBeMade (m ∷ moves) kept → CanBeMade (m ∷ []) kept
made-first m moves kept can = record {
  there = All-from_recursion (λ (x : PathMove). IsSome (item_at x.id kept.paths)) (m ∷ []) (can.there zero m (omega arith), tt);
  fit = λ k d within. ((can.fit k d within).0, tt);
  room = λ id. let e = can.room id in let s = count-cons id m moves in omega (arith, e, s);
}

pub made-rest : (m : PathMove) (moves : List PathMove) (kept now : KeptPaths) → CanBeMade (m ∷ moves) kept → now.paths ≡ paths_after (m ∷ []) kept.paths
    → ((id : ℕ) → spare_of id kept ≤ spare_of id now + count_in id (m ∷ [])) → CanBeMade moves now
made-rest m moves kept now can made spare = record {
  there = λ k d within.
      rw made (some-after (get_or moves k d).id (m ∷ []) kept.paths (can.there (suc k) d (omega arith)));
  fit = rw made (All-map (λ (path : Numbered KeptPath). FitEntries (is_falling path.item.spec.ties) path.number moves path.item.entries) (path_after (m ∷ [])) kept.paths
      (λ k d within. (can.fit k d within).1));
  room = λ id. let e = can.room id in let s = count-cons id m moves in let t = spare id in omega (arith, e, s, t);
}

-- ---- the loop over moves

-- what is done, and what is still to be made, with the opposites at the end
pub record IsUnderway (moves : List PathMove) (start : KeptPaths) (items : List PathMove) (now : KeptPaths) (turn : ℕ) : Type 0 where
  pub done : List PathMove
  pub left : List PathMove
  pub whole : moves ≡ done ++ left
  pub turned : items ≡ left ++ opposites done
  pub count : length done ≡ turn
  pub can : CanBeMade left now
  pub paths : paths_after left now.paths ≡ paths_after moves start.paths
  pub rooms : (id : ℕ) → spare_of id start + count_in id left ≤ spare_of id now + count_in id moves

pub underway-first : (moves : List PathMove) (start : KeptPaths) → CanBeMade moves start → IsUnderway moves start moves start 0
underway-first moves start can = record {
  done = [];
  left = moves;
  whole = refl;
  turned = sym (append-none moves);
  count = refl;
  can = can;
  paths = refl;
  rooms = λ id. omega arith;
}
  where
    append-none : (xs : List PathMove) → xs ++ [] ≡ xs
    append-none [] = refl
    append-none (x ∷ xs) = ap (λ (w : List PathMove). x ∷ w) (append-none xs)

-- there are as many as there were
pub underway-length : (moves : List PathMove) (start : KeptPaths) (items : List PathMove) (now : KeptPaths) (turn : ℕ) → IsUnderway moves start items now turn → length items ≡ length moves
underway-length moves start items now turn u =
    let a = ap length u.turned in
    let b = length-parts u.left (opposites u.done) in
    let c = ap length u.whole in
    let d = length-parts u.done u.left in
    let o = length-opposites u.done in
    omega (arith, a, b, c, d, o)
  where
    length-parts : (xs ys : List PathMove) → length (xs ++ ys) ≡ length xs + length ys
    length-parts [] ys = omega arith
    length-parts (x ∷ xs) ys = let e = length-parts xs ys in omega (arith, e)

    length-opposites : (xs : List PathMove) → length (opposites xs) ≡ length xs
    length-opposites [] = refl
    length-opposites (x ∷ xs) = ap suc (length-opposites xs)

-- the first of those that are left
pub record IsNext (moves : List PathMove) (start : KeptPaths) (items : List PathMove) (now : KeptPaths) (turn : ℕ) (m : PathMove) (rest : List PathMove) : Type 0 where
  pub can : CanBeMade (m ∷ []) now
  pub after : (back : Move) (then : KeptPaths) (final : List PathMove) → back ≡ opposite m.change → then.paths ≡ paths_after (m ∷ []) now.paths
      → ((id : ℕ) → spare_of id now ≤ spare_of id then + count_in id (m ∷ [])) → final ≡ rest ++ record { id = m.id; change = back } ∷ [] → IsUnderway moves start final then (turn + 1)

pub underway-next : (moves : List PathMove) (start : KeptPaths) (items : List PathMove) (now : KeptPaths) (turn : ℕ) (m : PathMove) (rest : List PathMove)
    → (o : Option PathMove) → IsUnderway moves start items now turn → turn < length moves → items ≡ option_to_list o ++ rest → o ≡ Some m → IsNext moves start items now turn m rest
underway-next moves start items now turn m rest o u low taken first = by u.left refl
  where
    popped : items ≡ m ∷ rest
    popped = taken ∙ ap (λ (x : Option PathMove). option_to_list x ++ rest) first

    ends : (left : List PathMove) → u.left ≡ left → length moves ≡ turn + length left
    ends left is = ap length u.whole ∙ (let e = length-parts u.done u.left in let s = ap length is in let c = u.count in omega (arith, e, s, c))
      where
        length-parts : (xs ys : List PathMove) → length (xs ++ ys) ≡ length xs + length ys
        length-parts [] ys = omega arith
        length-parts (x ∷ xs) ys = let e = length-parts xs ys in omega (arith, e)

    by : (left : List PathMove) → u.left ≡ left → IsNext moves start items now turn m rest
    by [] is = absurd (let e = ends [] is in omega (arith, e))
    by (x ∷ xs) is =
        let list : x ∷ (xs ++ opposites u.done) ≡ m ∷ rest = ap (λ (w : List PathMove). w ++ opposites u.done) (sym is) ∙ sym u.turned ∙ popped in
        let head : x ≡ m = cc in
        let tail : xs ++ opposites u.done ≡ rest = cc in
        let left : u.left ≡ m ∷ xs = is ∙ ap (λ (y : PathMove). y ∷ xs) head in
        let can : CanBeMade (m ∷ xs) now = subst (λ (w : List PathMove). CanBeMade w now) left u.can in
        record {
          can = made-first m xs now can;
          after = λ back then final is_back made spare is_final. record {
            done = u.done ++ m ∷ [];
            left = xs;
            whole = u.whole ∙ ap (λ (w : List PathMove). u.done ++ w) left ∙ sym (append_assoc u.done (m ∷ []) xs);
            turned = is_final ∙ ap (λ (w : List PathMove). w ++ record { id = m.id; change = back } ∷ []) (sym tail) ∙ append_assoc xs (opposites u.done) (record { id = m.id; change = back } ∷ [])
                ∙ ap (λ (w : List PathMove). xs ++ w) (ap (λ (b : Move). opposites u.done ++ record { id = m.id; change = b } ∷ []) is_back
                ∙ sym (map-append (λ (y : PathMove). record { id = y.id; change = opposite y.change }) u.done (m ∷ [])));
            count = count-more u.done ∙ ap (λ (n : ℕ). n + 1) u.count;
            can = made-rest m xs now then can made spare;
            paths = ap (paths_after xs) made ∙ paths_after-cons m xs now.paths ∙ ap (λ (w : List PathMove). paths_after w now.paths) (sym left) ∙ u.paths;
            rooms = λ id.
                let a = u.rooms id in
                let b = spare id in
                let c = count-cons id m xs in
                let l = ap (count_in id) left in
                omega (arith, a, b, c, l);
          };
        }
      where
        count-more : (xs : List PathMove) → length (xs ++ m ∷ []) ≡ length xs + 1
        count-more [] = omega arith
        count-more (x ∷ xs) = let e = count-more xs in omega (arith, e)

pub record IsMade (moves : List PathMove) (start : KeptPaths) (items : List PathMove) (now : KeptPaths) : Type 0 where
  pub paths : now.paths ≡ paths_after moves start.paths
  pub opposite : items ≡ opposites moves
  pub rooms : (id : ℕ) → spare_of id start ≤ spare_of id now + count_in id moves

pub underway-end : (moves : List PathMove) (start : KeptPaths) (items : List PathMove) (now : KeptPaths) (turn : ℕ) → IsUnderway moves start items now turn → length moves ≤ turn
    → IsMade moves start items now
underway-end moves start items now turn u high = by u.left refl
  where
    length-parts : (xs ys : List PathMove) → length (xs ++ ys) ≡ length xs + length ys
    length-parts [] ys = omega arith
    length-parts (x ∷ xs) ys = let e = length-parts xs ys in omega (arith, e)

    append-none : (xs : List PathMove) → xs ++ [] ≡ xs
    append-none [] = refl
    append-none (x ∷ xs) = ap (λ (w : List PathMove). x ∷ w) (append-none xs)

    by : (left : List PathMove) → u.left ≡ left → IsMade moves start items now
    by (x ∷ xs) is =
        absurd (let e = ap length u.whole in let p = length-parts u.done u.left in let s = ap length is in let c = u.count in omega (arith, e, p, s, c))
    by [] is = record {
      paths = sym (paths_after-none now.paths) ∙ ap (λ (w : List PathMove). paths_after w now.paths) (sym is) ∙ u.paths;
      opposite = u.turned ∙ ap (λ (w : List PathMove). w ++ opposites u.done) is ∙ ap opposites (sym (u.whole ∙ ap (λ (w : List PathMove). u.done ++ w) is ∙ append-none u.done));
      rooms = λ id. let a = u.rooms id in omega (arith, a);
    }

-- ---- one move at the place of its path

-- no path of another number changes
apart-after : (m : PathMove) (paths : NumberedPaths) → AllByRecursion (λ (path : Numbered KeptPath). path.number ≢ m.id) paths → paths_after (m ∷ []) paths ≡ paths
apart-after m [] apart = refl
apart-after m (path ∷ paths) apart =
    grind (arith, nat_tests, apart.0, apart-after m paths apart.1)

others-apart : (number : ℕ) (paths : List Kept) → ((k : ℕ) (d : Kept) → k < length paths → number < (get_or paths k d).id)
    → AllByRecursion (λ (path : Numbered KeptPath). path.number ≢ number) (map (numbered path_of) paths)
others-apart number [] above = tt
others-apart number (kept ∷ paths) above =
    ((λ same. let lt = above zero kept (omega arith) in let s : kept.id ≡ number = same in absurd (omega (arith, lt, s))), others-apart number paths (λ k d within. above (suc k) d (omega arith)))

-- the path that the move names, with its entry moved
pub record IsMoved (m : PathMove) (kept new : Kept) : Type 0 where
  pub id : new.id ≡ kept.id
  pub by : new.by ≡ kept.by
  pub files : new.files ≡ kept.files
  pub entries : new.path.entries ≡ moved (is_falling kept.by.ties) m.change kept.path.entries

head-moved : (m : PathMove) (kept new : Kept) → kept.id ≡ m.id → IsMoved m kept new → numbered path_of new ≡ path_after (m ∷ []) (numbered path_of kept)
head-moved m kept new named h =
    let own : (m.id == kept.id) ≡ true = grind (arith, nat_tests) in
    let entries : new.path.entries ≡ cond (m.id == kept.id) (moved (is_falling kept.by.ties) m.change kept.path.entries) kept.path.entries =
    h.entries ∙ sym (cond-true (m.id == kept.id) (moved (is_falling kept.by.ties) m.change kept.path.entries) kept.path.entries own) in
    ap (λ (n : ℕ). record { number = n; item = path_of new }) h.id
    ∙ ap (λ (s : PathSpec). record { number = kept.id; item = record { spec = s; files = new.files; entries = new.path.entries } }) h.by
    ∙ ap (λ (n : ℕ). record { number = kept.id; item = record { spec = kept.by; files = n; entries = new.path.entries } }) h.files
    ∙ ap (λ (w : List Entry). record { number = kept.id; item = record { spec = kept.by; files = kept.files; entries = w } }) entries

head-same : (m : PathMove) (kept : Kept) → kept.id ≢ m.id → numbered path_of kept ≡ path_after (m ∷ []) (numbered path_of kept)
head-same m kept other =
    let own : (m.id == kept.id) ≡ false = grind (arith, nat_tests) in
    ap (λ (w : List Entry). record { number = kept.id; item = record { spec = kept.by; files = kept.files; entries = w } })
    (sym (cond-false (m.id == kept.id) (moved (is_falling kept.by.ties) m.change kept.path.entries) kept.path.entries own))

pub moved-place : (m : PathMove) (paths : List Kept) (place : ℕ) (new : Kept) → IsPlace paths m.id place → ((d : Kept) → IsMoved m (get_or paths place d) new)
    → map (numbered path_of) (set paths place new) ≡ paths_after (m ∷ []) (map (numbered path_of) paths)
moved-place m [] place new at is = absurd (let lt = at.in_range in omega (arith, lt))
moved-place m (kept ∷ paths) zero new at is =
    ap (λ (p : Numbered KeptPath). p ∷ map (numbered path_of) paths) (head-moved m kept new (at.here kept) (is kept))
    ∙ ap (λ (w : NumberedPaths). path_after (m ∷ []) (numbered path_of kept) ∷ w)
    (sym (apart-after m (map (numbered path_of) paths) (others-apart m.id paths (λ k d within. at.after (suc k) d (omega arith) (omega arith)))))
moved-place m (kept ∷ paths) (suc place) new at is =
    ap (λ (p : Numbered KeptPath). p ∷ map (numbered path_of) (set paths place new)) (head-same m kept (λ same. let lt = at.before zero kept (omega arith) in omega (arith, lt, same)))
    ∙ ap (λ (w : NumberedPaths). path_after (m ∷ []) (numbered path_of kept) ∷ w) (moved-place m paths place new (IsPlace-tail kept paths m.id place at) is)

-- ---- what a move asks of its path

pub made-there : (m : PathMove) (kept : KeptPaths) → CanBeMade (m ∷ []) kept → IsSome (item_at m.id kept.paths)
made-there m kept can = can.there zero m (omega arith)

pub made-fits : (m : PathMove) (kept : KeptPaths) → CanBeMade (m ∷ []) kept → IfSome (item_at m.id kept.paths) (λ path. FitsIn (is_falling path.spec.ties) m.change path.entries)
made-fits m kept can = at kept.paths (recursion_from_All (λ (path : Numbered KeptPath). FitEntries (is_falling path.item.spec.ties) path.number (m ∷ []) path.item.entries) kept.paths can.fit)
  where
    at : (paths : NumberedPaths) → AllByRecursion (λ (path : Numbered KeptPath). FitEntries (is_falling path.item.spec.ties) path.number (m ∷ []) path.item.entries) paths
        → IfSome (item_at m.id paths) (λ path. FitsIn (is_falling path.spec.ties) m.change path.entries)
    at [] all = tt
    at (path ∷ paths) all = by (path.number == m.id) refl (at paths all.1)
      where
        by : (b : Bool) → (path.number == m.id) ≡ b → IfSome (item_at m.id paths) (λ p. FitsIn (is_falling p.spec.ties) m.change p.entries)
            → IfSome (cond b (Some path.item) (item_at m.id paths)) (λ p. FitsIn (is_falling p.spec.ties) m.change p.entries)
        by true is rest = all.0.0 (let e : path.number ≡ m.id = grind (arith, nat_tests) in sym e)
        by false is rest = rest

pub made-spare : (m : PathMove) (kept : KeptPaths) → CanBeMade (m ∷ []) kept → 1 ≤ spare_of m.id kept
made-spare m kept can = let e = can.room m.id in let c = count-one m.id m refl in omega (arith, e, c)

-- what the path that was found becomes
pub found-moved : (items : List Kept) (value : KeptPaths) (place : ℕ) (kept new : Kept) (m : PathMove) → paths_of items ≡ value → IsFound items value m.id place kept → IsMoved m kept new
    → map (numbered path_of) (set items place new) ≡ paths_after (m ∷ []) value.paths
found-moved items value place kept new m view entry is =
    subst (λ (v : KeptPaths). map (numbered path_of) (set items place new) ≡ paths_after (m ∷ []) v.paths) view
    (moved-place m items place new entry.at (λ d. subst (λ (k : Kept). IsMoved m k new) (entry.reads d) is))

spent : (a b : ℕ) (s t : Bool) → a + cond s 1 0 ≡ b + cond t 1 0 → b ≤ a + 1
spent a b true true e = omega (arith, e)
spent a b true false e = omega (arith, e)
spent a b false true e = omega (arith, e)
spent a b false false e = omega (arith, e)

-- and its memory
pub found-spent : (items : List Kept) (value : KeptPaths) (place : ℕ) (kept new : Kept) (m : PathMove) (s t : Bool) → IsFound items value m.id place kept → new.id ≡ m.id
    → new.path.spare + cond s 1 0 ≡ kept.path.spare + cond t 1 0 → (other : ℕ) → spare_of other value ≤ spare_of other (paths_of (set items place new)) + count_in other (m ∷ [])
found-spent items value place kept new m s t entry same spare other = by (m.id == other) refl
  where
    by : (b : Bool) → (m.id == other) ≡ b → spare_of other value ≤ spare_of other (paths_of (set items place new)) + count_in other (m ∷ [])
    by true is =
        let own : m.id ≡ other = grind (arith, nat_tests) in
        subst (λ n. spare_of n value ≤ spare_of n (paths_of (set items place new)) + count_in n (m ∷ [])) own
        (let a = entry.spare in let b = entry.spare_after new same in let d = spent new.path.spare kept.path.spare s t spare in let o = count-one m.id m refl in omega (arith, a, b, d, o))
    by false is =
        let differs : other ≢ m.id = grind (arith, nat_tests) in
        let a = entry.others_after new other same differs in omega (arith, a)
