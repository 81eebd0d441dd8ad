-- The paths over a member, one after another by their numbers.
use Rattle.std.proofs.Common.{ℕ, zero, suc, ◌+◌, ◌<◌, ◌≤◌, ◌≡◌, Bool, true, false, cond, ◌&&◌, List, [], ◌∷◌, length, map, filter, drop, get_or, Option, Some, None, IsSome, refl, sym, ap, ◌∙◌, subst, arith}
use Rattle.std.specs.Prelude.{option_map, find}
use Rattle.std.proofs.lemmas.Bool.{cond-true, cond-false}
use Rattle.std.proofs.lemmas.List.{get_or-map, length-map}
use Rattle.std.proofs.lemmas.List.Elements.{All-filter, All-from_recursion, filter_passes}
use Rattle.key_pages.specs.EntryList.{EntryList}
use Rattle.member_slots.specs.Members.{Numbered, NumberedMembers, item_at}
use Rattle.path_set.specs.RebuiltPaths.{AreRebuilt}
use Rattle.path_set.specs.declared.by_member.PathOver.{PathOver}
use Rattle.path_set.specs.declared.kept.Kept.{Kept}
use Rattle.path_set.specs.KeptPaths.{KeptPath, KeptPaths, NumberedPaths, AreShared}
use Rattle.path_set.specs.MemberSteps.{is_over, paths_over, is_above, is_unique_over}
use Rattle.path_set.specs.Entries.{AreKept, IsPlace, paths_of, numbered, path_of}
use Rattle.path_set.specs.ByMember.{AreNumbers}
use Rattle.path_set.proofs.OrderLemmas.{AreShared-paths}
use Rattle.path_set.proofs.FoundLemmas.{IsFound, found}
use Rattle.path_set.proofs.RecordLemmas.{ascend-from}
use Rattle.path_set.proofs.RebuildLemmas.{IsMaking, making-end, own-there}

-- the numbers are those of the paths over the member
pub record IsOver (items : List Kept) (paths : NumberedPaths) (member : ℕ) (over : List PathOver) : Type 0 where
  pub kept : AreKept items
  pub same : map (numbered path_of) items ≡ paths
  pub numbers : AreNumbers member over paths

pub are-over : (items : List Kept) (value : KeptPaths) (member : ℕ) (over : List PathOver) → AreKept items → paths_of items ≡ value → AreNumbers member over value.paths
    → IsOver items value.paths member over
are-over items value member over h view numbers = record { kept = h; same = ap (λ (v : KeptPaths). v.paths) view; numbers = numbers }

-- the path at this turn
pub record IsTurn (items : List Kept) (paths : NumberedPaths) (member turn number place : ℕ) (kept : Kept) : Type 0 where
  pub low : place < length items
  pub read : kept ≡ get_or items place kept
  pub named : kept.id ≡ number
  pub is : is_over member kept.by ≡ true
  pub within : turn < length (paths_over member paths)
  pub at : (d : Numbered KeptPath) → get_or (paths_over member paths) turn d ≡ numbered path_of kept
  pub split : drop turn (paths_over member paths) ≡ numbered path_of kept ∷ drop (turn + 1) (paths_over member paths)

drop-first : (xs : NumberedPaths) (i : ℕ) (d : Numbered KeptPath) → i < length xs → drop i xs ≡ get_or xs i d ∷ drop (i + 1) xs
drop-first [] i d low = absurd (omega arith)
drop-first (x ∷ xs) zero d low = refl
drop-first (x ∷ xs) (suc i) d low = drop-first xs i d (omega arith) ∙ ap (λ (n : ℕ). get_or xs i d ∷ drop n (x ∷ xs)) (let e : suc (i + 1) ≡ suc i + 1 = omega arith in e)

drop-all : (xs : NumberedPaths) (i : ℕ) → length xs ≤ i → drop i xs ≡ []
drop-all [] zero high = refl
drop-all [] (suc i) high = refl
drop-all (x ∷ xs) zero high = absurd (omega arith)
drop-all (x ∷ xs) (suc i) high = drop-all xs i (omega arith)

some-path : (xs : NumberedPaths) (i : ℕ) → i < length xs → Numbered KeptPath
some-path [] i low = absurd (omega (arith, low))
some-path (x ∷ xs) i low = x

pub over-length : (member : ℕ) (over : List PathOver) (paths : NumberedPaths) → AreNumbers member over paths → length over ≡ length (paths_over member paths)
over-length member over paths numbers =
    sym (length-map over (λ (path : PathOver). path.id)) ∙ ap length numbers ∙ length-map (paths_over member paths) (λ (path : Numbered KeptPath). path.number)

module _ (items : List Kept) (paths : NumberedPaths) (member : ℕ) (over : List PathOver) (is : IsOver items paths member over) (turn : ℕ) (low : turn < length over) where
  within : turn < length (paths_over member paths)
  within = let same = over-length member over paths is.numbers in omega (arith, low, same)

  number-at : (e : PathOver) (d : Numbered KeptPath) → (get_or over turn e).id ≡ (get_or (paths_over member paths) turn d).number
  number-at e d =
      sym (get_or-map (λ (path : PathOver). path.id) over turn e 0 low)
      ∙ ap (λ (w : List ℕ). get_or w turn 0) is.numbers
      ∙ get_or-map (λ (path : Numbered KeptPath). path.number) (paths_over member paths) turn d 0 within

  own : (d : Numbered KeptPath) → item_at (get_or (paths_over member paths) turn d).number paths ≡ Some (get_or (paths_over member paths) turn d).item
  own d =
      let shared : AreShared paths = subst AreShared is.same (AreShared-paths items is.kept) in
      All-filter (λ (path : Numbered KeptPath). is_over member path.item.spec) (λ (path : Numbered KeptPath). item_at path.number paths ≡ Some path.item) paths
      (All-from_recursion (λ (path : Numbered KeptPath). item_at path.number paths ≡ Some path.item) paths (own-there paths (ascend-from paths shared.ascend))) turn d within

  -- there is one
  pub turn-there : (e : PathOver) → IsSome (item_at (get_or over turn e).id (map (numbered path_of) items))
  turn-there e =
      let d = some-path (paths_over member paths) turn within in
      subst (λ (w : NumberedPaths). IsSome (item_at (get_or over turn e).id w)) (sym is.same)
      (subst (λ (n : ℕ). IsSome (item_at n paths)) (sym (number-at e d)) (subst (λ (o : Option KeptPath). IsSome o) (sym (own d)) refl))

  pub turn-at : (e : PathOver) (slice : List Kept) (place : ℕ) (kept : Kept) → slice ≡ items → IsPlace slice (get_or over turn e).id place → kept ≡ get_or items place kept
      → IsTurn items paths member turn (get_or over turn e).id place kept
  turn-at e slice place kept shown place_at read =
      let entry : IsFound items (paths_of items) (get_or over turn e).id place kept = found items slice (paths_of items) (get_or over turn e).id place kept refl is.kept shown place_at read in
      let here : (d : Numbered KeptPath) → get_or (paths_over member paths) turn d ≡ numbered path_of kept =
      λ d.
      let path = get_or (paths_over member paths) turn d in
      let present : item_at (get_or over turn e).id paths ≡ Some (path_of kept) = subst (λ (w : NumberedPaths). item_at (get_or over turn e).id w ≡ Some (path_of kept)) is.same entry.present in
      let both : ◌≡◌ {A = Option KeptPath} (Some path.item) (Some (path_of kept)) = sym (own d) ∙ ap (λ (n : ℕ). item_at n paths) (sym (number-at e d)) ∙ present in
      let item : path.item ≡ path_of kept = cc in
      let number : path.number ≡ kept.id = sym (number-at e d) ∙ sym entry.named in
      ap (λ (n : ℕ). record { number = n; item = path.item }) number ∙ ap (λ (p : KeptPath). record { number = kept.id; item = p }) item in
      let d = some-path (paths_over member paths) turn within in
      record {
        low = entry.at.in_range;
        read = read;
        named = entry.named;
        is = subst (λ (path : Numbered KeptPath). is_over member path.item.spec ≡ true) (here d) (filter_passes (λ (path : Numbered KeptPath). is_over member path.item.spec) paths turn d within);
        within = within;
        at = here;
        split = drop-first (paths_over member paths) turn d within ∙ ap (λ (path : Numbered KeptPath). path ∷ drop (turn + 1) (paths_over member paths)) (here d);
      }

-- none is left
pub turns-end : (member : ℕ) (over : List PathOver) (paths : NumberedPaths) (turn : ℕ) → AreNumbers member over paths → length over ≤ turn → drop turn (paths_over member paths) ≡ []
turns-end member over paths turn numbers high = let same = over-length member over paths numbers in drop-all (paths_over member paths) turn (omega (arith, high, same))

-- all have been made anew
pub making-all : (members : NumberedMembers) (number held : ℕ) (paths : NumberedPaths) (turn : ℕ) (rebuilt : List (Numbered EntryList)) (over : List PathOver)
    → IsMaking members number held paths turn rebuilt → AreNumbers number over paths → length over ≤ turn → AreRebuilt members held (paths_over number paths) rebuilt
making-all members number held paths turn rebuilt over making numbers high =
    making-end members number held paths turn rebuilt making (turns-end number over paths turn numbers high)

-- ---- the first of them

abbrev head : List ℕ → Option ℕ
head [] = None
head (n ∷ ks) = Some n

found-head : (p : Numbered KeptPath → Bool) (paths : NumberedPaths) → head (map (λ (path : Numbered KeptPath). path.number) (filter p paths)) ≡ option_map (λ (path : Numbered KeptPath). path.number) (find p paths)
found-head p [] = refl
found-head p (path ∷ paths) = by (p path) (found-head p paths)
  where
    by : (b : Bool) → head (map (λ (x : Numbered KeptPath). x.number) (filter p paths)) ≡ option_map (λ (x : Numbered KeptPath). x.number) (find p paths)
        → head (map (λ (x : Numbered KeptPath). x.number) (cond b (path ∷ filter p paths) (filter p paths))) ≡ option_map (λ (x : Numbered KeptPath). x.number) (cond b (Some path) (find p paths))
    by true rest = refl
    by false rest = rest

pub first-none : (member : ℕ) (over : List PathOver) (paths : NumberedPaths) → AreNumbers member over paths → length over ≡ 0
    → None ≡ option_map (λ (path : Numbered KeptPath). path.number) (find (λ (path : Numbered KeptPath). is_over member path.item.spec) paths)
first-none member over paths numbers none = by over none numbers ∙ found-head (λ (path : Numbered KeptPath). is_over member path.item.spec) paths
  where
    by : (list : List PathOver) → length list ≡ 0 → AreNumbers member list paths → None ≡ head (map (λ (path : Numbered KeptPath). path.number) (paths_over member paths))
    by [] none same = ap head same
    by (x ∷ list) none same = absurd (omega (arith, none))

pub first-some : (member : ℕ) (over : List PathOver) (paths : NumberedPaths) (e : PathOver) → AreNumbers member over paths → 0 < length over
    → Some (get_or over 0 e).id ≡ option_map (λ (path : Numbered KeptPath). path.number) (find (λ (path : Numbered KeptPath). is_over member path.item.spec) paths)
first-some member over paths e numbers some = by over some numbers ∙ found-head (λ (path : Numbered KeptPath). is_over member path.item.spec) paths
  where
    by : (list : List PathOver) → 0 < length list → AreNumbers member list paths → Some (get_or list 0 e).id ≡ head (map (λ (path : Numbered KeptPath). path.number) (paths_over member paths))
    by [] some same = absurd (omega (arith, some))
    by (x ∷ list) some same = ap head same

-- ---- the first of them that may have no equal keys

abbrev pub is_choice : Option ℕ → Numbered KeptPath → Bool
is_choice after path = path.item.spec.unique && is_above after path.number

find-filter : (p q : Numbered KeptPath → Bool) (paths : NumberedPaths) → find q (filter p paths) ≡ find (λ (path : Numbered KeptPath). p path && q path) paths
find-filter p q [] = refl
find-filter p q (path ∷ paths) = by (p path) (find-filter p q paths)
  where
    by : (b : Bool) → find q (filter p paths) ≡ find (λ (x : Numbered KeptPath). p x && q x) paths → find q (cond b (path ∷ filter p paths) (filter p paths)) ≡ cond (b && q path) (Some path) (find (λ (x : Numbered KeptPath). p x && q x) paths)
    by true rest = ap (λ (o : Option (Numbered KeptPath)). cond (q path) (Some path) o) rest
    by false rest = rest

-- those before this turn are none
pub record IsLooking (member : ℕ) (after : Option ℕ) (paths : NumberedPaths) (turn : ℕ) : Type 0 where
  pub same : option_map (λ (path : Numbered KeptPath). path.number) (find (is_choice after) (drop turn (paths_over member paths)))
      ≡ option_map (λ (path : Numbered KeptPath). path.number) (find (is_unique_over member after) paths)

pub looking-first : (member : ℕ) (after : Option ℕ) (paths : NumberedPaths) → IsLooking member after paths 0
looking-first member after paths = record {
  same = ap (option_map (λ (path : Numbered KeptPath). path.number)) (find-filter (λ (path : Numbered KeptPath). is_over member path.item.spec) (is_choice after) paths);
}

module _ (items : List Kept) (paths : NumberedPaths) (member turn number place : ℕ) (kept : Kept) (after : Option ℕ) (looking : IsLooking member after paths turn)
    (here : IsTurn items paths member turn number place kept) where
  looked : option_map (λ (path : Numbered KeptPath). path.number) (cond (kept.by.unique && is_above after kept.id) (Some (numbered path_of kept)) (find (is_choice after) (drop (turn + 1) (paths_over member paths))))
      ≡ option_map (λ (path : Numbered KeptPath). path.number) (find (is_unique_over member after) paths)
  looked = ap (λ (w : NumberedPaths). option_map (λ (path : Numbered KeptPath). path.number) (find (is_choice after) w)) (sym here.split) ∙ looking.same

  pub looking-next : (kept.by.unique && is_above after kept.id) ≡ false → IsLooking member after paths (turn + 1)
  looking-next none = record {
    same = ap (option_map (λ (path : Numbered KeptPath). path.number))
        (sym (cond-false (kept.by.unique && is_above after kept.id) (Some (numbered path_of kept)) (find (is_choice after) (drop (turn + 1) (paths_over member paths))) none))
        ∙ looked;
  }

  pub looking-found : (kept.by.unique && is_above after kept.id) ≡ true → Some number ≡ option_map (λ (path : Numbered KeptPath). path.number) (find (is_unique_over member after) paths)
  looking-found is =
      ap (λ (n : ℕ). Some n) (sym here.named)
      ∙ ap (option_map (λ (path : Numbered KeptPath). path.number))
      (sym (cond-true (kept.by.unique && is_above after kept.id) (Some (numbered path_of kept)) (find (is_choice after) (drop (turn + 1) (paths_over member paths))) is))
      ∙ looked

pub looking-end : (member : ℕ) (after : Option ℕ) (over : List PathOver) (paths : NumberedPaths) (turn : ℕ) → IsLooking member after paths turn → AreNumbers member over paths → length over ≤ turn
    → None ≡ option_map (λ (path : Numbered KeptPath). path.number) (find (is_unique_over member after) paths)
looking-end member after over paths turn looking numbers high =
    ap (λ (w : NumberedPaths). option_map (λ (path : Numbered KeptPath). path.number) (find (is_choice after) w)) (sym (turns-end member over paths turn numbers high)) ∙ looking.same
