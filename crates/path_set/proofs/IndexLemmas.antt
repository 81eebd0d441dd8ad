-- What a change of the kept paths makes of their numbers by member.
use Rattle.std.proofs.Common.{ℕ, ◌+◌, ◌<◌, ◌≤◌, ◌≡◌, ◌==◌, Bool, true, false, cond, not, List, [], ◌∷◌, length, map, filter, set, get_or, insert, remove, refl, sym, ap, ◌∙◌, subst, arith}
use Rattle.std.specs.Prelude.{HoldsAt, ◌≢◌}
use Rattle.std.proofs.lemmas.Bool.Decides.{nat_tests}
use Rattle.std.proofs.lemmas.List.Elements.{All-filter}
use Rattle.std.proofs.lemmas.List.Kept.{AllPairs-filter}
use Rattle.key_pages.proofs.Splits.{filter-but}
use Rattle.file_model.specs.declared.paths.PathSpec.{PathSpec}
use Rattle.member_slots.specs.Members.{Numbered}
use Rattle.path_set.specs.declared.by_member.PathOver.{PathOver}
use Rattle.path_set.specs.declared.kept.Kept.{Kept}
use Rattle.path_set.specs.KeptPaths.{KeptPath, KeptPaths, NumberedPaths}
use Rattle.path_set.specs.MemberSteps.{is_over, paths_over}
use Rattle.path_set.specs.Entries.{AreKept, IsKept, IsPlace, IsGap, IsFirstFree, paths_of, numbered, path_of, with_files}
use Rattle.path_set.specs.ByMember.{AreByMember, numbers_of, numbers_over, with_number, without_number, AreIndexed, AreNumbers}
use Rattle.path_set.proofs.NumberLemmas.{numbers-put, numbers-kept, numbers-set}
use Rattle.path_set.proofs.OrderLemmas.{IsGap-free}
use Rattle.path_set.proofs.OverLemmas.{none-ordered}
use Rattle.path_set.proofs.FoundLemmas.{IsFound, found, IsPlace-at}

-- no paths
pub none-indexed : (items : List Kept) (by_member : List PathOver) → items ≡ [] → by_member ≡ [] → AreKept items × AreIndexed items by_member
none-indexed items by_member none none_over =
    subst (λ (w : List Kept). AreKept w × AreIndexed w by_member) (sym none) (subst (λ (w : List PathOver). AreKept [] × AreIndexed [] w) (sym none_over) (
      record {
        ascend = λ i j d lt low. absurd (omega (arith, low));
        once = λ i j d lt low. absurd (omega (arith, low));
        each = λ k d low. absurd (omega (arith, low));
        few = omega arith;
      },
      record { ordered = none-ordered; same = λ member. refl },
    ))

-- the numbers of the paths over a member, as contracts see them
seen : (member : ℕ) (kept : List Kept) → map (λ (path : Numbered KeptPath). path.number) (paths_over member (map (numbered path_of) kept)) ≡ numbers_over member kept
seen member [] = refl
seen member (path ∷ kept) = by (is_over member path.by) (seen member kept)
  where
    by : (b : Bool) → map (λ (p : Numbered KeptPath). p.number) (paths_over member (map (numbered path_of) kept)) ≡ numbers_over member kept
        → map (λ (p : Numbered KeptPath). p.number) (cond b (numbered path_of path ∷ paths_over member (map (numbered path_of) kept)) (paths_over member (map (numbered path_of) kept)))
        ≡ map (λ (p : Kept). p.id) (cond b (path ∷ filter (λ (p : Kept). is_over member p.by) kept) (filter (λ (p : Kept). is_over member p.by) kept))
    by true rest = ap (λ (w : List ℕ). path.id ∷ w) rest
    by false rest = rest

pub over-numbers : (member : ℕ) (items : List Kept) (by_member slice over : List PathOver) (value : KeptPaths) → paths_of items ≡ value → AreIndexed items by_member → slice ≡ by_member
    → over ≡ filter (λ (path : PathOver). path.member == member) slice → AreNumbers member over value.paths
over-numbers member items by_member slice over value view indexed shown is =
    ap (map (λ (path : PathOver). path.id)) is
    ∙ ap (numbers_of member) shown
    ∙ indexed.same member
    ∙ sym (seen member items)
    ∙ ap (λ (v : KeptPaths). map (λ (path : Numbered KeptPath). path.number) (paths_over member v.paths)) view

-- the paths are seen as before
pub indexed-paths : (items next : List Kept) (by_member : List PathOver) → AreIndexed items by_member → map (numbered path_of) next ≡ map (numbered path_of) items → AreIndexed next by_member
indexed-paths items next by_member indexed same = record {
  ordered = indexed.ordered;
  same = λ member.
      indexed.same member
      ∙ sym (seen member items)
      ∙ ap (λ (w : NumberedPaths). map (λ (path : Numbered KeptPath). path.number) (paths_over member w)) (sym same)
      ∙ seen member next;
}

-- a path of the same number and specification
pub indexed-set : (items : List Kept) (by_member : List PathOver) (place : ℕ) (kept new : Kept) → AreIndexed items by_member → ((d : Kept) → kept ≡ get_or items place d) → new.id ≡ kept.id
    → new.by ≡ kept.by → AreIndexed (set items place new) by_member
indexed-set items by_member place kept new indexed reads same_id same_by = record {
  ordered = indexed.ordered;
  same = λ member.
      indexed.same member
      ∙ sym (numbers-set (λ (path : Kept). path.id) (λ (path : Kept). is_over member path.by) items place new (λ d. same_id ∙ ap (λ (path : Kept). path.id) (reads d))
      (λ d. ap (is_over member) (same_by ∙ ap (λ (path : Kept). path.by) (reads d))));
}

-- one file more
pub counted-indexed : (spec : PathSpec) (items slice : List Kept) (by_member : List PathOver) (value : KeptPaths) (place : ℕ) (kept new : Kept) → paths_of items ≡ value
    → AreKept items → AreIndexed items by_member → slice ≡ items → (place < length slice) × HoldsAt (λ path. path.by ≡ spec) slice place → kept ≡ get_or items place kept
    → new ≡ with_files kept (kept.files + 1) → AreIndexed (set items place new) by_member
counted-indexed spec items slice by_member value place kept new view h indexed shown is read same =
    subst (λ (k : Kept). AreIndexed (set items place k) by_member) (sym same) (indexed-set items by_member place kept (with_files kept (kept.files + 1)) indexed entry.reads refl refl)
  where
    low : place < length items
    low = subst (λ (w : List Kept). place < length w) shown is.0

    entry : IsFound items value kept.id place kept
    entry = found items items value kept.id place kept view h refl (IsPlace-at items place kept h low read) read

-- a path more, under the least free number
pub indexed-added : (items slice : List Kept) (by_member next : List PathOver) (place : ℕ) (new : Kept) (spec : PathSpec) → AreIndexed items by_member → AreKept items → slice ≡ items
    → IsFirstFree slice place → new.id ≡ place → spec ≡ new.by → AreByMember next
    → ((member : ℕ) → numbers_of member next ≡ cond (is_over member spec) (with_number new.id (numbers_of member by_member)) (numbers_of member by_member))
    → AreIndexed (insert items place new) next
indexed-added items slice by_member next place new spec indexed h shown free named same sorted step = record {
  ordered = sorted;
  same = λ member.
      step member
      ∙ ap (λ (s : PathSpec). cond (is_over member s) (with_number new.id (numbers_of member by_member)) (numbers_of member by_member)) same
      ∙ ap (λ (ks : List ℕ). cond (is_over member new.by) (with_number new.id ks) ks) (indexed.same member)
      ∙ sym (numbers-put (λ (path : Kept). path.id) (λ (path : Kept). is_over member path.by) new items place (λ own k d lt low is. gap.before k d lt) (λ own k d le low is. gap.after k d le low));
}
  where
    gap : IsGap items new.id place
    gap = subst (λ (n : ℕ). IsGap items n place) (sym named) (IsGap-free items place h (subst (λ (w : List Kept). IsFirstFree w place) shown free))

-- the path of the number is gone
others-stay : (items : List Kept) (id place : ℕ) → IsPlace items id place → filter (λ (path : Kept). not (path.id == id)) items ≡ remove items place
others-stay items id place at =
    filter-but (λ (path : Kept). not (path.id == id)) items place at.in_range
    (λ k d from upto. let lt = at.before k d upto in let e : ((get_or items k d).id == id) ≡ false = grind (arith, nat_tests) in ap not e)
    (λ d. let same = at.here d in let e : ((get_or items place d).id == id) ≡ true = grind (arith, nat_tests) in ap not e)
    (λ k d from upto. let lt = at.after k d (omega (arith, from)) upto in let e : ((get_or items k d).id == id) ≡ false = grind (arith, nat_tests) in ap not e)

pub indexed-removed : (items : List Kept) (by_member next : List PathOver) (id place : ℕ) → AreIndexed items by_member → IsPlace items id place → AreByMember next
    → ((member : ℕ) → numbers_of member next ≡ without_number id (numbers_of member by_member)) → AreIndexed (remove items place) next
indexed-removed items by_member next id place indexed at sorted step = record {
  ordered = sorted;
  same = λ member.
      step member
      ∙ ap (without_number id) (indexed.same member)
      ∙ sym (numbers-kept (λ (path : Kept). path.id) (λ (path : Kept). is_over member path.by) (λ k. not (k == id)) items)
      ∙ ap (numbers_over member) (others-stay items id place at);
}

few-pass : (p : Kept → Bool) (items : List Kept) → length (filter p items) ≤ length items
few-pass p [] = omega arith
few-pass p (path ∷ items) = by (p path) (few-pass p items)
  where
    by : (b : Bool) → length (filter p items) ≤ length items → length (cond b (path ∷ filter p items) (filter p items)) ≤ length (path ∷ items)
    by true rest = omega (arith, rest)
    by false rest = omega (arith, rest)

pub kept-removed : (items : List Kept) (id place : ℕ) → AreKept items → IsPlace items id place → AreKept (remove items place)
kept-removed items id place h at =
    subst AreKept (others-stay items id place at) (record {
      ascend = AllPairs-filter (λ (former later : Kept). former.id < later.id) (λ (path : Kept). not (path.id == id)) items h.ascend;
      once = AllPairs-filter (λ (former later : Kept). former.by ≢ later.by) (λ (path : Kept). not (path.id == id)) items h.once;
      each = All-filter (λ (path : Kept). not (path.id == id)) IsKept items h.each;
      few = let most = h.few in let fewer = few-pass (λ (path : Kept). not (path.id == id)) items in omega (arith, most, fewer);
    })
