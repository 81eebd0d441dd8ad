-- One change more to an area that is replayed, or to another.
use Rattle.std.proofs.Common.{◌≡◌, ◌≢◌, inl, inr, refl, ℕ, ◌+◌, ◌-◌, ◌≤◌, min, List, [], ◌∷◌, ◌++◌, length, take, replicate, Vec, sym, ◌∙◌, ap, subst, arith, length-append, length-take}
use Rattle.std.specs.List.{AllByRecursion, Any}
use Rattle.std.specs.declared.alloc.Global.{Global}
use Rattle.std.proofs.lemmas.List.{length-replicate, take-append-le, take-take}
use Rattle.store_model.specs.Disk.{Areas, Torn, Cut, written}
use Rattle.store_model.specs.Past.{blank, seen_after}
use Rattle.store_model.specs.Replayed.{IsFree, IsReplayed, changed_area, half, written_alone}
use Rattle.store_model.specs.Synced.{last_synced, Writes, IsLoose}
use Rattle.store_model.specs.Steps.{torn_not, torn_whole, torn_part, cut_not, cut_whole, put_here, put_others}
use Rattle.store_model.specs.declared.past.Change.{Change}
use Rattle.store_model.specs.declared.past.Change.TheVariants.{Wrote, Shortened, Synced}
use Rattle.store_model.specs.declared.replay.Replayed.{Replayed}
use Rattle.store_model.proofs.Found.{any_still, any_new}
use Rattle.store_model.proofs.Loose.{last_synced-push, last_synced-other, last_synced-here, loose_push, writes_here}
use Rattle.store_model.proofs.Pushed.{seen_after-push}
use Rattle.store_model.proofs.Free.{free_wrote, free_wrote_other, free_shortened, free_shortened_other, free_synced, free_synced_other}

all_weaker : {X : Type 0} (P Q : X → Type 0) (xs : List X) → ((x : X) → P x → Q x) → AllByRecursion P xs → AllByRecursion Q xs
all_weaker P Q [] more all = all
all_weaker P Q (x ∷ xs) more all = (more x all.0, all_weaker P Q xs more all.1)

all_push : {X : Type 0} (P : X → Type 0) (xs : List X) (x : X) → AllByRecursion P xs → P x → AllByRecursion P (xs ++ x ∷ [])
all_push P [] x all here = (here, all)
all_push P (first ∷ xs) x all here = (all.0, all_push P xs x all.1 here)

-- a piece written alone is a write that is torn
pub torn_alone : (at n : ℕ) (piece old : List ℕ) → length piece ≤ n → Torn at n old (written_alone at piece old)
torn_alone at n piece old some =
    let front = take at old ++ replicate (at - length old) 0 in
    let size : length front ≡ min at (length old) + (at - length old) = omega (arith, length-append (take at old) (replicate (at - length old) 0), length-take at old, length-replicate {A = ℕ} (at - length old) 0) in
    torn_part at n old front piece
    (take-append-le (min at (length old)) (take at old) (replicate (at - length old) 0) (omega (arith, length-take at old)) ∙ take-take (min at (length old)) at old (omega arith))
    (omega (arith, size)) (omega (arith, size)) some

free_other : (changes : List Change) (change : Change) (a : ℕ) (x : List ℕ) → changed_area change ≢ a → IsFree changes a x → IsFree (changes ++ change ∷ []) a x
free_other changes (Wrote area at bytes) a x apart free = free_wrote_other changes area a at bytes x apart free
free_other changes (Shortened area n) a x apart free = free_shortened_other changes area a n x apart free
free_other changes (Synced area) a x apart free = free_synced_other changes area a x apart free

seen_other : (changes : List Change) (change : Change) (a : ℕ) → a ≢ changed_area change → seen_after blank (changes ++ change ∷ []) a ≡ seen_after blank changes a
seen_other changes (Wrote area at bytes) a apart = ap (λ (f : Areas). f a) (seen_after-push blank changes (Wrote area at bytes)) ∙ put_others area _ (seen_after blank changes) a apart
seen_other changes (Shortened area n) a apart = ap (λ (f : Areas). f a) (seen_after-push blank changes (Shortened area n)) ∙ put_others area _ (seen_after blank changes) a apart
seen_other changes (Synced area) a apart = ap (λ (f : Areas). f a) (seen_after-push blank changes (Synced area))

-- each loose write has its piece of the bytes alone among what a stop may leave
abbrev HasPieces : (List ℕ → List ℕ) → List Change → ℕ → List (Vec ℕ Global) → Type 0
HasPieces piece changes area torn = (at : ℕ) (bytes : List ℕ) → IsLoose changes area at bytes → Any (λ v. v.items ≡ written_alone at (piece bytes) (last_synced changes area)) torn

-- the same piece of the same bytes at the same place
piece_is : (piece : List ℕ → List ℕ) (at place : ℕ) (bytes wanted old synced : List ℕ) → at ≡ place → bytes ≡ wanted → old ≡ synced → written_alone at (piece bytes) old ≡ written_alone place (piece wanted) synced
piece_is piece at place bytes wanted old synced there same from =
    ap (λ (n : ℕ). written_alone n (piece bytes) old) there ∙ ap (λ (l : List ℕ). written_alone place (piece l) old) same ∙ ap (λ (l : List ℕ). written_alone place (piece wanted) l) from

-- one change more keeps those of the writes before it
pieces_still : (piece : List ℕ → List ℕ) (changes : List Change) (change : Change) (area : ℕ) (torn new : List (Vec ℕ Global)) → last_synced (changes ++ change ∷ []) area ≡ last_synced changes area → ((P : Vec ℕ Global → Type 0) → Any P torn → Any P new)
    → ((at : ℕ) (bytes : List ℕ) → Writes area at bytes change → Any (λ v. v.items ≡ written_alone at (piece bytes) (last_synced (changes ++ change ∷ []) area)) new) → HasPieces piece changes area torn → HasPieces piece (changes ++ change ∷ []) area new
pieces_still piece changes change area torn new same more here has = λ at bytes loose. elim (loose_push changes change area at bytes loose) [
  | inl writes ↦ here at bytes writes
  | inr old ↦ more _ (subst (λ (l : List ℕ). Any (λ v. v.items ≡ written_alone at (piece bytes) l) torn) (sym same) (has at bytes old.0))
]

-- a change to another area
pub replayed_other : (changes : List Change) (change : Change) (area : ℕ) (r : Replayed) → changed_area change ≢ area → IsReplayed changes area r → IsReplayed (changes ++ change ∷ []) area r
replayed_other changes change area r apart is = record {
  now = is.now ∙ sym (seen_other changes change area (λ e. apart (sym e)));
  synced = is.synced ∙ sym same;
  whole = pieces_still (λ (l : List ℕ). l) changes change area r.torn.items r.torn.items same (λ P any. any) (λ at bytes writes. absurd (apart (writes_here change area at bytes writes))) is.whole;
  halved = pieces_still half changes change area r.torn.items r.torn.items same (λ P any. any) (λ at bytes writes. absurd (apart (writes_here change area at bytes writes))) is.halved;
  now_free = free_other changes change area r.now.items apart is.now_free;
  synced_free = free_other changes change area r.synced.items apart is.synced_free;
  torn_free = all_weaker (λ (v : Vec ℕ Global). IsFree changes area v.items) (λ (v : Vec ℕ Global). IsFree (changes ++ change ∷ []) area v.items) r.torn.items (λ v free. free_other changes change area v.items apart free) is.torn_free;
}
  where
    same : last_synced (changes ++ change ∷ []) area ≡ last_synced changes area
    same = last_synced-other changes change area apart

module _ (changes : List Change) (area : ℕ) (r new : Replayed) (is : IsReplayed changes area r) where
  pub replayed_wrote : (at : ℕ) (bytes whole cut : Vec ℕ Global) (pushed : List (Vec ℕ Global)) (some : List ℕ) → new.now.items ≡ written at bytes.items r.now.items → new.synced.items ≡ r.synced.items
      → pushed ≡ r.torn.items ++ whole ∷ [] → new.torn.items ≡ pushed ++ cut ∷ [] → whole.items ≡ written_alone at bytes.items r.synced.items → cut.items ≡ written_alone at some r.synced.items → some ≡ half bytes.items → length some ≤ length bytes.items
      → IsReplayed (changes ++ Wrote area at bytes ∷ []) area new
  replayed_wrote at bytes whole cut pushed some now synced one two whole_is cut_is some_is less =
      let n = length bytes.items in
      let later = changes ++ Wrote area at bytes ∷ [] in
      let free : (x y : List ℕ) → IsFree changes area x → Torn at n x y → IsFree later area y = free_wrote changes area at bytes in
      let kept = all_weaker (λ (v : Vec ℕ Global). IsFree changes area v.items) (λ (v : Vec ℕ Global). IsFree later area v.items) r.torn.items (λ v old. free v.items v.items old (torn_not at n v.items)) is.torn_free in
      let first = all_push (λ (v : Vec ℕ Global). IsFree later area v.items) r.torn.items whole kept (free r.synced.items whole.items is.synced_free (subst (λ (l : List ℕ). Torn at n r.synced.items l) (sym whole_is) (torn_alone at n bytes.items r.synced.items (omega arith)))) in
      let second = all_push (λ (v : Vec ℕ Global). IsFree later area v.items) pushed cut (subst (λ (l : List (Vec ℕ Global)). AllByRecursion (λ v. IsFree later area v.items) l) (sym one) first) (free r.synced.items cut.items is.synced_free (subst (λ (l : List ℕ). Torn at n r.synced.items l) (sym cut_is) (torn_alone at n some r.synced.items less))) in
      let same : last_synced later area ≡ last_synced changes area = last_synced-push changes (Wrote area at bytes) area in
      let from : r.synced.items ≡ last_synced later area = is.synced ∙ sym same in
      let more : (P : Vec ℕ Global → Type 0) → Any P r.torn.items → Any P new.torn.items = λ P any. any_still P pushed new.torn.items cut two (any_still P r.torn.items pushed whole one any) in
      record {
        now = now ∙ ap (λ (l : List ℕ). written at bytes.items l) is.now ∙ sym (ap (λ (f : Areas). f area) (seen_after-push blank changes (Wrote area at bytes)) ∙ put_here area _ (seen_after blank changes));
        synced = synced ∙ from;
        whole = pieces_still (λ (l : List ℕ). l) changes (Wrote area at bytes) area r.torn.items new.torn.items same more
            (λ place piece writes.
            any_still _ pushed new.torn.items cut two (any_new _ r.torn.items pushed whole one (whole_is ∙ piece_is (λ (l : List ℕ). l) at place bytes.items piece r.synced.items (last_synced later area) writes.1 writes.2 from))) is.whole;
        halved = pieces_still half changes (Wrote area at bytes) area r.torn.items new.torn.items same more
            (λ place piece writes.
            any_new _ pushed new.torn.items cut two (cut_is ∙ ap (λ (l : List ℕ). written_alone at l r.synced.items) some_is ∙ piece_is half at place bytes.items piece r.synced.items (last_synced later area) writes.1 writes.2 from)) is.halved;
        now_free = free r.now.items new.now.items is.now_free (subst (λ (l : List ℕ). Torn at n r.now.items l) (sym now) (torn_whole at bytes.items r.now.items));
        synced_free = free r.synced.items new.synced.items is.synced_free (subst (λ (l : List ℕ). Torn at n r.synced.items l) (sym synced) (torn_not at n r.synced.items));
        torn_free = subst (λ (l : List (Vec ℕ Global)). AllByRecursion (λ v. IsFree later area v.items) l) (sym two) second;
      }

  pub replayed_shortened : (n : ℕ) → new.now.items ≡ take n r.now.items → new.synced.items ≡ r.synced.items → new.torn.items ≡ r.torn.items → IsReplayed (changes ++ Shortened area n ∷ []) area new
  replayed_shortened n now synced torn =
      let later = changes ++ Shortened area n ∷ [] in
      let same : last_synced later area ≡ last_synced changes area = last_synced-push changes (Shortened area n) area in
      let more : (P : Vec ℕ Global → Type 0) → Any P r.torn.items → Any P new.torn.items = λ P any. subst (λ (l : List (Vec ℕ Global)). Any P l) (sym torn) any in
      let free : (x y : List ℕ) → IsFree changes area x → Cut n x y → IsFree later area y = free_shortened changes area n in
      record {
        now = now ∙ ap (λ (l : List ℕ). take n l) is.now ∙ sym (ap (λ (f : Areas). f area) (seen_after-push blank changes (Shortened area n)) ∙ put_here area _ (seen_after blank changes));
        synced = synced ∙ is.synced ∙ sym same;
        whole = pieces_still (λ (l : List ℕ). l) changes (Shortened area n) area r.torn.items new.torn.items same more (λ at bytes writes. absurd writes) is.whole;
        halved = pieces_still half changes (Shortened area n) area r.torn.items new.torn.items same more (λ at bytes writes. absurd writes) is.halved;
        now_free = free r.now.items new.now.items is.now_free (subst (λ (l : List ℕ). Cut n r.now.items l) (sym now) (cut_whole n r.now.items));
        synced_free = free r.synced.items new.synced.items is.synced_free (subst (λ (l : List ℕ). Cut n r.synced.items l) (sym synced) (cut_not n r.synced.items));
        torn_free = subst (λ (l : List (Vec ℕ Global)). AllByRecursion (λ v. IsFree later area v.items) l) (sym torn)
            (all_weaker (λ (v : Vec ℕ Global). IsFree changes area v.items) (λ (v : Vec ℕ Global). IsFree later area v.items) r.torn.items (λ v old. free v.items v.items old (cut_not n v.items)) is.torn_free);
      }

  pub replayed_synced : new.now.items ≡ r.now.items → new.synced.items ≡ r.now.items → new.torn.items ≡ [] → IsReplayed (changes ++ Synced area ∷ []) area new
  replayed_synced now synced torn =
      let later = changes ++ Synced area ∷ [] in
      let none : (at : ℕ) (bytes : List ℕ) → IsLoose later area at bytes → ⊥ = λ at bytes loose. elim (loose_push changes (Synced area) area at bytes loose) [ inl writes ↦ writes | inr old ↦ old.1 refl ] in
      let free : IsFree later area r.now.items = free_synced changes area r.now.items is.now_free is.now in
      record {
        now = now ∙ is.now ∙ sym (ap (λ (f : Areas). f area) (seen_after-push blank changes (Synced area)));
        synced = synced ∙ is.now ∙ sym (last_synced-here changes area);
        whole = λ at bytes loose. absurd (none at bytes loose);
        halved = λ at bytes loose. absurd (none at bytes loose);
        now_free = subst (λ (l : List ℕ). IsFree later area l) (sym now) free;
        synced_free = subst (λ (l : List ℕ). IsFree later area l) (sym synced) free;
        torn_free = subst (λ (l : List (Vec ℕ Global)). AllByRecursion (λ v. IsFree later area v.items) l) (sym torn) tt;
      }
