-- Stores that are made of areas.
use Rattle.std.proofs.Common.{◌≡◌, ◌≢◌, inl, inr, ℕ, zero, suc, ◌+◌, ◌<◌, List, [], ◌∷◌, ◌++◌, length, get_or, take, Vec, refl, sym, ◌∙◌, ap, subst, arith, length-take}
use Rattle.std.proofs.lemmas.List.Elements.{recursion_from_All, All-from_recursion, All-push}
use Rattle.std.specs.List.{AllByRecursion, Any}
use Rattle.std.specs.declared.alloc.Global.{Global}
use Rattle.std.proofs.lemmas.Bool.{cases_eq}
use Rattle.std.proofs.lemmas.List.{append-nil, drop_all, take_more}
use Rattle.store_model.specs.Disk.{Areas, written}
use Rattle.store_model.specs.Past.{held, blank, seen_after, MayLeave}
use Rattle.store_model.specs.MemoryStore.{HasImage, HasTorn}
use Rattle.store_model.specs.Replayed.{put, IsFree, IsReplayed}
use Rattle.store_model.specs.Synced.{last_synced, IsWritten}
use Rattle.store_model.specs.Steps.{put_here, put_others}
use Rattle.store_model.specs.declared.memory_store.MemoryStore.{MemoryStore}
use Rattle.store_model.specs.declared.past.Change.{Change}
use Rattle.store_model.specs.declared.past.Change.TheVariants.{Wrote, Shortened, Synced}
use Rattle.store_model.specs.declared.replay.Replayed.{Replayed}
use Rattle.store_model.proofs.Loose.{loose_written}
use Rattle.store_model.proofs.Pushed.{seen_after-push, same_areas}

-- an area more at the end
pub held-snoc : (xs : List (Vec ℕ Global)) (v : Vec ℕ Global) (a : ℕ) → held (xs ++ v ∷ []) a ≡ put (length xs) v.items (held xs) a
held-snoc xs v a = elim (cases_eq a (length xs)) [
  | inl same ↦ ap (λ (n : ℕ). held (xs ++ v ∷ []) n) same ∙ at_end xs ∙ sym (ap (λ (n : ℕ). put (length xs) v.items (held xs) n) same ∙ put_here (length xs) v.items (held xs))
  | inr apart ↦ elsewhere xs a apart ∙ sym (put_others (length xs) v.items (held xs) a apart)
]
  where
    at_end : (ys : List (Vec ℕ Global)) → held (ys ++ v ∷ []) (length ys) ≡ v.items
    at_end [] = refl
    at_end (y ∷ ys) = at_end ys

    elsewhere : (ys : List (Vec ℕ Global)) (b : ℕ) → b ≢ length ys → held (ys ++ v ∷ []) b ≡ held ys b
    elsewhere [] zero apart = absurd (apart refl)
    elsewhere [] (suc b) apart = refl
    elsewhere (y ∷ ys) zero apart = refl
    elsewhere (y ∷ ys) (suc b) apart = elsewhere ys b (λ e. apart (ap suc e))

-- an area is emptied, written and synced
pub replaced : (first one two three : List Change) (area : ℕ) (bytes : Vec ℕ Global) (wanted : List ℕ) → bytes.items ≡ wanted → one ≡ first ++ Shortened area 0 ∷ [] → two ≡ one ++ Wrote area 0 bytes ∷ [] → three ≡ two ++ Synced area ∷ []
    → (other : ℕ) → seen_after blank three other ≡ put area wanted (seen_after blank first) other
replaced first one two three area bytes wanted is cut write sync other =
    let shut : seen_after blank one ≡ put area [] (seen_after blank first) = ap (λ (l : List Change). seen_after blank l) cut ∙ seen_after-push blank first (Shortened area 0) in
    let filled : seen_after blank two ≡ put area (written 0 bytes.items (seen_after blank one area)) (seen_after blank one) = ap (λ (l : List Change). seen_after blank l) write ∙ seen_after-push blank one (Wrote area 0 bytes) in
    let last : seen_after blank three ≡ seen_after blank two = ap (λ (l : List Change). seen_after blank l) sync ∙ seen_after-push blank two (Synced area) in
    let empty : seen_after blank one area ≡ [] = ap (λ (f : Areas). f area) shut ∙ put_here area [] (seen_after blank first) in
    let whole : written 0 bytes.items (seen_after blank one area) ≡ wanted =
    ap (λ (l : List ℕ). written 0 bytes.items l) empty ∙ ap (λ (l : List ℕ). bytes.items ++ l) (drop_all (0 + length bytes.items) [] (omega arith)) ∙ append-nil bytes.items ∙ is in
    ap (λ (f : Areas). f other) last ∙ ap (λ (f : Areas). f other) filled
    ∙ (elim (cases_eq other area) [
      | inl same ↦
          ap (λ (n : ℕ). put area (written 0 bytes.items (seen_after blank one area)) (seen_after blank one) n) same ∙ put_here area _ (seen_after blank one) ∙ whole
          ∙ sym (ap (λ (n : ℕ). put area wanted (seen_after blank first) n) same ∙ put_here area wanted (seen_after blank first))
      | inr apart ↦ put_others area _ (seen_after blank one) other apart ∙ ap (λ (f : Areas). f other) shut ∙ put_others area [] (seen_after blank first) other apart ∙ sym (put_others area wanted (seen_after blank first) other apart)
    ])

-- what is said of each area that is held goes on to one more
pub held_all : (P : ℕ → List ℕ → Type 0) (xs pushed : List (Vec ℕ Global)) (v : Vec ℕ Global) (i : ℕ) → length xs ≡ i → pushed ≡ xs ++ v ∷ [] → ((a : ℕ) → a < i → P a (held xs a)) → P i v.items → (a : ℕ) → a < i + 1 → P a (held pushed a)
held_all P xs pushed v i size push before here a below = subst (λ (l : List ℕ). P a l) (sym (ap (λ (l : List (Vec ℕ Global)). held l a) push ∙ held-snoc xs v a)) (elim (cases_eq a i) [
  | inl same ↦
      let at : put (length xs) v.items (held xs) a ≡ v.items = ap (λ (n : ℕ). put (length xs) v.items (held xs) n) (same ∙ sym size) ∙ put_here (length xs) v.items (held xs) in
      subst (λ (l : List ℕ). P a l) (sym at) (subst (λ (n : ℕ). P n v.items) (sym same) here)
  | inr apart ↦
      let at : put (length xs) v.items (held xs) a ≡ held xs a = put_others (length xs) v.items (held xs) a (λ e. apart (e ∙ size)) in
      subst (λ (l : List ℕ). P a l) (sym at) (before a (omega arith))
])

-- one area more that is put into a store
pub image_step : (areas : List (Vec ℕ Global)) (i : ℕ) (v : Vec ℕ Global) (old new : Areas) (bytes : List ℕ) → i < length areas → v ≡ get_or areas i v → bytes ≡ v.items
    → ((a : ℕ) → old a ≡ held (take i areas) a) → ((a : ℕ) → new a ≡ put i bytes old a) → (a : ℕ) → new a ≡ held (take (i + 1) areas) a
image_step areas i v old new bytes below is value before after a =
    let size : length (take i areas) ≡ i = omega (arith, length-take i areas) in
    after a ∙ ap (λ (f : Areas). put i bytes f a) (same_areas old (held (take i areas)) before)
    ∙ ap (λ (l : List ℕ). put i l (held (take i areas)) a) value
    ∙ ap (λ (n : ℕ). put n v.items (held (take i areas)) a) (sym size)
    ∙ sym (ap (λ (l : List (Vec ℕ Global)). held l a) (take_more areas i v below ∙ ap (λ (w : Vec ℕ Global). take i areas ++ w ∷ []) (sym is)) ∙ held-snoc (take i areas) v a)

-- one image more
pub may_push : {X : Type 0} (P : X → Type 0) (xs pushed : List X) (x : X) → pushed ≡ xs ++ x ∷ [] → AllByRecursion P xs → P x → AllByRecursion P pushed
may_push {X} P xs pushed x push all here = subst (λ (l : List X). AllByRecursion P l) (sym push) (recursion_from_All P (xs ++ x ∷ []) (All-push P xs x (All-from_recursion P xs all) here))

-- areas that are the same at each number may be left too
pub same_may : (changes : List Change) (seen images : Areas) → MayLeave changes images → ((a : ℕ) → seen a ≡ images a) → MayLeave changes seen
same_may changes seen images may same = subst (λ (f : Areas). MayLeave changes f) (sym (same_areas seen images same)) may

-- an image of a write that was cut short
pub torn_image : (changes : List Change) (area : ℕ) (torn items : List (Vec ℕ Global)) (i : ℕ) (item : Vec ℕ Global) (synced new : Areas) (bytes : List ℕ) → AllByRecursion (λ v. IsFree changes area v.items) torn → items ≡ torn → item ≡ get_or items i item → i < length items
    → MayLeave changes synced → bytes ≡ item.items → ((a : ℕ) → new a ≡ put area bytes synced a) → MayLeave changes new
torn_image changes area torn items i item synced new bytes free are is below may value after =
    let all = All-from_recursion (λ (v : Vec ℕ Global). IsFree changes area v.items) torn free in
    let here : item ≡ get_or torn i item = is ∙ ap (λ (l : List (Vec ℕ Global)). get_or l i item) are in
    let mine : IsFree changes area item.items = subst (λ (v : Vec ℕ Global). IsFree changes area v.items) (sym here) (all i item (omega (arith, ap length are))) in
    same_may changes new (put area item.items synced) (mine synced may) (λ a. after a ∙ ap (λ (l : List ℕ). put area l synced a) value)

-- each image of a list that is kept in a longer one
pub torn_kept : (changes : List Change) (area : ℕ) (old new : List MemoryStore) → ((areas : Areas) → HasImage areas old → HasImage areas new) → HasTorn changes area old → HasTorn changes area new
torn_kept changes area old new kept torn = record { whole = λ at bytes loose. kept _ (torn.whole at bytes loose); halved = λ at bytes loose. kept _ (torn.halved at bytes loose) }

-- an image for each piece of an area that is replayed
pub torn_all : (changes : List Change) (area : ℕ) (synced : Areas) (replayed : Replayed) (images : List MemoryStore) → IsReplayed changes area replayed → ((a : ℕ) → synced a ≡ last_synced changes a)
    → ((bytes : List ℕ) → Any (λ v. v.items ≡ bytes) replayed.torn.items → HasImage (put area bytes synced) images) → HasTorn changes area images
torn_all changes area synced replayed images is same found = record { whole = λ at bytes loose. one _ (is.whole at bytes loose); halved = λ at bytes loose. one _ (is.halved at bytes loose) }
  where
    one : (bytes : List ℕ) → Any (λ v. v.items ≡ bytes) replayed.torn.items → HasImage (put area bytes (last_synced changes)) images
    one bytes any = subst (λ (f : Areas). HasImage (put area bytes f) images) (same_areas synced (last_synced changes) same) (found bytes any)

-- an area that isn't held has no loose write
pub torn_everywhere : (changes : List Change) (count : ℕ) (images : List MemoryStore) → ((a : ℕ) → IsWritten changes a → a < count) → ((a : ℕ) → a < count → HasTorn changes a images) → (area : ℕ) → HasTorn changes area images
torn_everywhere changes count images reached torn area = record {
  whole = λ at bytes loose. (torn area (reached area (loose_written changes area at bytes loose))).whole at bytes loose;
  halved = λ at bytes loose. (torn area (reached area (loose_written changes area at bytes loose))).halved at bytes loose;
}
