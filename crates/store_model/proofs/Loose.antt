-- One change more: what was last synced, and which writes came since.
use Rattle.std.proofs.Common.{◌≡◌, ◌≢◌, ◌⊎◌, inl, inr, ℕ, ◌<◌, ◌≤◌, List, [], ◌∷◌, ◌++◌, take, refl, sym, ◌∙◌, ap, subst, arith}
use Rattle.std.proofs.lemmas.Bool.{cases_eq}
use Rattle.std.proofs.lemmas.List.{take_all}
use Rattle.std.specs.List.{AllByRecursion}
use Rattle.store_model.specs.Disk.{Areas}
use Rattle.store_model.specs.Past.{blank, changed, seen_after}
use Rattle.store_model.specs.Replayed.{changed_area}
use Rattle.store_model.specs.Steps.{put_here, put_others}
use Rattle.store_model.specs.Synced.{resynced, synced_after, last_synced, Syncs, Writes, WritesTo, IsWritten, IsLoose}
use Rattle.store_model.specs.declared.past.Change.{Change}
use Rattle.store_model.specs.declared.past.Change.TheVariants.{Wrote, Shortened, Synced}

synced_after-push : (seen synced : Areas) (changes : List Change) (change : Change) → synced_after seen synced (changes ++ change ∷ []) ≡ resynced change (seen_after seen changes) (synced_after seen synced changes)
synced_after-push seen synced [] change = refl
synced_after-push seen synced (first ∷ changes) change = synced_after-push (changed first seen) (resynced first seen synced) changes change

pub last_synced-push : (changes : List Change) (change : Change) (area : ℕ) → last_synced (changes ++ change ∷ []) area ≡ resynced change (seen_after blank changes) (last_synced changes) area
last_synced-push changes change area = ap (λ (f : Areas). f area) (synced_after-push blank blank changes change)

-- a change to another area leaves what was last synced
pub last_synced-other : (changes : List Change) (change : Change) (area : ℕ) → changed_area change ≢ area → last_synced (changes ++ change ∷ []) area ≡ last_synced changes area
last_synced-other changes (Wrote other at bytes) area apart = last_synced-push changes (Wrote other at bytes) area
last_synced-other changes (Shortened other n) area apart = last_synced-push changes (Shortened other n) area
last_synced-other changes (Synced other) area apart = last_synced-push changes (Synced other) area ∙ put_others other _ (last_synced changes) area (λ e. apart (sym e))

-- a sync takes what a read gives
pub last_synced-here : (changes : List Change) (area : ℕ) → last_synced (changes ++ Synced area ∷ []) area ≡ seen_after blank changes area
last_synced-here changes area = last_synced-push changes (Synced area) area ∙ put_here area _ (last_synced changes)

never_push : (area : ℕ) (changes : List Change) (change : Change) → AllByRecursion (λ later. ¬ Syncs area later) (changes ++ change ∷ []) → AllByRecursion (λ later. ¬ Syncs area later) changes × (¬ Syncs area change)
never_push area [] change all = (tt, all.0)
never_push area (first ∷ changes) change all = let more = never_push area changes change all.1 in ((all.0, more.0), more.1)

-- a loose write is the last change, or was loose and isn't synced by it
pub loose_push : (changes : List Change) (change : Change) (area at : ℕ) (bytes : List ℕ) → IsLoose (changes ++ change ∷ []) area at bytes → Writes area at bytes change ⊎ (IsLoose changes area at bytes × (¬ Syncs area change))
loose_push [] change area at bytes (inl here) = inl here.0
loose_push [] change area at bytes (inr none) = absurd none
loose_push (first ∷ changes) change area at bytes (inl here) = let never = never_push area changes change here.1 in inr (inl (here.0, never.0), never.1)
loose_push (first ∷ changes) change area at bytes (inr more) = elim (loose_push changes change area at bytes more) [
  | inl written ↦ inl written
  | inr both ↦ inr (inr both.0, both.1)
]

pub writes_here : (change : Change) (area at : ℕ) (bytes : List ℕ) → Writes area at bytes change → changed_area change ≡ area
writes_here (Wrote other place piece) area at bytes writes = writes.0
writes_here (Shortened other n) area at bytes writes = absurd writes
writes_here (Synced other) area at bytes writes = absurd writes

pub loose_written : (changes : List Change) (area at : ℕ) (bytes : List ℕ) → IsLoose changes area at bytes → IsWritten changes area
loose_written [] area at bytes none = absurd none
loose_written (Wrote other place piece ∷ changes) area at bytes (inl here) = inl here.0.0
loose_written (Shortened other n ∷ changes) area at bytes (inl here) = absurd here.0
loose_written (Synced other ∷ changes) area at bytes (inl here) = absurd here.0
loose_written (change ∷ changes) area at bytes (inr more) = inr (loose_written changes area at bytes more)

pub written_push : (changes : List Change) (change : Change) (area : ℕ) → IsWritten (changes ++ change ∷ []) area → IsWritten changes area ⊎ WritesTo area change
written_push [] change area (inl here) = inr here
written_push [] change area (inr none) = absurd none
written_push (first ∷ changes) change area (inl here) = inl (inl here)
written_push (first ∷ changes) change area (inr more) = elim (written_push changes change area more) [
  | inl old ↦ inl (inr old)
  | inr new ↦ inr new
]

-- areas that are written are held, after one change more
pub push_reached : (changes pushed : List Change) (change : Change) (few more : ℕ) → pushed ≡ changes ++ change ∷ [] → few ≤ more → ((area : ℕ) → IsWritten changes area → area < few) → ((area : ℕ) → WritesTo area change → area < more) → (area : ℕ) → IsWritten pushed area → area < more
push_reached changes pushed change few more push le old new area written = elim (written_push changes change area (subst (λ (l : List Change). IsWritten l area) push written)) [
  | inl before ↦ let below = old area before in omega arith
  | inr here ↦ new area here
]

-- an area that was never written has nothing that was synced
nothing_synced : (changes : List Change) (seen synced : Areas) (area : ℕ) → (¬ IsWritten changes area) → seen area ≡ [] → synced area ≡ [] → synced_after seen synced changes area ≡ []
nothing_synced [] seen synced area none empty nothing = nothing
nothing_synced (Wrote other at bytes ∷ changes) seen synced area none empty nothing =
    nothing_synced changes (changed (Wrote other at bytes) seen) synced area (λ more. none (inr more)) (put_others other _ seen area (λ e. none (inl (sym e))) ∙ empty) nothing
nothing_synced (Shortened other n ∷ changes) seen synced area none empty nothing =
    nothing_synced changes (changed (Shortened other n) seen) synced area (λ more. none (inr more))
    (elim (cases_eq area other) [
      | inl same ↦
          let here : changed (Shortened other n) seen area ≡ take n (seen area) = subst (λ (k : ℕ). changed (Shortened k n) seen area ≡ take n (seen area)) same (put_here area (take n (seen area)) seen) in
          here ∙ ap (λ (l : List ℕ). take n l) empty ∙ take_all n [] (omega arith)
      | inr apart ↦ put_others other _ seen area apart ∙ empty
    ])
    nothing
nothing_synced (Synced other ∷ changes) seen synced area none empty nothing =
    nothing_synced changes seen (resynced (Synced other) seen synced) area (λ more. none (inr more)) empty
    (elim (cases_eq area other) [
      | inl same ↦
          let here : resynced (Synced other) seen synced area ≡ seen area = subst (λ (k : ℕ). resynced (Synced k) seen synced area ≡ seen area) same (put_here area (seen area) synced) in
          here ∙ empty
      | inr apart ↦ put_others other _ synced area apart ∙ nothing
    ])

pub not_reached : (changes : List Change) (count area : ℕ) → ((a : ℕ) → IsWritten changes a → a < count) → count ≤ area → last_synced changes area ≡ []
not_reached changes count area reached above = nothing_synced changes blank blank area (λ written. let below = reached area written in omega arith) refl refl
