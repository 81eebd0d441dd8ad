-- What a stop leaves while a state is saved beside the old one.
use Rattle.std.proofs.Common.{◌≡◌, ◌≢◌, inl, inr, ℕ, ◌^◌, ◌<◌, ◌≤◌, List, [], ◌∷◌, length, sym, ◌∙◌, ap, subst, arith}
use Rattle.std.specs.List.{AllByRecursion}
use Rattle.std.proofs.lemmas.Bool.Decides.{nat_tests}
use Rattle.store_model.specs.Disk.{Disk, Does, IsDurable, Leaves}
use Rattle.store_model.proofs.Runs.{leaves_does, leaves_stays, leaves_then}
use Rattle.entry_codec.specs.declared.entries.Entry.{Entry}
use Rattle.entry_codec.specs.Spelling.{IsSpelled}
use Rattle.gated_log.specs.Blocks.{Spells}
use Rattle.gated_log.specs.Log.{Anything}
use Rattle.checkpoint.specs.declared.layout.TheConstants.{ROOT_AREA, VERSION}
use Rattle.checkpoint.specs.declared.root.Root.{Root}
use Rattle.checkpoint.specs.declared.root.TheConstants.{FIRST_MEMBER, LAST_STATE_AREA, MAX_NEXT_MEMBER}
use Rattle.checkpoint.specs.Roots.{AreRoots, IsPutting, IsRoot}
use Rattle.checkpoint.specs.States.{spelled}
use Rattle.checkpoint.specs.Holding.{Holds, IsKept, IsSaving, LeavesReceivers, RootsState, other_area, root_beside, root_of_state}
use Rattle.checkpoint.proofs.Formats.{stays_here}
use Rattle.checkpoint.proofs.Kept.{holds_apart, kept_apart, kept_durable, left_roots, receivers_does, receivers_then, saved_same}

-- ---- the other area

pub other_some : (area : ℕ) → other_area area ≢ ROOT_AREA
other_some area = grind (arith, nat_tests)

pub other_below : (area : ℕ) → other_area area ≤ LAST_STATE_AREA
other_below area = grind (arith, nat_tests)

pub other_apart : (area : ℕ) → area ≢ other_area area
other_apart area = grind (arith, nat_tests)

-- ---- the root of the new state

pub is_root_beside : (last : Root) (size sequence next_member : ℕ) → IsRoot last → size < 2 ^ 64 → sequence < 2 ^ 64 → FIRST_MEMBER ≤ next_member → next_member ≤ MAX_NEXT_MEMBER → IsRoot (root_beside last size sequence next_member)
is_root_beside last size sequence next_member is fits short from to = record {
  area = other_below last.area;
  sequence = short;
  bytes = fits;
  receiver_from = is.receiver_from;
  receiver_to = is.receiver_to;
  member_from = from;
  member_to = to;
  none = λ none. absurd (other_some last.area none);
}

pub beside_is : (root last now : Root) (state : List Entry) (size sequence next_member : ℕ) → root ≡ root_beside last size sequence next_member → last ≡ now → size ≡ length (spelled state) → root ≡ root_of_state now state sequence next_member
beside_is root last now state size sequence next_member is same sizes =
    is ∙ ap (λ (r : Root). root_beside r size sequence next_member) same ∙ ap (λ (n : ℕ). root_beside now n sequence next_member) sizes

-- ---- step by step: the state is written, and then its root

module _ (roots : RootsState) (earlier : List Root) (old : List Entry) (d0 : Disk) (holds : Holds roots earlier d0) (kept : IsKept roots.last old d0) (root : Root) (state : List Entry) where
  pub none_moment : Leaves d0 d0 (IsSaving earlier roots.last old root state)
  none_moment = leaves_stays d0 d0 (IsSaving earlier roots.last old root state) (stays_here d0) (λ c may. inl (record { roots = left_roots roots earlier d0 c holds may; saved = kept.left c may }))

  module _ (some : root.area ≢ ROOT_AREA) (apart : roots.last.area ≢ root.area) (d1 : Disk) (saved : Does root.area Anything d0 d1) where
    pub saving_moment : Leaves d0 d1 (IsSaving earlier roots.last old root state)
    saving_moment =
        leaves_does root.area Anything d0 d1 (IsSaving earlier roots.last old root state) saved
        (λ d c may only. inl (record {
          roots = subst (λ (l : List ℕ). AreRoots earlier roots.last l) (sym (only.others ROOT_AREA (λ same. some (sym same)))) (left_roots roots earlier d0 d holds may);
          saved = saved_same roots.last old d c (λ named. only.others roots.last.area apart) (kept.left d may);
        }))

    pub saved_holds : Holds roots earlier d1
    saved_holds = holds_apart roots earlier root.area Anything d0 d1 saved some holds

    saved_kept : IsKept roots.last old d1
    saved_kept = kept_apart roots.last old root.area Anything d0 d1 saved (λ named. apart) kept

    -- the root is put while the new state is there
    pub putting_moment : (d2 : Disk) → IsKept root state d1 → Does ROOT_AREA (λ _ bytes. IsPutting earlier roots.last root bytes) d1 d2 → Leaves d0 d2 (IsSaving earlier roots.last old root state)
    putting_moment d2 new put =
        leaves_then d0 d1 d2 (IsSaving earlier roots.last old root state) saving_moment
        (leaves_does ROOT_AREA (λ _ bytes. IsPutting earlier roots.last root bytes) d1 d2 (IsSaving earlier roots.last old root state) put
        (λ d c may only. elim only.here [
          | inl before ↦ inl (record { roots = before; saved = saved_same roots.last old d c (λ named. only.others roots.last.area named) (saved_kept.left d may) })
          | inr after ↦ inr (record { roots = after; saved = saved_same root state d c (λ named. only.others root.area named) (new.left d may) })
        ]))

-- roots with other room, and the root by its own word
pub moment_is : (new old_last : Root) (root wanted : Root) (earlier : List Root) (old state : List Entry) (d0 d1 : Disk) → new ≡ old_last → root ≡ wanted → Leaves d0 d1 (IsSaving earlier new old root state) → Leaves d0 d1 (IsSaving earlier old_last old wanted state)
moment_is new old_last root wanted earlier old state d0 d1 last is leaves =
    subst (λ (r : Root). Leaves d0 d1 (IsSaving earlier old_last old r state)) is (subst (λ (r : Root). Leaves d0 d1 (IsSaving earlier r old root state)) last leaves)

-- what was written is kept, before its root is put and after
pub new_kept : (root : Root) (block : List ℕ) (state : List Entry) (d1 : Disk) → root.area ≢ 0 → Spells root.area 0 VERSION (block ∷ []) (d1.seen root.area) → IsDurable root.area d1 → block ≡ spelled state → root.length ≡ length (spelled state) → AllByRecursion IsSpelled state → IsKept root state d1
new_kept root block state d1 some spells durable is size each =
    kept_durable root state d1 some (record { each = each; whole = sym size; spells = subst (λ (l : List ℕ). Spells root.area 0 VERSION (l ∷ []) (d1.seen root.area)) is spells }) durable

pub put_kept : (root : Root) (state : List Entry) (d1 d2 : Disk) → Does ROOT_AREA Anything d1 d2 → IsKept root state d1 → IsKept root state d2
put_kept root state d1 d2 put kept = kept_apart root state ROOT_AREA Anything d1 d2 put (λ some. some) kept

-- nothing but the two areas is touched
pub saving_apart : (area : ℕ) (d0 d1 : Disk) → area ≤ LAST_STATE_AREA → Does area Anything d0 d1 → LeavesReceivers d0 d1
saving_apart area d0 d1 below saved = receivers_does area Anything d0 d1 below saved

pub putting_apart : (area : ℕ) (d0 d1 d2 : Disk) → area ≤ LAST_STATE_AREA → Does area Anything d0 d1 → Does ROOT_AREA Anything d1 d2 → LeavesReceivers d0 d2
putting_apart area d0 d1 d2 below saved put = receivers_then d0 d1 d2 (saving_apart area d0 d1 below saved) (receivers_does ROOT_AREA Anything d1 d2 (omega arith) put)
