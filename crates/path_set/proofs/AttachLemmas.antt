-- What a file that gets its path learns of the steps before.
use Rattle.std.proofs.Common.{ℕ, ◌≡◌, ◌≢◌, ◌==◌, Bool, true, false, cond, List, [], ◌∷◌, Option, Some, None, sym, ap, ◌∙◌}
use Rattle.std.specs.List.{AllByRecursion}
use Rattle.std.proofs.lemmas.List.Elements.{recursion_from_All}
use Rattle.key_pages.specs.declared.entries.Entry.{Entry}
use Rattle.file_model.specs.declared.paths.PathSpec.{PathSpec}
use Rattle.file_model.specs.Paths.{repeated_in}
use Rattle.member_slots.specs.Members.{Numbered, NumberedMembers, item_at}
use Rattle.path_entrants.specs.Repeated.{least_repeated, TellsRepeated}
use Rattle.path_set.specs.KeptPaths.{KeptPath, NumberedPaths, entries_of}
use Rattle.path_set.specs.Sharing.{IsNew, IsShared}
use Rattle.path_set.proofs.ShareLemmas.{judged}

all-at : (spec : PathSpec) (id : ℕ) (found : KeptPath) (paths : NumberedPaths) → AllByRecursion (λ (path : Numbered KeptPath). path.item.spec ≢ spec) paths
    → item_at id paths ≡ Some found → found.spec ≡ spec → ⊥
all-at spec id found [] absent at same = let e : ◌≡◌ {A = Option KeptPath} None (Some found) = at in cc
all-at spec id found (path ∷ paths) absent at same = by (path.number == id) at (all-at spec id found paths absent.1)
  where
    by : (b : Bool) → cond b (Some path.item) (item_at id paths) ≡ Some found → (item_at id paths ≡ Some found → found.spec ≡ spec → ⊥) → ⊥
    by true is rest = absent.0 (let e : path.item ≡ found = cc in ap (λ (p : KeptPath). p.spec) e ∙ same)
    by false is rest = rest is same

-- a path that is shared was kept before
pub shared-not-new : (spec : PathSpec) (id : ℕ) (old new : NumberedPaths) → IsShared spec id old new → IsNew spec old → ⊥
shared-not-new spec id old new shared absent =
    all-at spec id shared.path old (recursion_from_All (λ (path : Numbered KeptPath). path.item.spec ≢ spec) old absent) shared.there shared.same

-- its keys, judged
pub judged-put : (spec by : PathSpec) (members : NumberedMembers) (entries : List Entry) (found : Option ℕ) → by ≡ spec → entries ≡ entries_of by members
    → found ≡ cond by.unique (least_repeated entries entries) None → TellsRepeated spec members → repeated_in spec members ≡ found
judged-put spec by members entries found own is told tells =
    sym (judged spec members entries (is ∙ ap (λ (s : PathSpec). entries_of s members) own) tells)
    ∙ ap (λ (s : PathSpec). cond s.unique (least_repeated entries entries) None) (sym own)
    ∙ sym told
