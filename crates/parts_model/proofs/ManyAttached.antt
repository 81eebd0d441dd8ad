-- Several paths that a file gets together, or none of them; and several that it gives up.
use Rattle.std.proofs.Common.{ℕ, ◌≤◌, ◌≡◌, ◌≢◌, ◌⊎◌, inl, inr, false, List, [], ◌∷◌, ◌++◌, length, map, Contains, Option, Some, None, IsSome, IfSome, refl, sym, ap, arith, ◌∙◌, subst}
use Rattle.std.specs.Prelude.{All, Any}
use Rattle.std.specs.List.{AllByRecursion, AllZip}
use Rattle.member_slots.specs.Members.{Numbered, NumberedMembers, item_at}
use Rattle.file_model.specs.declared.paths.PathSpec.{PathSpec}
use Rattle.path_set.specs.declared.moves.PathMove.{PathMove}
use Rattle.path_set.specs.KeptPaths.{AreShared, KeptPath, KeptPaths, NumberedPaths, spare_of}
use Rattle.path_set.specs.Sharing.{IsNew, IsPut, IsShared, detached, one_more, path_over}
use Rattle.library_paths.specs.AllPaths.{AreKeptFor}
use Rattle.library_paths.proofs.CountLemmas.{contained-count, count-append, count-contained, count-own}
use Rattle.library_paths.proofs.KeptLemmas.{attached, attached-shared, detached-kept, detached-shared}
use Rattle.library_paths.proofs.ListLemmas.{two-from}
use Rattle.library_paths.proofs.LogicalLawsListLemmas.{each-weaker}
use Rattle.library_paths.proofs.NumberLemmas.{IsBelow, any-at, any-new, any-with, at-any}
use Rattle.job_table.specs.Opens.{OpenOrder}
use Rattle.library_model.specs.Named.{Named, named}
use Rattle.library_steps.specs.LogicalFiles.{bases_in}
use Rattle.library_steps.specs.State.{FileState, OpenState, JobState}
use Rattle.parts_model.specs.Indexed.{IsIndexedFor, path_read, rows_paths}
use Rattle.parts_model.specs.PathChanges.{AreNumbers, Attaches, AttachesNone, HasNoChange, IsAttached, StaysKept, detached_each, detached_from}
use Rattle.parts_model.specs.Reads.{IsNumberOf}
use Rattle.parts_model.proofs.IndexPaths.{any-both}
use Rattle.parts_model.proofs.IndexShared.{IsNumbered, IsUnchanged, OpenIsAmong, OpensAreAmong, ReadsAmong, IsIndexed-attached, IsIndexed-detached, IsIndexed-same, jobs-known, paths-attached, stay-detached}
use Rattle.std.proofs.lemmas.List.Elements.{All-from_recursion, recursion_from_All}

-- ---- lists

each-split : (P : PathSpec → Type 0) (front : List PathSpec) (spec : PathSpec) → AllByRecursion P (front ++ spec ∷ []) → AllByRecursion P front × P spec
each-split P [] spec all = (tt, all.0)
each-split P (first ∷ front) spec all = let rest = each-split P front spec all.1 in ((all.0, rest.0), rest.1)

pub all-front : (P : PathSpec → Type 0) (front : List PathSpec) (spec : PathSpec) → All P (front ++ spec ∷ []) → All P front
all-front P front spec all = All-from_recursion P front (each-split P front spec (recursion_from_All P (front ++ spec ∷ []) all)).0

pub all-last : (P : PathSpec → Type 0) (front : List PathSpec) (spec : PathSpec) → All P (front ++ spec ∷ []) → P spec
all-last P front spec all = (each-split P front spec (recursion_from_All P (front ++ spec ∷ []) all)).1

front-moved : (front : List PathSpec) (spec : PathSpec) (all : List PathSpec) → front ++ spec ∷ all ≡ (front ++ spec ∷ []) ++ all
front-moved [] spec all = refl
front-moved (first ∷ front) spec all = ap (λ (rest : List PathSpec). first ∷ rest) (front-moved front spec all)

contained-first : (spec : PathSpec) (specs : List PathSpec) → Contains (spec ∷ specs) spec
contained-first spec specs = count-contained spec (spec ∷ specs) (let one = count-own spec spec specs refl in omega (arith, one))

no-changes : (spec : PathSpec) → IsUnchanged spec []
no-changes spec = tt

contained-behind : (spec other : PathSpec) (specs : List PathSpec) → Contains specs spec → Contains (other ∷ specs) spec
contained-behind spec other specs there =
    count-contained spec (other ∷ specs) (let some = contained-count spec specs there in let sum = count-append spec (other ∷ []) specs in omega (arith, some, sum))

contained-more : (spec : PathSpec) (front specs : List PathSpec) → Contains specs spec → Contains (front ++ specs) spec
contained-more spec front specs there =
    count-contained spec (front ++ specs) (let some = contained-count spec specs there in let sum = count-append spec front specs in omega (arith, some, sum))

contained-ahead : (spec : PathSpec) (specs rest : List PathSpec) → Contains specs spec → Contains (specs ++ rest) spec
contained-ahead spec specs rest there =
    count-contained spec (specs ++ rest) (let some = contained-count spec specs there in let sum = count-append spec specs rest in omega (arith, some, sum))

each-contained-behind : (front : PathSpec) (some specs : List PathSpec) → AllByRecursion (Contains specs) some → AllByRecursion (Contains (front ∷ specs)) some
each-contained-behind front [] specs all = tt
each-contained-behind front (spec ∷ some) specs all = (contained-behind spec front specs all.0, each-contained-behind front some specs all.1)

front-contained : (specs rest : List PathSpec) → AllByRecursion (Contains (specs ++ rest)) specs
front-contained [] rest = tt
front-contained (spec ∷ specs) rest = (contained-first spec (specs ++ rest), each-contained-behind spec specs (specs ++ rest) (front-contained specs rest))

front-there : (specs rest : List PathSpec) (paths : NumberedPaths) → AllByRecursion (λ (spec : PathSpec). Any (λ (p : Numbered KeptPath). p.item.spec ≡ spec) paths) (specs ++ rest)
    → AllByRecursion (λ (spec : PathSpec). Any (λ (p : Numbered KeptPath). p.item.spec ≡ spec) paths) specs
front-there [] rest paths all = tt
front-there (spec ∷ specs) rest paths all = (all.0, front-there specs rest paths all.1)

-- opens that read by some paths read by more
some-each : {A : Type 0} (P Q : A → Type 0) → ((a : A) → P a → Q a) → (o : Option A) → IfSome o P → IfSome o Q
some-each P Q each None is = tt
some-each P Q each (Some a) is = each a is

pub opens-more : (front specs : List PathSpec) (files : Named FileState) (jobs : List JobState) → OpensAreAmong specs files jobs → OpensAreAmong (front ++ specs) files jobs
opens-more front specs files jobs among =
    each-weaker (λ (job : JobState). AllByRecursion (OpenIsAmong specs files) job.opens) (λ (job : JobState). AllByRecursion (OpenIsAmong (front ++ specs) files) job.opens)
    (λ job own. each-weaker (OpenIsAmong specs files) (OpenIsAmong (front ++ specs) files)
    (λ entry is. some-each (ReadsAmong specs (bases_in files) entry.1) (ReadsAmong (front ++ specs) (bases_in files) entry.1)
    (λ f its. record {
      path = some-each (Contains specs) (Contains (front ++ specs)) (λ spec there. contained-more spec front specs there) (path_read (bases_in files) f entry.1) its.path;
      rows = each-weaker (Contains specs) (Contains (front ++ specs)) (λ spec there. contained-more spec front specs there) (rows_paths (bases_in files) f.spec) its.rows;
    }) (named entry.1.file files) is) job.opens own) jobs among

-- ---- one path more

-- the path has this number then
numbered-any : (spec : PathSpec) (members : NumberedMembers) (id : ℕ) (old new : NumberedPaths) → (IsShared spec id old new ⊎ IsPut spec members id old new) → Any (IsNumbered id spec) new
numbered-any spec members id old new (inl its) =
    subst (λ (p : NumberedPaths). Any (IsNumbered id spec) p) (sym its.counted)
    (any-with id its.path (one_more its.path) (IsNumbered id spec) old (λ own. own) its.there (any-at (IsNumbered id spec) id its.path old its.there (refl, its.same)))
numbered-any spec members id old new (inr its) =
    subst (λ (p : NumberedPaths). Any (IsNumbered id spec) p) (sym its.put) (any-new id (path_over spec members) (IsNumbered id spec) old (refl, refl))

module _ (members : NumberedMembers) (front : List PathSpec) (spec : PathSpec) (id : ℕ) (old mid : KeptPaths) (its : IsShared spec id old.paths mid.paths ⊎ IsPut spec members id old.paths mid.paths)
    (spares : (other : ℕ) → spare_of other old ≤ spare_of other mid) where
  one : IsAttached spec members old mid
  one = record { path = (id, its); spares = spares }

  shared-then : AreShared old.paths → AreShared mid.paths
  shared-then shared = attached-shared members spec id old.paths mid.paths shared its

  -- and those before it
  pub attaches-last : (new : KeptPaths) → Attaches front members mid new → Attaches (front ++ spec ∷ []) members old new
  attaches-last new is = record {
    shared = λ shared. is.shared (shared-then shared);
    indexed = λ shared all files jobs orders moves none indexed.
        let parts = each-split (HasNoChange jobs) front spec none in
        subst (λ (specs : List PathSpec). IsIndexedFor specs files members jobs orders moves new) (front-moved front spec all)
        (is.indexed (shared-then shared) (spec ∷ all) files jobs orders moves parts.0 (IsIndexed-attached all files members jobs orders moves spec parts.1 old mid shared one indexed));
  }

  -- or none
  module _ (later new : KeptPaths) (is : AttachesNone front members mid later) (paths : new.paths ≡ detached id later.paths)
      (same : (other : ℕ) → IsSome (item_at other new.paths) → spare_of other new ≡ spare_of other later) where
    -- the path is there still when it is given up
    still : (all : List PathSpec) → StaysKept (spec ∷ all) members mid.paths later.paths → (path : KeptPath) × (item_at id later.paths ≡ Some path) × (path.spec ≡ spec)
    still all stays =
        let any = stays.numbers id spec (contained-first spec all) (numbered-any spec members id old.paths mid.paths its) in
        let found = at-any (IsNumbered id spec) later.paths (two-from IsBelow later.paths stays.shared.ascend) any in
        (found.path, ap (λ (n : ℕ). item_at n later.paths) (sym found.holds.0) ∙ found.at, found.holds.1)

    stays-then : AreShared old.paths → (all : List PathSpec) → AreKeptFor all members old.paths → StaysKept (spec ∷ all) members mid.paths later.paths
    stays-then shared all kept = is.stays (shared-then shared) (spec ∷ all) (attached members spec id old.paths mid.paths shared all kept its)

    stays-new : AreShared old.paths → (all : List PathSpec) → AreKeptFor all members old.paths → StaysKept all members old.paths new.paths
    stays-new shared all kept =
        let stays = stays-then shared all kept in
        let path = still all stays in
        subst (λ (p : NumberedPaths). StaysKept all members old.paths p) (sym paths) (record {
          shared = detached-shared id path.0 later.paths stays.shared path.1;
          kept = detached-kept id path.0 later.paths stays.shared path.1 all members spec stays.kept path.2;
          numbers = λ n other among any.
              stay-detached all [] members [] [] [] spec (no-changes spec) later stays.shared id path.0 path.1 path.2 stays.kept n other among
              (stays.numbers n other (contained-behind other spec all among) (paths-attached all [] members [] [] [] spec (no-changes spec) old mid shared id its n other any));
        })

    pub undone-last : AttachesNone (front ++ spec ∷ []) members old new
    undone-last = record {
      stays = stays-new;
      indexed = λ shared all files jobs orders moves none indexed.
          let parts = each-split (HasNoChange jobs) front spec none in
          let middle = IsIndexed-attached all files members jobs orders moves spec parts.1 old mid shared one indexed in
          let stays = stays-then shared all indexed.paths in
          let path = still all stays in
          let after = is.indexed (shared-then shared) (spec ∷ all) files jobs orders moves parts.0 middle in
          IsIndexed-same all files members jobs orders moves (record { paths = detached id later.paths; rooms = later.rooms }) new paths same
          (IsIndexed-detached all files members jobs orders moves spec parts.1 later stays.shared id path.0 path.1 path.2
          (jobs-known all files members old.paths shared indexed.paths jobs orders indexed.orders) after);
    }

-- ---- none

pub attaches-none : (specs : List PathSpec) (members : NumberedMembers) (kept : KeptPaths) → specs ≡ [] → Attaches specs members kept kept
attaches-none specs members kept is = record {
  shared = λ shared. shared;
  indexed = λ shared all files jobs orders moves none indexed. subst (λ (some : List PathSpec). IsIndexedFor (some ++ all) files members jobs orders moves kept) (sym is) indexed;
}

-- where nothing was done
pub undone-none : (specs : List PathSpec) (members : NumberedMembers) (old new : KeptPaths) → new ≡ old → AttachesNone specs members old new
undone-none specs members old new is =
    subst (λ (k : KeptPaths). AttachesNone specs members old k) (sym is) (record {
      stays = λ shared all kept. record { shared = shared; kept = kept; numbers = λ id spec among any. any };
      indexed = λ shared all files jobs orders moves none indexed. indexed;
    })

-- ---- several that are given up

some-number : (spec : PathSpec) (paths : NumberedPaths) (number : Option ℕ) → Any (λ (path : Numbered KeptPath). path.item.spec ≡ spec) paths → IsNumberOf spec number paths
    → (id : ℕ) × (number ≡ Some id) × Any (IsNumbered id spec) paths
some-number spec paths None there new =
    let both = any-both (λ (path : Numbered KeptPath). path.item.spec ≢ spec) (λ (path : Numbered KeptPath). path.item.spec ≡ spec) paths new there in absurd (both.1 both.2)
some-number spec paths (Some id) there at = (id, refl, at)

-- the others keep their numbers
numbers-after : (specs rest : List PathSpec) (members : NumberedMembers) (spec : PathSpec) (now : KeptPaths) (shared : AreShared now.paths) (id : ℕ) (path : KeptPath)
    (at : item_at id now.paths ≡ Some path) (same : path.spec ≡ spec) → AreKeptFor (spec ∷ (specs ++ rest)) members now.paths → (some : List PathSpec) (ids : List (Option ℕ))
    → AllByRecursion (Contains (specs ++ rest)) some → AllByRecursion (λ (other : PathSpec). Any (λ (p : Numbered KeptPath). p.item.spec ≡ other) now.paths) some
    → AreNumbers now.paths some ids → AreNumbers (detached id now.paths) some ids
numbers-after specs rest members spec now shared id path at same kept [] [] among there are = tt
numbers-after specs rest members spec now shared id path at same kept [] (number ∷ ids) among there are = absurd are
numbers-after specs rest members spec now shared id path at same kept (other ∷ some) [] among there are = absurd are
numbers-after specs rest members spec now shared id path at same kept (other ∷ some) (number ∷ ids) among there are =
    let its = some-number other now.paths number there.0 are.0 in (
      subst (λ (n : Option ℕ). IsNumberOf other n (detached id now.paths)) (sym its.1)
          (stay-detached (specs ++ rest) [] members [] [] [] spec (no-changes spec) now shared id path at same kept its.0 other among.0 its.2),
      numbers-after specs rest members spec now shared id path at same kept some ids among.1 there.1 are.1,
    )

module _ (rest : List PathSpec) (files : Named FileState) (members : NumberedMembers) (jobs : List JobState) (orders : List (Named OpenOrder)) (moves : List (List (List PathMove)))
    (opens : OpensAreAmong rest files jobs) where
  pub giving-each : (specs : List PathSpec) (ids : List (Option ℕ)) (now : KeptPaths) → AreShared now.paths → AreNumbers now.paths specs ids → AllByRecursion (HasNoChange jobs) specs
      → IsIndexedFor (specs ++ rest) files members jobs orders moves now
      → AreShared (detached_each ids now.paths) × IsIndexedFor rest files members jobs orders moves (record { paths = detached_each ids now.paths; rooms = now.rooms })
  giving-each [] [] now shared are none indexed = (shared, indexed)
  giving-each [] (id ∷ ids) now shared are none indexed = absurd are
  giving-each (spec ∷ specs) [] now shared are none indexed = absurd are
  giving-each (spec ∷ specs) (number ∷ ids) now shared are none indexed =
      let its = some-number spec now.paths number indexed.paths.there.0 are.0 in
      let found = at-any (IsNumbered its.0 spec) now.paths (two-from IsBelow now.paths shared.ascend) its.2 in
      let at : item_at its.0 now.paths ≡ Some found.path = ap (λ (n : ℕ). item_at n now.paths) (sym found.holds.0) ∙ found.at in
      let fewer : detached its.0 now.paths ≡ detached_from number now.paths = sym (ap (λ (o : Option ℕ). detached_from o now.paths) its.1) in
      let left = IsIndexed-detached (specs ++ rest) files members jobs orders moves spec none.0 now shared its.0 found.path at found.holds.1 (opens-more specs rest files jobs opens) indexed in
      let numbers = numbers-after specs rest members spec now shared its.0 found.path at found.holds.1 indexed.paths specs ids (front-contained specs rest) (front-there specs rest now.paths indexed.paths.there.1) are.1 in
      subst (λ (p : NumberedPaths). AreShared (detached_each ids p) × IsIndexedFor rest files members jobs orders moves (record { paths = detached_each ids p; rooms = now.rooms })) fewer
      (giving-each specs ids (record { paths = detached its.0 now.paths; rooms = now.rooms }) (detached-shared its.0 found.path now.paths shared at) numbers none.1 left)
