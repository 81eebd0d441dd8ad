-- The kept paths are those of a library still, where a file gets a path or gives one up, where a member comes, and where files change.
use Rattle.std.proofs.Common.{ℕ, suc, ◌*◌, ◌<◌, ◌≤◌, ◌≡◌, ◌≢◌, ◌==◌, ◌||◌, ◌⊎◌, inl, inr, nat_lt, Bool, true, false, cond, not, List, [], ◌∷◌, ◌++◌, length, map, get_or, Contains, Option, Some, None, is_some, IsSome, IfSome, refl, sym, ap, arith, ◌∙◌, subst}
use Rattle.std.specs.Prelude.{All, Any}
use Rattle.std.specs.List.{AllByRecursion, AllZip, list_any}
use Rattle.std.proofs.lemmas.Bool.{cond-true, eqb-true}
use Rattle.std.proofs.lemmas.Bool.Decides.{nat_tests}
use Rattle.std.proofs.lemmas.List.Elements.{All-from_recursion, recursion_from_All}
use Rattle.access_path.specs.Moves.{Move}
use Rattle.member_slots.specs.Members.{Numbered, NumberedMembers, item_at, put_item, with_item, without_item}
use Rattle.file_model.specs.declared.paths.PathSpec.{PathSpec}
use Rattle.library_steps.specs.Bases.{Bases, FileSpec, PhysicalFile, LogicalFile, base_names}
use Rattle.path_set.specs.declared.moves.PathMove.{PathMove}
use Rattle.path_set.specs.KeptPaths.{KeptPath, KeptPaths, NumberedPaths, AreOver, AreShared, spare_of}
use Rattle.path_set.specs.RecordChanges.{RecordChange, reversed, moves_of, in_path, moves_in}
use Rattle.path_set.specs.MemberSteps.{is_over}
use Rattle.path_set.specs.Sharing.{IsShared, IsPut, detached, given_up, one_fewer, one_more, path_over}
use Rattle.path_set.proofs.MemberStepLemmas.{moves-others}
use Rattle.library_paths.specs.AllPaths.{AreKeptFor, count_in}
use Rattle.library_paths.proofs.CountLemmas.{contained-count, count-own}
use Rattle.library_paths.proofs.KeptLemmas.{attached, counted-alike, detached-kept, kept-contained}
use Rattle.library_paths.proofs.ListLemmas.{EachTwo, each-filter, each-of, filter-all, two-from}
use Rattle.library_paths.proofs.NumberLemmas.{IsBelow, any-put, any-with, any-without, each-at, each-put, each-with, under}
use Rattle.lawful_states.proofs.NameLemmas.{some-equal}
use Rattle.job_table.specs.Opens.{OpenOrder, JoinOrder}
use Rattle.library_model.specs.Named.{Named, named}
use Rattle.library_steps.specs.LogicalFiles.{bases_in}
use Rattle.library_steps.specs.State.{FileState, OpenState, JobState}
use Rattle.parts_model.specs.Indexed.{AreOfBytes, AreSameBasesBy, AreViews, IsIndexedFor, OpensRead, ReadsBy, ReadsFile, ReadsIn, HaveSpares, changes_over, moves_back, moves_of_job, path_read, record_change, AreNumbersOf, ReadsRowsBy, rows_paths}
use Rattle.parts_model.specs.PathChanges.{IsAttached}
use Rattle.lawful_states.proofs.BaseLemmas.{Keeps-self}
use Rattle.parts_model.proofs.IndexPaths.{FileStays, FilesStay, OfChanges, PathsStay, changes-each, changes-none, moves-among, orders-stay, read-stays, any-both}
use Rattle.library_steps.below.dds_logical.specs.declared.views.LogicalSpec.TheVariants.{Simple, Multi, Join}

pub clash : {b : Bool} → b ≡ true → b ≡ false → ⊥
clash yes_is no_is = absurd cc

-- ---- lists

pub zip-with : {A B : Type 0} (P : A → Type 0) (R S : A → B → Type 0) (xs : List A) (ys : List B) → ((x : A) (y : B) → P x → R x y → S x y) → AllByRecursion P xs → AllZip R xs ys → AllZip S xs ys
zip-with P R S [] [] each all zip = tt
zip-with P R S [] (y ∷ ys) each all zip = absurd zip
zip-with P R S (x ∷ xs) [] each all zip = absurd zip
zip-with P R S (x ∷ xs) (y ∷ ys) each all zip = (each x y all.0 zip.0, zip-with P R S xs ys each all.1 zip.1)

-- a path of this number and specification
abbrev pub IsNumbered : ℕ → PathSpec → Numbered KeptPath → Type 0
IsNumbered n spec path = (path.number ≡ n) × (path.item.spec ≡ spec)

-- each path is found by its number
pub some-there : (paths : NumberedPaths) → AllByRecursion (λ (p : Numbered KeptPath). (more : NumberedPaths) → IsSome (item_at p.number (p ∷ more))) paths
some-there [] = tt
some-there (p ∷ paths) = (
  λ more. ap (λ (o : Option KeptPath). is_some o) (cond-true (p.number == p.number) (Some p.item) (item_at p.number more) (let e : (p.number == p.number) ≡ true = grind (arith, nat_tests) in e)),
  some-there paths,
)

pub numbers-there : (paths : NumberedPaths) → All (λ (p : Numbered KeptPath). IsSome (item_at p.number paths)) paths
numbers-there paths = All-from_recursion (λ (p : Numbered KeptPath). IsSome (item_at p.number paths)) paths (go paths)
  where
    later : (b : Bool) (number : ℕ) (item : KeptPath) (rest : NumberedPaths) → IsSome (item_at number rest) → IsSome (cond b (Some item) (item_at number rest))
    later true number item rest there = refl
    later false number item rest there = there

    go : (ps : NumberedPaths) → AllByRecursion (λ (p : Numbered KeptPath). IsSome (item_at p.number ps)) ps
    go [] = tt
    go (p ∷ ps) = (
      (some-there (p ∷ ps)).0 ps,
      each-of (λ (q : Numbered KeptPath). IsSome (item_at q.number ps)) (λ (q : Numbered KeptPath). IsSome (item_at q.number (p ∷ ps)))
          (λ q there. later (p.number == q.number) q.number p.item ps there) ps (go ps),
    )

-- ---- what a path that isn't over a changed member leaves as it was

-- no open commit cycle has changed a member that the path is over
abbrev pub IsUnchanged : PathSpec → List JobState → Type 0
IsUnchanged spec jobs = OfChanges (λ undo. is_over undo.member spec ≡ false) jobs

-- a path has memory for the moves that take the changes of members that it is over back
abbrev pub HasBackRoom : List JobState → KeptPaths → Numbered KeptPath → Type 0
HasBackRoom jobs kept path = changes_over path.item.spec jobs * length path.item.spec.formats ≤ spare_of path.number kept

room-unchanged : (spec : PathSpec) (jobs : List JobState) (kept : KeptPaths) (number : ℕ) → IsUnchanged spec jobs → changes_over spec jobs * length spec.formats ≤ spare_of number kept
room-unchanged spec jobs kept number unchanged =
    let none : changes_over spec jobs * length spec.formats ≡ 0 * length spec.formats = ap (λ (n : ℕ). n * length spec.formats) (changes-none spec jobs unchanged) in
    omega (arith, none)

-- the moves of a change, where another number of files has a path
moves-with : (c : RecordChange) (id : ℕ) (path item : KeptPath) → item.spec ≡ path.spec → (paths : NumberedPaths) → item_at id paths ≡ Some path
    → moves_in c (with_item id item paths) ≡ moves_in c paths
moves-with c id path item same [] at = refl
moves-with c id path item same (p ∷ paths) at = by (p.number == id) refl at (λ e. moves-with c id path item same paths e)
  where
    by : (b : Bool) → (p.number == id) ≡ b → cond b (Some p.item) (item_at id paths) ≡ Some path
        → (item_at id paths ≡ Some path → moves_in c (with_item id item paths) ≡ moves_in c paths)
        → moves_in c (cond b (under id item ∷ paths) (p ∷ with_item id item paths)) ≡ moves_in c (p ∷ paths)
    by true own e more =
        let number : id ≡ p.number = sym (eqb-true p.number id own) in
        let spec : item.spec ≡ p.item.spec = same ∙ ap (λ (k : KeptPath). k.spec) (sym (some-equal e)) in
        λ i. in_path (number i) (moves_of c (spec i)) ++ moves_in c paths
    by false other e more = ap (λ (w : List PathMove). in_path p.number (moves_of c p.item.spec) ++ w) (more e)

-- where one is taken out that has no part in it
moves-without : (c : RecordChange) (id : ℕ) (path : KeptPath) → moves_of c path.spec ≡ [] → (paths : NumberedPaths) → EachTwo IsBelow paths → item_at id paths ≡ Some path
    → moves_in c (without_item id paths) ≡ moves_in c paths
moves-without c id path none [] two at = refl
moves-without c id path none (p ∷ paths) two at = by (p.number == id) refl at (λ e. moves-without c id path none paths two.1 e)
  where
    left : p.number ≡ id → without_item id paths ≡ paths
    left own =
        filter-all (λ (q : Numbered KeptPath). not (q.number == id)) paths
        (each-of (IsBelow p) (λ (q : Numbered KeptPath). not (q.number == id) ≡ true)
        (λ q later. let next : p.number < q.number = later in ap (λ (b : Bool). not b) (let differs : (q.number == id) ≡ false = grind (arith, nat_tests) in differs)) paths two.0)

    by : (b : Bool) → (p.number == id) ≡ b → cond b (Some p.item) (item_at id paths) ≡ Some path → (item_at id paths ≡ Some path → moves_in c (without_item id paths) ≡ moves_in c paths)
        → moves_in c (cond (not b) (p ∷ without_item id paths) (without_item id paths)) ≡ moves_in c (p ∷ paths)
    by true own e more =
        ap (moves_in c) (left (eqb-true p.number id own))
        ∙ sym (ap (λ (w : List Move). in_path p.number w ++ moves_in c paths) (ap (λ (k : KeptPath). moves_of c k.spec) (some-equal e) ∙ none))
    by false other e more = ap (λ (w : List PathMove). in_path p.number (moves_of c p.item.spec) ++ w) (more e)

-- where one is put that has no part in it
moves-put : (c : RecordChange) (id : ℕ) (item : KeptPath) (paths : NumberedPaths) → item_at id paths ≡ None → moves_of c item.spec ≡ [] → moves_in c (put_item id item paths) ≡ moves_in c paths
moves-put c id item [] none apart = ap (λ (w : List Move). in_path id w ++ []) apart
moves-put c id item (path ∷ paths) none apart = by (path.number == id) (nat_lt path.number id) none (λ later. moves-put c id item paths later apart)
  where
    by : (b less : Bool) → cond b (Some path.item) (item_at id paths) ≡ None → (item_at id paths ≡ None → moves_in c (put_item id item paths) ≡ moves_in c paths)
        → moves_in c (cond less (path ∷ put_item id item paths) (cond b (under id item ∷ paths) (under id item ∷ path ∷ paths))) ≡ moves_in c (path ∷ paths)
    by true less absent more = absurd cc
    by false true absent more = ap (λ (w : List PathMove). in_path path.number (moves_of c path.item.spec) ++ w) (more absent)
    by false false absent more = ap (λ (w : List Move). in_path id w ++ moves_in c (path ∷ paths)) apart

-- ---- files that stay

pub same-bases : (bases : Bases) (spec : FileSpec) → AreSameBasesBy bases bases spec
same-bases bases (PhysicalFile spec) = tt
same-bases bases (LogicalFile spec) = each (base_names spec)
  where
    each : (names : List (List ℕ)) → AllByRecursion (λ name. bases name ≡ bases name) names
    each [] = tt
    each (name ∷ names) = (refl, each names)

pub files-stay : (files : Named FileState) → FilesStay files files
files-stay files name file here = record { kept = record { another = file; there = here; keeps = Keeps-self file }; bases = same-bases (bases_in files) file.spec }

pub paths-stay : (paths : NumberedPaths) → PathsStay paths paths
paths-stay paths id spec any = any

-- the files that are open stay
abbrev pub OpenStays : Named FileState → Named FileState → List ℕ × OpenState → Type 0
OpenStays files others entry = (file : FileState) → named entry.1.file files ≡ Some file → FileStays files others entry.1.file file

abbrev pub OpensStay : Named FileState → Named FileState → List JobState → Type 0
OpensStay files others jobs = AllByRecursion (λ job. AllByRecursion (OpenStays files others) job.opens) jobs

pub opens-stay : (files others : Named FileState) → FilesStay files others → (jobs : List JobState) → OpensStay files others jobs
opens-stay files others stay [] = tt
opens-stay files others stay (job ∷ jobs) = (each job.opens, opens-stay files others stay jobs)
  where
    each : (opens : Named OpenState) → AllByRecursion (OpenStays files others) opens
    each [] = tt
    each (entry ∷ opens) = (stay entry.1.file, each opens)

-- ---- opens that read by one of some paths

pub record ReadsAmong (specs : List PathSpec) (bases : Bases) (opened : OpenState) (file : FileState) : Type 0 where
  pub path : IfSome (path_read bases file opened) (Contains specs)
  pub rows : AllByRecursion (Contains specs) (rows_paths bases file.spec)

abbrev pub OpenIsAmong : List PathSpec → Named FileState → List ℕ × OpenState → Type 0
OpenIsAmong specs files entry = IfSome (named entry.1.file files) (ReadsAmong specs (bases_in files) entry.1)

abbrev pub OpensAreAmong : List PathSpec → Named FileState → List JobState → Type 0
OpensAreAmong specs files jobs = AllByRecursion (λ job. AllByRecursion (OpenIsAmong specs files) job.opens) jobs

-- a kept path of these specifications stays, under its number
abbrev pub StayAmong : List PathSpec → NumberedPaths → NumberedPaths → Type 0
StayAmong specs old new = (n : ℕ) (spec : PathSpec) → Contains specs spec → Any (IsNumbered n spec) old → Any (IsNumbered n spec) new

reads-among : (specs : List PathSpec) (old new : NumberedPaths) (path : Option PathSpec) (order : OpenOrder) → StayAmong specs old new → IfSome path (Contains specs) → ReadsBy old path order
    → ReadsBy new path order
reads-among specs old new None order stay among is = is
reads-among specs old new (Some spec) order stay among is = record { path = (is.path.0, is.path.1, stay is.path.0 spec among is.path.2); formats = is.formats }

numbers-among : (specs : List PathSpec) (old new : NumberedPaths) → StayAmong specs old new → (some : List PathSpec) (ids : List ℕ) → AllByRecursion (Contains specs) some → AreNumbersOf old some ids
    → AreNumbersOf new some ids
numbers-among specs old new stay [] [] among are = tt
numbers-among specs old new stay [] (id ∷ ids) among are = absurd are
numbers-among specs old new stay (spec ∷ some) [] among are = absurd are
numbers-among specs old new stay (spec ∷ some) (id ∷ ids) among are = (stay id spec among.0 are.0, numbers-among specs old new stay some ids among.1 are.1)

rows-among : (specs : List PathSpec) (old new : NumberedPaths) (bases : Bases) (spec : FileSpec) (join : Option JoinOrder) → StayAmong specs old new → AllByRecursion (Contains specs) (rows_paths bases spec)
    → ReadsRowsBy bases old spec join → ReadsRowsBy bases new spec join
rows-among specs old new bases (PhysicalFile spec) join stay among is = is
rows-among specs old new bases (LogicalFile (Simple view)) join stay among is = is
rows-among specs old new bases (LogicalFile (Multi views)) join stay among is = is
rows-among specs old new bases (LogicalFile (Join view)) None stay among is = absurd is
rows-among specs old new bases (LogicalFile (Join view)) (Some join) stay among is =
    record { paths = numbers-among specs old new stay (rows_paths bases (LogicalFile (Join view))) join.paths among is.paths; parts = is.parts; sequences = is.sequences }

open-among : (specs : List PathSpec) (files : Named FileState) (old new : NumberedPaths) → StayAmong specs old new → (entry : List ℕ × OpenState) (order : List ℕ × OpenOrder)
    → OpenIsAmong specs files entry → ReadsIn files old entry order → ReadsIn files new entry order
open-among specs files old new stay entry order among reads = by (named entry.1.file files) among reads
  where
    by : (o : Option FileState) → IfSome o (ReadsAmong specs (bases_in files) entry.1) → ReadsFile (bases_in files) old entry.1 order.1 o
        → ReadsFile (bases_in files) new entry.1 order.1 o
    by None own h = absurd h
    by (Some file) own h = (reads-among specs old new (path_read (bases_in files) file entry.1) order.1 stay own.path h.0, h.1, rows-among specs old new (bases_in files) file.spec order.1.join stay own.rows h.2)

-- each open reads by paths among those for which the kept ones are
module _ (specs : List PathSpec) (files : Named FileState) (members : NumberedMembers) (kept : NumberedPaths) (shared : AreShared kept) (are : AreKeptFor specs members kept) where
  number-among : (id : ℕ) (spec : PathSpec) → Any (IsNumbered id spec) kept → Contains specs spec
  number-among id spec any =
      let found = any-both (λ (q : Numbered KeptPath). Contains specs q.item.spec) (IsNumbered id spec) kept (kept-contained specs members kept shared are) any in
      subst (Contains specs) found.2.1 found.1

  path-among : (path : Option PathSpec) (order : OpenOrder) → ReadsBy kept path order → IfSome path (Contains specs)
  path-among None order is = tt
  path-among (Some spec) order is = number-among is.path.0 spec is.path.2

  each-among : (some : List PathSpec) (ids : List ℕ) → AreNumbersOf kept some ids → AllByRecursion (Contains specs) some
  each-among [] [] numbers = tt
  each-among [] (id ∷ ids) numbers = tt
  each-among (spec ∷ some) [] numbers = absurd numbers
  each-among (spec ∷ some) (id ∷ ids) numbers = (number-among id spec numbers.0, each-among some ids numbers.1)

  rows-known : (bases : Bases) (spec : FileSpec) (join : Option JoinOrder) → ReadsRowsBy bases kept spec join → AllByRecursion (Contains specs) (rows_paths bases spec)
  rows-known bases (PhysicalFile spec) join is = tt
  rows-known bases (LogicalFile (Simple view)) join is = tt
  rows-known bases (LogicalFile (Multi views)) join is = tt
  rows-known bases (LogicalFile (Join view)) None is = absurd is
  rows-known bases (LogicalFile (Join view)) (Some join) is = each-among (rows_paths bases (LogicalFile (Join view))) join.paths is.paths

  open-known : (entry : List ℕ × OpenState) (order : List ℕ × OpenOrder) → ReadsIn files kept entry order → OpenIsAmong specs files entry
  open-known entry order reads = by (named entry.1.file files) reads
    where
      by : (o : Option FileState) → ReadsFile (bases_in files) kept entry.1 order.1 o → IfSome o (ReadsAmong specs (bases_in files) entry.1)
      by None h = absurd h
      by (Some file) h = record { path = path-among (path_read (bases_in files) file entry.1) order.1 h.0; rows = rows-known (bases_in files) file.spec order.1.join h.2 }

  opens-known : (opens : Named OpenState) (orders : Named OpenOrder) → AllZip (ReadsIn files kept) opens orders → AllByRecursion (OpenIsAmong specs files) opens
  opens-known [] [] reads = tt
  opens-known [] (order ∷ orders) reads = absurd reads
  opens-known (entry ∷ opens) [] reads = absurd reads
  opens-known (entry ∷ opens) (order ∷ orders) reads = (open-known entry order reads.0, opens-known opens orders reads.1)

  pub jobs-known : (jobs : List JobState) (orders : List (Named OpenOrder)) → AllZip (OpensRead files kept) jobs orders → OpensAreAmong specs files jobs
  jobs-known [] [] reads = tt
  jobs-known [] (its ∷ orders) reads = absurd reads
  jobs-known (job ∷ jobs) [] reads = absurd reads
  jobs-known (job ∷ jobs) (its ∷ orders) reads = (opens-known job.opens its reads.0, jobs-known jobs orders reads.1)

orders-among : (specs : List PathSpec) (files : Named FileState) (old new : NumberedPaths) → StayAmong specs old new → (jobs : List JobState) (orders : List (Named OpenOrder))
    → OpensAreAmong specs files jobs → AllZip (OpensRead files old) jobs orders → AllZip (OpensRead files new) jobs orders
orders-among specs files old new stay jobs orders among all =
    zip-with (λ (job : JobState). AllByRecursion (OpenIsAmong specs files) job.opens) (OpensRead files old) (OpensRead files new) jobs orders
    (λ job its own reads. zip-with (OpenIsAmong specs files) (ReadsIn files old) (ReadsIn files new) job.opens its (open-among specs files old new stay) own reads) among all

module _ (specs : List PathSpec) (files : Named FileState) (members : NumberedMembers) (jobs : List JobState) (orders : List (Named OpenOrder)) (moves : List (List (List PathMove))) where
  -- ---- a file gets a path

  module _ (spec : PathSpec) (unchanged : IsUnchanged spec jobs) (old new : KeptPaths) (shared : AreShared old.paths) where
    pub paths-attached : (id : ℕ) → (IsShared spec id old.paths new.paths ⊎ IsPut spec members id old.paths new.paths) → PathsStay old.paths new.paths
    paths-attached id (inl its) n sp any =
        subst (λ (p : NumberedPaths). Any (IsNumbered n sp) p) (sym its.counted) (any-with id its.path (one_more its.path) (IsNumbered n sp) old.paths (λ own. own) its.there any)
    paths-attached id (inr its) n sp any =
        subst (λ (p : NumberedPaths). Any (IsNumbered n sp) p) (sym its.put) (any-put id (path_over spec members) (IsNumbered n sp) old.paths its.number.free any)

    moves-attached : (id : ℕ) → (IsShared spec id old.paths new.paths ⊎ IsPut spec members id old.paths new.paths) → (c : RecordChange) → is_over c.member spec ≡ false
        → moves_in c new.paths ≡ moves_in c old.paths
    moves-attached id (inl its) c none = ap (moves_in c) its.counted ∙ moves-with c id its.path (one_more its.path) refl old.paths its.there
    moves-attached id (inr its) c none = ap (moves_in c) its.put ∙ moves-put c id (path_over spec members) old.paths its.number.free (moves-others c spec none)

    room-attached : (id : ℕ) → (IsShared spec id old.paths new.paths ⊎ IsPut spec members id old.paths new.paths) → ((other : ℕ) → spare_of other old ≤ spare_of other new)
        → HaveSpares (λ spec. changes_over spec jobs) old → HaveSpares (λ spec. changes_over spec jobs) new
    room-attached id its more had = by its
      where
        roomier : AllByRecursion (HasBackRoom jobs new) old.paths
        roomier = recursion_from_All (HasBackRoom jobs new) old.paths (λ k d low. let h = had k d low in let m = more (get_or old.paths k d).number in omega (arith, h, m))

        by : (IsShared spec id old.paths new.paths ⊎ IsPut spec members id old.paths new.paths) → HaveSpares (λ spec. changes_over spec jobs) new
        by (inl is) =
            subst (λ (p : NumberedPaths). All (HasBackRoom jobs new) p) (sym is.counted)
            (All-from_recursion (HasBackRoom jobs new) (with_item id (one_more is.path) old.paths)
            (each-with id is.path (one_more is.path) (HasBackRoom jobs new) old.paths (λ own. own) is.there roomier))
        by (inr is) =
            subst (λ (p : NumberedPaths). All (HasBackRoom jobs new) p) (sym is.put)
            (All-from_recursion (HasBackRoom jobs new) (put_item id (path_over spec members) old.paths)
            (each-put id (path_over spec members) (HasBackRoom jobs new) old.paths (room-unchanged spec jobs new id unchanged) roomier))

    pub IsIndexed-attached : IsAttached spec members old new → IsIndexedFor specs files members jobs orders moves old → IsIndexedFor (spec ∷ specs) files members jobs orders moves new
    IsIndexed-attached is indexed = record {
      paths = attached members spec is.path.0 old.paths new.paths shared specs indexed.paths is.path.1;
      orders = orders-stay files files old.paths new.paths (files-stay files) (paths-attached is.path.0 is.path.1) jobs orders indexed.orders;
      moves = indexed.moves ∙ sym (moves-among old.paths new.paths jobs
          (changes-each (λ undo. is_over undo.member spec ≡ false) (λ undo. moves_back new.paths undo ≡ moves_back old.paths undo)
          (λ undo none. moves-attached is.path.0 is.path.1 (reversed (record_change undo)) none) jobs unchanged));
      room = room-attached is.path.0 is.path.1 is.spares indexed.room;
      bytes = indexed.bytes;
      views = indexed.views;
    }

  -- ---- a file gives a path up

  module _ (spec : PathSpec) (unchanged : IsUnchanged spec jobs) (old : KeptPaths) (shared : AreShared old.paths) (id : ℕ) (path : KeptPath) (at : item_at id old.paths ≡ Some path)
      (same : path.spec ≡ spec) where
    abbrev pub left : KeptPaths
    left = record { paths = detached id old.paths; rooms = old.rooms }

    -- one file fewer has it, or none
    fewer-or-last : (P : NumberedPaths → Type 0) → (1 < path.files → P (with_item id (one_fewer path) old.paths)) → (path.files ≤ 1 → P (without_item id old.paths)) → P (detached id old.paths)
    fewer-or-last P fewer last = subst (λ (o : Option KeptPath). P (given_up id o old.paths)) (sym at) (by (nat_lt 1 path.files) refl)
      where
        by : (b : Bool) → nat_lt 1 path.files ≡ b → P (cond b (with_item id (one_fewer path) old.paths) (without_item id old.paths))
        by true is = fewer (let more : 1 < path.files = grind (arith, nat_tests) in more)
        by false is = last (let few : path.files ≤ 1 = grind (arith, nat_tests) in few)

    pub stay-detached : AreKeptFor (spec ∷ specs) members old.paths → StayAmong specs old.paths (detached id old.paths)
    stay-detached is n sp among any =
        fewer-or-last (λ (p : NumberedPaths). Any (IsNumbered n sp) p)
        (λ more. any-with id path (one_fewer path) (IsNumbered n sp) old.paths (λ own. own) at any)
        (λ few. any-without id path (IsNumbered n sp) old.paths (two-from IsBelow old.paths shared.ascend) (differs few) at any)
      where
        differs : path.files ≤ 1 → IsNumbered n sp (under id path) → ⊥
        differs few own =
            let was : path.files ≡ count_in path.spec (spec ∷ specs) =
            each-at (λ (p : Numbered KeptPath). p.item.files ≡ count_in p.item.spec (spec ∷ specs)) id path old.paths
            (recursion_from_All (λ (p : Numbered KeptPath). p.item.files ≡ count_in p.item.spec (spec ∷ specs)) old.paths is.counted) at in
            let more : count_in path.spec (spec ∷ specs) ≡ suc (count_in path.spec specs) = count-own path.spec spec specs same in
            let some : 1 ≤ count_in path.spec specs = contained-count path.spec specs (subst (λ (s : PathSpec). Contains specs s) (sym own.1) among) in
            absurd (omega (arith, few, was, more, some))

    moves-detached : (c : RecordChange) → is_over c.member spec ≡ false → moves_in c (detached id old.paths) ≡ moves_in c old.paths
    moves-detached c none =
        fewer-or-last (λ (p : NumberedPaths). moves_in c p ≡ moves_in c old.paths)
        (λ more. moves-with c id path (one_fewer path) refl old.paths at)
        (λ few. moves-without c id path (moves-others c path.spec (ap (is_over c.member) same ∙ none)) old.paths (two-from IsBelow old.paths shared.ascend) at)

    room-detached : HaveSpares (λ spec. changes_over spec jobs) old → HaveSpares (λ spec. changes_over spec jobs) left
    room-detached had =
        let all = recursion_from_All (HasBackRoom jobs old) old.paths had in
        fewer-or-last (λ (p : NumberedPaths). All (HasBackRoom jobs old) p)
        (λ more. All-from_recursion (HasBackRoom jobs old) (with_item id (one_fewer path) old.paths)
        (each-with id path (one_fewer path) (HasBackRoom jobs old) old.paths (λ own. own) at all))
        (λ few. All-from_recursion (HasBackRoom jobs old) (without_item id old.paths) (each-filter (λ (q : Numbered KeptPath). not (q.number == id)) (HasBackRoom jobs old) old.paths all))

    pub IsIndexed-detached : OpensAreAmong specs files jobs → IsIndexedFor (spec ∷ specs) files members jobs orders moves old → IsIndexedFor specs files members jobs orders moves left
    IsIndexed-detached among indexed = record {
      paths = detached-kept id path old.paths shared at specs members spec indexed.paths same;
      orders = orders-among specs files old.paths (detached id old.paths) (stay-detached indexed.paths) jobs orders among indexed.orders;
      moves = indexed.moves ∙ sym (moves-among old.paths (detached id old.paths) jobs
          (changes-each (λ undo. is_over undo.member spec ≡ false) (λ undo. moves_back (detached id old.paths) undo ≡ moves_back old.paths undo)
          (λ undo none. moves-detached (reversed (record_change undo)) none) jobs unchanged));
      room = room-detached indexed.room;
      bytes = indexed.bytes;
      views = indexed.views;
    }

  -- ---- the same paths

  -- what they have memory for is as it was
  pub IsIndexed-same : (old new : KeptPaths) → new.paths ≡ old.paths → ((id : ℕ) → IsSome (item_at id new.paths) → spare_of id new ≡ spare_of id old)
      → IsIndexedFor specs files members jobs orders moves old → IsIndexedFor specs files members jobs orders moves new
  IsIndexed-same old new is spares indexed = record {
    paths = subst (λ (p : NumberedPaths). AreKeptFor specs members p) (sym is) indexed.paths;
    orders = subst (λ (p : NumberedPaths). AllZip (OpensRead files p) jobs orders) (sym is) indexed.orders;
    moves = indexed.moves ∙ ap (λ (p : NumberedPaths). map (moves_of_job p) jobs) (sym is);
    room = λ k d low.
        let had = subst (λ (p : NumberedPaths). All (HasBackRoom jobs old) p) (sym is) indexed.room k d low in
        let same = spares (get_or new.paths k d).number (numbers-there new.paths k d low) in
        omega (arith, had, same);
    bytes = indexed.bytes;
    views = indexed.views;
  }

  -- ---- other members

  pub IsIndexed-members : (others : NumberedMembers) (kept : KeptPaths) → AreOver others kept.paths → AreOfBytes others → IsIndexedFor specs files members jobs orders moves kept
      → IsIndexedFor specs files others jobs orders moves kept
  IsIndexed-members others kept over bytes indexed = record {
    paths = record { over = over; there = indexed.paths.there; counted = indexed.paths.counted };
    orders = indexed.orders;
    moves = indexed.moves;
    room = indexed.room;
    bytes = bytes;
    views = indexed.views;
  }

  -- ---- other files

  pub IsIndexed-files : (more : List PathSpec) (others : Named FileState) (kept : KeptPaths) → OpensStay files others jobs → AreViews others
      → ((path : PathSpec) → count_in path specs ≡ count_in path more) → IsIndexedFor specs files members jobs orders moves kept → IsIndexedFor more others members jobs orders moves kept
  IsIndexed-files more others kept stay views alike indexed = record {
    paths = counted-alike specs more members kept.paths alike indexed.paths;
    orders = zip-with (λ (job : JobState). AllByRecursion (OpenStays files others) job.opens) (OpensRead files kept.paths) (OpensRead others kept.paths) jobs orders
        (λ job its own reads. zip-with (OpenStays files others) (ReadsIn files kept.paths) (ReadsIn others kept.paths) job.opens its
        (λ entry order stays its_reads. read-stays files others kept.paths kept.paths (paths-stay kept.paths) entry order stays its_reads) own reads) stay indexed.orders;
    moves = indexed.moves;
    room = indexed.room;
    bytes = indexed.bytes;
    views = views;
  }
