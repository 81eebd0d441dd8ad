-- The members that OPNDBF opens, by the kind of its file.
use Rattle.std.proofs.Common.{◌≡◌, ◌∙◌, ◌==◌, ◌||◌, ◌+◌, ◌<◌, ◌≤◌, ℕ, drop, get_or, Bool, true, false, not, nat_le, cond, Option, Some, None, Result, Ok, Err, IfOk, IsTrue, OnOk, List, [], ◌∷◌, length, refl, sym, ap, subst, arith}
use Rattle.std.specs.Option.{is_none, is_some}
use Rattle.std.proofs.lemmas.List.{drop_all, drop_more}
use Rattle.std.proofs.lemmas.Bool.Decides.{nat_tests}
use Rattle.entry_codec.specs.declared.kinds.Images.{Images}
use Rattle.dds_logical.specs.declared.views.LogicalSpec.{LogicalSpec}
use Rattle.dds_logical.specs.declared.views.LogicalSpec.TheVariants.{Simple, Multi, Join}
use Rattle.logical_model.specs.Bases.{FileSpec, PhysicalFile, LogicalFile, base_members}
use Rattle.library_parts.specs.Bodies.{logical_in}
use Rattle.lawful_states.specs.Owners.{has_number}
use Rattle.lawful_states.proofs.StatusLemmas.{has_number-cons}
use Rattle.library_model.specs.declared.limits.TheConstants.{MOST_OPENS}
use Rattle.library_model.specs.declared.replies.LimitKind.TheVariants.{Opens}
use Rattle.library_model.specs.declared.replies.Missing.TheVariants.{Name}
use Rattle.library_model.specs.declared.replies.Reply.{Reply}
use Rattle.library_model.specs.declared.replies.Reply.TheVariants.{NameExists, LimitReached, NoSuchName, WrongOpen}
use Rattle.library_model.specs.declared.requests.OpenFile.{OpenFile}
use Rattle.library_model.specs.Named.{Named, named, same_name}
use Rattle.library_steps.specs.SlotChange.{images_of}
use Rattle.library_steps.specs.State.{Memory, FileState, MemberStatus, file_named, job_of, open_named}
use Rattle.library_steps.specs.LogicalFiles.{bases_in, bases_of}
use Rattle.library_steps.specs.Records.{is_file_path}
use Rattle.library_steps.specs.Refusals.{◌>>=◌, refuse_if, named_or_refused}
use Rattle.library_steps.specs.Opens.{first_unjournaled, logical_members, may_commit_all, may_not, members_by, open_plan, physical_members}
use Rattle.library_parts.specs.Answers.{Allows, Shows}
use Rattle.library_parts.specs.Finds.{OpensBy, OpensMembers}
use Rattle.library_parts.specs.Indexed.{IsReadSo}
use Rattle.library_parts.specs.Reads.{MayReadSo}
use Rattle.library_parts.below.parts_model.specs.declared.stop.Stop.{Stop}
use Rattle.library_parts.below.parts_model.specs.declared.stop.Stop.TheVariants.{NoMemory, Refused}
use Rattle.file_requests.specs.Opens.{GivesMembers, file_plan, view_opens}
use Rattle.library_steps.specs.WriteRecord.{is_input}

-- ---- first the file

file-first : (first second : Result Bool Reply) (found : Result FileState Reply) (next : FileState → Result (List ℕ) Reply)
    → (first >>= λ _. second >>= λ _. found >>= next) ≡ ((first >>= λ _. second >>= λ _. found >>= λ file. Ok file) >>= next)
file-first (Err reply) second found next = refl
file-first (Ok a) (Err reply) found next = refl
file-first (Ok a) (Ok b) (Err reply) next = refl
file-first (Ok a) (Ok b) (Ok file) next = refl

plan-file : (m : Memory) (job : ℕ) (args : OpenFile) → open_plan m job args ≡ (file_plan m job args >>= λ file. members_by file.spec m job args file)
unfolding open_plan file_plan
plan-file m job args =
    file-first (refuse_if (is_some (open_named args.open_id job m)) (NameExists args.open_id)) (refuse_if (nat_le MOST_OPENS (length (job_of job m).opens)) (LimitReached Opens MOST_OPENS))
    (named_or_refused args.file (file_named args.file m)) (λ file. members_by file.spec m job args file)

-- what stops the look for the file stops the plan
pub plan-stopped : (m : Memory) (job : ℕ) (args : OpenFile) (stop : Stop) → Shows {A = FileState} (Err stop) (file_plan m job args) → GivesMembers (Err stop) (open_plan m job args)
plan-stopped m job args NoMemory shows = tt
plan-stopped m job args (Refused reply) shows = plan-file m job args ∙ ap (λ (found : Result FileState Reply). found >>= λ file. members_by file.spec m job args file) shows

pub plan-goes : (m : Memory) (job : ℕ) (args : OpenFile) (file : FileState) (result : Result (List ℕ) Stop) → file_plan m job args ≡ Ok file → GivesMembers result (members_by file.spec m job args file)
    → GivesMembers result (open_plan m job args)
plan-goes m job args file result found gives =
    let whole = plan-file m job args ∙ ap (λ (f : Result FileState Reply). f >>= λ file. members_by file.spec m job args file) found in
    subst (λ (wanted : Result (List ℕ) Reply). GivesMembers result wanted) (sym whole) gives

pub opens-there : (files : Named FileState) (members : List ℕ) (file : FileState) (o : Option FileState) → o ≡ Some file → OpensBy files members file file.spec → OpensMembers files members o
opens-there files members file o there opens = subst (λ (found : Option FileState). OpensMembers files members found) (sym there) opens

pub read-so : (args : OpenFile) (file : FileState) (o : Option FileState) → o ≡ Some file → IsReadSo (is_file_path args.access_path) file.spec → MayReadSo args o
read-so args file o there so = subst (λ (found : Option FileState). MayReadSo args found) (sym there) so

-- ---- a physical file's member

or-later : (a b : Bool) → b ≡ true → (a || b) ≡ true
or-later true b is = refl
or-later false b is = is

first-is : (one other : MemberStatus) (later : Bool) → one ≡ other → ((one.number == other.number) || later) ≡ true
first-is one other later same =
    let own : (one.number == one.number) ≡ true = grind (arith, nat_tests) in
    subst (λ (s : MemberStatus). ((one.number == s.number) || later) ≡ true) same (ap (λ (b : Bool). b || later) own)

pub has-number : (name : List ℕ) (members : Named MemberStatus) (status : MemberStatus) → named name members ≡ Some status → has_number status.number members ≡ true
has-number name [] status found = absurd cc
has-number name (first ∷ members) status found =
    let step : ((first.1.number == status.number) || has_number status.number members) ≡ true =
    elim (same_name name first.0) as (λ b. cond b (Some first.1) (named name members) ≡ Some status → ((first.1.number == status.number) || has_number status.number members) ≡ true) [
      | true ↦ λ here. let e : first.1 ≡ status = cc in first-is first.1 status (has_number status.number members) e
      | false ↦ λ later. or-later (first.1.number == status.number) (has_number status.number members) (has-number name members status later)
    ] found in
    has_number-cons status.number first members ∙ step

abbrev pub IsNoView : FileSpec → Type 0
IsNoView spec = None ≡ logical_in spec

pub members-physical : (spec : FileSpec) (m : Memory) (job : ℕ) (args : OpenFile) (file : FileState) → IsNoView spec → members_by spec m job args file ≡ physical_members m job args file
members-physical (PhysicalFile spec) m job args file is = refl
members-physical (LogicalFile view) m job args file is = absurd cc

pub opens-physical : (spec : FileSpec) (files : Named FileState) (file : FileState) (result : Result (List ℕ) Stop) → IsNoView spec
    → IfOk result (λ members. (number : ℕ) × (members ≡ number ∷ []) × (has_number number file.members ≡ true))
    → IfOk result (λ members. OpensBy files members file spec)
opens-physical spec files file (Err stop) is has = tt
opens-physical (PhysicalFile spec) files file (Ok member) is has = has
opens-physical (LogicalFile view) files file (Ok member) is has = absurd cc

pub so-physical : (spec : FileSpec) (by_path : Bool) (result : Result (List ℕ) Stop) → IsNoView spec → OnOk result (IsReadSo by_path spec)
so-physical spec by_path (Err stop) is = tt
so-physical (PhysicalFile spec) by_path (Ok member) is = tt
so-physical (LogicalFile view) by_path (Ok member) is = absurd cc

-- ---- the members that a logical file is over

pub members-logical : (spec : FileSpec) (view : LogicalSpec) (m : Memory) (job : ℕ) (args : OpenFile) (file : FileState) → Some view ≡ logical_in spec
    → members_by spec m job args file ≡ logical_members m job args view
members-logical (PhysicalFile spec) view m job args file is = absurd cc
members-logical (LogicalFile other) view m job args file is = let same : other ≡ view = cc in ap (λ (v : LogicalSpec). logical_members m job args v) same

pub opens-logical : (spec : FileSpec) (view : LogicalSpec) (files : Named FileState) (file : FileState) (result : Result (List ℕ) Stop) → Some view ≡ logical_in spec
    → IfOk result (λ members. base_members (bases_in files) view ≡ members) → IfOk result (λ members. OpensBy files members file spec)
opens-logical spec view files file (Err stop) is over = tt
opens-logical (PhysicalFile spec) view files file (Ok member) is over = absurd cc
opens-logical (LogicalFile other) view files file (Ok member) is over =
    let same : other ≡ view = cc in subst (λ (v : LogicalSpec). base_members (bases_in files) v ≡ member) (sym same) over

pub so-logical : (spec : FileSpec) (view : LogicalSpec) (by_path : Bool) (result : Result (List ℕ) Stop) → Some view ≡ logical_in spec → OnOk result (IsTrue by_path) → OnOk result (IsReadSo by_path spec)
so-logical spec view by_path (Err stop) is so = tt
so-logical (PhysicalFile spec) view by_path (Ok member) is so = absurd cc
so-logical (LogicalFile other) view by_path (Ok member) is so = so

three-then : (first second third : Result Bool Reply) (members : List ℕ)
    → (first >>= λ _. second >>= λ _. third >>= λ _. Ok members) ≡ ((first >>= λ _. second >>= λ _. third) >>= λ _. Ok members)
three-then (Err reply) second third members = refl
three-then (Ok a) (Err reply) third members = refl
three-then (Ok a) (Ok b) (Err reply) members = refl
three-then (Ok a) (Ok b) (Ok c) members = refl

logical-opens : (m : Memory) (job : ℕ) (args : OpenFile) (spec : LogicalSpec)
    → logical_members m job args spec ≡ (view_opens m job args spec (base_members (bases_of m) spec) >>= λ _. Ok (base_members (bases_of m) spec))
logical-opens m job args spec =
    three-then (refuse_if (not (same_name args.member args.file)) (NoSuchName (Name args.member))) (refuse_if (may_not spec args) WrongOpen)
    (may_commit_all args.commit (base_members (bases_of m) spec) (job_of job m) m) (base_members (bases_of m) spec)

-- by its path
file-path : (by_path : Bool) → not by_path ≡ false → IsTrue by_path
file-path true may = refl
file-path false may = absurd cc

join-path : (by_path not_input commit : Bool) → (not by_path || not_input || commit) ≡ false → IsTrue by_path
join-path true not_input commit may = refl
join-path false not_input commit may = absurd cc

pub opened-by : (spec : LogicalSpec) (args : OpenFile) → may_not spec args ≡ false → IsTrue (is_file_path args.access_path)
opened-by (Simple view) args may = file-path (is_file_path args.access_path) may
opened-by (Multi views) args may = file-path (is_file_path args.access_path) may
opened-by (Join view) args may = join-path (is_file_path args.access_path) (not (is_input args.option)) args.commit may

-- the same with the members as they were found
module _ (m : Memory) (job : ℕ) (args : OpenFile) (spec : LogicalSpec) (members : List ℕ) (under : base_members (bases_of m) spec ≡ members) where
  view-opens : (opens : Result Bool Reply) → view_opens m job args spec members ≡ opens → logical_members m job args spec ≡ (opens >>= λ _. Ok members)
  view-opens opens is =
      logical-opens m job args spec
      ∙ ap (λ (ms : List ℕ). view_opens m job args spec ms >>= λ _. Ok ms) under
      ∙ ap (λ (r : Result Bool Reply). r >>= λ _. Ok members) is

  pub logical-goes : view_opens m job args spec members ≡ Ok true → logical_members m job args spec ≡ Ok members
  logical-goes is = view-opens (Ok true) is

  pub logical-stopped : (stop : Stop) → Allows (Err stop) (view_opens m job args spec members) → GivesMembers (Err stop) (logical_members m job args spec)
  logical-stopped NoMemory allowed = tt
  logical-stopped (Refused reply) allowed = view-opens (Err reply) allowed

-- ---- the first member that isn't journaled

tests-some : {A : Type 0} (o : Option A) → is_some o ≡ true → is_none o ≡ false
tests-some None some = absurd cc
tests-some (Some a) some = refl

tests-none : {A : Type 0} (o : Option A) → is_some o ≡ false → is_none o ≡ true
tests-none None none = refl
tests-none (Some a) none = absurd cc

module _ (m : Memory) (members : List ℕ) (place : ℕ) (below : place < length members) (found : Option Images) (is : found ≡ images_of (get_or members place 0) m)
    (so_far : first_unjournaled (drop place members) m ≡ first_unjournaled members m) where
  abbrev asked : Bool → Option ℕ
  asked b = cond b (Some (get_or members place 0)) (first_unjournaled (drop (place + 1) members) m)

  asked-here : (b : Bool) → is_none (images_of (get_or members place 0) m) ≡ b → first_unjournaled members m ≡ asked b
  asked-here b tested = sym so_far ∙ ap (λ (ms : List ℕ). first_unjournaled ms m) (drop_more members place 0 below) ∙ ap asked tested

  pub unjournaled-next : is_some found ≡ true → first_unjournaled (drop (place + 1) members) m ≡ first_unjournaled members m
  unjournaled-next some = sym (asked-here false (sym (ap is_none is) ∙ tests-some found some))

  pub unjournaled-here : is_some found ≡ false → first_unjournaled members m ≡ Some (get_or members place 0)
  unjournaled-here none = asked-here true (sym (ap is_none is) ∙ tests-none found none)

pub unjournaled-none : (m : Memory) (members : List ℕ) (place : ℕ) → length members ≤ place → first_unjournaled (drop place members) m ≡ first_unjournaled members m → first_unjournaled members m ≡ None
unjournaled-none m members place past so_far = sym so_far ∙ ap (λ (ms : List ℕ). first_unjournaled ms m) (drop_all place members past)
