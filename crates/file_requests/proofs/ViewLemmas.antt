-- How the plan of CRTLF ends with the keys, and what it leaves.
use Rattle.std.proofs.Common.{◌≡◌, ◌∙◌, ◌≤◌, ℕ, Bool, true, false, nat_le, get_or, arith, Option, Some, None, Result, Ok, Err, IfOk, OnOk, OnErr, List, [], ◌∷◌, length, if◌then◌else◌, refl, sym, ap, subst, map, ◌||◌}
use Rattle.std.specs.List.{list_any}
use Rattle.std.specs.Option.{is_some, option_and_then}
use Rattle.entry_codec.specs.declared.entries.Draft.{Draft}
use Rattle.dds_source.specs.declared.faults.DdsFault.{DdsFault}
use Rattle.dds_logical.specs.declared.views.LogicalSpec.{LogicalSpec}
use Rattle.dds_logical.specs.declared.views.LogicalSpec.TheVariants.{Join, Simple}
use Rattle.dds_logical.specs.declared.views.View.{View}
use Rattle.logical_model.specs.Bases.{Bases, base_members}
use Rattle.logical_model.specs.FilePaths.{logical_paths, secondary_of, views_path}
use Rattle.library_model.specs.declared.limits.TheConstants.{MOST_FILES}
use Rattle.library_model.specs.declared.requests.CreateLogicalFile.{CreateLogicalFile}
use Rattle.library_model.specs.declared.sources.NamedSource.{NamedSource}
use Rattle.library_model.specs.declared.replies.Reply.{Reply}
use Rattle.library_model.specs.declared.replies.Reply.TheVariants.{NameExists, LimitReached, NotJournaled, Done}
use Rattle.library_model.specs.declared.replies.LimitKind.TheVariants.{Files, Paths}
use Rattle.library_model.specs.SourceList.{text_of}
use Rattle.library_model.specs.Named.{named}
use Rattle.library_steps.specs.declared.limits.TheConstants.{MOST_PATHS}
use Rattle.library_steps.specs.State.{Memory, State, MemberStatus, file_named, memory_of}
use Rattle.library_steps.specs.Change.{does}
use Rattle.library_steps.specs.CreateLogicalFile.{
  NewLogical,
  create_logical_change,
  create_logical_file,
  create_logical_plan,
  first_undone,
  has_many,
  has_undone,
  is_unique,
  logical_described,
  logical_or_refused,
  undone_number,
  with_logical,
}
use Rattle.library_steps.specs.LogicalFiles.{bases_of}
use Rattle.library_steps.specs.Refusals.{◌>>=◌, refuse_if, refuse_with, named_or_refused, sequences_left}
use Rattle.library_steps.specs.SlotChange.{status_among}
use Rattle.library_steps.specs.Uses.{changer_of_any, unused}
use Rattle.library_parts.specs.Answers.{Allows, Answers, Gives, MayAllow}
use Rattle.library_parts.specs.Files.{IsNewView}
use Rattle.library_parts.below.parts_model.specs.declared.stop.Stop.{Stop}
use Rattle.library_parts.below.parts_model.specs.declared.stop.Stop.TheVariants.{NoMemory, Refused}
use Rattle.library_parts.proofs.DepositLemmas.{Answers-left}
use Rattle.file_requests.specs.Effects.{Deposits}
use Rattle.file_requests.specs.Views.{PlansView, allowed_by, done, keys_differ, may_stand, new_view, view_draft, view_named, view_of, view_plan}
use Rattle.dds_logical.specs.declared.join_views.JoinView.{JoinView}
use Rattle.dds_logical.specs.declared.join_views.JoinedFile.{JoinedFile}
use Rattle.file_model.specs.declared.paths.PathSpec.{PathSpec}
use Rattle.file_model.specs.Joins.{secondary_path}

-- ---- the keys come last

-- refusals one by one, or in three groups with the last behind them
keys-last : (left absent few : Result Bool Reply) (text : Result (List ℕ) Reply) (described : List ℕ → Result LogicalSpec Reply) (many changed undone repeated : LogicalSpec → Result Bool Reply)
    → (left >>= λ _. absent >>= λ _. few >>= λ _. text >>= λ t. described t >>= λ spec. many spec >>= λ _. changed spec >>= λ _. undone spec >>= λ _. repeated spec >>= λ _. Ok (new_view t spec))
    ≡ ((left >>= λ _. (absent >>= λ _. few) >>= λ _. (text >>= λ t. described t >>= λ spec. Ok (new_view t spec)) >>= λ plan. (many plan.spec >>= λ _. changed plan.spec >>= λ _. undone plan.spec)
    >>= λ _. Ok plan) >>= λ plan. repeated plan.spec >>= λ _. Ok plan)
keys-last (Err reply) absent few text described many changed undone repeated = refl
keys-last (Ok a) (Err reply) few text described many changed undone repeated = refl
keys-last (Ok a) (Ok b) (Err reply) text described many changed undone repeated = refl
keys-last (Ok a) (Ok b) (Ok c) (Err reply) described many changed undone repeated = refl
keys-last (Ok a) (Ok b) (Ok c) (Ok t) described many changed undone repeated = by (described t)
  where
    last : (spec : LogicalSpec) (one two three : Result Bool Reply) → (one >>= λ _. two >>= λ _. three >>= λ _. repeated spec >>= λ _. Ok (new_view t spec))
        ≡ (((one >>= λ _. two >>= λ _. three) >>= λ _. Ok (new_view t spec)) >>= λ plan. repeated plan.spec >>= λ _. Ok plan)
    last spec (Err reply) two three = refl
    last spec (Ok x) (Err reply) three = refl
    last spec (Ok x) (Ok y) (Err reply) = refl
    last spec (Ok x) (Ok y) (Ok z) = refl

    by : (found : Result LogicalSpec Reply) → (found >>= λ spec. many spec >>= λ _. changed spec >>= λ _. undone spec >>= λ _. repeated spec >>= λ _. Ok (new_view t spec))
        ≡ (((found >>= λ spec. Ok (new_view t spec)) >>= λ plan. (many plan.spec >>= λ _. changed plan.spec >>= λ _. undone plan.spec) >>= λ _. Ok plan) >>= λ plan. repeated plan.spec >>= λ _. Ok plan)
    by (Err reply) = refl
    by (Ok spec) = last spec (many spec) (changed spec) (undone spec)

pub plan-then : (sources : List NamedSource) (m : Memory) (args : CreateLogicalFile) → create_logical_plan sources m args ≡ (view_plan sources m args >>= λ plan. keys_differ args.file plan m >>= λ _. Ok plan)
unfolding create_logical_plan view_plan view_named may_stand
plan-then sources m args =
    keys-last (sequences_left m) (refuse_if (is_some (file_named args.file m)) (NameExists args.file)) (refuse_if (nat_le MOST_FILES (length m.files)) (LimitReached Files MOST_FILES))
    (named_or_refused args.source (text_of sources args.source)) (λ text. logical_or_refused (logical_described m text))
    (λ spec. refuse_if (list_any (has_many (logical_paths (bases_of m) spec) m) (base_members (bases_of m) spec)) (LimitReached Paths MOST_PATHS))
    (λ spec. unused (changer_of_any (base_members (bases_of m) spec) m))
    (λ spec. refuse_with NotJournaled (if is_unique (logical_paths (bases_of m) spec) then first_undone m (base_members (bases_of m) spec) else None))
    (λ spec. keys_differ args.file (new_view [] spec) m)

pub plans-view : (sources : List NamedSource) (m : Memory) (args : CreateLogicalFile) (result : Result NewLogical Stop) → Gives result (view_plan sources m args) → PlansView sources m args result
plans-view sources m args (Ok plan) gives = plan-then sources m args ∙ ap (λ (found : Result NewLogical Reply). found >>= λ p. keys_differ args.file p m >>= λ _. Ok p) gives
plans-view sources m args (Err NoMemory) gives = tt
plans-view sources m args (Err (Refused reply)) gives = plan-then sources m args ∙ ap (λ (found : Result NewLogical Reply). found >>= λ p. keys_differ args.file p m >>= λ _. Ok p) gives

-- ---- what a source describes

ok-equal : (x y : NewLogical) → (let first : Result NewLogical Reply = Ok x in first) ≡ Ok y → x ≡ y
ok-equal x y same = cc

described-by : (m : Memory) (name : List ℕ) (text : Option (List ℕ)) (plan : NewLogical) → (named_or_refused name text >>= λ t. view_of m t) ≡ Ok plan → logical_described m plan.source ≡ Ok plan.spec
described-by m name None plan is = absurd cc
described-by m name (Some t) plan is = by (logical_described m t) refl is
  where
    by : (found : Result LogicalSpec DdsFault) → logical_described m t ≡ found → (logical_or_refused found >>= λ spec. Ok (new_view t spec)) ≡ Ok plan → logical_described m plan.source ≡ Ok plan.spec
    by (Err fault) same is = absurd cc
    by (Ok spec) same is = subst (λ (p : NewLogical). logical_described m p.source ≡ Ok p.spec) (ok-equal (new_view t spec) plan is) same

pub is-described : (sources : List NamedSource) (m : Memory) (source : List ℕ) (result : Result NewLogical Stop) → Gives result (view_named sources m source)
    → IfOk result (λ plan. logical_described m plan.source ≡ Ok plan.spec)
unfolding view_named
is-described sources m source (Ok plan) gives = described-by m source (text_of sources source) plan gives
is-described sources m source (Err stop) gives = tt

pub is-new : (s : State) (name : List ℕ) (result : Result NewLogical Stop) → OnOk result (named name s.files ≡ None) → IfOk result (λ plan. logical_described (memory_of s) plan.source ≡ Ok plan.spec)
    → IfOk result (λ plan. changer_of_any (base_members (bases_of (memory_of s)) plan.spec) (memory_of s) ≡ None)
    → IfOk result (λ plan. IsNewView s name plan)
is-new s name (Ok plan) absent described unchanged = record { absent = absent; described = described; unchanged = unchanged }
is-new s name (Err stop) absent described unchanged = tt

pub new-kept : (old mid : State) (name : List ℕ) (plan made : NewLogical) → mid ≡ old → made ≡ plan → IsNewView old name plan → IsNewView mid name made
new-kept old mid name plan made same is new = subst (λ (s : State). IsNewView s name made) (sym same) (subst (λ (p : NewLogical). IsNewView old name p) (sym is) new)

-- ---- whether it may stand

allows-may : (result : Result (Unit {0}) Stop) (one other : Result Bool Reply) → one ≡ other → Allows result one → MayAllow result other
allows-may (Ok nothing) one other same allows = sym same ∙ allows
allows-may (Err NoMemory) one other same allows = tt
allows-may (Err (Refused reply)) one other same allows = sym same ∙ allows

pub stands-by : (m : Memory) (spec : LogicalSpec) (many : Bool) (changer undone : Option ℕ) (result : Result (Unit {0}) Stop)
    → many ≡ list_any (has_many (logical_paths (bases_of m) spec) m) (base_members (bases_of m) spec) → changer ≡ changer_of_any (base_members (bases_of m) spec) m
    → undone ≡ (if is_unique (logical_paths (bases_of m) spec) then first_undone m (base_members (bases_of m) spec) else None) → Allows result (allowed_by many changer undone)
    → MayAllow result (may_stand m spec)
unfolding may_stand
stands-by m spec many changer undone result paths changed left allows =
    let same : allowed_by many changer undone ≡ may_stand m spec = λ i. allowed_by (paths i) (changed i) (left i) in
    allows-may result (allowed_by many changer undone) (may_stand m spec) same allows

pub unchanged-by : (changer wanted : Option ℕ) (result : Result (Unit {0}) Stop) → changer ≡ wanted → OnOk result (changer ≡ None) → OnOk result (wanted ≡ None)
unchanged-by changer wanted (Ok nothing) same none = sym same ∙ none
unchanged-by changer wanted (Err stop) same none = tt

-- UNIQUE stands with the keys of the one format
pub unique-one : (bases : Bases) (spec : LogicalSpec) (view : View) → spec ≡ Simple view → view.keys.unique ≡ is_unique (logical_paths bases spec)
unique-one bases spec view is = one view.keys.unique ∙ sym (ap (λ (s : LogicalSpec). is_unique (logical_paths bases s)) is)
  where
    one : (b : Bool) → b ≡ is_unique (views_path bases b (view ∷ []) ∷ [])
    one true = refl
    one false = refl

-- of a join with those of its primary file
secondaries-repeat : (bases : Bases) (files : List JoinedFile) → list_any (λ (path : PathSpec). path.unique) (map secondary_path (map (secondary_of bases) files)) ≡ false
secondaries-repeat bases [] = refl
secondaries-repeat bases (joined ∷ files) = secondaries-repeat bases files

pub unique-join : (bases : Bases) (spec : LogicalSpec) (view : JoinView) → spec ≡ Join view → view.keys.unique ≡ is_unique (logical_paths bases spec)
unique-join bases spec view is =
    or-false view.keys.unique
    ∙ sym (ap (λ (b : Bool). view.keys.unique || b) (secondaries-repeat bases view.secondaries))
    ∙ sym (ap (λ (s : LogicalSpec). is_unique (logical_paths bases s)) is)
  where
    or-false : (b : Bool) → b ≡ (b || false)
    or-false true = refl
    or-false false = refl

pub undone-first : (m : Memory) (members : List ℕ) → 1 ≤ length members → undone_number m (get_or members 0 0) ≡ first_undone m members
undone-first m [] some = absurd (omega (arith, some))
undone-first m (first ∷ members) some = refl

pub undone-one : (m : Memory) (member : ℕ) (status : MemberStatus) (has : Bool) (number : ℕ) (result : Option ℕ) → result ≡ (if has then Some number else None) → has ≡ has_undone status
    → number ≡ status.number → status_among member m.files ≡ Some status → result ≡ undone_number m member
undone-one m member status has number result is tested numbered found =
    is
    ∙ (λ i. if tested i then Some (numbered i) else None)
    ∙ sym (ap (λ (o : Option MemberStatus). option_and_then (λ (s : MemberStatus). if has_undone s then Some s.number else None) o) found)

-- ---- what is left

module _ (old new : State) (job timestamp : ℕ) (sources : List NamedSource) (args : CreateLogicalFile) (plan : NewLogical) (draft : Draft)
    (told : draft ≡ view_draft (memory_of old) job timestamp args.file plan.source) (planned : PlansView sources (memory_of old) args (Ok plan)) where
  refused-or : (keys : Result Bool Reply) → keys_differ args.file plan (memory_of old) ≡ keys
      → create_logical_file sources (memory_of old) job timestamp args ≡ does (create_logical_change (memory_of old) job timestamp args) (keys >>= λ _. Ok plan)
  refused-or keys is = ap (does (create_logical_change (memory_of old) job timestamp args)) (planned ∙ ap (λ (r : Result Bool Reply). r >>= λ _. Ok plan) is)

  left-by : (added : Result (Unit {0}) Stop) → MayAllow added (keys_differ args.file plan (memory_of old)) → OnOk added (Deposits old new (draft ∷ []) (with_logical args.file plan))
      → OnErr added (new ≡ old) → Answers old new (done added) (create_logical_file sources (memory_of old) job timestamp args)
  left-by (Ok nothing) apart left kept =
      Answers-left old old new (draft ∷ []) (view_draft (memory_of old) job timestamp args.file plan.source ∷ []) (with_logical args.file plan) Done _ refl (ap (λ (d : Draft). d ∷ []) told)
      (refused-or _ apart) left
  left-by (Err NoMemory) apart left kept = kept
  left-by (Err (Refused reply)) apart left kept = (kept, refused-or _ apart)

pub view-answers : (old mid new : State) (job timestamp : ℕ) (sources : List NamedSource) (args : CreateLogicalFile) (plan made : NewLogical) (draft : Draft) (added : Result (Unit {0}) Stop)
    → mid ≡ old → made ≡ plan → draft ≡ view_draft (memory_of old) job timestamp args.file plan.source → PlansView sources (memory_of old) args (Ok plan)
    → MayAllow added (keys_differ args.file made (memory_of mid)) → OnOk added (Deposits mid new (draft ∷ []) (with_logical args.file made)) → OnErr added (new ≡ mid)
    → Answers old new (done added) (create_logical_file sources (memory_of old) job timestamp args)
view-answers old mid new job timestamp sources args plan made draft added same is told planned apart left kept =
    left-by old new job timestamp sources args plan draft told planned added
    (subst (λ (s : State). MayAllow added (keys_differ args.file plan (memory_of s))) same (subst (λ (p : NewLogical). MayAllow added (keys_differ args.file p (memory_of mid))) is apart))
    (subst (λ (s : State). OnOk added (Deposits s new (draft ∷ []) (with_logical args.file plan))) same
    (subst (λ (p : NewLogical). OnOk added (Deposits mid new (draft ∷ []) (with_logical args.file p))) is left))
    (subst (λ (s : State). OnErr added (new ≡ s)) same kept)
