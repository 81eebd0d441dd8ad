-- Whether CRTLF may make a logical file, but for equal keys, which come last; and what it makes. (CL reference, CRTLF.)
use Rattle.std.specs.Prelude.{◌≡◌, ℕ, Bool, nat_le, Option, None, Result, Ok, Err, List, length, if◌then◌else◌}
use Rattle.std.specs.List.{list_any}
use Rattle.std.specs.Option.{is_some}
use Rattle.entry_codec.specs.declared.entries.Draft.{Draft}
use Rattle.entry_codec.specs.declared.kinds.EntryKind.TheVariants.{FileCreated}
use Rattle.entry_codec.specs.declared.kinds.FileKind.TheVariants.{Logical}
use Rattle.dds_logical.specs.declared.views.LogicalSpec.{LogicalSpec}
use Rattle.logical_model.specs.Bases.{base_members}
use Rattle.logical_model.specs.FilePaths.{logical_paths}
use Rattle.library_model.specs.declared.limits.TheConstants.{MOST_FILES}
use Rattle.library_model.specs.declared.requests.CreateLogicalFile.{CreateLogicalFile}
use Rattle.library_model.specs.declared.sources.NamedSource.{NamedSource}
use Rattle.library_model.specs.declared.replies.Reply.{Reply}
use Rattle.library_model.specs.declared.replies.Reply.TheVariants.{NameExists, LimitReached, NotJournaled, DuplicateKey, Done}
use Rattle.library_model.specs.declared.replies.LimitKind.TheVariants.{Files, Paths}
use Rattle.library_model.specs.SourceList.{text_of}
use Rattle.library_steps.specs.declared.limits.TheConstants.{MOST_PATHS}
use Rattle.library_steps.specs.State.{Memory, file_named}
use Rattle.library_steps.specs.CreateLogicalFile.{NewLogical, create_logical_plan, first_repeated, first_undone, has_many, is_unique, logical_described, logical_or_refused}
use Rattle.library_steps.specs.Drafts.{author_of, library_draft}
use Rattle.library_steps.specs.LogicalFiles.{bases_of}
use Rattle.library_steps.specs.Refusals.{◌>>=◌, refuse_if, refuse_with, named_or_refused, sequences_left}
use Rattle.library_steps.specs.Uses.{changer_of_any, unused}
use Rattle.library_parts.below.parts_model.specs.declared.stop.Stop.{Stop}
use Rattle.library_parts.below.parts_model.specs.declared.stop.Stop.TheVariants.{NoMemory, Refused}

-- ---- the refusals in their order

-- no file has the name, and there are few enough files
abbrev pub view_allowed : List ℕ → Memory → Result Bool Reply
view_allowed name m = do
  _ ← refuse_if (is_some (file_named name m)) (NameExists name)
  refuse_if (nat_le MOST_FILES (length m.files)) (LimitReached Files MOST_FILES)

abbrev pub new_view : (source : List ℕ) → LogicalSpec → NewLogical
new_view source spec = record { source = source; spec = spec }

-- the text with what it describes, or the refusal of its first fault
abbrev pub view_of : Memory → List ℕ → Result NewLogical Reply
view_of m text = do
  spec ← logical_or_refused (logical_described m text)
  Ok (new_view text spec)

unfoldable pub view_named : List NamedSource → Memory → (source : List ℕ) → Result NewLogical Reply
view_named sources m source = do
  text ← named_or_refused source (text_of sources source)
  view_of m text

-- there are few enough paths, no job has changed a record, and no member has changes that a restart undoes
abbrev pub allowed_by : (many : Bool) (changer undone : Option ℕ) → Result Bool Reply
allowed_by many changer undone = do
  _ ← refuse_if many (LimitReached Paths MOST_PATHS)
  _ ← unused changer
  refuse_with NotJournaled undone

-- its members have few enough paths, no open commit cycle has changed their records, and no restart can bring equal keys back
unfoldable pub may_stand : Memory → LogicalSpec → Result Bool Reply
may_stand m spec =
    allowed_by (list_any (has_many (logical_paths (bases_of m) spec) m) (base_members (bases_of m) spec)) (changer_of_any (base_members (bases_of m) spec) m)
    (if is_unique (logical_paths (bases_of m) spec) then first_undone m (base_members (bases_of m) spec) else None)

-- no two records have one key that may not
abbrev pub keys_differ : (file : List ℕ) → NewLogical → Memory → Result Bool Reply
keys_differ file plan m = refuse_with (DuplicateKey file) (first_repeated (logical_paths (bases_of m) plan.spec) m)

-- the plan but for the keys
unfoldable pub view_plan : List NamedSource → Memory → CreateLogicalFile → Result NewLogical Reply
view_plan sources m args = do
  _ ← sequences_left m
  _ ← view_allowed args.file m
  plan ← view_named sources m args.source
  _ ← may_stand m plan.spec
  Ok plan

-- a plan that only the keys may still refuse, or the first refusal that holds
abbrev pub PlansView : List NamedSource → Memory → CreateLogicalFile → Result NewLogical Stop → Type 0
PlansView sources m args (Ok plan) = create_logical_plan sources m args ≡ (keys_differ args.file plan m >>= λ _. Ok plan)
PlansView sources m args (Err NoMemory) = Unit {0}
PlansView sources m args (Err (Refused reply)) = create_logical_plan sources m args ≡ Err reply

-- ---- what is done then

-- the entry that tells of the file
abbrev pub view_draft : Memory → (job timestamp : ℕ) → (name source : List ℕ) → Draft
view_draft m job timestamp name source = library_draft (author_of m job timestamp) (FileCreated Logical name source)

-- it is done, or stopped
abbrev pub done : Result (Unit {0}) Stop → Result Reply Stop
done (Ok nothing) = Ok Done
done (Err stop) = Err stop
