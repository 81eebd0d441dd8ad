-- The file that OPNDBF opens, and the members that an open of it is over. (CL reference, OPNDBF.)
use Rattle.std.specs.Prelude.{◌≡◌, ℕ, not, nat_le, Bool, Result, Ok, Err, List, length}
use Rattle.std.specs.Option.{is_some}
use Rattle.library_model.specs.declared.limits.TheConstants.{MOST_OPENS}
use Rattle.library_model.specs.declared.requests.OpenFile.{OpenFile}
use Rattle.library_model.specs.declared.replies.Reply.{Reply}
use Rattle.library_model.specs.declared.replies.Reply.TheVariants.{NameExists, LimitReached, NoSuchName, WrongOpen}
use Rattle.library_model.specs.declared.replies.LimitKind.TheVariants.{Opens}
use Rattle.library_model.specs.declared.replies.Missing.TheVariants.{Name}
use Rattle.library_model.specs.Named.{same_name}
use Rattle.library_steps.specs.State.{Memory, FileState, file_named, job_of, open_named}
use Rattle.library_steps.specs.Refusals.{◌>>=◌, refuse_if, named_or_refused}
use Rattle.library_steps.specs.Opens.{may_commit_all, may_not}
use Rattle.library_parts.below.parts_model.specs.declared.stop.Stop.{Stop}
use Rattle.library_parts.below.parts_model.specs.declared.stop.Stop.TheVariants.{NoMemory, Refused}
use Rattle.dds_logical.specs.declared.views.LogicalSpec.{LogicalSpec}

-- the file, where the job may have an open more under this name
unfoldable pub file_plan : Memory → ℕ → OpenFile → Result FileState Reply
file_plan m job args = do
  _ ← refuse_if (is_some (open_named args.open_id job m)) (NameExists args.open_id)
  _ ← refuse_if (nat_le MOST_OPENS (length (job_of job m).opens)) (LimitReached Opens MOST_OPENS)
  file ← named_or_refused args.file (file_named args.file m)
  Ok file

-- a logical file is opened under its own name, by its path, and under commitment control where its bases are journaled; a join is read alone
abbrev pub view_opens : Memory → ℕ → OpenFile → LogicalSpec → (members : List ℕ) → Result Bool Reply
view_opens m job args spec members = do
  _ ← refuse_if (not (same_name args.member args.file)) (NoSuchName (Name args.member))
  _ ← refuse_if (may_not spec args) WrongOpen
  may_commit_all args.commit members (job_of job m) m

-- the members that the plan has
abbrev pub GivesMembers : Result (List ℕ) Stop → Result (List ℕ) Reply → Type 0
GivesMembers (Ok members) wanted = wanted ≡ Ok members
GivesMembers (Err NoMemory) wanted = Unit {0}
GivesMembers (Err (Refused reply)) wanted = wanted ≡ Err reply
