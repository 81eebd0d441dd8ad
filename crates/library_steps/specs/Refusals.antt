-- How the refusals of a request follow each other, the first whose condition holds is the reply; and what several requests look up alike.
use Rattle.std.specs.Prelude.{ℕ, nat_lt, Bool, true, false, Option, Some, None, Result, Ok, Err, List}
use Rattle.library_model.specs.declared.replies.Reply.{Reply}
use Rattle.library_model.specs.declared.replies.Reply.TheVariants.{NoSuchName, LimitReached}
use Rattle.library_model.specs.declared.replies.Missing.TheVariants.{Name}
use Rattle.library_model.specs.declared.replies.LimitKind.TheVariants.{Sequences}
use Rattle.library_model.specs.Named.{named}
use Rattle.library_steps.specs.declared.limits.TheConstants.{LAST_SEQUENCE}
use Rattle.library_steps.specs.State.{Memory, FileState, MemberStatus, OpenState, file_named, physical_named, open_named}

infixl 10 ◌>>=◌
-- go on with what was found, or stay with the refusal
abbrev pub ◌>>=◌ : {A B : Type 0} → Result A Reply → (A → Result B Reply) → Result B Reply
Ok value >>= next = next value
Err reply >>= next = Err reply

-- what is there, else the refusal
abbrev pub found : {A : Type 0} → Option A → Reply → Result A Reply
found (Some value) reply = Ok value
found None reply = Err reply

-- the refusal where the condition holds
abbrev pub refuse_if : Bool → Reply → Result Bool Reply
refuse_if true reply = Err reply
refuse_if false reply = Ok true

-- the refusal where there is something to name in it
abbrev pub refuse_with : {A : Type 0} → (A → Reply) → Option A → Result Bool Reply
refuse_with reply None = Ok true
refuse_with reply (Some reason) = Err (reply reason)

-- what has the name, else NoSuchName
abbrev pub named_or_refused : {A : Type 0} → List ℕ → Option A → Result A Reply
named_or_refused name thing = found thing (NoSuchName (Name name))

-- the first refusal of each request that deposits entries for itself
abbrev pub sequences_left : Memory → Result Bool Reply
sequences_left m = refuse_if (nat_lt LAST_SEQUENCE m.last_entry) (LimitReached Sequences LAST_SEQUENCE)

-- a member that a request names, and its file, which is a physical one
pub record FoundMember : Type 0 where
  pub file : FileState
  pub status : MemberStatus

abbrev pub member_of_file : (file member : List ℕ) → Memory → Result FoundMember Reply
member_of_file file_name member_name m = do
  file ← named_or_refused file_name (physical_named file_name m)
  status ← named_or_refused member_name (named member_name file.members)
  Ok (record { file = file; status = status })

-- the open that a request names, and its file
pub record OpenedFile : Type 0 where
  pub opened : OpenState
  pub file : FileState

abbrev pub opened_file : List ℕ → ℕ → Memory → Result OpenedFile Reply
opened_file name job m = do
  opened ← named_or_refused name (open_named name job m)
  file ← named_or_refused opened.file (file_named opened.file m)
  Ok (record { opened = opened; file = file })
