-- Whether CRTPF may add a file, and what it adds. (CL reference, CRTPF.)
use Rattle.std.specs.Prelude.{ℕ, Bool, nat_le, nat_lt, Option, Result, Ok, List, length}
use Rattle.std.specs.Option.{is_some}
use Rattle.entry_codec.specs.declared.entries.Draft.{Draft}
use Rattle.entry_codec.specs.declared.kinds.EntryKind.TheVariants.{FileCreated}
use Rattle.entry_codec.specs.declared.kinds.FileKind.TheVariants.{Physical}
use Rattle.record_fmt.specs.declared.formats.Format.{Format}
use Rattle.library_model.specs.declared.limits.TheConstants.{MOST_FILES, LAST_MEMBER}
use Rattle.library_model.specs.declared.replies.Reply.{Reply}
use Rattle.library_model.specs.declared.replies.Reply.TheVariants.{NameExists, LimitReached}
use Rattle.library_model.specs.declared.replies.LimitKind.TheVariants.{Files, MemberNumbers}
use Rattle.library_steps.specs.State.{Memory, file_named}
use Rattle.library_steps.specs.CreatePhysicalFile.{NewFile, described, spec_or_refused}
use Rattle.library_steps.specs.Drafts.{author_of, member_draft}
use Rattle.library_steps.specs.Refusals.{◌>>=◌, refuse_if}

-- no file has the name, and there are few enough files and members
abbrev pub file_allowed : List ℕ → Memory → Result Bool Reply
file_allowed name m = do
  _ ← refuse_if (is_some (file_named name m)) (NameExists name)
  _ ← refuse_if (nat_le MOST_FILES (length m.files)) (LimitReached Files MOST_FILES)
  refuse_if (nat_lt LAST_MEMBER m.next_member) (LimitReached MemberNumbers LAST_MEMBER)

-- the entry that tells of the file
abbrev pub created_draft : Memory → (job timestamp : ℕ) → (name source : List ℕ) → Draft
created_draft m job timestamp name source = member_draft (author_of m job timestamp) m.next_member (FileCreated Physical name source)

-- the text with what it describes, or the refusal of its first fault
abbrev pub file_of : (List ℕ → Option Format) → List ℕ → Result NewFile Reply
file_of formats text = do
  spec ← spec_or_refused (described formats text)
  Ok (record { source = text; spec = spec })
