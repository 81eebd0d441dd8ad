-- What STRCMTCTL does where none of its refusals holds. (Commitment Control.)
use Rattle.std.specs.Prelude.{ℕ, false, Some, [], ◌∷◌}
use Rattle.entry_codec.specs.declared.kinds.EntryKind.TheVariants.{CommitmentStarted}
use Rattle.library_model.specs.declared.requests.StartCommitment.{StartCommitment}
use Rattle.library_model.specs.declared.replies.Reply.TheVariants.{Done}
use Rattle.library_steps.specs.Change.{Change, journaled}
use Rattle.library_steps.specs.Commitment.{with_level}
use Rattle.library_steps.specs.Drafts.{author_of, library_draft}
use Rattle.library_steps.specs.State.{Memory, with_job}

abbrev pub started : Memory → ℕ → (timestamp : ℕ) → StartCommitment → Change
started m job timestamp args =
    journaled (library_draft (author_of m job timestamp) (CommitmentStarted args.level) ∷ []) false Done (with_job job (with_level (Some args.level)) m)
