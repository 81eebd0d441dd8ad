use Rattle.std.proofs.Common.{ℕ, ◌∙◌, ap}
use Rattle.entry_codec.specs.declared.kinds.EntryKind.TheVariants.{NextReceiver, PreviousReceiver}
use Rattle.library_steps.specs.State.{memory_of}
use Rattle.library_steps.specs.Drafts.{Author, author_of, library_draft}
use Rattle.journal_requests.proofs.receivers.attach_drafts.Goals as goal

pub returns-clause-ending : goal.returns-clause-ending
returns-clause-ending c = c.library_draft-next.ensures ∙ ap (λ (a : Author). library_draft a (NextReceiver c.args.number)) c.of-author.ensures

pub returns-clause-beginning : goal.returns-clause-beginning
returns-clause-beginning c =
    let author = author_of (memory_of c.args.contents.now.state) c.args.job c.args.timestamp in
    c.library_draft-previous.ensures ∙ ap (λ (a : Author). library_draft a (PreviousReceiver c.receivers-attached.result.1)) c.of-author.ensures
    ∙ ap (λ (n : ℕ). library_draft author (PreviousReceiver n)) c.receivers-attached.ensures.attached
