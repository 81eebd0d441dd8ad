use Rattle.std.proofs.Common.{◌≡◌, ◌∙◌, [], ◌∷◌, ap}
use Rattle.entry_codec.specs.declared.entries.Draft.{Draft}
use Rattle.entry_codec.specs.declared.kinds.EntryKind.TheVariants.{FileDeleted}
use Rattle.library_model.specs.declared.replies.Reply.TheVariants.{Done}
use Rattle.library_steps.specs.State.{memory_of}
use Rattle.library_steps.specs.Change.{does}
use Rattle.library_steps.specs.DeleteFile.{delete_change, deleted}
use Rattle.library_steps.specs.Drafts.{Author, author_of, library_draft}
use Rattle.library_parts.proofs.DepositLemmas.{Answers-left}
use Rattle.file_requests.proofs.DeleteLemmas.{unused-kept}
use Rattle.file_requests.proofs.delete.delete_file.Goals as goal

pub apply_delete-requires-clause-unused : goal.apply_delete-requires-clause-unused
apply_delete-requires-clause-unused c =
    let file = c.in_ok-_file.ensures in
    unused-kept c.args.contents.now.state c.with_room.new.contents.state c.args.args.now.file c.in_ok-_file._file.now c.with_room.ensures.state file.there file.unused

pub apply_delete-requires-clause-paths : goal.apply_delete-requires-clause-paths
apply_delete-requires-clause-paths c = rw c.as_slice.ensures.value c.in_ok-paths.ensures

pub returns : goal.returns
returns c =
    let old = c.args.contents.now.state in
    let m = memory_of old in
    let args = c.args.args.now in
    let file = c.in_ok-_file._file.now in
    let author = author_of m c.args.job c.args.timestamp in
    let draft : c.in_ok-draft.draft ≡ library_draft author (FileDeleted args.file) = c.in_ok-draft.ensures.draft ∙ c.library_draft.ensures
    ∙ ap (λ (a : Author). library_draft a (FileDeleted args.file)) c.of-author.ensures in
    let left = c.apply_delete.ensures file (rw c.with_room.ensures.state c.in_ok-_file.ensures.there) in
    record {
      answers = Answers-left old c.with_room.new.contents.state c.apply_delete.new.contents.state (c.in_ok-draft.draft ∷ []) (library_draft author (FileDeleted args.file) ∷ []) (deleted args file)
          Done _ c.with_room.ensures.state (ap (λ (d : Draft). d ∷ []) draft) (ap (does (delete_change m c.args.job c.args.timestamp args)) c.in_ok-_file.ensures.plan) left;
    }
